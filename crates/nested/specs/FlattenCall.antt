-- Document 02, wish 6: what the call flatten answers and writes, for a nested file s and a lent buffer b. "Convert to a plain file, answering its length".
use Rattle.std.specs.Prelude.{ℕ, ◌<◌, ◌≤◌, ◌⊎◌, List, ◌++◌, length, drop}
use Rattle.format.specs.Limits.{max_file}
use Rattle.program.specs.Encode.{encode}
use Rattle.normal.specs.Normalizes.{Answer, refusal, written}
use Rattle.nested.specs.Nested.{Nested}
use Rattle.nested.specs.Flatten.{flatten}
use Rattle.nested.specs.NestedReading.{NestedAccepts, NestedRefuses}

-- the plain file that is written
abbrev pub flat : Nested → List ℕ
flat N = encode (flatten N)

-- "17 means an output over 60,000 bytes or the buffer"
abbrev pub NoRoom : List ℕ → List ℕ → Type 0
NoRoom o b = (max_file < length o) ⊎ (length b < length o)

pub record HasRoom (o b : List ℕ) : Type 0 where
  pub short : length o ≤ max_file
  pub fits : length o ≤ length b

-- the call is turned down with this number and place
pub data FlattenRefuses (s b : List ℕ) : ℕ → ℕ → Type 0 where
  bad_file : {n at : ℕ} → NestedRefuses s n at → FlattenRefuses s b n at
  no_room : {N : Nested} → NestedAccepts s N → NoRoom (flat N) b → FlattenRefuses s b 17 0

-- the call's answer, and the buffer afterwards: the plain file from its first byte on, and every byte after that as it was
pub data FlattenCall (s b : List ℕ) : Answer → List ℕ → Type 0 where
  turned_down : {n at : ℕ} → FlattenRefuses s b n at → FlattenCall s b (refusal n at) b
  flattened : {N : Nested} → NestedAccepts s N → HasRoom (flat N) b → FlattenCall s b (written (length (flat N))) (flat N ++ drop (length (flat N)) b)
