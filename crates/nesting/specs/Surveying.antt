-- What the code finds of a nested file's trees, one after the other.
use Rattle.std.specs.Prelude.{ℕ, ◌+◌, ◌*◌, ◌<◌, ◌≤◌, ◌≡◌, cond, List, [], ◌∷◌, ◌++◌, ℤ, nat_abs, length, take, Result, Ok, Err}
use Rattle.format.specs.Limits.{max_file, max_variables, max_number}
use Rattle.program.specs.Program.{variable_in, variables_at}
use Rattle.program.specs.Refusals.{unknown_tag}
use Rattle.program.specs.Encode.{each, variable_bytes}
use Rattle.meaning.specs.Calls.{denial_number, denial_place}
use Rattle.meaning.specs.declared.Denied.{Denied}
use Rattle.nested.specs.Nested.{Rooted, Nested, treed, treed_of, nested}
use Rattle.nested.specs.Flatten.{flatten}
use Rattle.nested.specs.TreeRefusals.{rooted_refusal, treed_refusal}
use Rattle.nested.specs.NestedReading.{NestedWhole, NestedRefuses}
use Rattle.nested.specs.FlattenCall.{flat}
use Rattle.nested.proofs.FineNested.{FineNested}
use Rattle.spans.specs.Spans.{Tabled}
use Rattle.nesting.specs.declared.Totals.{Totals}

-- the fields of n variables stand in the file, and their numbers are in range
pub record Declares (s : List ℕ) (n : ℕ) : Type 0 where
  pub inside : 8 * n ≤ length s
  pub few : n ≤ max_variables
  pub bytes : take (8 * n) s ≡ each variable_bytes (variables_at s n)
  pub low_small : (x : ℕ) → x < n → nat_abs (variable_in (variables_at s n) x).low ≤ max_number
  pub high_small : (x : ℕ) → x < n → nat_abs (variable_in (variables_at s n) x).high ≤ max_number

-- the counts and the size of the plain file, and the tables of its variables
pub record Known (N : Nested) (t : Totals) (records : List ℕ) (lows highs : List ℤ) : Type 0 where
  pub variables_are : t.variables ≡ length (flatten N).variables
  pub rules_are : t.rules ≡ length (flatten N).rules
  pub bytes_are : t.bytes ≡ length (flat N)
  pub tabled : Tabled (flatten N).variables records lows highs

-- so far a nested program that meets no refusal is known; its declared variables are those of the plain part s
pub record SoFar (s : List ℕ) (n : ℕ) (t : Totals) (records : List ℕ) (lows highs : List ℤ) : Type 0 where
  pub program : Nested
  pub fine : FineNested program
  pub declared : program.plain.variables ≡ variables_at s n
  pub known : Known program t records lows highs

-- a bound of the plain file's size, for each byte of the nested one
abbrev pub per_byte : ℕ
per_byte = 600

-- a tree that meets no refusal is taken in
pub record TakenIn (N : Nested) (v : List ℕ) (before t : Totals) (records : List ℕ) (lows highs : List ℤ) : Type 0 where
  pub rooted : Rooted
  pub means : treed_of v ≡ treed rooted
  pub fine : rooted_refusal N rooted ≡ 0
  pub known : Known (record { plain = N.plain; trees = N.trees ++ (rooted ∷ []) }) t records lows highs
  pub bounded : t.bytes ≤ before.bytes + per_byte * length v

-- what taking in the value of a field at `at` answers
pub data Takes (N : Nested) (v : List ℕ) (at : ℕ) (before : Totals) (records : List ℕ) (lows highs : List ℤ) : Result Totals Denied → Type 0 where
  taken : {t : Totals} → TakenIn N v before t records lows highs → Takes N v at before records lows highs (Ok t)
  turned_down : {why : Denied} → denial_number why ≡ treed_refusal N (treed_of v) → denial_place why ≡ at → Takes N v at before records lows highs (Err why)

-- the refusal of a field with another tag after a tree: "3: unknown tag", "4: tag below the one before"
unfoldable pub stray_number : ℕ → ℕ
stray_number tag = cond (unknown_tag tag) 3 4

-- the fields of a nested file pass, and the totals and tables are those of its plain file
pub record Surveyed (s : List ℕ) (t : Totals) (records : List ℕ) (lows highs : List ℤ) : Type 0 where
  pub fields : ℕ
  pub whole : NestedWhole s fields
  pub known : Known (nested s fields) t records lows highs

-- what reading the trees of a nested file answers
pub data Surveys (s : List ℕ) (records : List ℕ) (lows highs : List ℤ) : Result Totals Denied → Type 0 where
  passed : {t : Totals} → Surveyed s t records lows highs → Surveys s records lows highs (Ok t)
  refused : {why : Denied} → NestedRefuses s (denial_number why) (denial_place why) → Surveys s records lows highs (Err why)

-- no size is larger
abbrev pub max_bytes : ℕ
max_bytes = per_byte * max_file
