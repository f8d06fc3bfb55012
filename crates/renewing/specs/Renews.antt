-- The program `normalize`: what it writes for an input s. The input is a rule file; the text is the file's normal form, or `refused N P` (number,
-- place) in a line of its own, as the printing program has it. The buffer that is lent is as long as the input, so the refusals are the file's own.
use Rattle.std.specs.Prelude.{ℕ, ◌≤◌, List, length}
use Rattle.format.specs.Limits.{max_file}
use Rattle.program.specs.Program.{Program}
use Rattle.program.specs.Reading.{Reads, refused, Accepts}
use Rattle.program.specs.Encode.{encode}
use Rattle.normal.specs.Normal.{Normal}
use Rattle.verdict.specs.Checks.{refusal}
use Rattle.entries.specs.Text.{answer_line}
use Rattle.text.specs.Output.{Holds}

pub data Renews (s : List ℕ) : List ℕ → Type 0 where
  turned_down : {n at : ℕ} → Reads s (refused n at) → Renews s (answer_line (refusal n at))
  rewritten : {P Q : Program} → Accepts s P → Normal P Q → Renews s (encode Q)

-- room enough for every text, in an output that is also as long as the input
abbrev pub room : ℕ
room = max_file

-- the call leaves the output b as b' and answers n: the length of the text, which b' holds from its first byte on
pub record Renewed (s b : List ℕ) (n : ℕ) (b' : List ℕ) : Type 0 where
  pub text : List ℕ
  pub renews : Renews s text
  pub holds : Holds text n b b'
  pub inside : n ≤ length b
