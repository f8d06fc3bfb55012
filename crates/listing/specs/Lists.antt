-- The program `bounds`: what it writes for an input s, which is framed as the printing program's, with the ranges for the assignment. The text has a line for each
-- founded variable, by ascending variable, as a report has it for a bound, or the line of a refusal.
use Rattle.std.specs.Prelude.{ℕ, zero, suc, ◌*◌, ◌≤◌, List, [], ◌++◌, not, cond, T, ℤ, length, replicate}
use Rattle.format.specs.Limits.{max_variables}
use Rattle.program.specs.Program.{Program, variable_in}
use Rattle.program.specs.Reading.{Accepts}
use Rattle.program.specs.Variables.{is_founded}
use Rattle.program.specs.declared.Variable.{Variable}
use Rattle.meaning.specs.LeastCall.{least_bytes}
use Rattle.meaning.specs.Stable.{assigned}
use Rattle.report.specs.Report.{bound_mark}
use Rattle.verdict.specs.Checks.{refusal}
use Rattle.lent.specs.BoundsCall as bounds
use Rattle.lent.specs.BoundsCall.{BoundsCall}
use Rattle.text.specs.Output.{Holds}
use Rattle.entries.specs.Text.{answer_line, entry_line, entry_most}
use Rattle.framing.specs.Framing.{file_in, rest_in, framing_number, misframed}

-- the longest input: two bytes, the longest file, and 4 bytes for each of 256 variables
abbrev pub max_input : ℕ
max_input = 61026

-- the buffer that the program lends the call: room for every bound, each byte 0
abbrev pub buffer_bytes : ℕ
buffer_bytes = least_bytes * max_variables

abbrev pub blank : List ℕ
blank = replicate buffer_bytes 0

-- the line of variable v, whose record is x, with the bound z; a standard one has none
unfoldable pub bound_line : Variable → ℕ → ℤ → List ℕ
bound_line x v z = cond (is_founded x) (entry_line v (bound_mark x) z) []

-- the lines of the first n variables, with the bounds in b
unfoldable pub bound_lines : List Variable → List ℕ → ℕ → List ℕ
bound_lines vs b zero = []
bound_lines vs b (suc n) = bound_lines vs b n ++ bound_line (variable_in vs n) n (assigned b n)

-- the text for a file f and ranges g, which the call answers and leaves the buffer as b
pub data Tells (f g : List ℕ) : List ℕ → Type 0 where
  turned_down : {n at : ℕ} {b : List ℕ} → BoundsCall f g blank (bounds.refusal n at) b → Tells f g (answer_line (refusal n at))
  listed : {P : Program} {b : List ℕ} → Accepts f P → BoundsCall f g blank bounds.bounded b → Tells f g (bound_lines P.variables b (length P.variables))

-- the text for an input
pub data Lists (s : List ℕ) : List ℕ → Type 0 where
  bad_frame : T (misframed max_input s) → Lists s (answer_line (refusal framing_number 0))
  told : {t : List ℕ} → T (not (misframed max_input s)) → Tells (file_in s) (rest_in s) t → Lists s t

-- room enough for every text: a line for each variable, or that of a refusal
abbrev pub room : ℕ
room = entry_most * max_variables

-- the call leaves the output b as b' and answers n: the length of the text, which b' holds from its first byte on as far as there is room
pub record Listed (s b : List ℕ) (n : ℕ) (b' : List ℕ) : Type 0 where
  pub text : List ℕ
  pub lists : Lists s text
  pub holds : Holds text n b b'
  pub short : n ≤ room

-- the same for a file f and ranges g whose framing is right
pub record Told (f g b : List ℕ) (n : ℕ) (b' : List ℕ) : Type 0 where
  pub text : List ℕ
  pub tells : Tells f g text
  pub holds : Holds text n b b'
  pub short : n ≤ room
