-- Document 01, "The printing program": the text of the check's answer and of its report.
use Rattle.std.specs.Prelude.{ℕ, zero, suc, ◌+◌, List, [], ◌∷◌, ◌++◌, ℤ}
use Prim.Native.Char.{code}
use Prim.Native.String.{String}
use Prim.Native.String as string
use Rattle.program.specs.Tables.{◌⇒◌, select}
use Rattle.report.specs.Report.{bound, bound_above, at_most, at_least}
use Rattle.verdict.specs.Checks.{Answer, refusal, range, rule, constraint, unfounded, stable}
use Rattle.verdict.specs.Demands.{variable_at, mark_at, number_at}
use Rattle.text.specs.Decimal.{decimal, number}

-- the bytes of quoted text
abbrev pub word : String → List ℕ
word string.[] = []
word (string.◌∷◌ c s) = code c ∷ word s

-- "Each line ends in byte 0A"
abbrev pub line : List ℕ → List ℕ
line t = t ++ (0x0A ∷ [])

-- "the verdict word and its numbers"; "or `refused N P` (number, place)"
unfoldable pub answer_line : Answer → List ℕ
answer_line (refusal n at) = line (word "refused " ++ decimal n ++ word " " ++ decimal at)
answer_line (range v) = line (word "range " ++ decimal v)
answer_line (rule i) = line (word "rule " ++ decimal i)
answer_line (constraint i) = line (word "constraint " ++ decimal i)
answer_line (unfounded n k) = line (word "unfounded " ++ decimal n ++ word " " ++ decimal k)
answer_line stable = line (word "stable")

-- "then `most V N` for bounds and `when V <= N` or `when V >= N` for conditions"; document 02, wish 3: "Its bound entry has mark 3 and prints `least V N`".
-- An entry's line goes by its mark
unfoldable pub entry_line : ℕ → ℕ → ℤ → List ℕ
entry_line v mark z = select mark (
    (bound ⇒ line (word "most " ++ decimal v ++ word " " ++ number z))
    ∷ (at_most ⇒ line (word "when " ++ decimal v ++ word " <= " ++ number z))
    ∷ (at_least ⇒ line (word "when " ++ decimal v ++ word " >= " ++ number z))
    ∷ (bound_above ⇒ line (word "least " ++ decimal v ++ word " " ++ number z))
    ∷ []
    ) []

-- the lines of the first n entries of a report
unfoldable pub entry_lines : List ℕ → ℕ → List ℕ
entry_lines b zero = []
entry_lines b (suc n) = entry_lines b n ++ entry_line (variable_at b n) (mark_at b n) (number_at b n)

-- "The counts are those of the entries.": how many a report has
abbrev pub entries_of : Answer → ℕ
entries_of (refusal n at) = 0
entries_of (range v) = 0
entries_of (rule i) = 0
entries_of (constraint i) = 0
entries_of (unfounded n k) = n + k
entries_of stable = 0

-- the text of an answer with the report b
abbrev pub text_of : Answer → List ℕ → List ℕ
text_of r b = answer_line r ++ entry_lines b (entries_of r)

-- no first line is longer than this, and no line of an entry: `unfounded` with two numbers of 20 digits, and `when 255 >= -32768`
abbrev pub first_most : ℕ
first_most = 52

abbrev pub entry_most : ℕ
entry_most = 19
