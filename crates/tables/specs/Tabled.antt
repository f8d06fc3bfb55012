-- What the tables of a run say: which positions of a rule are kept, and which rules read a variable.
use Rattle.std.specs.Prelude.{ℕ, ◌+◌, ◌*◌, ◌/◌, ◌<◌, ◌≤◌, ◌≡◌, Bool, ◌&&◌, ◌||◌, List, ltb, eqb, length, get_or}
use Rattle.format.specs.Limits.{max_variables, max_rules}
use Rattle.words.specs.Bit.{word_bits, has, bit}
use Rattle.program.specs.Program.{Program, Rule, rule_in}
use Rattle.program.specs.Tables.{any_below}
use Rattle.program.specs.Readings.{body_variable, kept}

-- the words of a set of rules, and of one for each variable
abbrev pub row_words : ℕ
row_words = max_rules / word_bits

abbrev pub readers_words : ℕ
readers_words = max_variables * row_words

-- the most variables of a short, and of a middling, table of readers
abbrev pub narrow_variables : ℕ
narrow_variables = 16

abbrev pub middle_variables : ℕ
middle_variables = 64

-- the row of x lies in so many words; the rows of the variables that the rule reads do
abbrev pub RowIn : ℕ → ℕ → Type 0
RowIn words x = row_words * x + row_words ≤ words

abbrev pub RowsIn : ℕ → Rule → Type 0
RowsIn words r = (j : ℕ) → j < length r.terms → RowIn words (body_variable r j)

-- some position of the rule whose bit is set has the variable x
unfoldable pub read_at : Rule → ℕ → ℕ → Bool
read_at r mask x = any_below (length r.terms) (λ j. bit mask j && eqb (body_variable r j) x)

-- the readers after rule k was entered at one position, or at several: e x says whether it reads x there
abbrev pub Entered : List ℕ → List ℕ → ℕ → (ℕ → Bool) → Type 0
Entered ws ws' k e = (x i : ℕ) → x < max_variables → i < max_rules → has ws' (max_rules * x + i) ≡ (has ws (max_rules * x + i) || (eqb i k && e x))

-- bit j is set exactly where position j of the rule is kept
abbrev pub MaskOf : Program → Rule → ℕ → Type 0
MaskOf P r w = (j : ℕ) → j < length r.terms → bit w j ≡ kept P.variables r j

-- the rules among the first n that read x, by their masks, stand in one row of bits, from number max_rules * x on
abbrev pub ReadersAre : Program → ℕ → List ℕ → List ℕ → Type 0
ReadersAre P n masks readers =
    (x i : ℕ) → x < max_variables → i < max_rules → has readers (max_rules * x + i) ≡ (ltb i n && read_at (rule_in P.rules i) (get_or masks i 0) x)
