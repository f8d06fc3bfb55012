-- Document 01, "The rule file": "A file has at most 60,000 bytes, 256 variables, 2,048 rules and 512 constraints, and a body at most
-- 16 terms. Low, high, c and literal numbers lie in -30,000..30,000, coefficients in -1,000..1,000 but not 0. The limits belong to the
-- format and are quoted from it everywhere." `Format::quoted` shows that the code's constants are these.
use Rattle.std.specs.Prelude.{ℕ}

abbrev pub max_file : ℕ
max_file = 60000

abbrev pub max_variables : ℕ
max_variables = 256

abbrev pub max_rules : ℕ
max_rules = 2048

abbrev pub max_constraints : ℕ
max_constraints = 512

abbrev pub max_terms : ℕ
max_terms = 16

-- of low, high, c and literal numbers
abbrev pub max_number : ℕ
max_number = 30000

abbrev pub max_coefficient : ℕ
max_coefficient = 1000

-- document 02, wish 1: "a divisor from 1 to 1,000"
abbrev pub max_divisor : ℕ
max_divisor = 1000
