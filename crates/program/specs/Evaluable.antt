-- Rules and constraints whose evaluation fits the machine: those of accepted files (`promised_evaluable`, `promised_satisfiable`).
use Rattle.std.specs.Prelude.{ℕ, ◌<◌, ◌≤◌, ◌≡◌, List, [], ◌∷◌, Bool, true, false, ℤ, pos, nat_abs, ◌≤ℤ◌, length}
use Rattle.format.specs.Limits.{max_terms, max_number, max_coefficient, max_divisor}
use Rattle.program.specs.Tables.{◌⇒◌, select}
use Rattle.program.specs.Program.{Rule, Constraint, term_form, divisor_of, term_in}
use Rattle.program.specs.Readings.{valued}
use Rattle.program.specs.declared.Term.{Term}

-- values within the format's range
abbrev pub Small : List ℤ → Type 0
Small vs = (v : ℕ) → nat_abs (valued vs v) ≤ max_number

-- numbers within the range of coefficients
abbrev pub Coefficients : List Term → Type 0
Coefficients ts = (i : ℕ) → i < length ts → nat_abs (term_in ts i).number ≤ max_coefficient

-- no literal among the terms
abbrev pub Plain : List Term → Type 0
Plain ts = (i : ℕ) → i < length ts → (term_in ts i).op ≡ 0

-- the fewest terms that a form reads
abbrev pub fewest : ℕ → ℕ
fewest form = select form ((2 ⇒ 1) ∷ (3 ⇒ 1) ∷ (4 ⇒ 2) ∷ (5 ⇒ 1) ∷ (7 ⇒ 1) ∷ []) 0

-- the forms that have literals
abbrev pub has_literals : ℕ → Bool
has_literals form = select form ((6 ⇒ true) ∷ (7 ⇒ true) ∷ []) false

-- a known form, as which the terms are read, with c, the divisor d and the terms within the format's limits as far as evaluation goes
pub record EvaluableAs (form : ℕ) (c d : ℤ) (ts : List Term) : Type 0 where
  pub from : 1 ≤ form
  pub to : form ≤ 7
  pub near : nat_abs c ≤ max_number
  pub divisor_least : pos 1 ≤ℤ d
  pub divisor_near : nat_abs d ≤ max_divisor
  pub weights : form ≡ 1 → Coefficients ts
  pub plain : has_literals form ≡ false → Plain ts
  pub few : length ts ≤ max_terms
  pub enough : fewest form ≤ length ts

abbrev pub Evaluable : Rule → Type 0
Evaluable r = EvaluableAs (term_form r.form) r.c (divisor_of r) r.terms

-- a constraint of a known form, within the format's limits as far as its evaluation goes
pub record Satisfiable (k : Constraint) : Type 0 where
  pub from : 1 ≤ k.form
  pub to : k.form ≤ 2
  pub near : nat_abs k.c ≤ max_number
  pub weights : k.form ≡ 1 → Coefficients k.terms
  pub few : length k.terms ≤ max_terms
