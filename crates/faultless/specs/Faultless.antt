-- What a quick look at a body finds where nothing is wrong with it.
use Rattle.std.specs.Prelude.{ℕ, ◌<◌, ◌≤◌, ◌≡◌, List, true, false, pos, nat_abs, length}
use Rattle.std.specs.Int.Signed.{lt_z}
use Rattle.format.specs.Limits.{max_number, max_coefficient}
use Rattle.format.specs.Numbers.{beyond}
use Rattle.words.specs.Bit.{has}
use Rattle.program.specs.Program.{variable_in, term_in}
use Rattle.program.specs.Refusals.{any_term, unknown_form, wrong_count_of, wrong_term, outside_term, undeclared_term, repeated_term, negative_term}
use Rattle.program.specs.declared.Variable.{Variable}
use Rattle.program.specs.declared.Term.{Term}

-- a plain term of number 0
pub record Bare (t : Term) : Type 0 where
  pub op_is : t.op ≡ 0
  pub number_is : nat_abs t.number ≡ 0

-- a plain term whose number is a coefficient
pub record Weight (t : Term) : Type 0 where
  pub op_is : t.op ≡ 0
  pub other : nat_abs t.number ≡ 0 → ⊥
  pub near : beyond max_coefficient t.number ≡ false

pub record Literal (t : Term) : Type 0 where
  pub from : 1 ≤ t.op
  pub to : t.op ≤ 2
  pub near : beyond max_number t.number ≡ false

-- the set has the variables of the first i terms
abbrev pub Noted : List ℕ → List Term → ℕ → Type 0
Noted ws ts i = (j : ℕ) → j < i → has ws (term_in ts j).variable ≡ true

-- the variable of term i is one of n, and no earlier term has it
pub record New (n : ℕ) (ts : List Term) (i : ℕ) : Type 0 where
  pub declared : (term_in ts i).variable < n
  pub first : repeated_term ts i ≡ false

-- each term from i on is new and has the property
abbrev pub EachFrom : (Term → Type 0) → ℕ → List Term → ℕ → Type 0
EachFrom P n ts i = (j : ℕ) → i ≤ j → j < length ts → New n ts j × P (term_in ts j)

-- the body has a known form, which is not 8, and the terms that the form asks for
pub record Faultless (vs : List Variable) (form : ℕ) (ts : List Term) : Type 0 where
  pub known : unknown_form form ≡ false
  pub count : wrong_count_of form (length ts) ≡ false
  pub forms : any_term ts (wrong_term form) ≡ false
  pub ranges : any_term ts (outside_term form) ≡ false
  pub declared : any_term ts (λ i t. undeclared_term vs t) ≡ false
  pub distinct : any_term ts (λ i t. repeated_term ts i) ≡ false
  pub lows : any_term ts (λ i t. negative_term vs form t) ≡ false

-- so of any n variables: no product, whose variables are looked at
abbrev pub FaultlessOf : ℕ → ℕ → List Term → Type 0
FaultlessOf n form ts = (vs : List Variable) → length vs ≡ n → Faultless vs form ts

-- the low of variable x is 0 or more
abbrev pub LowFrom0 : List Variable → ℕ → Type 0
LowFrom0 vs x = lt_z (variable_in vs x).low (pos 0) ≡ false
