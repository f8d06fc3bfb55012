-- What a check finds, and what it says of the terms of a body.
use Rattle.std.specs.Prelude.{ℕ, ◌≡◌, List, [], ◌∷◌, Bool, Result, Ok, Err}
use Rattle.program.specs.Tables.{◌when◌, first_of, any_below}
use Rattle.program.specs.Program.{term_in}
use Rattle.program.specs.Refusals.{any_term, wrong_divisor, outside_divisor, wrong_term, outside_term, undeclared_term, repeated_term, negative_term}
use Rattle.program.specs.Reading.{number_of}
use Rattle.faults.specs.declared.Faults.{Faults}
use Rattle.program.specs.declared.Variable.{Variable}
use Rattle.program.specs.declared.Term.{Term}
use Rattle.program.specs.declared.Refusal.{Refusal}

-- 0 where nothing is wrong
abbrev pub checked_number : Result (Unit {0}) Refusal → ℕ
checked_number (Ok _) = 0
checked_number (Err why) = number_of why

-- the number of the first that is wrong, a term count (10) among them
abbrev pub faults_number : Faults → Bool → ℕ
faults_number r count =
    first_of ((7 when r.form) ∷ (8 when r.range) ∷ (9 when r.variable) ∷ (10 when count) ∷ (11 when r.repeated) ∷ (12 when r.negative) ∷ [])

-- what is wrong with the divisor's term, where there is one
pub record DivisorFaults (ds : List Term) (r : Faults) : Type 0 where
  pub form_is : r.form ≡ any_term ds (λ i t. wrong_divisor t)
  pub range_is : r.range ≡ any_term ds (λ i t. outside_divisor t)

-- what is wrong with term i of a body of this form
pub record TermFaults (vs : List Variable) (form : ℕ) (ts : List Term) (i : ℕ) (r : Faults) : Type 0 where
  pub form_is : r.form ≡ wrong_term form i (term_in ts i)
  pub range_is : r.range ≡ outside_term form i (term_in ts i)
  pub variable_is : r.variable ≡ undeclared_term vs (term_in ts i)
  pub repeated_is : r.repeated ≡ repeated_term ts i
  pub negative_is : r.negative ≡ negative_term vs form (term_in ts i)

-- what is wrong with some of the first n terms
pub record FaultsBelow (vs : List Variable) (form : ℕ) (ts : List Term) (n : ℕ) (r : Faults) : Type 0 where
  pub form_is : r.form ≡ any_below n (λ i. wrong_term form i (term_in ts i))
  pub range_is : r.range ≡ any_below n (λ i. outside_term form i (term_in ts i))
  pub variable_is : r.variable ≡ any_below n (λ i. undeclared_term vs (term_in ts i))
  pub repeated_is : r.repeated ≡ any_below n (λ i. repeated_term ts i)
  pub negative_is : r.negative ≡ any_below n (λ i. negative_term vs form (term_in ts i))
