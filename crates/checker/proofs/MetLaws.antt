-- The rules and constraints of a file, looked at one after the other.
use Rattle.std.specs.Prelude.{Option, Some, None}
use Prim.Native.Nat.{ℕ, ◌+◌, ◌<◌, ◌≤◌}
use mathlib.Core.Path.{◌≡◌, sym, ap, subst, ◌∙◌}
use mathlib.Core.Bool.{Bool, true, false}
use mathlib.Core.List.{List}
use native.Mathlib.Omega.{arith}
use lib.Dec.{T_not}
use lib.IntN.{ℤ, pos}
use lib.ListN.{length, get_or}
use Rattle.program.specs.Fields.{value_at, next_at}
use Rattle.program.specs.Program.{Program, Constraint, constraint_of, constraint_in, term_in, variable_in}
use Rattle.program.specs.Evaluate.{satisfied}
use Rattle.program.specs.Reading.{Reads, accepted, Accepts}
use Rattle.program.specs.Readings.{Valuation, valued}
use Rattle.program.specs.Variables.{not_past}
use Rattle.program.proofs.Conditions.{never, last_or}
use Rattle.meaning.specs.Founded.{GivenNoMore}
use Rattle.meaning.specs.Reduct.{reduct, system}
use Rattle.meaning.specs.Stable.{RuleMet, ConstraintMet}
use Rattle.reader.specs.Parts.{constraint_place, ConstraintLies}
use Rattle.reader.proofs.Published.{counts_of_is, constraint_lies, next_constraint, first_constraint}
use Rattle.run.specs.Running.{head_of, RuleMetIn, Exceeds}
use Rattle.ascent.specs.Ascending.{FirstMore, NoneMore}
use Rattle.verdict.specs.Checks.{FirstUnmet}
use Rattle.checker.specs.Met.{UnmetIs, RulesAre}
use Rattle.checker.specs.declared.rules.Rules.{Rules}
use Rattle.checker.specs.declared.rules.Rules.TheVariants as rules

-- what exceeds its head is not met
exceeds_unmet : (P : Program) (θ : Valuation) (i : ℕ) {a : ℤ} → Exceeds P (reduct P) θ θ i a → RuleMet P θ i → ⊥
exceeds_unmet P θ i {a} e r =
    T_not (not_past (variable_in P.variables (head_of P i)) a (θ (head_of P i))) e.more.lt (subst (λ g. GivenNoMore (system P) (head_of P i) g (θ (head_of P i))) e.gives_it r)

-- ---- rules

-- the first that asks for more than its head has, every position read in the assignment
module _ {s : List ℕ} {P : Program} {θ m : Valuation} (e : m ≡ θ) where
  pub first_unmet_is : {i at : ℕ} {a : ℤ} → FirstMore s P (reduct P) θ m 0 i at a → FirstUnmet (RuleMet P θ) (length P.rules) i
  first_unmet_is {i} {at} {a} f = record {
    among = f.stands.among;
    unmet = exceeds_unmet P θ i (subst (λ (v : Valuation). Exceeds P (reduct P) θ v i a) e f.exceeds);
    first = λ j l. subst (λ (v : Valuation). RuleMetIn P (reduct P) θ v j) e (f.before j (omega arith) l);
  }

  pub none_unmet : {at : ℕ} → NoneMore s P (reduct P) θ m 0 at → (at ≡ constraint_place s P 0) × ((j : ℕ) → j < length P.rules → RuleMet P θ j)
  none_unmet f = (f.placed ∙ sym (first_constraint s P), λ j l. subst (λ (v : Valuation). RuleMetIn P (reduct P) θ v j) e (f.met j (omega arith) l))

-- ---- constraints

module _ {s : List ℕ} {n m c : ℕ} (r : Reads s (accepted n m c)) {P : Program} (x : Accepts s P) {i : ℕ} where
  pub constraints_met : c ≤ i → (θ : Valuation) → ((j : ℕ) → j < i → ConstraintMet P θ j) → (j : ℕ) → j < length P.constraints → ConstraintMet P θ j
  constraints_met h θ before j l = before j (omega (arith, (counts_of_is r x).constraints_are))

  module _ {at : ℕ} (h : i < c) (stands : at ≡ constraint_place s P i) where
    among : i < length P.constraints
    among = omega (arith, (counts_of_is r x).constraints_are)

    pub lies : ConstraintLies s P i at
    lies = rw stands (constraint_lies x i among)

    pub next_place : {next : ℕ} → next ≡ next_at s at → next ≡ constraint_place s P (i + 1)
    next_place e = e ∙ ap (next_at s) stands ∙ sym (next_constraint s P i)

    -- what the code found of the value at this place
    module _ {v : List ℕ} (part : v ≡ value_at s at) (θ : List ℤ) {b : Bool}
        (found : b ≡ satisfied (constraint_of v) (λ j. get_or θ (term_in (constraint_of v).terms j).variable (pos 0))) where
      found_is : b ≡ satisfied (constraint_in P.constraints i) (λ j. valued θ (term_in (constraint_in P.constraints i).terms j).variable)
      found_is = found ∙ ap (λ (q : Constraint). satisfied q (λ j. valued θ (term_in q.terms j).variable)) (ap constraint_of part ∙ sym lies.is)

      pub constraint_unmet_at : b ≡ false → ((j : ℕ) → j < i → ConstraintMet P (valued θ) j) → FirstUnmet (ConstraintMet P (valued θ)) (length P.constraints) i
      constraint_unmet_at e before = record { among = among; unmet = λ q. never (found_is ∙ q) e; first = before }

      pub constraint_met_at : b ≡ true → ((j : ℕ) → j < i → ConstraintMet P (valued θ) j) → (j : ℕ) → j < i + 1 → ConstraintMet P (valued θ) j
      constraint_met_at e before j l = last_or (ConstraintMet P (valued θ)) i j (omega arith) (before j) (sym found_is ∙ e)

-- ---- what a search found

module _ (Met : ℕ → Type 0) {n : ℕ} {f : Option ℕ} (u : UnmetIs Met n f) where
  pub unmet_at : {i : ℕ} → f ≡ Some i → FirstUnmet Met n i
  unmet_at e = rw e at u

  pub unmet_none : f ≡ None → (i : ℕ) → i < n → Met i
  unmet_none e = rw e at u

-- and a search of the rules
module _ (s : List ℕ) (P : Program) (θ : Valuation) {f : Rules} (u : RulesAre s P θ f) where
  pub rules_unmet : {i : ℕ} → f ≡ rules.Unmet i → FirstUnmet (RuleMet P θ) (length P.rules) i
  rules_unmet e = rw e at u

  pub rules_all : {at : ℕ} → f ≡ rules.Met at → (at ≡ constraint_place s P 0) × ((i : ℕ) → i < length P.rules → RuleMet P θ i)
  rules_all e = rw e at u
