-- What is wrong with the terms of a body, one more term at a time.
use Prim.Native.Nat.{ℕ, ◌+◌}
use mathlib.Core.Path.{◌≡◌, sym, ap, ◌∙◌}
use mathlib.Core.List.{List}
use mathlib.Core.Bool.{Bool, false, ◌||◌}
use lib.Dec.{leb}
use lib.ListN.{length}
use Rattle.program.specs.Tables.{any_below}
use Rattle.program.specs.Program.{term_in, variables_at}
use Rattle.program.specs.Refusals.{wrong_divisor, outside_divisor, undeclared_term, wrong_term, outside_term, repeated_term, negative_term}
use Rattle.program.proofs.Conditions.{any_more}
use Rattle.program.proofs.Places.{variables_length}
use Rattle.faults.specs.Faults.{DivisorFaults, TermFaults, FaultsBelow}
use Rattle.faults.specs.declared.Faults.{Faults}
use Rattle.program.specs.declared.Variable.{Variable}
use Rattle.program.specs.declared.Term.{Term}

-- a variable past the declared ones
pub undeclared_term_lem : (s : List ℕ) (n : ℕ) (t : Term) → leb n t.variable ≡ undeclared_term (variables_at s n) t
unfolding undeclared_term
undeclared_term_lem s n t = ap (λ (m : ℕ). leb m t.variable) (sym (variables_length s n))

module _ (vs : List Variable) (form : ℕ) (ts : List Term) where
  pub faults_none : (r : Faults) → (r.form ≡ false) × (r.range ≡ false) × (r.variable ≡ false) × (r.repeated ≡ false) × (r.negative ≡ false)
      → FaultsBelow vs form ts 0 r
  unfolding any_below
  faults_none r h = record { form_is = h.0; range_is = h.1; variable_is = h.2; repeated_is = h.3; negative_is = h.4 }

  -- one term more
  pub faults_more : (i : ℕ) (all one r : Faults)
      → FaultsBelow vs form ts i all
      → TermFaults vs form ts i one
      → (r.form ≡ (all.form || one.form)) × (r.range ≡ (all.range || one.range)) × (r.variable ≡ (all.variable || one.variable))
      × (r.repeated ≡ (all.repeated || one.repeated)) × (r.negative ≡ (all.negative || one.negative))
      → FaultsBelow vs form ts (i + 1) r
  faults_more i all one r h o e = record {
    form_is = e.0 ∙ any_more i _ all.form one.form h.form_is o.form_is;
    range_is = e.1 ∙ any_more i _ all.range one.range h.range_is o.range_is;
    variable_is = e.2 ∙ any_more i _ all.variable one.variable h.variable_is o.variable_is;
    repeated_is = e.3 ∙ any_more i _ all.repeated one.repeated h.repeated_is o.repeated_is;
    negative_is = e.4 ∙ any_more i _ all.negative one.negative h.negative_is o.negative_is;
  }

  pub faults_done : (i n : ℕ) (r : Faults) → i ≡ n → FaultsBelow vs form ts i r → FaultsBelow vs form ts n r
  faults_done i n r e h = rw e at h

-- ---- the divisor

module _ (ds : List Term) where
  pub divisor_absent : {r : Faults} → length ds ≡ 0 → (r.form ≡ false) × (r.range ≡ false) × (r.variable ≡ false) × (r.repeated ≡ false) × (r.negative ≡ false)
      → DivisorFaults ds r
  unfolding any_below
  divisor_absent e h = record { form_is = rw e h.0; range_is = rw e h.1 }

  pub divisor_one : {t : Term} {a b u w g : Bool} → length ds ≡ 1 → t ≡ term_in ds 0 → a ≡ wrong_divisor t → b ≡ outside_divisor t
      → DivisorFaults ds (record { form = a; range = b; variable = u; repeated = w; negative = g })
  unfolding any_below
  divisor_one e m a b = record { form_is = rw e (a ∙ ap wrong_divisor m); range_is = rw e (b ∙ ap outside_divisor m) }

-- the tests of one term
module _ (s : List ℕ) (n form i : ℕ) (ts : List Term) {t : Term} (m : t ≡ term_in ts i) where
  pub term_faults : {a b u w g : Bool} → a ≡ wrong_term form i t → b ≡ outside_term form i t → u ≡ leb n t.variable → w ≡ repeated_term ts i
      → g ≡ negative_term (variables_at s n) form t → TermFaults (variables_at s n) form ts i (record { form = a; range = b; variable = u; repeated = w; negative = g })
  term_faults a b u w g = record {
    form_is = a ∙ ap (wrong_term form i) m;
    range_is = b ∙ ap (outside_term form i) m;
    variable_is = u ∙ ap (λ (t : Term). leb n t.variable) m ∙ undeclared_term_lem s n (term_in ts i);
    repeated_is = w;
    negative_is = g ∙ ap (negative_term (variables_at s n) form) m;
  }
