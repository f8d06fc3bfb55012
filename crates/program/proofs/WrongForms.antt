-- Wrong rule forms, each refuted by what it would give for a small rule: the specification computes another value.
use Rattle.std.specs.Prelude.{Option, Some, None}
use Prim.Native.Nat.{ℕ, zero, suc}
use mathlib.Core.Path.{◌≡◌, sym, ap, ◌∙◌}
use mathlib.Core.List.{List, [], ◌∷◌}
use lib.IntN.{ℤ, pos, neg_ℤ}
use Rattle.format.proofs.Int.{int}
use Rattle.program.specs.Program.{Rule, term_form}
use Rattle.program.specs.Evaluate.{pick_to, all_hold, amount_of, evaluate}
use Rattle.program.specs.declared.Term.{Term}

-- variable v, plain, and the literal `v ≥ 0`
abbrev plain : ℕ → Term
plain v = record { variable = v; op = 0; number = pos 0 }

abbrev from_zero : ℕ → Term
from_zero v = record { variable = v; op = 1; number = pos 0 }

-- x0 ≥ 1 + ..
abbrev of_form : ℕ → List Term → Rule
of_form form ts = record { form = form; head = 0; c = pos 1; divisor = []; terms = ts }

-- the first position has a, all others b
abbrev at : ℤ → ℤ → ℕ → ℤ
at a b zero = a
at a b (suc i) = b

abbrev value_of : Option ℤ → ℤ
value_of None = pos 0
value_of (Some a) = a

-- what every rule gives is the specification's
module _ (given : Rule → (ℕ → ℤ) → Option ℤ) (right : (r : Rule) (f : ℕ → ℤ) → given r f ≡ evaluate r f) where
  values : (r : Rule) (f : ℕ → ℤ) {z : ℤ} → given r f ≡ Some z → value_of (evaluate r f) ≡ z
  values r f e = ap value_of (sym (right r f) ∙ e)

  -- 1 + max(3, 5) is 6: one that takes the smallest gives 4
  pub not_min_for_max : given (of_form 2 (plain 0 ∷ plain 1 ∷ [])) (at (pos 3) (pos 5)) ≡ Some (pos 4) → ⊥
  unfolding pick_to all_hold term_form amount_of evaluate
  not_min_for_max e = let q : pos 6 ≡ pos 4 = values (of_form 2 (plain 0 ∷ plain 1 ∷ [])) (at (pos 3) (pos 5)) e in omega int

  -- 1 + min(3, 5) is 4: one that takes the largest gives 6
  pub not_max_for_min : given (of_form 3 (plain 0 ∷ plain 1 ∷ [])) (at (pos 3) (pos 5)) ≡ Some (pos 6) → ⊥
  unfolding pick_to all_hold term_form amount_of evaluate
  not_max_for_min e = let q : pos 4 ≡ pos 6 = values (of_form 3 (plain 0 ∷ plain 1 ∷ [])) (at (pos 3) (pos 5)) e in omega int

  -- 1 + |-3| is 4: one that keeps the sign gives -2
  pub not_signed_size : given (of_form 5 (plain 0 ∷ [])) (at (neg_ℤ (pos 3)) (pos 0)) ≡ Some (neg_ℤ (pos 2)) → ⊥
  unfolding all_hold term_form amount_of evaluate
  not_signed_size e = let q : pos 4 ≡ neg_ℤ (pos 2) = values (of_form 5 (plain 0 ∷ [])) (at (neg_ℤ (pos 3)) (pos 0)) e in omega int

  -- and 1 + |3| is 4: one that turns the sign gives -2
  pub not_negated_size : given (of_form 5 (plain 0 ∷ [])) (at (pos 3) (pos 0)) ≡ Some (neg_ℤ (pos 2)) → ⊥
  unfolding all_hold term_form amount_of evaluate
  not_negated_size e = let q : pos 4 ≡ neg_ℤ (pos 2) = values (of_form 5 (plain 0 ∷ [])) (at (pos 3) (pos 0)) e in omega int

  -- 1 + x0 if x1 ≥ 0 is 4 at 3, 0: one that leaves the carried variable out gives 1
  pub not_without_its_variable : given (of_form 7 (plain 0 ∷ from_zero 1 ∷ [])) (at (pos 3) (pos 0)) ≡ Some (pos 1) → ⊥
  unfolding all_hold term_form amount_of evaluate
  not_without_its_variable e = let q : pos 4 ≡ pos 1 = values (of_form 7 (plain 0 ∷ from_zero 1 ∷ [])) (at (pos 3) (pos 0)) e in omega int
