-- The direction of a term, case by case: each is the row of its table.
use Prim.Native.Nat.{ℕ, ◌<◌, ◌≤◌}
use mathlib.Core.Path.{◌≡◌, refl}
use mathlib.Core.List.{List}
use mathlib.Core.Bool.{Bool, true, false, cond}
use native.Mathlib.Omega.{arith}
use lib.Dec.{eqb}
use lib.IntN.{ℤ}
use borrow.Author.Tests.{ne_eqb, eqb-true, eqb-false}
use Rattle.program.specs.Program.{Rule, term_form, variable_in, term_in}
use Rattle.program.specs.Variables.{from_above, swaps}
use Rattle.program.specs.Directions.{by_sign, by_range, plain_direction, opposite, away, term_direction, direction, is_mixed}
use Rattle.program.specs.declared.Variable.{Variable}
use Rattle.program.specs.declared.Term.{Term}
use Rattle.program.proofs.Tests.{cases}
use Rattle.program.specs.declared.Direction.{Direction}
use Rattle.program.specs.declared.Direction.TheVariants.{Rising, Falling, Mixed}

-- ---- a plain term, by its form

module _ (form : ℕ) (x : Variable) (z : ℤ) where
  pub plain_sum : form ≡ 1 → by_sign z ≡ plain_direction form x z
  unfolding plain_direction
  plain_sum h = rw h

  pub plain_largest : form ≡ 2 → Rising ≡ plain_direction form x z
  unfolding plain_direction
  plain_largest h = rw h

  pub plain_smallest : form ≡ 3 → Rising ≡ plain_direction form x z
  unfolding plain_direction
  plain_smallest h = rw h

  pub plain_product : form ≡ 4 → Rising ≡ plain_direction form x z
  unfolding plain_direction
  plain_product h = rw h

  pub plain_size : form ≡ 5 → by_range x ≡ plain_direction form x z
  unfolding plain_direction
  plain_size h = rw h

  pub plain_carried : form ≡ 7 → Rising ≡ plain_direction form x z
  unfolding plain_direction
  plain_carried h = rw h

  -- forms 2 to 4
  pub plain_rising : 2 ≤ form → form ≤ 4 → Rising ≡ plain_direction form x z
  plain_rising h k = go (eqb form 2) (eqb form 3) refl refl
    where
      go : (s t : Bool) → eqb form 2 ≡ s → eqb form 3 ≡ t → Rising ≡ plain_direction form x z
      go true t p q = plain_largest (eqb-true form 2 p)
      go false true p q = plain_smallest (eqb-true form 3 q)
      go false false p q = plain_product (omega (arith, eqb-false form 2 p, eqb-false form 3 q))

  pub plain_none : form ≡ 0 → Mixed ≡ plain_direction form x z
  unfolding plain_direction
  plain_none h = rw h

  pub plain_literals : form ≡ 6 → Mixed ≡ plain_direction form x z
  unfolding plain_direction
  plain_literals h = rw h

  pub plain_beyond : 7 < form → Mixed ≡ plain_direction form x z
  unfolding plain_direction
  plain_beyond h =
      simp (
        ne_eqb form 1 (omega arith),
        ne_eqb form 2 (omega arith),
        ne_eqb form 3 (omega arith),
        ne_eqb form 4 (omega arith),
        ne_eqb form 5 (omega arith),
        ne_eqb form 7 (omega arith),
      )

-- ---- a term, by its op; h is the head of its rule

module _ (h : Variable) (form : ℕ) (x : Variable) (t : Term) where
  pub term_plain : t.op ≡ 0 → away h (plain_direction form x t.number) ≡ term_direction h form x t
  unfolding term_direction
  term_plain e = rw e

  pub term_least : t.op ≡ 1 → Rising ≡ term_direction h form x t
  unfolding term_direction
  term_least e = rw e

  pub term_below : t.op ≡ 2 → Falling ≡ term_direction h form x t
  unfolding term_direction
  term_below e = rw e

  pub term_unknown : 2 < t.op → Mixed ≡ term_direction h form x t
  unfolding term_direction
  term_unknown e = simp (ne_eqb t.op 0 (omega arith), ne_eqb t.op 1 (omega arith), ne_eqb t.op 2 (omega arith))

-- ---- a position

module _ (vs : List Variable) (r : Rule) (i : ℕ) where
  pub direction_is : {h x : Variable} {t : Term} → h ≡ variable_in vs r.head → t ≡ term_in r.terms i → x ≡ variable_in vs t.variable
      → term_direction h (term_form r.form) x t ≡ direction vs r i
  unfolding direction
  direction_is e p q = rw (e, q, p)

  pub direction_plain : (term_in r.terms i).op ≡ 0
      → away (variable_in vs r.head) (plain_direction (term_form r.form) (variable_in vs (term_in r.terms i).variable) (term_in r.terms i).number) ≡ direction vs r i
  unfolding direction
  direction_plain h = term_plain (variable_in vs r.head) (term_form r.form) _ _ h

-- ---- a direction, seen from a starting end

module _ (x : Variable) where
  -- mixed stays mixed
  pub away_of_mixed : Mixed ≡ away x Mixed
  unfolding away swaps
  away_of_mixed = cases (from_above x) (λ t. Mixed ≡ cond t Mixed Mixed) (λ t. refl) (λ t. refl)

  pub away_mixed : (d : Direction) → is_mixed (away x d) ≡ is_mixed d
  unfolding away swaps
  away_mixed d = cases (from_above x) (λ t. is_mixed (cond t (opposite d) d) ≡ is_mixed d) (λ t. opposite_mixed d) (λ t. refl)
    where
      opposite_mixed : (d : Direction) → is_mixed (opposite d) ≡ is_mixed d
      opposite_mixed Rising = refl
      opposite_mixed Falling = refl
      opposite_mixed Mixed = refl
