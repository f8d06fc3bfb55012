-- A position is read on the side that it pushes to.
use Prim.Native.Nat.{ℕ, ◌<◌, ◌≤◌}
use mathlib.Core.Path.{◌≡◌, refl, ap, ◌∙◌}
use mathlib.Core.Bool.{Bool, true, false, not, cond, ◌&&◌}
use mathlib.Core.List.{List}
use native.Mathlib.Omega.{arith}
use lib.Dec.{eqb}
use lib.IntN.{ℤ, pos}
use lib.ListN.{length}
use lib.Signed.{le_z, lt_z}
use borrow.Author.Tests.{eqb-true, eqb-false}
use Rattle.program.specs.Program.{Rule, term_form, term_in, variable_in}
use Rattle.program.specs.Refusals.{literal_position}
use Rattle.program.specs.Variables.{from_above, swaps}
use Rattle.program.specs.Directions.{opposite, away, plain_direction, term_direction, direction}
use Rattle.program.specs.Readings.{body_variable}
use Rattle.program.specs.declared.Direction.TheVariants.{Rising, Falling, Mixed}
use Rattle.program.specs.declared.Term.{Term}
use Rattle.program.specs.declared.Variable.{Variable}
use Rattle.program.proofs.Conditions.{never}
use Rattle.program.proofs.Gives.{seven}
use Rattle.program.proofs.Promises.{TermPromise, RulePromise}
use Rattle.sided.specs.Sides.{on_side, side_of, sided_reading}
use Rattle.sided.specs.Reached.{side_for, size_side, plain_side, rule_side}

-- ---- a term

rising_side : (b c : Bool) → b ≡ side_for (cond b Falling Rising) c
rising_side true c = refl
rising_side false c = refl

falling_side : (b c : Bool) → not b ≡ side_for (cond b Rising Falling) c
falling_side true c = refl
falling_side false c = refl

mixed_side : (b c : Bool) → not c ≡ side_for (cond b Mixed Mixed) c
mixed_side true c = refl
mixed_side false c = refl

signed_side : (b c n : Bool) → cond n (not b) b ≡ side_for (cond b (opposite (cond n Falling Rising)) (cond n Falling Rising)) c
signed_side b c true = falling_side b c
signed_side b c false = rising_side b c

sized_side : (b c l u : Bool)
    → cond l b (cond u (not b) (not c)) ≡ side_for (cond b (opposite (cond l Rising (cond u Falling Mixed))) (cond l Rising (cond u Falling Mixed))) c
sized_side b c true u = rising_side b c
sized_side b c false true = falling_side b c
sized_side b c false false = mixed_side b c

module _ (h x : Variable) where
  -- of a plain term; none stands in form 6
  plain_side_is : (form i : ℕ) (z : ℤ) → 1 ≤ form → form ≤ 7 → literal_position form i ≡ false
      → cond (eqb form 1 && lt_z z (pos 0)) (not (plain_side form h x)) (plain_side form h x) ≡ side_for (away h (plain_direction form x z)) (from_above x)
  unfolding plain_side size_side away swaps plain_direction literal_position
  plain_side_is form i z = seven
      (λ form. literal_position form i ≡ false
      → cond (eqb form 1 && lt_z z (pos 0)) (not (plain_side form h x)) (plain_side form h x) ≡ side_for (away h (plain_direction form x z)) (from_above x))
      (λ e. signed_side (from_above h) (from_above x) (lt_z z (pos 0)))
      (λ e. rising_side (from_above h) (from_above x))
      (λ e. rising_side (from_above h) (from_above x))
      (λ e. rising_side (from_above h) (from_above x))
      (λ e. sized_side (from_above h) (from_above x) (le_z (pos 0) x.low) (le_z x.high (pos 0)))
      (λ e. absurd (never refl e))
      (λ e. rising_side (from_above h) (from_above x))
      form

  term_side : {vs : List Variable} (form i : ℕ) (t : Term) → 1 ≤ form → form ≤ 7 → TermPromise vs form i t
      → side_of form (plain_side form h x) t ≡ side_for (term_direction h form x t) (from_above x)
  unfolding side_of term_direction
  term_side form i t l k p = go (literal_position form i) refl
    where
      go : (b : Bool) → literal_position form i ≡ b → side_of form (plain_side form h x) t ≡ side_for (term_direction h form x t) (from_above x)
      go true e = one (eqb t.op 1) refl
        where
          one : (b : Bool) → eqb t.op 1 ≡ b → side_of form (plain_side form h x) t ≡ side_for (term_direction h form x t) (from_above x)
          one true q = rw (eqb-true t.op 1 q)
          one false q = let o : t.op ≡ 2 = omega (arith, p.literal_op_least e, p.literal_op_most e, eqb-false t.op 1 q) in rw o
      go false e = rw (p.plain_op e) (plain_side_is form i t.number l k e)

-- ---- a rule

module _ (vs : List Variable) (r : Rule) (p : RulePromise vs r) where
  abbrev form : ℕ
  form = term_form r.form

  abbrev at : ℕ → Variable
  at j = variable_in vs (body_variable r j)

  abbrev h : Variable
  h = variable_in vs r.head

  -- a size has one position; in all other forms the head alone counts
  first_side : (j : ℕ) → j < length r.terms → plain_side form h (at 0) ≡ plain_side form h (at j)
  unfolding plain_side
  first_side j l = go (eqb form 5) refl
    where
      go : (b : Bool) → eqb form 5 ≡ b → cond b (size_side (at 0) (from_above h)) (from_above h) ≡ cond b (size_side (at j) (from_above h)) (from_above h)
      go true e = let q : 0 ≡ j = omega (arith, p.body.count.size_one (eqb-true form 5 e)) in ap (λ (n : ℕ). size_side (at n) (from_above h)) q
      go false e = refl

  -- each position stands on the side of its direction
  pub sided_direction : (sides : List ℤ) (j : ℕ) → j < length r.terms
      → sided_reading sides form (rule_side vs r) r.terms j ≡ on_side sides (side_for (direction vs r j) (from_above (at j))) (body_variable r j)
  unfolding sided_reading direction
  sided_direction sides j l =
      let t = term_in r.terms j in
      ap (λ (b : Bool). on_side sides (side_of form b t) t.variable) (first_side j l)
      ∙ ap (λ (b : Bool). on_side sides b t.variable) (term_side h (at j) form j t p.form_least p.form_most (p.body.terms j l))
