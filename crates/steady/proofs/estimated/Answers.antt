-- A sum has its own estimate; another form is moved to the aims, or to the present values where a stride outruns the head's.
use mathlib.Core.Path.{◌≡◌, sym, ap, ap₂, subst, ◌∙◌}
use mathlib.Core.Bool.{Bool}
use mathlib.Core.List.{List}
use Prim.Native.Nat.{ℕ}
use native.Mathlib.Omega.{arith}
use lib.IntN.{ℤ, pos, nat_abs}
use lib.ListN.{length}
use mir.Syntax.{w64}
use mir.Val.{to_z, of_z}
use mir.Facts.{to_z-of_z}
use Rattle.program.specs.Tables.{any_below}
use Rattle.program.specs.Program.{terms_of}
use Rattle.program.specs.Evaluable.{EvaluableAs}
use Rattle.program.specs.declared.Variable.{Variable}
use Rattle.program.specs.declared.Term.{Term}
use Rattle.program.proofs.Bodies.{terms_length}
use Rattle.bodies.specs.Readings.{reading_of}
use Rattle.steady.specs.Estimate.{apart, outruns, held, moved_as, estimated_as}
use Rattle.steady.specs.Steps.{steps_at}
use Rattle.steady.specs.Strides.{stride_at}
use Rattle.steady.proofs.Machine.{steps_are}
use Rattle.steady.proofs.SteadyLaws.{estimated_other, held_back, held_on}
use borrow.Author.Rules.{rules}
use Rattle.steady.proofs.estimated.Goals as goal

module _ (x : Variable) (form own : ℕ) (k : ℤ) (strides : List ℤ) (ts : List Term) (at aim : ℕ → ℤ) where
  abbrev stride : ℕ → ℕ
  stride = stride_at strides ts

  -- a sum
  of-sum : (own' : ℤ) {r k' : ℤ} → r ≡ estimated_as 1 x (nat_abs own') stride k' (pos 1) ts at aim → nat_abs own' ≡ own → k' ≡ k → form ≡ 1
      → r ≡ estimated_as form x own stride k (pos 1) ts at aim
  of-sum own' e p q f = e ∙ rw (p, q, f)

  -- of another form
  of-moved : (form ≡ 1 → ⊥) → {r : ℤ} (f : ℕ → ℤ) → r ≡ moved_as form x k (pos 1) ts at f → f ≡ held own stride ts at aim
      → r ≡ estimated_as form x own stride k (pos 1) ts at aim
  of-moved n f e q =
      e ∙ ap (moved_as form x k (pos 1) ts at) q
      ∙ sym (estimated_other x k (pos 1) ts at aim own stride n)

-- whether a stride outruns the head's, by the steps that the code counts
any-is : (own kept : ℕ) (first aims second strides : List ℤ) (ts : List Term) (own' : ℤ) {b t : Bool}
    → b ≡ any_below (length ts) (outruns (nat_abs own') (stride_at strides ts) ts (steps_at kept first aims ts)) → nat_abs own' ≡ own → b ≡ t
    → any_below (length ts) (outruns own (stride_at strides ts) ts (apart (reading_of kept first second ts) (reading_of kept aims second ts))) ≡ t
any-is own kept first aims second strides ts own' e p q =
    ap₂ (λ (k : ℕ) (f : ℕ → ℕ). any_below (length ts) (outruns k (stride_at strides ts) ts f)) (sym p) (steps_are kept first aims second ts)
    ∙ sym e ∙ q

pub summed-requires : goal.summed-requires
summed-requires c =
    let m : to_z w64 (of_z w64 c.args.rule.c) ≡ c.args.rule.c = search rules in
    record { evaluable_as = rw m (subst (λ (f : ℕ). EvaluableAs f c.args.rule.c (pos 1) (terms_of c.args.body.now)) c.if-rule-eq1.true c.requires.evaluable_as); pos_bound = rw (to_z-of_z c.ranges.own) c.requires.pos_bound; small = c.requires.small }

pub returns-then-rule-eq1 : goal.returns-then-rule-eq1
returns-then-rule-eq1 c =
    let ts = terms_of c.args.body.now in
    let at = reading_of c.args.readings.kept c.args.readings.first.now c.args.readings.second.now ts in
    let aim = reading_of c.args.readings.kept c.args.aims.now c.args.readings.second.now ts in
    let own = nat_abs c.args.own in
    let same-own : nat_abs (to_z w64 (of_z w64 c.args.own)) ≡ own = ap nat_abs (to_z-of_z c.ranges.own) in
    let m : to_z w64 (of_z w64 c.args.rule.c) ≡ c.args.rule.c = search rules in
    let z : to_z w64 (of_z w64 c.summed.result) ≡ c.summed.result = search rules in
    of-sum c.args.x c.args.rule.form own c.args.rule.c c.args.strides.now ts at aim (to_z w64 (of_z w64 c.args.own)) (z ∙ c.summed.ensures) same-own m c.if-rule-eq1.true

pub any_outruns-requires : goal.any_outruns-requires
any_outruns-requires c = record { pos_bound = (rw (to_z-of_z c.ranges.own) c.requires.pos_bound.0, omega (arith, c.requires.evaluable_as.few, terms_length c.args.body.now)); small = (c.requires.small.0, c.requires.small.1) }

pub moved-requires : goal.moved-requires
moved-requires c = record { evaluable_as = c.requires.evaluable_as; small = (c.requires.small.0, c.requires.small.0, c.requires.small.2) }

pub returns-then-any_outruns : goal.returns-then-any_outruns
returns-then-any_outruns c =
    let ts = terms_of c.args.body.now in
    let at = reading_of c.args.readings.kept c.args.readings.first.now c.args.readings.second.now ts in
    let aim = reading_of c.args.readings.kept c.args.aims.now c.args.readings.second.now ts in
    let own = nat_abs c.args.own in
    let same-own : nat_abs (to_z w64 (of_z w64 c.args.own)) ≡ own = ap nat_abs (to_z-of_z c.ranges.own) in
    let z : to_z w64 (of_z w64 c.moved.result) ≡ c.moved.result = search rules in
    of-moved c.args.x c.args.rule.form own c.args.rule.c c.args.strides.now ts at aim c.if-rule-eq1.false _ (z ∙ c.moved.ensures)
    (held_back own (stride_at c.args.strides.now ts) ts at aim (any-is own c.args.readings.kept c.args.readings.first.now c.args.aims.now c.args.readings.second.now c.args.strides.now ts (to_z w64 (of_z w64 c.args.own)) c.any_outruns.ensures same-own c.if-any_outruns.true))

pub moved-requires-2 : goal.moved-requires-2
moved-requires-2 c = record { evaluable_as = c.requires.evaluable_as; small = c.requires.small }

pub returns : goal.returns
returns c =
    let ts = terms_of c.args.body.now in
    let at = reading_of c.args.readings.kept c.args.readings.first.now c.args.readings.second.now ts in
    let aim = reading_of c.args.readings.kept c.args.aims.now c.args.readings.second.now ts in
    let own = nat_abs c.args.own in
    let same-own : nat_abs (to_z w64 (of_z w64 c.args.own)) ≡ own = ap nat_abs (to_z-of_z c.ranges.own) in
    let z : to_z w64 (of_z w64 c.moved-2.result) ≡ c.moved-2.result = search rules in
    of-moved c.args.x c.args.rule.form own c.args.rule.c c.args.strides.now ts at aim c.if-rule-eq1.false _ (z ∙ c.moved-2.ensures)
    (held_on own (stride_at c.args.strides.now ts) ts at aim (any-is own c.args.readings.kept c.args.readings.first.now c.args.aims.now c.args.readings.second.now c.args.strides.now ts (to_z w64 (of_z w64 c.args.own)) c.any_outruns.ensures same-own c.if-any_outruns.false))
