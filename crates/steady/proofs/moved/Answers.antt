-- A product is moved by its rise; another form is taken at the aims.
use mathlib.Core.Path.{◌≡◌, sym, ap₂, ◌∙◌}
use Prim.Native.Nat.{ℕ}
use lib.IntN.{ℤ, pos}
use mir.Syntax.{w64}
use mir.Val.{to_z, of_z}
use Rattle.program.specs.Program.{terms_of}
use Rattle.bodies.specs.Readings.{reading_of}
use Rattle.steady.specs.Estimate.{moved_as}
use Rattle.steady.proofs.SteadyLaws.{moved_other}
use borrow.Author.Rules.{rules}
use Rattle.steady.proofs.moved.Goals as goal

pub multiplied-requires : goal.multiplied-requires
multiplied-requires c =
    let m : to_z w64 (of_z w64 c.args.rule.c) ≡ c.args.rule.c = search rules in
    record { evaluable_as = rw (m, ← c.if-rule-eq4.true) c.requires.evaluable_as; small = c.requires.small }

pub returns-then-rule-eq4 : goal.returns-then-rule-eq4
returns-then-rule-eq4 c =
    let at = reading_of c.args.readings.kept c.args.readings.first.now c.args.readings.second.now (terms_of c.args.body.now) in
    let aim = reading_of c.args.readings.kept c.args.aims.now c.args.readings.second.now (terms_of c.args.body.now) in
    let m : to_z w64 (of_z w64 c.args.rule.c) ≡ c.args.rule.c = search rules in
    let z : to_z w64 (of_z w64 c.multiplied.result) ≡ c.multiplied.result = search rules in
    z ∙ c.multiplied.ensures
    ∙ ap₂ (λ (f : ℕ) (k : ℤ). moved_as f c.args.x k (pos 1) (terms_of c.args.body.now) at aim) (sym c.if-rule-eq4.true) m

pub returns : goal.returns
returns c =
    let at = reading_of c.args.readings.kept c.args.readings.first.now c.args.readings.second.now (terms_of c.args.body.now) in
    let aim = reading_of c.args.readings.kept c.args.aims.now c.args.readings.second.now (terms_of c.args.body.now) in
    let z : to_z w64 (of_z w64 c.amount.result) ≡ c.amount.result = search rules in
    z ∙ c.amount.ensures ∙ sym (moved_other c.args.x c.args.rule.c (pos 1) (terms_of c.args.body.now) at aim c.if-rule-eq4.false)
