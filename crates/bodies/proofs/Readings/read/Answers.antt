-- The mask's bit says which of the two valuations the position is read in.
use mathlib.Core.Path.{◌≡◌, ap, ◌∙◌}
use Prim.Native.Nat.{ℕ}
use lib.IntN.{pos}
use lib.ListN.{get_or}
use mir.Syntax.{w64}
use mir.Val.{to_z, of_z}
use borrow.Author.Tests.{eq-eqb, ne_eqb}
use Rattle.bodies.proofs.Loops.{read_first, read_second}
use Rattle.words.specs.Bit.{bit}
use borrow.Author.Rules.{rules}
use Rattle.bodies.proofs.Readings.read.Goals as goal

pub returns-then-self-i-eq1 : goal.returns-then-self-i-eq1
unfolding bit
returns-then-self-i-eq1 c = let v = get_or c.args.self.first.now c.wide-v.result (pos 0) in
    let r : to_z w64 (of_z w64 v) ≡ v = search rules in
    let x : c.wide-v.result ≡ c.args.x = c.wide-v.ensures.0 in
    r ∙ ap (λ (x : ℕ). get_or c.args.self.first.now x (pos 0)) x ∙ read_first c.args.self.kept c.args.self.first.now c.args.self.second.now c.args.i c.args.x (eq-eqb _ 1 c.if-self-i-eq1.true)

pub returns-else-self-i-eq1 : goal.returns-else-self-i-eq1
unfolding bit
returns-else-self-i-eq1 c = let v = get_or c.args.self.second.now c.wide-v.result (pos 0) in
    let r : to_z w64 (of_z w64 v) ≡ v = search rules in
    let x : c.wide-v.result ≡ c.args.x = c.wide-v.ensures.0 in
    r ∙ ap (λ (x : ℕ). get_or c.args.self.second.now x (pos 0)) x ∙ read_second c.args.self.kept c.args.self.first.now c.args.self.second.now c.args.i c.args.x (ne_eqb _ 1 c.if-self-i-eq1.false)
