-- A coefficient times a small value fits.
use mathlib.Core.Path.{◌≡◌, ap, ap₂, ◌∙◌}
use lib.IntN.{◌*ℤ◌}
use mir.Syntax.{w64}
use mir.Val.{to_z, of_z}
use Rattle.program.specs.declared.Term.{Term}
use Rattle.program.specs.Program.{terms_of}
use Rattle.bodies.proofs.Loops.{reading_is, weigh_fits}
use borrow.Author.Rules.{rules}
use Rattle.bodies.proofs.weigh.Goals as goal

pub times-requires : goal.times-requires
times-requires c = let ts = terms_of c.args.body.now in
    let n : to_z w64 (of_z w64 c.term-term.result.number) ≡ c.term-term.result.number = search rules in
    let v : to_z w64 (of_z w64 c.read.result) ≡ c.read.result = search rules in
    let e = reading_is c.args.readings.kept c.args.readings.first.now c.args.readings.second.now ts c.args.i v c.read.ensures (ap (λ (t : Term). t.variable) c.term-term.ensures) in
    weigh_fits c.args.readings.kept c.args.readings.first.now c.args.readings.second.now ts c.args.i (n ∙ ap (λ (t : Term). t.number) c.term-term.ensures) e c.requires.i_bound c.requires.small.0 c.requires.small.1

pub returns : goal.returns
returns c = let ts = terms_of c.args.body.now in
    let n : to_z w64 (of_z w64 c.term-term.result.number) ≡ c.term-term.result.number = search rules in
    let v : to_z w64 (of_z w64 c.read.result) ≡ c.read.result = search rules in
    let e = reading_is c.args.readings.kept c.args.readings.first.now c.args.readings.second.now ts c.args.i v c.read.ensures (ap (λ (t : Term). t.variable) c.term-term.ensures) in
    let z : to_z w64 (of_z w64 c.times.result) ≡ c.times.result = search rules in
    z ∙ c.times.ensures ∙ ap₂ ◌*ℤ◌ (n ∙ ap (λ (t : Term). t.number) c.term-term.ensures) e
