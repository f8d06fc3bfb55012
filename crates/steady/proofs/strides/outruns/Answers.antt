-- Each test is one of the definition.
use mathlib.Core.Path.{◌≡◌, ◌∙◌}
use mir.Syntax.{w64}
use mir.Val.{to_z, of_z}
use mir.Facts.{to_z-of_z}
use Rattle.program.specs.Program.{terms_of}
use Rattle.steady.proofs.Machine.{outruns_as}
use borrow.Author.Rules.{rules}
use Rattle.steady.proofs.strides.outruns.Goals as goal

pub returns : goal.returns
returns c = let x : to_z w64 (of_z w64 c.stride_of-stride.result) ≡ c.stride_of-stride.result = search rules in
    outruns_as (terms_of c.args.body.now) c.args.readings.kept c.args.readings.first.now c.args.aims.now c.args.strides.now c.args.i c.args.own c.requires.pos_bound.0 (to_z-of_z c.ranges.own)
    c.term-term.ensures c.steps_of-steps.ensures (x ∙ c.stride_of-stride.ensures)
