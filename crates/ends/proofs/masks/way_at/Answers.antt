-- The position's variable, direction and kept bit are the rule's, and its range is that of the variable.
use Prim.Native.Nat.{ℕ}
use mathlib.Core.Path.{ap, ◌∙◌}
use native.Mathlib.Omega.{arith}
use lib.Signed.{lt_z}
use Rattle.program.specs.Program.{rule_of, variable_in, variables_at}
use Rattle.program.specs.Variables.{is_founded}
use Rattle.program.specs.Directions.{opposite, is_rising, is_mixed}
use Rattle.program.specs.Readings.{valued}
use Rattle.program.specs.declared.Direction.{Direction}
use Rattle.program.specs.declared.Variable.{Variable}
use Rattle.ends.proofs.MaskLaws.{first_read, loose_read}
use Rattle.ends.proofs.masks.way_at.Goals as goal

pub variable-x-requires : goal.variable-x-requires
variable-x-requires c = let d = c.requires.standing.declared c.args.i c.requires.i_in_bounds in
    omega (arith, c.position_at-p.ensures.variable_is, d, c.requires.standing.inside)

pub returns : goal.returns
returns c = let vs = variables_at c.args.file.now c.args.variables in
    let r = rule_of c.args.value.now in
    let d = c.requires.standing.declared c.args.i c.requires.i_in_bounds in
    let y = c.variable-x.ensures c.args.variables (omega (arith, c.position_at-p.ensures.variable_is, d)) ∙ ap (variable_in vs) c.position_at-p.ensures.variable_is in
    record {
      first_is = first_read vs (valued c.args.lows.now) (valued c.args.highs.now) r c.args.i c.position_at-p.ensures.kept_is (c.is_founded-founded.ensures ∙ ap (λ (v : Variable). is_founded v) y)
          (c.is_rising-falls.ensures ∙ ap (λ (e : Direction). is_rising e) c.opposite-back.ensures ∙ ap (λ (e : Direction). is_rising (opposite e)) c.position_at-p.ensures.direction_is);
      loose_is = loose_read vs (valued c.args.lows.now) (valued c.args.highs.now) r c.args.i (c.is_mixed-mixed.ensures ∙ ap (λ (e : Direction). is_mixed e) c.position_at-p.ensures.direction_is)
          (c.is_open-open.ensures ∙ ap (λ (v : ℕ). lt_z (valued c.args.lows.now v) (valued c.args.highs.now v)) c.position_at-p.ensures.variable_is);
    }
