-- The first aim of the variable that was read.
use mathlib.Core.Path.{◌≡◌, ap, ◌∙◌}
use native.Mathlib.Omega.{arith}
use mir.Syntax.{w64}
use mir.Val.{to_z, of_z}
use lib.IntN.{ℤ, pos, nat_abs}
use lib.ListN.{get_or}
use borrow.Author.Rules.{rules}
use Rattle.program.specs.Program.{variables_at}
use Rattle.steady.specs.Strides.{stride_by}
use Rattle.steady.proofs.Machine.{stride_own}
use Rattle.targets.proofs.AimLaws.{aim_variable}
use Rattle.targets.proofs.aims.aim_at.Goals as goal

pub first_aim-requires : goal.first_aim-requires
first_aim-requires c = let z : to_z w64 (of_z w64 (get_or c.args.model.now c.args.v (pos 0))) ≡ get_or c.args.model.now c.args.v (pos 0) = search rules in
    let y : to_z w64 (of_z w64 c.stride_by.result) ≡ c.stride_by.result = search rules in
    let o = stride_own _ (y ∙ c.stride_by.ensures) in
    (rw z (c.requires.v_lt_variables.1 c.args.v), o.0, o.1)

pub returns : goal.returns
returns c = let z : to_z w64 (of_z w64 (get_or c.args.model.now c.args.v (pos 0))) ≡ get_or c.args.model.now c.args.v (pos 0) = search rules in
    let s : to_z w64 (of_z w64 (get_or c.args.source.now.stops.now c.args.v (pos 0))) ≡ get_or c.args.source.now.stops.now c.args.v (pos 0) = search rules in
    let t : to_z w64 (of_z w64 (get_or c.args.target.now c.args.v (pos 0))) ≡ get_or c.args.target.now c.args.v (pos 0) = search rules in
    let n : to_z w64 (of_z w64 (get_or c.args.strides.now c.args.v (pos 0))) ≡ get_or c.args.strides.now c.args.v (pos 0) = search rules in
    let y : to_z w64 (of_z w64 c.stride_by.result) ≡ c.stride_by.result = search rules in
    let r : to_z w64 (of_z w64 c.first_aim.result) ≡ c.first_aim.result = search rules in
    r ∙ aim_variable (variables_at c.args.source.now.file.now c.args.source.now.counts.variables) c.args.source.now.cut c.args.strides.now c.args.source.now.stops.now c.args.model.now c.args.target.now c.args.v
    (c.variable-x.ensures c.args.source.now.counts.variables (omega arith)) s z t
    (ap nat_abs (y ∙ c.stride_by.ensures ∙ ap (λ (k : ℤ). pos (stride_by k)) n)) c.first_aim.ensures
