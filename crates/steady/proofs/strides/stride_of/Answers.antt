-- The number at the variable's place, as a stride.
use mathlib.Core.Path.{◌≡◌, ap, ◌∙◌}
use lib.IntN.{ℤ, pos}
use mir.Syntax.{w64}
use mir.Val.{to_z, of_z}
use Rattle.program.specs.Readings.{valued}
use Rattle.steady.specs.Strides.{stride_by}
use borrow.Author.Rules.{rules}
use Rattle.steady.proofs.strides.stride_of.Goals as goal

pub returns : goal.returns
returns c = let f : to_z w64 (of_z w64 (valued c.args.strides.now c.wide-v.result)) ≡ valued c.args.strides.now c.wide-v.result = search rules in
    let z : to_z w64 (of_z w64 c.stride_by.result) ≡ c.stride_by.result = search rules in
    z ∙ c.stride_by.ensures ∙ ap (λ (k : ℤ). pos (stride_by k)) (f ∙ ap (valued c.args.strides.now) c.wide-v.ensures.0)
