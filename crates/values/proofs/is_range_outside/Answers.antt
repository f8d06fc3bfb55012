-- Each test is that of the definition.
use mathlib.Core.Path.{◌≡◌, ap, ap₂, ◌∙◌}
use lib.Signed.{lt_z}
use mir.Syntax.{w64}
use mir.Val.{to_z, of_z}
use Rattle.format.specs.Limits.{max_number}
use Rattle.format.specs.Numbers.{beyond}
use Rattle.values.proofs.ValueLaws.{range_outside}
use borrow.Author.Rules.{rules}
use Rattle.values.proofs.is_range_outside.Goals as goal

pub returns : goal.returns
returns c = let l : to_z w64 (of_z w64 c.args.x.low) ≡ c.args.x.low = search rules in
    let h : to_z w64 (of_z w64 c.args.x.high) ≡ c.args.x.high = search rules in
    range_outside c.args.x _ _ _ (c.is_number_beyond-a.ensures ∙ ap (beyond max_number) l)
    (c.is_number_beyond-b.ensures ∙ ap (beyond max_number) h) (c.is_below.ensures ∙ ap₂ lt_z h l)
