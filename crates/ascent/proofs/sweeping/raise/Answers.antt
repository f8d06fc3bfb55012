-- A value past the far end changes nothing; another is set on the head's side.
use mathlib.Core.Path.{◌≡◌, refl, ap, ◌∙◌}
use lib.ListN.{set}
use mir.Syntax.{w64}
use mir.Val.{to_z, of_z}
use borrow.Author.Rules.{rules}
use Rattle.run.proofs.RunLaws.{head_lies, head_field}
use Rattle.run.proofs.RaiseLaws.{past_far, not_past_far}
use Rattle.ascent.proofs.ClimbLaws.{not_raised, is_raised, raised_place}
use Rattle.ascent.proofs.sweeping.raise.Goals as goal

pub head_at-head-requires : goal.head_at-head-requires
head_at-head-requires c = head_lies c.requires.some_rule.here

pub variable-x-requires : goal.variable-x-requires
variable-x-requires c = head_field c.requires.some_rule.here c.head_at-head.ensures

pub returns-then-is_before : goal.returns-then-is_before
returns-then-is_before c = let z : to_z w64 (of_z w64 c.far.result) ≡ c.far.result = search rules in
    let y : to_z w64 (of_z w64 c.args.a) ≡ c.args.a = search rules in
    let e = simp (z ∙ c.far.ensures, y) at c.is_before.ensures in
    record { sides_len_2 = c.requires.sides_len; raised_side = λ P i s. (not_raised s c.head_at-head.ensures c.variable-x.ensures c.args.a c.args.sides.now (past_far c.variable-x.result c.args.a e c.if-is_before.true), refl) }

pub returns : goal.returns
returns c = let z : to_z w64 (of_z w64 c.far.result) ≡ c.far.result = search rules in
    let y : to_z w64 (of_z w64 c.args.a) ≡ c.args.a = search rules in
    let e = simp (z ∙ c.far.ensures, y) at c.is_before.ensures in record {
      sides_len_2 = c.write.ensures.sides_len;
      raised_side = λ P i s. (
        is_raised s c.head_at-head.ensures c.variable-x.ensures c.args.a c.args.sides.now (not_past_far c.variable-x.result c.args.a e c.if-is_before.false),
        raised_place s c.head_at-head.ensures c.variable-x.ensures c.args.a c.args.sides.now c.is_from_above.ensures (c.write.ensures.sides_after ∙ ap (set c.args.sides.now _) y),
      );
    }
