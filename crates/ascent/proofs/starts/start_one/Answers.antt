-- Two values are stored, one after the other.
use mathlib.Core.Path.{◌≡◌, ap, ◌∙◌}
use mir.Syntax.{w64}
use mir.Val.{to_z, of_z}
use Rattle.program.specs.Variables.{started}
use borrow.Author.Rules.{rules}
use Rattle.ascent.proofs.ValueLaws.{stored_both}
use Rattle.ascent.proofs.starts.start_one.Goals as goal

pub write-requires-2 : goal.write-requires-2
write-requires-2 c = c.write.ensures.sides_len

pub returns : goal.returns
returns c = let y : to_z w64 (of_z w64 c.args.given) ≡ c.args.given = search rules in
    let o : to_z w64 (of_z w64 c.args.other) ≡ c.args.other = search rules in
    let r : to_z w64 (of_z w64 c.started-from.result) ≡ c.started-from.result = search rules in
    let e : c.started-from.result ≡ started c.args.x c.args.given = c.started-from.ensures ∙ ap (started c.args.x) y in
    record { sides_len = c.write-2.ensures.sides_len; sides_after = stored_both c.args.sides.now c.args.v c.own_side-side.ensures (r ∙ e) o c.write.ensures.sides_after c.write-2.ensures.sides_after }
