-- The first set's entry, then the second's.
-- the value that is read
use mathlib.Core.Path.{◌≡◌, ap, ◌∙◌}
use native.Mathlib.Omega.{arith}
use lib.IntN.{pos, nat_abs}
use lib.ListN.{get_or}
use mir.Syntax.{w64}
use mir.Val.{to_z, of_z}
use Rattle.words.specs.Bit.{has}
use Rattle.report.proofs.WritingLaws.{first_room, second_room, wrote_variable}
use borrow.Author.Rules.{rules}
use Rattle.program.specs.Readings.{valued}
use Rattle.report.proofs.writing.write_variable.Goals as goal

pub write_member-next-requires : goal.write_member-next-requires
write_member-next-requires c = let e = (let it : to_z w64 (of_z w64 (get_or c.args.values.now c.wide.result (pos 0)))
    ≡ valued c.args.values.now c.args.v = let e : to_z w64 (of_z w64 (get_or c.args.values.now c.wide.result (pos 0))) ≡ get_or c.args.values.now c.wide.result (pos 0) = search rules in
    e ∙ ap (valued c.args.values.now) c.wide.ensures.0 in it) in record {
      number_in_bounds = first_room (has c.args.first.words) (has c.args.second.words) c.args.mark c.args.other (valued c.args.values.now) c.args.v e
          c.args.i c.requires.v_in_bounds;
      number_bound = omega (arith, ap nat_abs e, c.requires.small c.args.v);
    }

pub write_member-requires : goal.write_member-requires
write_member-requires c = let e = (let it : to_z w64 (of_z w64 (get_or c.args.values.now c.wide.result (pos 0)))
    ≡ valued c.args.values.now c.args.v = let e : to_z w64 (of_z w64 (get_or c.args.values.now c.wide.result (pos 0))) ≡ get_or c.args.values.now c.wide.result (pos 0) = search rules in
    e ∙ ap (valued c.args.values.now) c.wide.ensures.0 in it) in record {
      number_in_bounds = omega (
        arith,
        second_room (has c.args.first.words) (has c.args.second.words) c.args.mark c.args.other (valued c.args.values.now) c.args.v e
            c.args.i c.requires.v_in_bounds c.write_member-next.ensures,
        c.write_member-next.auto.report,
      );
      number_bound = omega (arith, ap nat_abs e, c.requires.small c.args.v);
    }

pub returns : goal.returns
returns c = wrote_variable (has c.args.first.words) (has c.args.second.words) c.args.mark c.args.other (valued c.args.values.now) c.args.v
    ((let it : to_z w64 (of_z w64 (get_or c.args.values.now c.wide.result (pos 0)))
    ≡ valued c.args.values.now c.args.v = let e : to_z w64 (of_z w64 (get_or c.args.values.now c.wide.result (pos 0))) ≡ get_or c.args.values.now c.wide.result (pos 0) = search rules in
    e ∙ ap (valued c.args.values.now) c.wide.ensures.0 in it)) c.args.i c.requires.v_in_bounds c.write_member-next.ensures c.write_member.ensures
