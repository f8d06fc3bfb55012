-- Invariant: the values are on the way, and the next rule is rule i; while there is no raise it is rule 0.
use mathlib.Core.Path.{◌≡◌, sym, ap, ◌∙◌}
use native.Mathlib.Omega.{arith}
use mir.Syntax.{w64}
use mir.Val.{to_z, of_z}
use borrow.Author.Rules.{rules}
use Rattle.reader.proofs.Published.{counts_of_is, limited, first_rule}
use Rattle.sided.specs.Reached.{risen}
use Rattle.ascent.specs.declared.sweeping.Next.TheVariants.{More}
use Rattle.ascent.proofs.ClimbLaws.{climbing_read, next_first, next_none, swept_end, first_raised, first_past, place_inside, place_next}
use Rattle.ascent.proofs.ClimbLaws.{some_small, some_first, first_rule_there, first_below, first_placed}
use Rattle.ascent.proofs.sweeping.sweep.Goals as goal

pub overflow_mul-at : goal.overflow_mul-at
overflow_mul-at c = let v = limited c.requires.accepted_as in omega arith

pub loop-j-init : goal.loop-j-init
loop-j-init c = (omega arith, omega arith, λ z. z, c.requires.sides_len, λ P x. omega (arith, first_rule x, (counts_of_is c.requires.accepted_as x).variables_are), λ P R θ others a k. k)

pub next_more-next-requires : goal.next_more-next-requires
next_more-next-requires c = record { accepted_as = c.requires.accepted_as; at_value = c.loop-j.invariant.4; i_le_rules = (c.loop-j.invariant.0, some_small c.requires.some_climbing c.loop-j.invariant.5) }

pub returns-in_default : goal.returns-in_default
returns-in_default c = record {
  sides_len_2 = c.loop-j.invariant.3;
  sweep_up_is = λ P R θ others a k.
      let d = c.loop-j.invariant.5 P R θ others a k in
      swept_end a d (next_none c.args.file.now P R θ (risen P.variables c.loop-j.sides) c.loop-j.i (c.next_more-next.ensures P R θ a (climbing_read d)) c.in_default.is)
      (omega (arith, c.loop-j.invariant.0, c.loop-j.invariant.1)) c.loop-j.invariant.2;
}

pub raise-requires : goal.raise-requires
raise-requires c = record { some_rule = first_rule_there (some_first c.requires.some_climbing c.loop-j.invariant.5 c.loop-j.i c.next_more-next.result c.next_more-next.ensures c.in-More.is); sides_len = c.loop-j.invariant.3 }

pub returns-then-not-raise : goal.returns-then-not-raise
returns-then-not-raise c = let z : to_z w64 (of_z w64 c.in-More.a) ≡ c.in-More.a = search rules in record {
  sides_len_2 = c.raise.ensures.sides_len_2;
  sweep_up_is = λ P R θ others a k.
      let d = c.loop-j.invariant.5 P R θ others a k in
      let f = next_first c.args.file.now P R θ (risen P.variables c.loop-j.sides) c.loop-j.i (c.next_more-next.ensures P R θ a (climbing_read d)) (c.in-More.is ∙ ap (More c.in-More.j c.in-More.place) (sym z)) in
      first_past a d f c.raise.new.sides c.raise.result (c.raise.ensures.raised_side P c.in-More.j f.stands) c.if-not-raise.true;
}

pub overflow_add-raises : goal.overflow_add-raises
overflow_add-raises c = let f = some_first c.requires.some_climbing c.loop-j.invariant.5 c.loop-j.i c.next_more-next.result c.next_more-next.ensures c.in-More.is in
    omega (arith, c.loop-j.invariant.1, first_below f c.requires.accepted_as, f.from, (limited c.requires.accepted_as).few_rules)

pub overflow_add-i : goal.overflow_add-i
overflow_add-i c = let f = some_first c.requires.some_climbing c.loop-j.invariant.5 c.loop-j.i c.next_more-next.result c.next_more-next.ensures c.in-More.is in
    omega (arith, first_below f c.requires.accepted_as, (limited c.requires.accepted_as).few_rules)

pub next_at-at-requires : goal.next_at-at-requires
next_at-at-requires c = let f = some_first c.requires.some_climbing c.loop-j.invariant.5 c.loop-j.i c.next_more-next.result c.next_more-next.ensures c.in-More.is in
    place_inside c.requires.accepted_as (first_below f c.requires.accepted_as) (first_placed f)

pub loop-j-smaller : goal.loop-j-smaller
loop-j-smaller c = let f = some_first c.requires.some_climbing c.loop-j.invariant.5 c.loop-j.i c.next_more-next.result c.next_more-next.ensures c.in-More.is in
    omega (arith, first_below f c.requires.accepted_as, f.from)

pub loop-j-preserved : goal.loop-j-preserved
loop-j-preserved c = let z : to_z w64 (of_z w64 c.in-More.a) ≡ c.in-More.a = search rules in
    let n = some_first c.requires.some_climbing c.loop-j.invariant.5 c.loop-j.i c.next_more-next.result c.next_more-next.ensures c.in-More.is in (
      omega (arith, first_below n c.requires.accepted_as),
      omega (arith, c.loop-j.invariant.1, n.from),
      λ q. absurd (omega arith),
      c.raise.ensures.sides_len_2,
      place_next c.requires.accepted_as (first_below n c.requires.accepted_as) (first_placed n) c.next_at-at.ensures,
      λ P R θ others a k.
          let d = c.loop-j.invariant.5 P R θ others a k in
          let f = next_first c.args.file.now P R θ (risen P.variables c.loop-j.sides) c.loop-j.i (c.next_more-next.ensures P R θ a (climbing_read d)) (c.in-More.is ∙ ap (More c.in-More.j c.in-More.place) (sym z)) in
          first_raised a d f c.raise.new.sides c.raise.result (c.raise.ensures.raised_side P c.in-More.j f.stands) c.if-not-raise.false c.loop-j.invariant.3,
    )
