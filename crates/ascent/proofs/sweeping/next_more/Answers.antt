-- Invariant: the rules from i to before k are met.
use Rattle.std.specs.Prelude.{Some}
use mathlib.Core.Path.{◌≡◌, sym, ap, ◌∙◌}
use native.Mathlib.Omega.{arith}
use lib.ListN.{length}
use mir.Syntax.{w64}
use mir.Val.{to_z, of_z}
use borrow.Author.Rules.{rules}
use Rattle.reader.proofs.Published.{counts_of_is}
use Rattle.run.specs.Running.{RuleMetIn}
use Rattle.run.proofs.StepLaws.{demands_more, demands_enough}
use Rattle.sided.specs.Reached.{risen}
use Rattle.ascent.proofs.ClimbLaws.{rule_stands, some_stands, place_inside, place_next, one_more}
use Rattle.ascent.proofs.sweeping.next_more.Goals as goal

pub loop-k-init : goal.loop-k-init
loop-k-init c = (omega arith, c.requires.i_le_rules.0, c.requires.at_value, λ P R θ a f j x y. absurd (omega arith))

pub look-asked-requires : goal.look-asked-requires
look-asked-requires c = record { some_rule = some_stands c.requires.accepted_as c.loop-k-test.true c.loop-k.invariant.2; small = c.requires.i_le_rules.1 }

pub returns-in-Some : goal.returns-in-Some
returns-in-Some c = let z : to_z w64 (of_z w64 c.in-Some.a) ≡ c.in-Some.a = search rules in
    λ P R θ a f.
    let s = rule_stands c.requires.accepted_as c.loop-k-test.true c.loop-k.invariant.2 a in
    record {
      from = c.loop-k.invariant.0;
      stands = s;
      exceeds = demands_more P R θ (risen P.variables c.args.sides.now) c.loop-k.k (c.look-asked.ensures P R θ c.loop-k.k s (f c.loop-k.k s.among)) (c.in-Some.is ∙ ap Some (sym z));
      before = c.loop-k.invariant.3 P R θ a f;
    }

pub next_at-place-requires : goal.next_at-place-requires
next_at-place-requires c = place_inside c.requires.accepted_as c.loop-k-test.true c.loop-k.invariant.2

pub loop-k-preserved : goal.loop-k-preserved
loop-k-preserved c = (
  omega (arith, c.loop-k.invariant.0),
  omega arith,
  place_next c.requires.accepted_as c.loop-k-test.true c.loop-k.invariant.2 c.next_at-place.ensures,
  λ P R θ a f.
      let m = risen P.variables c.args.sides.now in
      let s = rule_stands c.requires.accepted_as c.loop-k-test.true c.loop-k.invariant.2 a in
      one_more (RuleMetIn P R θ m) (c.loop-k.invariant.3 P R θ a f) (demands_enough P R θ m c.loop-k.k (c.look-asked.ensures P R θ c.loop-k.k s (f c.loop-k.k s.among)) c.in_default.is),
)

pub returns : goal.returns
returns c = λ P R θ a f.
    let n = (counts_of_is c.requires.accepted_as a).rules_are in
    let e : c.loop-k.k ≡ length P.rules = omega (arith, n, c.loop-k.invariant.1, c.loop-k-test.false) in
    record {
      placed = rw e at (c.loop-k.invariant.2 P a);
      met = λ k x y. c.loop-k.invariant.3 P R θ a f k x (omega (arith, e, y));
    }
