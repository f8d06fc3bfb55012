-- What is no rule, or lifts no aim, changes nothing; another stores the next aim of its head.
use mathlib.Core.Path.{◌≡◌, sym, ap, ◌∙◌, subst}
use native.Mathlib.Omega.{arith}
use mir.Syntax.{w64}
use mir.Val.{to_z, of_z}
use lib.ListN.{length-set}
use borrow.Author.Rules.{rules}
use Rattle.run.specs.Running.{RuleStands}
use Rattle.run.proofs.RunLaws.{head_lies, here_head}
use Rattle.targets.proofs.LiftLaws.{aiming_small, aiming_on, rule_among, some_rule}
use Rattle.targets.proofs.lifting.lift.Goals as goal

pub next_aim-next-requires : goal.next_aim-next-requires
next_aim-next-requires c = record { some_rule = rw c.place_in-at.ensures (some_rule c.requires.accepted_as c.requires.some_aims (omega arith)); small = aiming_small c.requires.some_aims.aiming }

pub head_at-head-requires : goal.head_at-head-requires
head_at-head-requires c = rw c.place_in-at.ensures (head_lies (some_rule c.requires.accepted_as c.requires.some_aims (omega arith)).here)

pub returns : goal.returns
returns c = let z : to_z w64 (of_z w64 c.next_aim-next.result) ≡ c.next_aim-next.result = search rules in record {
  aims_len_2 = simp length-set c.requires.aims_len;
  aims_kept = λ P R θ A₀ k.
      let l = rule_among c.requires.accepted_as k.reckons.accepts c.args.i (omega (arith, c.if-i-source.false)) in
      let h = k.reckons.stands c.args.i l in
      let g = subst (RuleStands _ P c.args.i) (sym c.place_in-at.ensures) h in
      let q = rw c.mask_in-mask.ensures at (c.next_aim-next.ensures P c.args.i g) in
      let e = c.wide-v.ensures.0 ∙ here_head g c.head_at-head.ensures in
      aiming_on k c.args.target.now c.args.i l c.requires.aims_len e (z ∙ q) (λ f. c.if-next-aim.false (ap (of_z w64) (sym z ∙ f)));
}
