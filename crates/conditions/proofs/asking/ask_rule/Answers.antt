-- One position after the other.
use native.Mathlib.Omega.{arith}
use Rattle.conditions.proofs.AskLaws.{grown_none, grown_more, rule_asks_is}
use Rattle.conditions.proofs.asking.ask_rule.Goals as goal

pub loop-j-init : goal.loop-j-init
loop-j-init c = grown_none _ _

pub ask_position-next-requires : goal.ask_position-next-requires
ask_position-next-requires c = record { standing = c.requires; opened_is = c.open_rule-rule.ensures; j_in_bounds = omega arith }

pub loop-j-preserved : goal.loop-j-preserved
loop-j-preserved c = grown_more _ _ c.loop-j.invariant c.ask_position-next.ensures

pub returns : goal.returns
returns c = rule_asks_is _ _ _ (omega arith) c.loop-j.invariant
