-- A size by its variable's range, all else by the variable's kind.
use Rattle.positions.proofs.KindLaws.{rule_kinds}
use Rattle.reduct.proofs.kept.kept_positions.Goals as goal

pub kept_by_kind-requires : goal.kept_by_kind-requires
kept_by_kind-requires c = record { standing = c.requires.standing; kinds_of = rule_kinds _ _ c.open_rule-rule.ensures c.if-rule-eq5.false c.kinds_of-kinds.ensures; value_len_bound = c.requires.value_len_bound }
