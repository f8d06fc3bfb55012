-- The rules that hold their heads up, and those that can still lift them.
use mathlib.Core.Path.{refl}
use Rattle.reader.proofs.Published.{limited}
use Rattle.run.proofs.RaiseLaws.{way_small}
use Rattle.settling.proofs.SettleLaws.{way_stand}
use Rattle.settling.proofs.settle_with.Goals as goal

pub keep_live-requires : goal.keep_live-requires
keep_live-requires c = let l = limited c.requires.accepted_as in
    record { variables_in_bounds = (l.inside, l.few_rules, way_stand c.requires.some_way _ c.requires.accepted_as); small = ((way_small c.requires.some_way.way).1, refl) }

pub parts_by-requires : goal.parts_by-requires
parts_by-requires c = let l = limited c.requires.accepted_as in
    record { variables_le_max_variables = (l.few_variables, l.few_rules, way_stand c.requires.some_way _ c.requires.accepted_as); list_len = (refl, refl) }

pub keep_live-requires-2 : goal.keep_live-requires-2
keep_live-requires-2 c = let l = limited c.requires.accepted_as in
    record { variables_in_bounds = (l.inside, l.few_rules, way_stand c.requires.some_way _ c.requires.accepted_as); small = ((way_small c.requires.some_way.way).1, c.keep_live.ensures) }
