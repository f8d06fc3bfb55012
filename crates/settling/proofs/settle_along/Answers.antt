-- An order of the rules, and the run by it.
use mathlib.Core.Path.{refl}
use Rattle.reader.proofs.Published.{limited}
use Rattle.settling.proofs.SettleLaws.{way_stand}
use Rattle.settling.proofs.settle_along.Goals as goal

pub sequence-parts-requires : goal.sequence-parts-requires
sequence-parts-requires c = let l = limited c.requires.accepted_as in
    record { variables_le_max_variables = (l.few_variables, l.few_rules, way_stand c.requires.some_way _ c.requires.accepted_as); list_len = (refl, refl, refl) }
