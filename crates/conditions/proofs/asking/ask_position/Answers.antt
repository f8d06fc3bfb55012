-- Each set takes the variable in where the position asks.
use Rattle.conditions.proofs.AskLaws.{position_asks}
use Rattle.conditions.proofs.asking.ask_position.Goals as goal

pub returns : goal.returns
returns c = position_asks _ _ _ _ c.position_at-p.ensures c.contains-inside.ensures
    c.asks_most.ensures c.asks_least.ensures c.with_if.ensures c.with_if-2.ensures
