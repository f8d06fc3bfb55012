-- A position that is not mixed does not offend; a mixed one does where it shares.
use mathlib.Core.Path.{sym, ap, ◌∙◌}
use native.Mathlib.Omega.{arith}
use borrow.Author.Tests.{not-true, not-false}
use Rattle.program.specs.Directions.{is_mixed}
use Rattle.edges.proofs.PositionLaws.{offends_none, offends_shared}
use Rattle.edges.proofs.mixed.offends_position.Goals as goal

pub returns-then-not-is_mixed : goal.returns-then-not-is_mixed
returns-then-not-is_mixed c = let e = ap is_mixed c.position_at-p.ensures.direction_is in
    offends_none _ _ _ _ (sym e ∙ sym c.is_mixed.ensures ∙ not-true _ c.if-not-is_mixed.true-raw)

pub share-requires : goal.share-requires
share-requires c = let h = c.wide-head.ensures.0 ∙ c.requires.opened_is.head_is in
    let x = c.wide-x.ensures.0 ∙ c.position_at-p.ensures.variable_is in
    omega (arith, h, x, c.requires.standing.head, c.requires.standing.declared _ c.requires.i_in_bounds, c.requires.lent.few, c.requires.lent.room)

pub returns : goal.returns
returns c = let h = c.wide-head.ensures.0 ∙ c.requires.opened_is.head_is in
    let x = c.wide-x.ensures.0 ∙ c.position_at-p.ensures.variable_is in
    offends_shared _ _ _ _ _ _
    (sym (ap is_mixed c.position_at-p.ensures.direction_is) ∙ sym c.is_mixed.ensures ∙ not-false _ c.if-not-is_mixed.false-raw) h x c.share.ensures
