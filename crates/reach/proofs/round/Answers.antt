-- Invariant: the rows before i are done, those from i on are as they were.
use mathlib.Core.Path.{◌≡◌, refl, sym, ap, ◌∙◌}
use Prim.Native.Nat.{◌<◌}
use native.Mathlib.Omega.{arith}
use lib.ListN.{length}
use Rattle.format.specs.Limits.{max_variables}
use Rattle.reach.specs.Rows.{row_has}
use Rattle.reach.proofs.Rounds.{upto_none, upto_joined, upto_left}
use Rattle.reach.proofs.round.Goals as goal
use Rattle.reach.proofs.round.Goals.{then-row_has, else-row_has}

pub loop-i-init : goal.loop-i-init
loop-i-init c = (omega arith, refl, upto_none _ _)

pub row_has-requires : goal.row_has-requires
row_has-requires c = omega (arith, c.requires.0.few, c.requires.0.room, c.loop-i.invariant.1)

pub join-requires : goal.join-requires
join-requires c = omega (arith, c.requires.0.few, c.requires.0.room, c.loop-i.invariant.1)

pub loop-i-preserved : goal.loop-i-preserved
loop-i-preserved c = let s' = row_has c.if-row_has.rows in
    let hk : c.args.k < max_variables = omega (arith, c.requires.0.few, c.requires.1) in
    elim c.if-row_has.branch [
      | then-row_has w ↦ (
        omega arith,
        ap length w.rows-is ∙ w.join.ensures.rows_len_unchanged ∙ c.loop-i.invariant.1,
        upto_joined s' hk c.loop-i.invariant.2 (sym c.row_has.ensures ∙ w.if-row_has.true) (rw w.rows-is w.join.ensures.joined),
      )
      | else-row_has w ↦ (
        omega arith,
        ap length w.rows-is ∙ c.loop-i.invariant.1,
        upto_left s' hk c.loop-i.invariant.2 (sym c.row_has.ensures ∙ w.if-row_has.false) (λ x y. ap (λ z. row_has z x y) w.rows-is),
      )
    ]

pub shape_of-rows : goal.shape_of-rows
shape_of-rows c = c.loop-i.invariant.1

pub returns : goal.returns
returns c = let e : c.loop-i.i ≡ c.args.n = omega arith in
    record { long = c.loop-i.invariant.1; is = rw e at c.loop-i.invariant.2.is }
