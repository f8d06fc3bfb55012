-- From the last term to the first, one bit a step; a term that is mixed and not single counts for the whole rule.
use mathlib.Core.Path.{◌≡◌}
use mathlib.Core.Bool.{◌||◌}
use Prim.Native.Nat.{◌-◌, ◌≤◌}
use lib.ListN.{length}
use Rattle.program.specs.Tables.{any_below}
use Rattle.program.specs.Program.{rule_of, variables_at}
use Rattle.program.specs.Readings.{valued}
use Rattle.reduct.specs.Masks.{Mask}
use Rattle.reduct.proofs.MaskLaws.{from}
use Rattle.ends.specs.Ends.{in_model, loose_at}
use Rattle.ends.proofs.masks.mask_by_kind.Given as goal

abbrev pub invariant-loop-i : goal.invariant-loop-i
invariant-loop-i l = let vs = variables_at l.file l.variables in
    let r = rule_of l.value in
    let n = length (rule_of l.value).terms in
    (l.i ≤ n) × Mask (from (in_model vs r) l.i) (n - l.i) l.bits
    × ((any_below l.i (loose_at vs (valued l.lows) (valued l.highs) r) || l.free) ≡ any_below n (loose_at vs (valued l.lows) (valued l.highs) r))
