-- Invariant: the lines of the first v variables are written.
use mathlib.Core.Path.{◌≡◌, subst}
use Prim.Native.Nat.{ℕ, ◌-◌}
use native.Mathlib.Omega.{arith}
use Rattle.program.specs.Program.{variables_at}
use Rattle.text.specs.Output.{Appends}
use Rattle.listing.specs.Lists.{bound_lines}
use Rattle.listing.proofs.ListLaws.{bounds_none, bounds_more}
use borrow.Author.Rules.{rules}
use Rattle.listing.proofs.put_bounds.Goals as goal

pub loop-v-init : goal.loop-v-init
loop-v-init c = (search rules, search rules, search rules, bounds_none _ _ _ _)

pub loop-v-preserved : goal.loop-v-preserved
loop-v-preserved c = (search rules, search rules, omega (arith, c.put_variable-next.ensures.upper_bound, c.loop-v.invariant.2), bounds_more _ _ c.loop-v.v c.loop-v.invariant.3 (c.put_variable-next.ensures.by_index _ (omega arith)))

pub returns : goal.returns
returns c = let e : c.loop-v.v ≡ c.args.n = omega (arith, c.loop-v-test.false, c.loop-v.invariant.1) in record { appends = subst (λ (k : ℕ). Appends (bound_lines (variables_at c.args.file.now c.args.n) c.args.bounds.now k) 0 c.loop-v.next c.args.output.now c.loop-v.output) e c.loop-v.invariant.3; upper_bound = omega (arith, c.loop-v.invariant.2) }
