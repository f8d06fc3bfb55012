-- Invariant: the lines of the first i entries are written.
use mathlib.Core.Path.{◌≡◌, subst}
use Prim.Native.Nat.{ℕ, ◌-◌}
use native.Mathlib.Omega.{arith}
use Rattle.text.specs.Output.{Appends}
use Rattle.entries.specs.Text.{entry_lines}
use Rattle.entries.proofs.TextLaws.{entries_none, entries_more}
use borrow.Author.Rules.{rules}
use Rattle.entries.proofs.put_entries.Goals as goal

pub loop-i-init : goal.loop-i-init
loop-i-init c = (search rules, search rules, search rules, entries_none _ _ _)

pub loop-i-preserved : goal.loop-i-preserved
loop-i-preserved c = (search rules, search rules, omega (arith, c.put_entry-next.ensures.upper_bound, c.loop-i.invariant.2), entries_more _ c.loop-i.i c.loop-i.invariant.3 c.put_entry-next.ensures.appends)

pub returns : goal.returns
returns c = let e : c.loop-i.i ≡ c.args.count = omega (arith, c.loop-i-test.false, c.loop-i.invariant.1) in record {
  appends = subst (λ (n : ℕ). Appends (entry_lines c.args.report.now n) c.args.at c.loop-i.next
      c.args.output.now c.loop-i.output) e c.loop-i.invariant.3;
  upper_bound = omega (arith, c.loop-i.invariant.2);
}
