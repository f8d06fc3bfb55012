-- The line of what the entry's bytes say.
-- the report and the entry
use mathlib.Core.Path.{◌≡◌, ap, ◌∙◌}
use Prim.Native.Nat.{ℕ, ◌+◌, ◌*◌, ◌≤◌}
use mathlib.Core.List.{List}
use native.Mathlib.Omega.{arith}
use lib.IntN.{nat_abs}
use lib.ListN.{get_or}
use mir.Syntax.{w64}
use mir.Val.{to_z, of_z}
use Rattle.format.proofs.Ints.{signed_small}
use Rattle.verdict.specs.Demands.{variable_at, mark_at, number_at}
use Rattle.entries.specs.Text.{entry_line}
use Rattle.text.proofs.OutputLaws.{appends_as}
use borrow.Author.Rules.{rules}
use Rattle.entries.proofs.put_entry.Goals as goal

pub put_marked-requires : goal.put_marked-requires
put_marked-requires c = (search rules, omega (arith, ap nat_abs ((let it : to_z w64 (of_z w64 c.signed_at-z.result) ≡ number_at c.args.report.now c.args.i = let e : to_z w64 (of_z w64 c.signed_at-z.result) ≡ c.signed_at-z.result = search rules in e ∙ c.signed_at-z.ensures in it)), (let it : nat_abs (number_at c.args.report.now c.args.i) ≤ 32768 = signed_small (get_or c.args.report.now (4 * c.args.i + 2) 0) (get_or c.args.report.now (4 * c.args.i + 2 + 1) 0) (omega (arith, c.type_inv.report (4 * c.args.i + 2))) (omega (arith, c.type_inv.report (4 * c.args.i + 2 + 1))) in it)))

pub returns : goal.returns
returns c = record { appends = appends_as (ap (entry_line (variable_at c.args.report.now c.args.i) (mark_at c.args.report.now c.args.i)) ((let it : to_z w64 (of_z w64 c.signed_at-z.result) ≡ number_at c.args.report.now c.args.i = let e : to_z w64 (of_z w64 c.signed_at-z.result) ≡ c.signed_at-z.result = search rules in e ∙ c.signed_at-z.ensures in it))) c.put_marked.ensures.appends; upper_bound = c.put_marked.ensures.upper_bound }
