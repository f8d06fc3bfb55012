-- The variable is read from the file, its bound from the buffer.
-- the buffer and the variable
use mathlib.Core.Path.{◌≡◌, ap, ap₂, ◌∙◌}
use Prim.Native.Nat.{ℕ, ◌+◌, ◌*◌, ◌≤◌}
use mathlib.Core.List.{List}
use native.Mathlib.Omega.{arith}
use lib.IntN.{ℤ, nat_abs}
use lib.ListN.{get_or}
use mir.Syntax.{w64}
use mir.Val.{to_z, of_z}
use Rattle.format.proofs.Ints.{signed_small}
use Rattle.program.specs.declared.Variable.{Variable}
use Rattle.meaning.specs.Stable.{assigned}
use Rattle.text.proofs.OutputLaws.{appends_as}
use Rattle.listing.specs.Lists.{bound_line}
use borrow.Author.Rules.{rules}
use Rattle.listing.proofs.put_variable.Goals as goal

pub put_bound-requires : goal.put_bound-requires
put_bound-requires c = (search rules, omega (arith, ap nat_abs ((let it : to_z w64 (of_z w64 c.signed_at-z.result) ≡ assigned c.args.bounds.now c.args.v = let e : to_z w64 (of_z w64 c.signed_at-z.result) ≡ c.signed_at-z.result = search rules in e ∙ c.signed_at-z.ensures in it)), (let it : nat_abs (assigned c.args.bounds.now c.args.v) ≤ 32768 = signed_small (get_or c.args.bounds.now (2 * c.args.v) 0) (get_or c.args.bounds.now (2 * c.args.v + 1) 0) (omega (arith, c.type_inv.bounds (2 * c.args.v))) (omega (arith, c.type_inv.bounds (2 * c.args.v + 1))) in it)))

pub returns : goal.returns
returns c = record { by_index = λ n h. appends_as (ap₂ (λ (x : Variable) (z : ℤ). bound_line x c.args.v z) (c.variable-x.ensures n h) ((let it : to_z w64 (of_z w64 c.signed_at-z.result) ≡ assigned c.args.bounds.now c.args.v = let e : to_z w64 (of_z w64 c.signed_at-z.result) ≡ c.signed_at-z.result = search rules in e ∙ c.signed_at-z.ensures in it))) c.put_bound.ensures.appends; upper_bound = c.put_bound.ensures.upper_bound }
