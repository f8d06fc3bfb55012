-- Below 1, above the limit or within: each branch by the order of ℤ.
use mathlib.Core.Path.{◌≡◌}
use mir.Syntax.{w64}
use mir.Val.{to_z, of_z}
use Rattle.faults.proofs.TermLaws.{divisor_below, divisor_above}
use borrow.Author.Rules.{rules}
use Rattle.faults.proofs.divisors.is_outside_divisor.Goals as goal

pub returns-then-number-lt1 : goal.returns-then-number-lt1
returns-then-number-lt1 c = let z : to_z w64 (of_z w64 c.args.t.number) ≡ c.args.t.number = search rules in
    divisor_below c.args.t (simp z at c.if-number-lt1.true)

pub returns : goal.returns
returns c = let z : to_z w64 (of_z w64 c.args.t.number) ≡ c.args.t.number = search rules in
    rw z (divisor_above c.args.t (simp z at c.if-number-lt1.false))
