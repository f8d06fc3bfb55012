-- The number of the first term, where there is one.
use mathlib.Core.Path.{◌≡◌, ◌∙◌}
use native.Mathlib.Omega.{arith}
use mir.Syntax.{w64}
use mir.Val.{to_z, of_z}
use Rattle.parts.proofs.Bytes.{divisor_missing, divisor_first}
use borrow.Author.Rules.{rules}
use Rattle.parts.proofs.rules.divisor.Goals as goal

pub returns-then-part-lt4 : goal.returns-then-part-lt4
returns-then-part-lt4 c = divisor_missing c.args.value.now c.divisor_part-part.ensures (omega arith)

pub returns : goal.returns
returns c = let z : to_z w64 (of_z w64 c.term-t.result.number) ≡ c.term-t.result.number = search rules in
    z ∙ divisor_first c.args.value.now c.divisor_part-part.ensures (omega arith) c.term-t.ensures
