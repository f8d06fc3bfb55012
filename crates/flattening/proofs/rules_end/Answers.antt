-- One rule after the other: each stands where the one before it ends.
use Prim.Native.Nat.{ℕ, ◌+◌}
use mathlib.Core.Path.{◌≡◌, ap, ◌∙◌}
use native.Mathlib.Omega.{arith}
use Rattle.program.specs.Fields.{place}
use Rattle.validity.proofs.RuleLaws.{variables_inside, first_rule, next_rule, rule_inside}
use Rattle.flattening.proofs.rules_end.Goals as goal

pub overflow_mul-at : goal.overflow_mul-at
overflow_mul-at c = omega (arith, variables_inside c.requires)

pub loop-i-init : goal.loop-i-init
loop-i-init c = (omega arith, first_rule c.requires)

pub next_at-at-requires : goal.next_at-at-requires
next_at-at-requires c = rule_inside c.requires _ (omega arith) c.loop-i.invariant.1

pub loop-i-preserved : goal.loop-i-preserved
loop-i-preserved c = (omega arith, next_rule _ _ _ c.loop-i.invariant.1 c.next_at-at.ensures)

pub returns : goal.returns
returns c = let e : c.loop-i.i ≡ c.args.counts.rules = omega arith in
    c.loop-i.invariant.1 ∙ ap (λ (i : ℕ). place c.args.plain.now (c.args.counts.variables + i)) e
