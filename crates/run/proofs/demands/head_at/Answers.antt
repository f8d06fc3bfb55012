-- The head is that of the value at the place.
use Prim.Native.Nat.{ℕ}
use mathlib.Core.Path.{ap, ◌∙◌}
use mathlib.Core.List.{List}
use Rattle.program.specs.Program.{rule_of}
use Rattle.run.proofs.demands.head_at.Goals as goal

pub header-rule-requires : goal.header-rule-requires
header-rule-requires c = rw c.value_at.ensures c.requires.1

pub returns : goal.returns
returns c = c.header-rule.ensures.head_is ∙ ap (λ (v : List ℕ). (rule_of v).head) c.value_at.ensures
