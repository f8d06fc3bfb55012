-- The head at the place of the rule.
use Prim.Native.Nat.{ℕ}
use mathlib.Core.Path.{ap, ◌∙◌}
use Rattle.program.specs.Program.{rule_of}
use Rattle.program.specs.Fields.{value_at}
use Rattle.run.proofs.RunLaws.{head_lies}
use Rattle.run.proofs.demands.head_of.Goals as goal

pub head_at-requires : goal.head_at-requires
head_at-requires c = rw c.place_in.ensures (head_lies c.requires.here)

pub returns : goal.returns
returns c = c.head_at.ensures ∙ ap (λ (n : ℕ). (rule_of (value_at c.args.file.now n)).head) c.place_in.ensures
