use native.Mathlib.Omega.{arith}
use Rattle.ordering.proofs.FieldLaws.{from_constraint, from_four, from_eight}
use Rattle.ordering.proofs.field.ordered_from.Goals as goal

pub returns-then-tag-eq-CONSTRAINT : goal.returns-then-tag-eq-CONSTRAINT
returns-then-tag-eq-CONSTRAINT c = (from_constraint _ _ (omega arith), omega arith)

pub returns-in-7 : goal.returns-in-7
returns-in-7 c = (from_eight _ _ (omega arith) (omega arith) (omega arith), omega arith)

pub returns-in_default : goal.returns-in_default
returns-in_default c = (from_four _ _ (omega arith) (λ e. omega arith) (λ e. omega arith), omega arith)

pub returns-in_default-2 : goal.returns-in_default-2
returns-in_default-2 c = (from_four _ _ (omega arith) (λ e. omega arith) (λ e. omega arith), omega arith)
