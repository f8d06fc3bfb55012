use Prim.Native.Nat.{◌+◌}
use mathlib.Core.Path.{sym}
use native.Mathlib.Omega.{arith}
use borrow.Author.Tests.{lt-ltb, le-ltb}
use Rattle.format.specs.Limits.{max_variables}
use Rattle.treechecks.proofs.is_too_many.Goals as goal

pub returns-then-variables-added-gt-MAX_VARIABLES : goal.returns-then-variables-added-gt-MAX_VARIABLES
returns-then-variables-added-gt-MAX_VARIABLES c = sym (simp (lt-ltb max_variables (c.args.variables + c.args.added) (omega arith)))

pub returns : goal.returns
returns c = sym (simp (le-ltb max_variables (c.args.variables + c.args.added) (omega arith)))
