-- What a rule gives, where that is more than its head has.
use Rattle.std.specs.Prelude.{cond, ℤ, Option, Some, None}
use Rattle.program.specs.Variables.{not_past}
use Rattle.program.specs.declared.Variable.{Variable}

-- what is given, where it is past z in the order of x, and nothing else
unfoldable pub past_only : Variable → ℤ → Option ℤ → Option ℤ
past_only x z None = None
past_only x z (Some a) = cond (not_past x a z) None (Some a)
