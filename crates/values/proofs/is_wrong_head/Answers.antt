-- A head is declared and founded, or it is wrong.
use mathlib.Core.Path.{sym, ap, ◌∙◌}
use mathlib.Core.Bool.{not}
use native.Mathlib.Omega.{arith}
use borrow.Author.Tests.{leb-false}
use Rattle.values.proofs.ValueLaws.{head_undeclared, head_kind}
use Rattle.values.proofs.is_wrong_head.Goals as goal

pub returns-then-is_undeclared : goal.returns-then-is_undeclared
returns-then-is_undeclared c = head_undeclared _ _ _ (sym c.is_undeclared.ensures ∙ c.if-is_undeclared.true)

pub variable-x-requires : goal.variable-x-requires
variable-x-requires c = omega (arith, leb-false c.args.variables c.args.head (sym c.is_undeclared.ensures ∙ c.if-is_undeclared.false), c.requires)

pub returns : goal.returns
returns c = let e = sym c.is_undeclared.ensures ∙ c.if-is_undeclared.false in
    ap not c.is_founded.ensures ∙ head_kind _ _ _ e (c.variable-x.ensures _ (leb-false c.args.variables c.args.head e))
