use Prim.Native.Nat.{ℕ}
use mathlib.Core.Path.{sym, ap₂, ◌∙◌}
use mathlib.Core.List.{List}
use lib.Dec.{leb}
use Rattle.program.specs.Program.{variables_at}
use Rattle.program.proofs.Places.{variables_length}
use Rattle.flat.specs.Flat.{leaves_in, any_in}
use Rattle.treechecks.proofs.TreeValues.{value_undeclared, part_rest}
use Rattle.treechecks.proofs.is_undeclared.Goals as goal

pub returns-then-is_wrong_head : goal.returns-then-is_wrong_head
returns-then-is_wrong_head c = λ t e. sym (value_undeclared c.args.value.now t e (variables_at c.args.file.now c.args.n) ∙ simp (sym c.is_wrong_head.ensures ∙ c.if-is_wrong_head.true))

pub returns : goal.returns
returns c = λ t e. let vs = variables_at c.args.file.now c.args.n in
    c.is_undeclared.ensures
    ∙ ap₂ (λ (n : ℕ) (s : List ℕ). any_in (leb n) (leaves_in s)) (sym (variables_length c.args.file.now c.args.n)) (part_rest 1 c.args.value.now)
    ∙ sym (value_undeclared c.args.value.now t e vs ∙ simp (sym c.is_wrong_head.ensures ∙ c.if-is_wrong_head.false))
