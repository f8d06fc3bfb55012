-- The one position of a size, at the value that demands most.
use mathlib.Core.Path.{◌≡◌, ap, ap₂, ◌∙◌}
use native.Mathlib.Omega.{arith}
use lib.IntN.{nat_abs, ◌+ℤ◌}
use mir.Syntax.{w64}
use mir.Val.{to_z, of_z}
use Rattle.program.specs.Program.{rule_of, variable_in, variables_at}
use Rattle.idleness.specs.Most.{most_declared}
use Rattle.idleness.proofs.MostLaws.{most_read, field_inside, position_low, position_high, position_most, size_position, size_most, idle_is}
use borrow.Author.Rules.{rules}
use Rattle.idleness.proofs.is_idle_size.Goals as goal

pub position_at-p-requires : goal.position_at-p-requires
position_at-p-requires c = record { standing = c.requires.ready.standing; opened_is = c.open_rule-rule.ensures; i_in_bounds = size_position c.requires.ready c.requires.value_value }

pub variable-x-requires : goal.variable-x-requires
variable-x-requires c = field_inside c.requires.ready 0 (size_position c.requires.ready c.requires.value_value) c.position_at-p.ensures.variable_is

pub demanding-most-requires : goal.demanding-most-requires
demanding-most-requires c =
    let one = size_position c.requires.ready c.requires.value_value in
    let q = c.position_at-p.ensures.variable_is in
    let v = c.variable-x.ensures c.args.variables (omega (arith, q, c.requires.ready.standing.declared 0 one)) ∙ ap (variable_in (variables_at c.args.file.now c.args.variables)) q in
    let a : to_z w64 (of_z w64 c.variable-x.result.low) ≡ c.variable-x.result.low = search rules in
    let b : to_z w64 (of_z w64 c.variable-x.result.high) ≡ c.variable-x.result.high = search rules in
    let low = position_low c.requires.ready 0 one v in
    let high = position_high c.requires.ready 0 one v in
    rw (a, b) (omega (arith, low, high), omega (arith, low, high))

pub size-requires : goal.size-requires
size-requires c =
    let one = size_position c.requires.ready c.requires.value_value in
    let q = c.position_at-p.ensures.variable_is in
    let v = c.variable-x.ensures c.args.variables (omega (arith, q, c.requires.ready.standing.declared 0 one)) ∙ ap (variable_in (variables_at c.args.file.now c.args.variables)) q in
    let a : to_z w64 (of_z w64 c.variable-x.result.low) ≡ c.variable-x.result.low = search rules in
    let b : to_z w64 (of_z w64 c.variable-x.result.high) ≡ c.variable-x.result.high = search rules in
    let y : to_z w64 (of_z w64 c.demanding-most.result) ≡ c.demanding-most.result = search rules in
    let most : to_z w64 (of_z w64 c.demanding-most.result) ≡ most_declared (variables_at c.args.file.now c.args.variables) (rule_of c.args.value.now) 0 =
    y ∙ most_read (variables_at c.args.file.now c.args.variables) (rule_of c.args.value.now) 0 c.open_rule-rule.ensures.variable_is
    c.position_at-p.ensures.direction_is v (simp (a, b) at c.demanding-most.ensures) in
    omega (arith, ap nat_abs most, position_most c.requires.ready 0 one)

pub plus-requires : goal.plus-requires
plus-requires c =
    let one = size_position c.requires.ready c.requires.value_value in
    let q = c.position_at-p.ensures.variable_is in
    let v = c.variable-x.ensures c.args.variables (omega (arith, q, c.requires.ready.standing.declared 0 one)) ∙ ap (variable_in (variables_at c.args.file.now c.args.variables)) q in
    let a : to_z w64 (of_z w64 c.variable-x.result.low) ≡ c.variable-x.result.low = search rules in
    let b : to_z w64 (of_z w64 c.variable-x.result.high) ≡ c.variable-x.result.high = search rules in
    let y : to_z w64 (of_z w64 c.demanding-most.result) ≡ c.demanding-most.result = search rules in
    let most : to_z w64 (of_z w64 c.demanding-most.result) ≡ most_declared (variables_at c.args.file.now c.args.variables) (rule_of c.args.value.now) 0 =
    y ∙ most_read (variables_at c.args.file.now c.args.variables) (rule_of c.args.value.now) 0 c.open_rule-rule.ensures.variable_is
    c.position_at-p.ensures.direction_is v (simp (a, b) at c.demanding-most.ensures) in
    let h : to_z w64 (of_z w64 c.header-header.result.c) ≡ c.header-header.result.c = search rules in
    let w : to_z w64 (of_z w64 c.size.result) ≡ c.size.result = search rules in
    omega (arith, ap nat_abs (h ∙ c.header-header.ensures.c_is), c.requires.ready.evaluable.near, ap nat_abs (w ∙ c.size.ensures), ap nat_abs most, position_most c.requires.ready 0 one)

pub returns : goal.returns
returns c =
    let one = size_position c.requires.ready c.requires.value_value in
    let q = c.position_at-p.ensures.variable_is in
    let v = c.variable-x.ensures c.args.variables (omega (arith, q, c.requires.ready.standing.declared 0 one)) ∙ ap (variable_in (variables_at c.args.file.now c.args.variables)) q in
    let a : to_z w64 (of_z w64 c.variable-x.result.low) ≡ c.variable-x.result.low = search rules in
    let b : to_z w64 (of_z w64 c.variable-x.result.high) ≡ c.variable-x.result.high = search rules in
    let y : to_z w64 (of_z w64 c.demanding-most.result) ≡ c.demanding-most.result = search rules in
    let most : to_z w64 (of_z w64 c.demanding-most.result) ≡ most_declared (variables_at c.args.file.now c.args.variables) (rule_of c.args.value.now) 0 =
    y ∙ most_read (variables_at c.args.file.now c.args.variables) (rule_of c.args.value.now) 0 c.open_rule-rule.ensures.variable_is
    c.position_at-p.ensures.direction_is v (simp (a, b) at c.demanding-most.ensures) in
    let h : to_z w64 (of_z w64 c.header-header.result.c) ≡ c.header-header.result.c = search rules in
    let w : to_z w64 (of_z w64 c.size.result) ≡ c.size.result = search rules in
    let vs = variables_at c.args.file.now c.args.variables in
    let r = rule_of c.args.value.now in
    let z : to_z w64 (of_z w64 c.plus.result) ≡ c.plus.result = search rules in
    idle_is vs r c.is_no_more.ensures c.open_rule-rule.ensures.variable_is
    (size_most vs r c.requires.ready.evaluable c.requires.value_value most (z ∙ c.plus.ensures ∙ ap₂ ◌+ℤ◌ (h ∙ c.header-header.ensures.c_is) (w ∙ c.size.ensures)))
