use Prim.Native.Nat.{ℕ}
use mathlib.Core.Path.{sym, ap, ◌∙◌}
use mathlib.Core.List.{List}
use mathlib.Core.Bool.{false}
use Rattle.flat.specs.Flat.{leaves_in, twice_with}
use Rattle.treechecks.proofs.TreeValues.{value_twice, part_rest}
use Rattle.treechecks.proofs.is_twice.Goals as goal

pub returns : goal.returns
returns c = λ t e. c.is_twice.ensures ∙ ap (λ (s : List ℕ). twice_with (λ x. false) (leaves_in s)) (part_rest 1 c.args.value.now) ∙ sym (value_twice c.args.value.now t e)
