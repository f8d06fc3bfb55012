use mathlib.Core.Bool.{not}
use mathlib.Core.Path.{refl, sym, ap, ◌∙◌}
use native.Mathlib.Omega.{arith}
use Rattle.program.specs.Program.{rule}
use Rattle.program.specs.Refusals.{undeclared}
use Rattle.nested.specs.TreeRefusals.{body_of}
use Rattle.treechecks.proofs.TreeValues.{value_long, formed, malformed_of, too_many_is, refused_18, refused_5, refused_9, refused_11}
use Rattle.treechecks.proofs.check_tree.Goals as goal

pub returns-then-not-is_well_formed : goal.returns-then-not-is_well_formed
returns-then-not-is_well_formed c = λ N e z. (refused_18 N _ (malformed_of c.is_well_formed.ensures (ap not c.if-not-is_well_formed.true)), refl)

pub added_by-added-requires : goal.added_by-added-requires
added_by-added-requires c = let t = formed c.is_well_formed.ensures (ap not c.if-not-is_well_formed.false) in value_long _ t.0 t.1

pub returns-then-is_too_many : goal.returns-then-is_too_many
returns-then-is_too_many c = λ N e z.
    let t = formed c.is_well_formed.ensures (ap not c.if-not-is_well_formed.false) in
    let a = too_many_is N _ t.0 t.1 z (c.added_by-added.ensures.value t.0 t.1) in
    (refused_5 N _ t.0 t.1 (sym a ∙ sym c.is_too_many.ensures ∙ c.if-is_too_many.true), refl)

pub is_undeclared-requires : goal.is_undeclared-requires
is_undeclared-requires c = let t = formed c.is_well_formed.ensures (ap not c.if-not-is_well_formed.false) in
    let l = value_long _ t.0 t.1 in
    record { n_in_bounds = c.requires.n_in_bounds.0; in_bounds = omega arith }

pub returns-then-is_undeclared : goal.returns-then-is_undeclared
returns-then-is_undeclared c = λ N e z.
    let t = formed c.is_well_formed.ensures (ap not c.if-not-is_well_formed.false) in
    let a = too_many_is N _ t.0 t.1 z (c.added_by-added.ensures.value t.0 t.1) in (
      refused_9 N _ t.0 t.1 (sym a ∙ sym c.is_too_many.ensures ∙ c.if-is_too_many.false)
          (ap (λ vs. undeclared vs (rule (body_of t.0))) e ∙ sym (c.is_undeclared.ensures t.0 t.1) ∙ c.if-is_undeclared.true),
      refl,
    )

pub is_twice-requires : goal.is_twice-requires
is_twice-requires c = let t = formed c.is_well_formed.ensures (ap not c.if-not-is_well_formed.false) in
    let l = value_long _ t.0 t.1 in
    omega arith

pub returns-then-is_twice : goal.returns-then-is_twice
returns-then-is_twice c = λ N e z.
    let t = formed c.is_well_formed.ensures (ap not c.if-not-is_well_formed.false) in
    let a = too_many_is N _ t.0 t.1 z (c.added_by-added.ensures.value t.0 t.1) in (
      refused_11 N _ t.0 t.1 (sym a ∙ sym c.is_too_many.ensures ∙ c.if-is_too_many.false)
          (ap (λ vs. undeclared vs (rule (body_of t.0))) e ∙ sym (c.is_undeclared.ensures t.0 t.1) ∙ c.if-is_undeclared.false)
          (sym (c.is_twice.ensures t.0 t.1) ∙ c.if-is_twice.true),
      refl,
    )

pub returns : goal.returns
returns c = λ N e z.
    let t = formed c.is_well_formed.ensures (ap not c.if-not-is_well_formed.false) in
    let n = c.added_by-added.ensures.value t.0 t.1 in
    let a = too_many_is N _ t.0 t.1 z n in
    record {
      rooted = t.0;
      means = t.1;
      room = sym a ∙ sym c.is_too_many.ensures ∙ c.if-is_too_many.false;
      declared = ap (λ vs. undeclared vs (rule (body_of t.0))) e ∙ sym (c.is_undeclared.ensures t.0 t.1) ∙ c.if-is_undeclared.false;
      once = sym (c.is_twice.ensures t.0 t.1) ∙ c.if-is_twice.false;
      adds = n;
    }
