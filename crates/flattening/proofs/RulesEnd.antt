-- Where the rules of a plain part end: after the fields of its variables and its rules.
use Prim.Native.Nat.{ℕ, zero, suc, ◌+◌, ◌*◌, ◌≤◌}
use mathlib.Core.Path.{◌≡◌, refl, ap, ◌∙◌}
use mathlib.Core.List.{List, [], ◌∷◌, ◌++◌, append-nil}
use native.Mathlib.Omega.{arith}
use lib.ListN.{length, length-append}
use lib.Seq.{length-take-le}
use Rattle.program.specs.Fields.{place}
use Rattle.program.specs.Program.{Program, program}
use Rattle.program.specs.Encode.{each, variable_bytes, rule_bytes, constraint_bytes, encode, Bytes}
use Rattle.program.specs.declared.Counts.{Counts}
use Rattle.program.proofs.Places.{passed_less, passed_inside, variables_stand, counts, one_variable, one_rule, length_snoc, Extends, extends_length, program_start, program_grows}
use Rattle.program.proofs.RoundTrip.{passed_encoded}
use Rattle.rewriting.proofs.Forms.{variables_size}
use Rattle.fields.specs.Scanning.{Counted}
use Rattle.validity.proofs.RuleLaws.{counted_variables, rule_stands}

empty : {A : Type 0} (xs : List A) → length xs ≡ 0 → xs ≡ []
empty [] e = refl
empty (x ∷ xs) e = absurd (omega arith)

-- a list that extends another and is no longer is the same
extends_same : {A : Type 0} {xs ys : List A} → Extends xs ys → length ys ≤ length xs → ys ≡ xs
extends_same {xs = xs} x h =
    x.are ∙ ap (λ r. xs ++ r) (empty x.more (omega (arith, ap length x.are, length-append xs x.more))) ∙ append-nil xs

module _ {s : List ℕ} {k : Counts} (c : Counted s k) where
  abbrev K : ℕ
  K = c.fields

  abbrev P : Program
  P = program s K

  abbrev end : ℕ
  end = k.variables + k.rules

  in_all : end ≤ K
  in_all = omega (arith, (counts c.whole.passed).in_all, counted_variables c, c.describes.rules_are)

  variables_to_is : (j : ℕ) → j ≤ k.variables → length (program s j).variables ≡ j
  variables_to_is zero h = ap (λ Q. length Q.variables) (program_start s)
  variables_to_is (suc j) h =
      let t = (variables_stand K c.whole.passed).tagged j (omega (arith, counted_variables c)) in
      ap (λ Q. length Q.variables) (one_variable s j t) ∙ length_snoc (program s j).variables _ ∙ ap (λ (n : ℕ). suc n) (variables_to_is j (omega arith))

  same_variables : P.variables ≡ (program s end).variables
  same_variables =
      let a = extends_length (program_grows s k.variables end (omega arith)).variables in
      extends_same (program_grows s end K in_all).variables (omega (arith, variables_to_is k.variables (omega arith), counted_variables c))

  rules_to_is : (r : ℕ) → r ≡ k.rules → length (program s (k.variables + r)).rules ≡ r
  rules_to_is zero e =
      let a = extends_length (program_grows s (k.variables + 0) K (let b = in_all in omega arith)).rules in
      omega (arith, c.describes.rules_are)
  rules_to_is (suc r) e =
      let q : k.variables + suc r ≡ suc (k.variables + r) = omega arith in
      let f = (rule_stands c r (omega arith)).field in
      ap (λ (j : ℕ). length (program s j).rules) q ∙ ap (λ Q. length Q.rules) (one_rule s (k.variables + r) f.tagged)
      ∙ length_snoc (program s (k.variables + r)).rules _ ∙ ap (λ (n : ℕ). suc n) f.number

  same_rules : P.rules ≡ (program s end).rules
  same_rules = extends_same (program_grows s end K in_all).rules (omega (arith, rules_to_is k.rules refl, c.describes.rules_are))

  no_constraints : (program s end).constraints ≡ []
  no_constraints =
      empty (program s end).constraints
      (omega (arith, (counts (passed_less c.whole.passed in_all)).in_all, rules_to_is k.rules refl, ap length same_variables, counted_variables c))

  pub end_inside : place s end ≤ length s
  end_inside = passed_inside end (passed_less c.whole.passed in_all)

  pub rules_end : Bytes s → place s end ≡ 8 * k.variables + length (each rule_bytes P.rules)
  unfolding encode
  rules_end b =
      let Q = program s end in
      let e = passed_encoded b end (passed_less c.whole.passed in_all) in
      omega (
        arith,
        length-take-le (place s end) s end_inside,
        ap length e,
        length-append (each variable_bytes Q.variables) (each rule_bytes Q.rules ++ each constraint_bytes Q.constraints),
        length-append (each rule_bytes Q.rules) (each constraint_bytes Q.constraints),
        variables_size Q.variables,
        ap length same_variables,
        counted_variables c,
        ap (λ rs. length (each rule_bytes rs)) same_rules,
        ap (λ ks. length (each constraint_bytes ks)) no_constraints,
      )
