-- A file without trees: it is a plain file, and is written as it stands. Plain readers turn down a tree with 3.
use Prim.Native.Nat.{ℕ, zero, suc, ◌<◌}
use mathlib.Core.Path.{◌≡◌, refl, sym, ap, ◌∙◌, subst}
use mathlib.Core.Bool.{Bool, true, false}
use mathlib.Core.List.{List, [], append-nil}
use native.Mathlib.Omega.{arith}
use lib.Dec.{eqb}
use lib.ListN.{length}
use borrow.Author.Tests.{eqb-true, eqb-false}
use Rattle.trees.specs.Tree.{joined}
use Rattle.program.specs.Fields.{tag_at, place}
use Rattle.program.specs.Program.{Program}
use Rattle.program.specs.Refusals.{cut_short, unknown_tag, value_refusal, field_refusal}
use Rattle.program.specs.Components.{Valid}
use Rattle.program.specs.Reading.{refused, Passed, Reads, bad_field, Accepts}
use Rattle.program.specs.Encode.{encode, Bytes}
use Rattle.program.proofs.Places.{length_snoc, passed_fine}
use Rattle.program.proofs.RoundTrip.{accepted_encoded}
use Rattle.nested.specs.Nested.{tree_tag, Nested, trees}
use Rattle.nested.specs.Flatten.{along, flatten}
use Rattle.nested.specs.NestedReading.{NestedPassed, NestedAccepts}
use Rattle.nested.specs.FlattenCall.{flat}
use Rattle.nested.proofs.TreeFields.{one_tree, other_refusal}
use Rattle.nested.proofs.PassedFine.{Standing, standing, plain_trees}

-- ---- the program

-- without trees nothing is added
flatten_plain : (P : Program) → flatten (record { plain = P; trees = [] }) ≡ P
unfolding flatten joined along
flatten_plain P = λ i. record { variables = append-nil P.variables i; rules = append-nil P.rules i; constraints = P.constraints }

plain_is : (N : Nested) → N.trees ≡ [] → flatten N ≡ N.plain
plain_is N e = ap flatten (λ i. record { plain = N.plain; trees = e i }) ∙ flatten_plain N.plain

-- ---- the file

-- every field is a plain one
all_plain : {s : List ℕ} (k : ℕ) (o : Standing s k) → trees s k ≡ [] → o.plain ≡ k
all_plain zero o e = omega (arith, o.before)
all_plain {s} (suc j) o e = go (eqb o.plain (suc j)) refl
  where
    go : (t : Bool) → eqb o.plain (suc j) ≡ t → o.plain ≡ suc j
    go true q = eqb-true o.plain (suc j) q
    go false q =
        let h = eqb-false o.plain (suc j) q in
        let f = o.treed j (omega (arith, o.before)) (omega arith) in
        absurd (omega (arith, ap length e, ap length (one_tree s j f.1 f.0.means), length_snoc (trees s j) f.0.rooted))

pub plain_accepts : {s : List ℕ} {N : Nested} → NestedAccepts s N → N.trees ≡ [] → Accepts s N.plain
plain_accepts {s} {N} a e =
    let k = a.fields in
    let o = standing k a.whole.passed in
    let none : trees s k ≡ [] = ap (λ (M : Nested). M.trees) a.means ∙ e in
    record {
      fields = k;
      whole = record { passed = subst (Passed s) (all_plain k o none) o.passed; ended = a.whole.ended };
      means = ap (λ (M : Nested). M.plain) a.means;
      valid = subst Valid (plain_is N e) a.valid;
    }

-- "a file without tag 5 comes out unchanged"
pub plain_unchanged : {s : List ℕ} {N : Nested} → Bytes s → NestedAccepts s N → N.trees ≡ [] → flat N ≡ s
plain_unchanged {N = N} b a e = ap encode (plain_is N e) ∙ sym (accepted_encoded b (plain_accepts a e))

-- and every plain file that is accepted is such a nested file
plain_passed : {s : List ℕ} {k : ℕ} → Passed s k → NestedPassed s k
plain_passed {s} p = record {
  short = p.short;
  stands = p.stands;
  fine = λ j h. let f = passed_fine p j h in other_refusal s j (λ e. omega (arith, f.tag_most)) ∙ p.fine j h;
}

pub plain_nested : {s : List ℕ} {P : Program} → Accepts s P → NestedAccepts s (record { plain = P; trees = [] })
plain_nested {s} {P} a = record {
  fields = a.fields;
  whole = record { passed = plain_passed a.whole.passed; ended = a.whole.ended };
  means = λ i. record { plain = a.means i; trees = plain_trees a.fields a.whole.passed i };
  valid = subst Valid (sym (flatten_plain P)) a.valid;
}

-- ---- plain readers

tree_refusal : (s : List ℕ) (k : ℕ) → cut_short s (place s k) ≡ false → tag_at s (place s k) ≡ tree_tag → field_refusal s k ≡ 3
unfolding field_refusal value_refusal unknown_tag
tree_refusal s k c e = rw (c, e)

-- "Plain readers still refuse tag 5 with 3"
pub tree_unknown : {s : List ℕ} {k : ℕ} → Passed s k → place s k < length s → cut_short s (place s k) ≡ false → tag_at s (place s k) ≡ tree_tag
    → Reads s (refused 3 (place s k))
tree_unknown {s} {k} p h c e =
    let q = tree_refusal s k c e in
    subst (λ (n : ℕ). Reads s (refused n (place s k))) q (bad_field p h (omega arith))
