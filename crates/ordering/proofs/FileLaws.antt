-- A file of which the first fields of rules and constraints are in order, one more at a time.
use Prim.Native.Nat.{ℕ, zero, suc, ◌+◌, ◌*◌, ◌<◌, ◌≤◌}
use mathlib.Core.Path.{◌≡◌, sym, ap, ◌∙◌}
use mathlib.Core.List.{List}
use native.Mathlib.Omega.{arith}
use lib.ListN.{length, get_or, set, take, drop}
use lib.Seq.{get_or-set_same, get_or-set_other}
use Rattle.program.specs.Fields.{length_at, value_at, next_at, place}
use Rattle.program.specs.Program.{Program}
use Rattle.program.specs.Reading.{Accepts}
use Rattle.program.proofs.Conditions.{last_or}
use Rattle.program.proofs.Places.{place_suc}
use Rattle.reader.proofs.Published.{first_rule, next_rule}
use Rattle.ordering.specs.Fields.{FieldHere, OrderedField, FieldOrdered, OrderedFile}
use Rattle.ordering.proofs.FieldLaws.{same_before, same_part, same_byte_before}
use Rattle.ordering.proofs.ValueLaws.{field_here}

-- the first i of these fields are in order; `at` is the place of the next one, and from there on the text is as the file
pub record OrderedTo (s : List ℕ) (P : Program) (t places : List ℕ) (i at : ℕ) : Type 0 where
  pub at_is : at ≡ place s (length P.variables + i)
  pub length_is : length t ≡ length s
  pub variables : take (8 * length P.variables) t ≡ take (8 * length P.variables) s
  pub rest : drop at t ≡ drop at s
  pub placed : (j : ℕ) → j < i → get_or places j 0 ≡ place s (length P.variables + j)
  pub ordered : (j : ℕ) → j < i → OrderedField s t (place s (length P.variables + j))

-- a field that ends before the place up to which two texts are the same
module _ (s t t' : List ℕ) (at p : ℕ) (e : take at t' ≡ take at t) (h : next_at s p ≤ at) where
  byte_kept : (i : ℕ) → i < at → get_or t' i 0 ≡ get_or t i 0
  byte_kept = same_byte_before t t' at e

  length_kept : length_at t' p ≡ length_at t p
  length_kept = rw (byte_kept (p + 1) (omega arith), byte_kept (p + 1 + 1) (omega arith))

  value_kept : OrderedField s t p → value_at t' p ≡ value_at t p
  value_kept o = rw length_kept (same_part t t' at e (p + 3) (length_at t p) (omega (arith, o.size)))

  field_kept : OrderedField s t p → OrderedField s t' p
  field_kept o = record {
    tag = byte_kept p (omega arith) ∙ o.tag;
    size = length_kept ∙ o.size;
    start = rw (value_kept o) o.start;
    terms = rw (value_kept o) o.terms;
  }

-- fields stand one after the other
place_ascends : (s : List ℕ) (j k : ℕ) → j ≤ k → place s j ≤ place s k
place_ascends s j zero h = let e : j ≡ 0 = omega arith in rw e (omega arith)
place_ascends s j (suc k) h = last_or (λ i. place s i ≤ place s (suc k)) (suc k) j (omega arith)
    (λ l. let r = place_ascends s j k (omega arith) in omega (arith, place_suc s k)) (omega arith)

module _ {s : List ℕ} {P : Program} (a : Accepts s P) where
  pub none_ordered : (t places : List ℕ) {at : ℕ} → t ≡ s → at ≡ 8 * length P.variables → OrderedTo s P t places 0 at
  none_ordered t places {at} e d = record {
    at_is = d ∙ first_rule a;
    length_is = ap length e;
    variables = ap (take (8 * length P.variables)) e;
    rest = ap (drop at) e;
    placed = λ j l. absurd (omega arith);
    ordered = λ j l. absurd (omega arith);
  }

  module _ {t places : List ℕ} {i at : ℕ} (o : OrderedTo s P t places i at) where
    module _ (h : i < length P.rules + length P.constraints) where
      pub next_here : FieldHere s at
      next_here = rw o.at_is (field_here a i h)

      pub place_small : at < 65536
      place_small = omega (arith, next_here.inside, a.whole.passed.short)

      pub one_ordered : (t' : List ℕ) {r x : ℕ} → i < length places → x ≡ at → FieldOrdered s t t' at r → OrderedTo s P t' (set places i x) (i + 1) r
      one_ordered t' {x = x} l e f =
          let n = length P.variables in
          record {
            at_is = f.next ∙ ap (next_at s) o.at_is ∙ sym (next_rule s P i);
            length_is = f.length_is ∙ o.length_is;
            variables = same_before t t' at f.before (8 * n) (omega (arith, first_rule a, place_ascends s (n + 0) (n + i) (omega arith), o.at_is)) ∙ o.variables;
            rest = f.after;
            placed = λ j m. last_or (λ y. get_or (set places i x) y 0 ≡ place s (n + y)) i j (omega arith)
                (λ k. get_or-set_other places i j x 0 (λ y. omega arith) ∙ o.placed j k) (get_or-set_same places i x 0 l ∙ e ∙ o.at_is);
            ordered = λ j m. last_or (λ y. OrderedField s t' (place s (n + y))) i j (omega arith)
                (λ k. field_kept s t t' at (place s (n + j)) f.before
                (omega (arith, next_rule s P j, place_ascends s (n + (j + 1)) (n + i) (omega arith), o.at_is)) (o.ordered j k)) (rw o.at_is at f.ordered);
          }

    pub all_ordered : {r : ℕ} → r ≡ i → i ≡ length P.rules + length P.constraints → OrderedFile s P t places r
    all_ordered e d = rw e (record { counted = d; length_is = o.length_is; variables = o.variables; placed = o.placed; ordered = o.ordered })
