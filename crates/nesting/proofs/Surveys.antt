-- The trees of a nested file one after the other.
use Rattle.std.specs.Prelude.{Result, Ok, Err}
use Prim.Native.Nat.{ℕ, suc, ◌+◌, ◌-◌, ◌*◌, ◌<◌, ◌≤◌}
use mathlib.Core.Path.{◌≡◌, refl, sym, ap, subst, subst₂, ◌∙◌}
use mathlib.Core.Logic.{◌⊎◌, inl, inr, ◌≢◌}
use mathlib.Core.Bool.{Bool, true, false, cond}
use mathlib.Core.List.{List}
use native.Mathlib.Nat.{add-sub_cancel_left}
use native.Mathlib.Omega.{arith}
use lib.Dec.{lit<}
use lib.IntN.{ℤ}
use lib.ListN.{length, take, drop}
use lib.Seq.{length-take-le, take_all, take_at}
use borrow.Author.Tests.{eq-eqb, ne_eqb, lt-ltb, le-leb, lt-leb}
use Rattle.program.specs.Fields.{tag_at, value_at, next_at, place, tag_before}
use Rattle.program.specs.Program.{Program, program, variable, variable_in, no_variable, variables_at}
use Rattle.program.specs.Refusals.{cut_short, unknown_tag, tag_below, item_refusal, value_refusal}
use Rattle.program.specs.Encode.{each, variable_bytes, encode, Bytes}
use Rattle.program.specs.declared.Counts.{Counts}
use Rattle.program.proofs.Encoding.{bytes_take}
use Rattle.program.proofs.Places.{place_suc, before_suc, passed_inside, variables_stand, variables_length, value_length, tag_known}
use Rattle.program.proofs.Promises.{VariablePromise, variable_promised}
use Rattle.program.proofs.RoundTrip.{passed_encoded}
use Rattle.rewriting.proofs.Forms.{variables_size}
use Rattle.meaning.specs.Calls.{denial_number, denial_place}
use Rattle.meaning.specs.declared.Denied.{Denied}
use Rattle.meaning.specs.declared.Denied.TheVariants.{File, Assignment, Buffer, Room, Tree, Added, Ranges}
use Rattle.fields.proofs.ScanLaws.{Stands, number_positive}
use Rattle.nested.specs.Nested.{tree_tag, Nested, treed, treed_of, nested}
use Rattle.nested.specs.TreeRefusals.{treed_refusal, nested_refusal}
use Rattle.nested.specs.NestedReading.{NestedPassed, NestedRefuses, bad_field}
use Rattle.nested.proofs.Alongs.{all_at}
use Rattle.nested.proofs.PassedFine.{nested_more, passed_fine}
use Rattle.nested.proofs.TreeFields.{same_program}
use Rattle.nested.proofs.OneMore.{nested_grown, flatten_plain}
use Rattle.plainpart.specs.PlainPart.{PlainCounted}
use Rattle.plainpart.proofs.PlainLaws.{cut_nested}
use Rattle.spans.specs.Spans.{Tabled}
use Rattle.nesting.specs.declared.Totals.{Totals}
use Rattle.nesting.specs.Surveying.{Declares, Known, SoFar, TakenIn, Takes, taken, turned_down, stray_number, Surveyed, per_byte}

pub denial_positive : (d : Denied) → 0 < denial_number d
denial_positive (File why at) = number_positive why
denial_positive Assignment = lit< tt
denial_positive Buffer = lit< tt
denial_positive Room = lit< tt
denial_positive (Tree at) = lit< tt
denial_positive (Added at) = lit< tt
denial_positive Ranges = lit< tt

denied : {N : Nested} {v : List ℕ} {at : ℕ} {t : Totals} {records : List ℕ} {lows highs : List ℤ} {d : Denied} → Takes N v at t records lows highs (Err d)
    → (denial_number d ≡ treed_refusal N (treed_of v)) × (denial_place d ≡ at)
denied (turned_down e q) = (e, q)

took : {N : Nested} {v : List ℕ} {at : ℕ} {t t' : Totals} {records : List ℕ} {lows highs : List ℤ} → Takes N v at t records lows highs (Ok t')
    → TakenIn N v t t' records lows highs
took (taken k) = k

-- so many fields have been read: they pass, and what is known is that of their nested program
pub record Reached (s : List ℕ) (n from at : ℕ) (t : Totals) (records : List ℕ) (lows highs : List ℤ) : Type 0 where
  pub fields : ℕ
  pub passed : NestedPassed s fields
  pub placed : at ≡ place s fields
  pub inside : at ≤ length s
  pub declared : (program s fields).variables ≡ variables_at (take from s) n
  pub known : Known (nested s fields) t records lows highs
  pub after : (at < length s → tag_at s at ≡ tree_tag) ⊎ (tag_before s fields ≡ tree_tag)
  pub bounded : t.bytes ≤ per_byte * at

-- ---- the plain part alone

module _ {s : List ℕ} {counts : Counts} {from : ℕ} (c : PlainCounted s counts from) where
  abbrev part : List ℕ
  part = take from s

  abbrev P : Program
  P = program s c.fields

  variables : P.variables ≡ variables_at part counts.variables
  variables = ap (λ Q. Q.variables) (sym c.means) ∙ c.counted.describes.variables_are

  variables_many : length P.variables ≡ counts.variables
  variables_many = ap length variables ∙ variables_length part counts.variables

  rules_many : length P.rules ≡ counts.rules
  rules_many = ap (λ Q. length Q.rules) (sym c.means) ∙ c.counted.describes.rules_are

  pub plain_inside : 8 * counts.variables ≤ length part
  plain_inside =
      omega (arith, (variables_stand c.counted.fields c.counted.whole.passed).inside, ap length c.counted.describes.variables_are, variables_length part counts.variables)

  pub part_encoded : Bytes s → part ≡ encode P
  part_encoded b =
      let k = c.counted.fields in
      let w = c.counted.whole in
      let i = passed_inside k w.passed in
      sym (take_all (place part k) part w.ended) ∙ passed_encoded (bytes_take from s b) k w.passed ∙ ap encode c.means

  pub reach_start : Bytes s → {records : List ℕ} {lows highs : List ℤ} → Tabled (variables_at part counts.variables) records lows highs
      → Reached s counts.variables from from (record { variables = counts.variables; rules = counts.rules; bytes = from }) records lows highs
  reach_start b {records} {lows} {highs} tabled =
      let flat_is = flatten_plain (nested s c.fields) c.no_trees in
      record {
        fields = c.fields;
        passed = c.passed;
        placed = sym c.placed;
        inside = c.inside;
        declared = variables;
        known = record {
          variables_are = sym (ap (λ Q. length Q.variables) flat_is ∙ variables_many);
          rules_are = sym (ap (λ Q. length Q.rules) flat_is ∙ rules_many);
          bytes_are = sym (length-take-le from s c.inside) ∙ ap length (part_encoded b) ∙ ap (λ Q. length (encode Q)) (sym flat_is);
          tabled = subst (λ ws. Tabled ws records lows highs) (sym (ap (λ Q. Q.variables) flat_is ∙ variables)) tabled;
        };
        after = inl c.tree;
        bounded = omega arith;
      }

-- ---- the next field

-- the stretch from `start` on, `len` long, is the field's value
pub stretch_value : {s : List ℕ} {at tag start len next : ℕ} → Stands s at tag start len next → take (start + len - start) (drop start s) ≡ value_at s at
stretch_value {start = start} {len = len} w = rw (add-sub_cancel_left start len, w.len_is, w.start_is)

tree_refusal : (s : List ℕ) (k : ℕ) → cut_short s (place s k) ≡ false → tag_at s (place s k) ≡ tree_tag
    → nested_refusal s k ≡ treed_refusal (nested s k) (treed_of (value_at s (place s k)))
unfolding nested_refusal
tree_refusal s k c e = rw (c, eq-eqb (tag_at s (place s k)) tree_tag e)

other_field : (s : List ℕ) (k : ℕ) → cut_short s (place s k) ≡ false → tag_at s (place s k) ≢ tree_tag
    → nested_refusal s k ≡ value_refusal (program s k) (tag_before s k) (tag_at s (place s k)) (value_at s (place s k))
unfolding nested_refusal
other_field s k c e = rw (c, ne_eqb (tag_at s (place s k)) tree_tag e)

stray_value : (Q : Program) (tag : ℕ) (v : List ℕ) → value_refusal Q tree_tag tag v ≡ stray_number tag
unfolding value_refusal stray_number tag_below
stray_value Q tag v = go (unknown_tag tag) refl
  where
    go : (z : Bool) → unknown_tag tag ≡ z → value_refusal Q tree_tag tag v ≡ stray_number tag
    go true e = simp e
    go false e = let b = tag_known tag e in simp (e, lt-ltb tag tree_tag (omega arith))

pub stray_known : {tag : ℕ} → 1 ≤ tag → tag ≤ 3 → stray_number tag ≡ 4
unfolding stray_number unknown_tag
stray_known {tag} a b = simp (le-leb 1 tag a, le-leb tag 3 b)

pub stray_zero : {tag : ℕ} → tag ≡ 0 → stray_number tag ≡ 3
unfolding stray_number unknown_tag
stray_zero {tag} e = simp (lt-leb 1 tag (omega arith))

pub stray_above : {tag : ℕ} → 3 < tag → stray_number tag ≡ 3
unfolding stray_number unknown_tag
stray_above {tag} h = simp (lt-leb tag 3 h, le-leb 1 tag (omega arith))

stray_positive : (tag : ℕ) → 0 < stray_number tag
unfolding stray_number
stray_positive tag = go (unknown_tag tag)
  where
    go : (z : Bool) → 0 < cond z 3 4
    go true = lit< tt
    go false = lit< tt

pub stretch-length : {s : List ℕ} {at tag start len next : ℕ} → Stands s at tag start len next → length (take (start + len - start) (drop start s)) ≡ len
stretch-length {s} {at} w = ap length (stretch_value w) ∙ value_length s at (omega (arith, w.fits, w.len_is)) ∙ sym w.len_is

module _ {s : List ℕ} {n from at : ℕ} {t : Totals} {records : List ℕ} {lows highs : List ℤ} (r : Reached s n from at t records lows highs) where
  abbrev pub so_far : SoFar (take from s) n t records lows highs
  so_far = record { program = nested s r.fields; fine = passed_fine r.passed; declared = r.declared; known = r.known }

  pub survey_ended : length s ≤ at → Surveyed s t records lows highs
  survey_ended h = record { fields = r.fields; whole = record { passed = r.passed; ended = omega (arith, r.placed) }; known = r.known }

  refuse : (m : ℕ) → at < length s → nested_refusal s r.fields ≡ m → 0 < m → NestedRefuses s m at
  refuse m h e z = subst₂ (NestedRefuses s) e (sym r.placed) (bad_field {k = r.fields} r.passed (omega (arith, r.placed)) (omega arith))

  pub survey_cut : at < length s → cut_short s at ≡ true → NestedRefuses s 2 at
  survey_cut h e = refuse 2 h (cut_nested s r.fields (ap (cut_short s) (sym r.placed) ∙ e)) (lit< tt)

  module _ {tag start len next : ℕ} (w : Stands s at tag start len next) where
    tag_here : tag_at s (place s r.fields) ≡ tag
    tag_here = ap (tag_at s) (sym r.placed) ∙ sym w.tag_is

    uncut_here : cut_short s (place s r.fields) ≡ false
    uncut_here = ap (cut_short s) (sym r.placed) ∙ w.uncut

    -- another tag
    module _ (other : tag ≢ tree_tag) where
      after_tree : tag_before s r.fields ≡ tree_tag
      after_tree = go r.after
        where
          go : (at < length s → tag_at s at ≡ tree_tag) ⊎ (tag_before s r.fields ≡ tree_tag) → tag_before s r.fields ≡ tree_tag
          go (inl h) = absurd (other (w.tag_is ∙ h w.more))
          go (inr h) = h

      pub survey_stray : NestedRefuses s (stray_number tag) at
      survey_stray =
          refuse (stray_number tag) w.more
          (other_field s r.fields uncut_here (λ e. other (sym tag_here ∙ e))
          ∙ ap (λ (u : ℕ). value_refusal (program s r.fields) u (tag_at s (place s r.fields)) (value_at s (place s r.fields))) after_tree
          ∙ stray_value (program s r.fields) (tag_at s (place s r.fields)) (value_at s (place s r.fields))
          ∙ ap stray_number tag_here)
          (stray_positive tag)

    -- a tree
    module _ (is : tag ≡ tree_tag) where
      tree_here : nested_refusal s r.fields ≡ treed_refusal (nested s r.fields) (treed_of (value_at s at))
      tree_here =
          tree_refusal s r.fields uncut_here (tag_here ∙ is)
          ∙ ap (λ (p : ℕ). treed_refusal (nested s r.fields) (treed_of (value_at s p))) (sym r.placed)

      taken_more : {v : List ℕ} → v ≡ value_at s at → {t' : Totals} {records' : List ℕ} {lows' highs' : List ℤ} → TakenIn (nested s r.fields) v t t' records' lows' highs'
          → Reached s n from next t' records' lows' highs'
      taken_more {v} e {t'} {records'} {lows'} {highs'} k =
          let i = r.fields in
          let m : treed_of (value_at s at) ≡ treed k.rooted = ap treed_of (sym e) ∙ k.means in
          let m' : treed_of (value_at s (place s i)) ≡ treed k.rooted = ap (λ (p : ℕ). treed_of (value_at s p)) (sym r.placed) ∙ m in
          let z : nested_refusal s i ≡ 0 = tree_here ∙ ap (treed_refusal (nested s i)) m ∙ k.fine in
          let l : length v ≡ len = ap length e ∙ value_length s at (omega (arith, w.fits, w.len_is)) ∙ sym w.len_is in
          record {
            fields = suc i;
            passed = nested_more r.passed (omega (arith, r.placed, w.more)) z;
            placed = w.next_is ∙ ap (λ (m : ℕ). at + 3 + m) w.len_is ∙ ap (next_at s) r.placed ∙ sym (place_suc s i);
            inside = omega (arith, w.next_is, w.fits);
            declared = ap (λ Q. Q.variables) (same_program s i (tag_here ∙ is)) ∙ r.declared;
            known = subst (λ N. Known N t' records' lows' highs') (sym (nested_grown s i k.rooted (tag_here ∙ is) m')) k.known;
            after = inr (before_suc s i ∙ tag_here ∙ is);
            bounded = omega (arith, k.bounded, r.bounded, w.next_is, l);
          }

      module _ {v : List ℕ} (e : v ≡ value_at s at) {records' : List ℕ} {lows' highs' : List ℤ} {f : Result Totals Denied} (k : Takes (nested s r.fields) v at t records' lows' highs' f) where
        pub survey_refused : {d : Denied} → f ≡ Err d → NestedRefuses s (denial_number d) (denial_place d)
        survey_refused {d} q =
            let o = denied (subst (Takes (nested s r.fields) v at t records' lows' highs') q k) in
            subst (NestedRefuses s (denial_number d)) (sym o.1)
            (refuse (denial_number d) w.more (tree_here ∙ ap (λ u. treed_refusal (nested s r.fields) (treed_of u)) (sym e) ∙ sym o.0) (denial_positive d))

        pub survey_more : {t' : Totals} → f ≡ Ok t' → Reached s n from next t' records' lows' highs'
        survey_more {t'} q = taken_more e (took (subst (Takes (nested s r.fields) v at t records' lows' highs') q k))

-- ---- the plain part's variables

pub plain_declares : {s : List ℕ} {counts : Counts} {from : ℕ} → PlainCounted s counts from → Bytes s → Declares (take from s) counts.variables
unfolding encode
plain_declares {s} {counts} {from} c b =
    let P = program s c.fields in
    let vs = variables_at (take from s) counts.variables in
    let e = variables c in
    let many = variables_many c in
    let f = passed_fine c.passed in
    let promised : (x : ℕ) → x < counts.variables → VariablePromise (variable_in vs x) =
    λ x h. subst (λ ws. VariablePromise (variable_in ws x)) e
    (variable_promised P.variables _ (all_at (λ y. item_refusal P.variables (variable y) ≡ 0) no_variable P.variables f.fine_variables x (omega arith)))
    in
    record {
      inside = plain_inside c;
      few = omega (arith, f.few_variables, many);
      bytes =
          ap (take (8 * counts.variables)) (part_encoded c b)
          ∙ take_at (each variable_bytes P.variables) _ (8 * counts.variables) (variables_size P.variables ∙ ap (λ (n : ℕ). 8 * n) many)
          ∙ ap (each variable_bytes) e;
      low_small = λ x h. (promised x h).low_small;
      high_small = λ x h. (promised x h).high_small;
    }
