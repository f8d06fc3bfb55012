-- What the plain part of a nested file says of the whole file.
use Prim.Native.Nat.{ℕ, zero, suc, ◌+◌, ◌-◌, ◌<◌, ◌≤◌}
use mathlib.Core.Path.{◌≡◌, refl, sym, ap, ◌∙◌, subst, subst₂}
use mathlib.Core.Logic.{◌⊎◌, inl, inr, ◌≢◌}
use mathlib.Core.List.{List, []}
use mathlib.Core.Bool.{true, false}
use native.Mathlib.Omega.{arith}
use native.Mathlib.Decide.{dec_lt}
use lib.ListN.{length, take}
use lib.Seq.{length-take-le, take-length}
use Rattle.format.specs.Limits.{max_file}
use Rattle.program.specs.Fields.{tag_at, next_at, place}
use Rattle.program.specs.Program.{program}
use Rattle.program.specs.Refusals.{cut_short, field_refusal}
use Rattle.program.specs.Reading.{Passed, Reads, too_long, bad_field, not_valid, refused}
use Rattle.program.specs.declared.Counts.{Counts}
use Rattle.program.proofs.Conditions.{last_or}
use Rattle.program.proofs.Places.{not_cut, place_start, place_suc}
use Rattle.fields.specs.Scanning.{Counted, Stopped}
use Rattle.fields.specs.Standing.{field_at}
use Rattle.fields.specs.declared.cursor.Cursor.{Cursor}
use Rattle.fields.specs.declared.cursor.Field.{Field}
use Rattle.fields.specs.declared.cursor.Field.TheVariants.{Whole, Short, End}
use Rattle.fields.proofs.ScanLaws.{Stands, field_cut, field_ended}
use Rattle.nested.specs.Nested.{tree_tag, trees}
use Rattle.nested.specs.TreeRefusals.{nested_refusal}
use Rattle.nested.specs.NestedReading.{NestedPassed, NestedRefuses}
use Rattle.nested.specs.NestedReading as reading
use Rattle.nested.proofs.TreeFields.{other_refusal, trees_start, same_trees}
use Rattle.plainpart.specs.PlainPart.{NoTrees, EndsAt, at_tree, at_cut, at_end, FirstTree, PlainCounted}
use Rattle.plainpart.proofs.Prefix.{place_after, place_ascends, places_same, programs_same, refusals_same}

-- ---- a field that is cut short

cut_plain : (s : List ℕ) (k : ℕ) → cut_short s (place s k) ≡ true → field_refusal s k ≡ 2
unfolding field_refusal
cut_plain s k c = simp c

pub cut_nested : (s : List ℕ) (k : ℕ) → cut_short s (place s k) ≡ true → nested_refusal s k ≡ 2
unfolding nested_refusal
cut_nested s k c = simp c

-- ---- fields before the first tree

no_trees_inside : {s : List ℕ} {k : ℕ} → NoTrees s k → (j : ℕ) → j ≤ k → place s j ≤ length s
no_trees_inside {s} n zero h = omega (arith, place_start s)
no_trees_inside {s} n (suc j) h = let w = not_cut s (place s j) (n.whole j (omega arith)) in omega (arith, place_suc s j)

-- below k, where a place from k on is too far
below : (s : List ℕ) (j k n : ℕ) → place s j < n → n ≤ place s k → j < k
below s j k n h e = go (dec_lt j k)
  where
    go : Dec (j < k) → j < k
    go (yes l) = l
    go (no l) = let r = place_after s k (j - k) j (omega arith) in absurd (omega arith)

module _ {s : List ℕ} {k : ℕ} (n : NoTrees s k) (short : length s ≤ max_file) where
  -- the part ends where field k begins
  abbrev part : List ℕ
  part = take (place s k) s

  inside : place s k ≤ length s
  inside = no_trees_inside n k (omega arith)

  long : length part ≡ place s k
  long = length-take-le (place s k) s inside

  placed : (j : ℕ) → j ≤ k → place part j ≡ place s j
  placed = places_same s (place s k) inside k (λ j h. place_ascends s j k h)

  refusal : (j : ℕ) → j < k → nested_refusal s j ≡ field_refusal part j
  refusal j h = other_refusal s j (n.other j h) ∙ sym (refusals_same s (place s k) inside k (λ i l. place_ascends s i k l) j h)

  -- fields that pass in the part pass in the file
  passes : (j : ℕ) → j ≤ k → Passed part j → NestedPassed s j
  passes j h q = record { short = short; stands = λ i l. n.stands i (omega arith); fine = λ i l. refusal i (omega arith) ∙ q.fine i l }

  part_stopped : {m at : ℕ} → Stopped part m at → NestedRefuses s m at
  part_stopped x = go x.reads x.early
    where
      go : {m at : ℕ} → Reads part (refused m at) → m ≤ 12 → NestedRefuses s m at
      go (too_long h) e = absurd (omega (arith, long, inside))
      go (bad_field {k = j} q h z) e =
          let l = below part j k (length part) h (omega (arith, long, placed k (omega arith))) in
          let r = refusal j l in
          subst₂ (NestedRefuses s) r (sym (placed j (omega arith)))
          (reading.bad_field {k = j} (passes j (omega arith) q) (n.stands j l) (subst (λ (m : ℕ). 0 < m) (sym r) z))
      go (not_valid w l f o) e = absurd (omega arith)

  part_counted : {counts : Counts} → (c : Counted part counts) → (place s k < length s → tag_at s (place s k) ≡ tree_tag) → PlainCounted s counts (place s k)
  part_counted c t =
      let w = c.whole in
      let i = c.fields in
      let up : i ≤ k = at_most i w.passed.stands in
      let e : i ≡ k = full i up w.ended in
      let passed = passes k (omega arith) (subst (Passed part) e w.passed) in
      record {
        fields = k;
        passed = passed;
        placed = refl;
        inside = inside;
        counted = c;
        means = ap (program part) e ∙ programs_same s (place s k) inside k (λ j h. place_ascends s j k h) k (omega arith);
        no_trees = none;
        tree = t;
      }
    where
      at_most : (i : ℕ) → ((j : ℕ) → j < i → place part j < length part) → i ≤ k
      at_most i stands = go (dec_lt k i)
        where
          go : Dec (k < i) → i ≤ k
          go (yes l) = let h = stands k l in absurd (omega (arith, long, placed k (omega arith)))
          go (no l) = omega arith

      full : (i : ℕ) → i ≤ k → length part ≤ place part i → i ≡ k
      full i h e = go (dec_lt i k)
        where
          go : Dec (i < k) → i ≡ k
          go (yes l) = let r = place_ascends s i k l in absurd (omega (arith, long, placed i h))
          go (no l) = omega arith

      none : trees s k ≡ []
      none = go k (omega arith)
        where
          go : (j : ℕ) → j ≤ k → trees s j ≡ []
          go zero h = trees_start s 0
          go (suc j) h = same_trees s j (n.other j (omega arith)) ∙ go j (omega arith)

-- ---- a field that is cut short ends the plain part

module _ {s : List ℕ} {k : ℕ} (n : NoTrees s k) (short : length s ≤ max_file) (cut : cut_short s (place s k) ≡ true) where
  -- no more fields pass
  few : (j : ℕ) → Passed s j → j ≤ k
  few j q = go (dec_lt k j)
    where
      go : Dec (k < j) → j ≤ k
      go (yes l) = absurd (omega (arith, q.fine k l, cut_plain s k cut))
      go (no l) = omega arith

  before_cut : (j : ℕ) → j ≤ k → nested_refusal s j ≡ field_refusal s j
  before_cut j h = go (dec_lt j k)
    where
      go : Dec (j < k) → nested_refusal s j ≡ field_refusal s j
      go (yes l) = other_refusal s j (n.other j l)
      go (no l) =
          let e : j ≡ k = omega arith in
          ap (nested_refusal s) e ∙ cut_nested s k cut ∙ sym (cut_plain s k cut) ∙ ap (field_refusal s) (sym e)

  cut_stopped : {m at : ℕ} → Stopped s m at → NestedRefuses s m at
  cut_stopped x = go x.reads x.early
    where
      go : {m at : ℕ} → Reads s (refused m at) → m ≤ 12 → NestedRefuses s m at
      go (too_long h) e = absurd (omega arith)
      go (bad_field {k = j} q h z) e =
          let l = few j q in
          let r = before_cut j l in
          let passed : NestedPassed s j = record { short = short; stands = q.stands; fine = λ i b. before_cut i (omega arith) ∙ q.fine i b } in
          subst (λ (m : ℕ). NestedRefuses s m (place s j)) r (reading.bad_field {k = j} passed h (subst (λ (m : ℕ). 0 < m) (sym r) z))
      go (not_valid w l f o) e = absurd (omega arith)

  cut_uncounted : {counts : Counts} → place s k < length s → Counted s counts → ⊥
  cut_uncounted h c =
      let w = c.whole in
      let l = few c.fields w.passed in
      let r = place_after s c.fields (k - c.fields) k (omega arith) in
      omega (arith, w.ended)

-- ---- what the code finds

pub first_inside : {s : List ℕ} {p : ℕ} → FirstTree s p → p ≤ length s
first_inside {s} f = go f.ends
  where
    go : {p : ℕ} → EndsAt s f.fields p → p ≤ length s
    go (at_tree h u t) = omega arith
    go (at_cut h u) = omega arith
    go (at_end h) = omega arith

module _ {s : List ℕ} (short : length s ≤ max_file) where
  pub first_stopped : {p m at : ℕ} → FirstTree s p → Stopped (take p s) m at → NestedRefuses s m at
  first_stopped {m = m} {at} f = go f.ends
    where
      go : {p : ℕ} → EndsAt s f.fields p → Stopped (take p s) m at → NestedRefuses s m at
      go (at_tree h u t) x = part_stopped f.before short x
      go (at_cut h u) x = cut_stopped f.before short u (subst (λ (w : List ℕ). Stopped w m at) (take-length s) x)
      go (at_end h) x =
          let e : length s ≡ place s f.fields = let i = no_trees_inside f.before f.fields (omega arith) in omega arith in
          part_stopped f.before short (subst (λ (p : ℕ). Stopped (take p s) m at) e x)

  pub first_counted : {p : ℕ} {counts : Counts} → FirstTree s p → Counted (take p s) counts → PlainCounted s counts p
  first_counted {counts = counts} f = go f.ends
    where
      go : {p : ℕ} → EndsAt s f.fields p → Counted (take p s) counts → PlainCounted s counts p
      go (at_tree h u t) c = part_counted f.before short c (λ l. t)
      go (at_cut h u) c = absurd (cut_uncounted f.before short u h (subst (λ (w : List ℕ). Counted w counts) (take-length s) c))
      go (at_end h) c =
          let e : place s f.fields ≡ length s = let i = no_trees_inside f.before f.fields (omega arith) in omega arith in
          subst (PlainCounted s counts) e (part_counted f.before short (subst (λ (p : ℕ). Counted (take p s) counts) (sym e) c) (λ l. absurd (omega arith)))

-- ---- the search of the first tree

pub record Seeking (s : List ℕ) (at : ℕ) : Type 0 where
  pub fields : ℕ
  pub before : NoTrees s fields
  pub placed : at ≡ place s fields

pub seek_start : (s : List ℕ) → Seeking s 0
seek_start s = record {
  fields = 0;
  before = record { stands = λ j h. absurd (omega arith); whole = λ j h. absurd (omega arith); other = λ j h. absurd (omega arith) };
  placed = sym (place_start s);
}

-- what the `else` knows: no whole field stands there
pub no_field : (s : List ℕ) (at : ℕ) (f : Field) → f ≡ field_at s at → ((tag start len : ℕ) (next : Cursor) → f ≡ Whole tag start len next → ⊥)
    → (length s ≤ at) ⊎ ((at < length s) × (cut_short s at ≡ true))
no_field s at (Whole tag start len next) e h = absurd (h tag start len next refl)
no_field s at Short e h = inr (field_cut s at e)
no_field s at End e h = inl (field_ended s at e)

module _ {s : List ℕ} {at : ℕ} (x : Seeking s at) where
  pub seek_stopped : (length s ≤ at) ⊎ ((at < length s) × (cut_short s at ≡ true)) → FirstTree s (length s)
  seek_stopped (inl h) = record { fields = x.fields; before = x.before; ends = at_end (omega (arith, x.placed)) }
  seek_stopped (inr h) =
      record { fields = x.fields; before = x.before; ends = at_cut (omega (arith, x.placed, h.0)) (ap (cut_short s) (sym x.placed) ∙ h.1) }

  module _ {tag start len next : ℕ} (w : Stands s at tag start len next) where
    pub seek_found : tag ≡ tree_tag → FirstTree s at
    seek_found e =
        subst (FirstTree s) (sym x.placed)
        (record {
          fields = x.fields;
          before = x.before;
          ends = at_tree (omega (arith, x.placed, w.more)) (ap (cut_short s) (sym x.placed) ∙ w.uncut) (ap (tag_at s) (sym x.placed) ∙ sym w.tag_is ∙ e);
        })

    pub seek_more : tag ≢ tree_tag → Seeking s next
    seek_more f =
        let k = x.fields in
        let b = x.before in
        record {
          fields = suc k;
          before = record {
            stands = λ j h. last_or (λ i. place s i < length s) k j (omega arith) (b.stands j) (omega (arith, x.placed, w.more));
            whole = λ j h. last_or (λ i. cut_short s (place s i) ≡ false) k j (omega arith) (b.whole j) (ap (cut_short s) (sym x.placed) ∙ w.uncut);
            other = λ j h. last_or (λ i. tag_at s (place s i) ≢ tree_tag) k j (omega arith) (b.other j) (λ e. f (w.tag_is ∙ ap (tag_at s) x.placed ∙ e));
          };
          placed = w.next_is ∙ ap (λ (n : ℕ). at + 3 + n) w.len_is ∙ ap (next_at s) x.placed ∙ sym (place_suc s k);
        }
