-- One field: where the terms that are ordered begin, and what it is with its terms in order.
use Prim.Native.Nat.{ℕ, zero, suc, ◌+◌, ◌-◌, ◌*◌, ◌<◌, ◌≤◌}
use mathlib.Core.Path.{◌≡◌, sym, ap, ◌∙◌}
use mathlib.Core.List.{List, [], ◌∷◌, ◌++◌, append_assoc}
use native.Mathlib.Decide.{ℕ_discrete}
use native.Mathlib.Nat.{zero-add, add-zero}
use native.Mathlib.Omega.{arith}
use lib.ListN.{length, get_or, take, drop, length-drop, length-append}
use lib.Seq.{length-take-le, take-nil, take-take, take_at, drop_at, drop-drop, drop-append-le, get_or-take, get_or-drop}
use borrow.Author.Tests.{ne_eqb}
use borrow.Rule.Slice.PartMut.{put_mid, same_len_mid, take_put, drop_put, mid_len}
use Rattle.program.specs.Fields.{tag_at, length_at, value_at, next_at}
use Rattle.program.specs.Program.{divisor_terms, term_form}
use Rattle.program.proofs.Places.{value_length}
use Rattle.normal.specs.Ordered.{staying}
use Rattle.ordering.specs.Bodies.{Orderable, OrderedBytes}
use Rattle.ordering.specs.Fields.{ordered_from, start_of, FieldHere, FieldOrdered}

-- ---- where the terms that are ordered begin

module _ (tag form : ℕ) where
  pub from_constraint : tag ≡ 3 → 3 ≡ ordered_from tag form
  unfolding ordered_from
  from_constraint h = rw h

  pub from_rule : tag ≡ 2 → 4 + 4 * (divisor_terms form + staying (term_form form)) ≡ ordered_from tag form
  unfolding ordered_from
  from_rule h = rw h

  pub from_four : tag ≡ 2 → (form ≡ 7 → ⊥) → (form ≡ 8 → ⊥) → 4 ≡ ordered_from tag form
  unfolding ordered_from divisor_terms term_form staying
  from_four h f g = simp (h, ne_eqb form 7 f, ne_eqb form 8 g)

  pub from_eight : tag ≡ 2 → 7 ≤ form → form ≤ 8 → 8 ≡ ordered_from tag form
  unfolding ordered_from divisor_terms term_form staying
  from_eight h l m = go (ℕ_discrete form 7)
    where
      go : Dec (form ≡ 7) → 8 ≡ ordered_from tag form
      go (yes e) = rw (h, e)
      go (no f) = let e : form ≡ 8 = omega arith in rw (h, e)

-- ---- lists

-- the part of a list from k on, up to k + m
part_within : (k m : ℕ) (l : List ℕ) → drop k (take (k + m) l) ≡ take m (drop k l)
part_within zero m l = rw (zero-add m)
part_within (suc k) m [] = let e : suc k + m ≡ suc (k + m) = omega arith in rw e (sym (take-nil m))
part_within (suc k) m (x ∷ l) = let e : suc k + m ≡ suc (k + m) = omega arith in rw e (part_within k m l)

-- two texts that are the same up to a place
module _ (s t : List ℕ) (at : ℕ) (e : take at t ≡ take at s) where
  pub same_before : (j : ℕ) → j ≤ at → take j t ≡ take j s
  same_before j k = sym (take-take j at t k) ∙ ap (take j) e ∙ take-take j at s k

  pub same_part : (j m : ℕ) → j + m ≤ at → take m (drop j t) ≡ take m (drop j s)
  same_part j m k = sym (part_within j m t) ∙ ap (drop j) (same_before (j + m) k) ∙ part_within j m s

  pub same_byte_before : (j : ℕ) → j < at → get_or t j 0 ≡ get_or s j 0
  same_byte_before j k = sym (get_or-take at t j 0 k) ∙ ap (λ (b : List ℕ). get_or b j 0) e ∙ get_or-take at s j 0 k

-- two texts that are the same from a place on
module _ (s t : List ℕ) (at j : ℕ) (e : drop at t ≡ drop at s) (k : at ≤ j) where
  further : at + (j - at) ≡ j
  further = omega arith

  same_after : drop j t ≡ drop j s
  same_after = rw (← further, ← drop-drop (j - at) at t, ← drop-drop (j - at) at s, e)

  same_byte_after : get_or t j 0 ≡ get_or s j 0
  same_byte_after = rw (← further, ← get_or-drop at t (j - at) 0, ← get_or-drop at s (j - at) 0, e)

-- ---- one field

module _ {s : List ℕ} {at : ℕ} (h : FieldHere s at) where
  value_size : length (value_at s at) ≡ length_at s at
  value_size = value_length s at h.inside

  -- the terms begin after the form
  start_least : 3 ≤ start_of (tag_at s at) (value_at s at)
  start_least = go (ℕ_discrete (tag_at s at) 3)
    where
      go : Dec (tag_at s at ≡ 3) → 3 ≤ start_of (tag_at s at) (value_at s at)
      go (yes e) = omega (arith, from_constraint (tag_at s at) (get_or (value_at s at) 0 0) e)
      go (no f) =
          let e : tag_at s at ≡ 2 = omega (arith, h.tag_least, h.tag_most) in
          omega (arith, from_rule (tag_at s at) (get_or (value_at s at) 0 0) e)

  pub form_inside : at + 3 < length s
  form_inside = omega (arith, start_least, h.headed, value_size, h.inside)

  form_here : get_or (value_at s at) 0 0 ≡ get_or s (at + 3) 0
  form_here =
      get_or-take (length_at s at) (drop (at + 3) s) 0 0 (omega (arith, start_least, h.headed, value_size))
      ∙ get_or-drop (at + 3) s 0 0 ∙ ap (λ (i : ℕ). get_or s i 0) (add-zero (at + 3))

  module _ {from next : ℕ} (e : from ≡ ordered_from (get_or s at 0) (get_or s (at + 3) 0)) (d : next ≡ next_at s at) where
    start_is : from ≡ start_of (tag_at s at) (value_at s at)
    start_is = e ∙ ap (ordered_from (tag_at s at)) (sym form_here)

    pub start_before : at + 3 + from ≤ next
    start_before = omega (arith, start_is, h.headed, value_size)

    -- the terms that are ordered, as that part of the file
    body_here : take (next - (at + 3 + from)) (drop (at + 3 + from) s) ≡ drop (start_of (tag_at s at) (value_at s at)) (value_at s at)
    body_here =
        let m = next - (at + 3 + from) in
        let k : length_at s at ≡ from + m = omega (arith, start_before) in
        ap (take m) (sym (drop-drop from (at + 3) s))
        ∙ sym (part_within from m (drop (at + 3) s))
        ∙ ap (λ (n : ℕ). drop from (take n (drop (at + 3) s))) (sym k)
        ∙ ap (λ (n : ℕ). drop n (value_at s at)) start_is

    pub body_orderable : Orderable (take (next - (at + 3 + from)) (drop (at + 3 + from) s))
    body_orderable = rw body_here h.body

    module _ (t : List ℕ) (l : length t ≡ length s) (same : drop at t ≡ drop at s) where
      pub part_same : take (next - (at + 3 + from)) (drop (at + 3 + from) t) ≡ take (next - (at + 3 + from)) (drop (at + 3 + from) s)
      part_same = ap (take (next - (at + 3 + from))) (same_after s t at (at + 3 + from) same (omega arith))

      -- the text with other bytes there
      module _ (out : List ℕ) (o : OrderedBytes (take (next - (at + 3 + from)) (drop (at + 3 + from) s)) out) where
        abbrev start : ℕ
        start = at + 3 + from

        abbrev after : List ℕ
        after = put_mid start (next - start) t out

        start_inside : start ≤ length t
        start_inside = omega (arith, start_before, h.inside)

        out_length : length out ≡ next - start
        out_length = o.size ∙ mid_len start next s (omega (arith, h.inside))

        before_start : take start after ≡ take start t
        before_start = take_put start (next - start) t out start_inside

        byte_before : (i : ℕ) → at ≤ i → i < start → get_or after i 0 ≡ get_or s i 0
        byte_before i k m = same_byte_before t after start before_start i m ∙ same_byte_after s t at i same k

        same_length : length_at after at ≡ length_at s at
        same_length = rw (byte_before (at + 1) (omega arith) (omega arith), byte_before (at + 1 + 1) (omega arith) (omega arith))

        front : List ℕ
        front = take from (drop (at + 3) s)

        front_length : length front ≡ from
        unfolding front
        front_length = length-take-le from (drop (at + 3) s) (omega (arith, length-drop (at + 3) s, start_inside))

        value_from : drop (at + 3) after ≡ front ++ (out ++ drop (next - start) (drop start t))
        unfolding front
        value_from =
            drop-append-le (at + 3) (take start t) _ (omega (arith, length-take-le start t start_inside))
            ∙ ap (λ (b : List ℕ). b ++ (out ++ drop (next - start) (drop start t)))
            (part_within (at + 3) from t ∙ ap (take from) (same_after s t at (at + 3) same (omega arith)))

        value_after : value_at after at ≡ front ++ out
        value_after = rw (same_length, value_from, ← append_assoc front out _)
            (take_at (front ++ out) _ (length_at s at) (omega (arith, length-append front out, front_length, out_length, start_before)))

        pub field_ordered : FieldOrdered s t after at next
        unfolding front
        field_ordered = record {
          next = d;
          length_is = same_len_mid start (next - start) t out (o.size ∙ sym (ap length part_same));
          before = same_before t after start before_start at (omega arith);
          after = drop_put start next t out start_before (omega (arith, h.inside)) out_length ∙ same_after s t at next same (omega arith);
          ordered = record {
            tag = byte_before at (omega arith) (omega arith);
            size = same_length;
            start = rw (value_after, ← start_is) (take_at front out from front_length ∙ sym (take-take from (length_at s at) (drop (at + 3) s) (omega (arith, start_before))));
            terms = rw (value_after, ← body_here, ← start_is, drop_at front out from front_length) o;
          };
        }
