-- Bytes put in one after the other.
use Prim.Native.Nat.{ℕ, ◌+◌, ◌-◌, ◌<◌, ◌≤◌}
use mathlib.Core.Path.{◌≡◌, sym, ap, ◌∙◌, subst}
use mathlib.Core.List.{List, [], ◌∷◌, ◌++◌, append_assoc}
use native.Mathlib.Nat.{add-zero, add_assoc}
use native.Mathlib.Numerals.{add-one}
use native.Mathlib.Omega.{arith}
use lib.ListN.{length, get_or, take, drop, length-append, take-append-drop}
use lib.Seq.{paste, take-length, take-suc, take_at, drop_at, length-take-le, drop-drop, length-paste, get_or-take, take-add}
use Rattle.program.specs.Encode.{each}
use Rattle.program.proofs.RoundTrip.{each_append, each_snoc}
use Rattle.sorting.specs.Stretches.{stretch, Inside}
use Rattle.sorting.specs.declared.stretches.Piece.TheVariants.{Field}
use Rattle.normal.proofs.Listings.{at_among}
use Rattle.rewriting.specs.Writing.{put_at, fields_at, Room, PutSoFar}

-- a whole copy
pub pasted_all : (b : List ℕ) (at : ℕ) (w : List ℕ) → paste b at w (length w) ≡ put_at b at w
pasted_all b at w = append_assoc (take at b) (take (length w) w) (drop (at + length w) b) ∙ ap (λ (v : List ℕ). take at b ++ (v ++ drop (at + length w) b)) (take-length w)

module _ (b : List ℕ) (at : ℕ) where
  pub put_none : b ≡ put_at b at []
  put_none = sym (ap (λ (k : ℕ). take at b ++ drop k b) (add-zero at) ∙ take-append-drop at b)

  pub put_length : (w : List ℕ) → at + length w ≤ length b → length (put_at b at w) ≡ length b
  put_length w h = sym (ap length (pasted_all b at w)) ∙ length-paste b at w (length w) h (omega arith)

  -- what comes after what was put in
  module _ (w v : List ℕ) (h : at + length w ≤ length b) where
    abbrev before : List ℕ
    before = take at b ++ w

    before_length : length before ≡ at + length w
    before_length = omega (arith, length-append (take at b) w, length-take-le at b (omega arith))

    split : put_at b at w ≡ before ++ drop (at + length w) b
    split = sym (append_assoc (take at b) w (drop (at + length w) b))

    pub put_more : put_at (put_at b at w) (at + length w) v ≡ put_at b at (w ++ v)
    put_more =
        let t : take (at + length w) (put_at b at w) ≡ before = ap (take (at + length w)) split ∙ take_at before _ (at + length w) before_length in
        let d : drop (at + length w + length v) (put_at b at w) ≡ drop (at + length (w ++ v)) b =
        ap (drop (at + length w + length v)) split
        ∙ sym (drop-drop (length v) (at + length w) (before ++ drop (at + length w) b))
        ∙ ap (drop (length v)) (drop_at before _ (at + length w) before_length)
        ∙ drop-drop (length v) (at + length w) b
        ∙ ap (λ (k : ℕ). drop k b) (add_assoc at (length w) (length v) ∙ ap (λ (k : ℕ). at + k) (sym (length-append w v)))
        in
        rw (t, d) (append_assoc (take at b) w (v ++ drop (at + length (w ++ v)) b) ∙ ap (λ (r : List ℕ). take at b ++ r) (sym (append_assoc w v (drop (at + length (w ++ v)) b))))

-- one field more
module _ (t places : List ℕ) (i : ℕ) where
  pub fields_more : i < length places → fields_at t places (i + 1) ≡ fields_at t places i ++ stretch Field t (get_or places i 0)
  fields_more h =
      let e : take (i + 1) places ≡ take i places ++ (get_or places i 0 ∷ []) = rw (add-one i) (take-suc places i 0 h) in
      ap (each (stretch Field t)) e
      ∙ each_snoc (stretch Field t) (take i places) (get_or places i 0)

-- ---- a loop that puts in fields

pub begun : (t places b : List ℕ) (at : ℕ) → PutSoFar t places b at 0 b at
begun t places b at = record { ends = sym (add-zero at); bytes = put_none b at }

module _ {t places b : List ℕ} {n at : ℕ} (room : Room t places n b at) (i : ℕ) (h : i < n) where
  pub field_inside : Inside Field t (get_or places i 0)
  field_inside =
      subst (Inside Field t) (get_or-take n places i 0 h)
      (room.inside.each _ (at_among 0 (take n places) i (omega (arith, length-take-le n places room.places_are))))

  -- the fields up to i and one more are some of those up to n
  enough : length (fields_at t places i) + length (stretch Field t (get_or places i 0)) ≤ length (fields_at t places n)
  enough =
      let k = n - (i + 1) in
      let e : n ≡ i + 1 + k = omega arith in
      let m : fields_at t places n ≡ fields_at t places (i + 1) ++ each (stretch Field t) (take k (drop (i + 1) places)) =
      ap (λ (j : ℕ). fields_at t places j) e
      ∙ ap (each (stretch Field t)) (take-add (i + 1) k places)
      ∙ each_append (stretch Field t) (take (i + 1) places) (take k (drop (i + 1) places))
      in
      omega (
        arith,
        ap length m,
        ap length (fields_more t places i (omega (arith, room.places_are))),
        length-append (fields_at t places i) (stretch Field t (get_or places i 0)),
        length-append (fields_at t places (i + 1)) (each (stretch Field t) (take k (drop (i + 1) places))),
      )

  module _ {b' : List ℕ} {end : ℕ} (x : PutSoFar t places b at i b' end) where
    within : at + length (fields_at t places i) ≤ length b
    within = omega (arith, enough, room.fits)

    pub so_far_room : (w : List ℕ) → w ≡ stretch Field t (get_or places i 0) → end + length w ≤ length b'
    so_far_room w e = omega (arith, ap length e, ap length x.bytes, put_length b at (fields_at t places i) within, x.ends, enough, room.fits)

    pub so_far_more : (w b'' : List ℕ) (end' : ℕ) → w ≡ stretch Field t (get_or places i 0) → end' ≡ end + length w → b'' ≡ put_at b' end w
        → PutSoFar t places b at (i + 1) b'' end'
    so_far_more w b'' end' e d q =
        let m = fields_more t places i (omega (arith, room.places_are)) in
        let l = length-append (fields_at t places i) (stretch Field t (get_or places i 0)) in
        record {
          ends = omega (arith, ap length e, ap length m, x.ends);
          bytes =
              q
              ∙ ap (λ (v : List ℕ). put_at v end w) x.bytes
              ∙ ap (λ (k : ℕ). put_at (put_at b at (fields_at t places i)) k w) x.ends
              ∙ put_more b at (fields_at t places i) w within
              ∙ ap (λ (v : List ℕ). put_at b at (fields_at t places i ++ v)) e
              ∙ ap (put_at b at) (sym m);
        }

    pub so_far_length : length b' ≡ length b
    so_far_length = ap length x.bytes ∙ put_length b at (fields_at t places i) within

pub all_put_length : {t places b b' : List ℕ} {n at end : ℕ} → Room t places n b at → PutSoFar t places b at n b' end → length b' ≡ length b
all_put_length {t} {places} {b} {n = n} {at} room x = ap length x.bytes ∙ put_length b at (fields_at t places n) room.fits
