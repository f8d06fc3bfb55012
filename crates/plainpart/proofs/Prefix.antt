-- The fields of a part that ends where a field begins are those of the whole file.
use Prim.Native.Nat.{ℕ, zero, suc, ◌+◌, ◌-◌, ◌<◌, ◌≤◌}
use mathlib.Core.Path.{◌≡◌, refl, sym, ap, ap₂, ◌∙◌}
use mathlib.Core.List.{List, ◌++◌}
use mathlib.Core.Bool.{false}
use native.Mathlib.Omega.{arith}
use lib.ListN.{length, get_or, take, drop, length-drop, take-append-drop}
use lib.Seq.{length-take-le, get_or-take, take-append-le, drop-append-le}
use borrow.Author.Tests.{le-ltb}
use Rattle.format.specs.Numbers.{big}
use Rattle.program.specs.Fields.{tag_at, length_at, value_at, next_at, place, tag_before}
use Rattle.program.specs.Program.{program, with, item_of}
use Rattle.program.specs.Refusals.{cut_short, field_refusal}
use Rattle.program.proofs.Places.{place_start, place_suc, program_start, program_suc, before_start, before_suc}

-- places ascend
pub place_after : (s : List ℕ) (j d k : ℕ) → k ≡ j + d → place s j ≤ place s k
place_after s j zero k e = let q : k ≡ j = omega arith in rw q (omega arith)
place_after s j (suc d) k e =
    let q : k ≡ suc (j + d) = omega arith in
    let r = place_after s j d (j + d) refl in
    rw q (omega (arith, place_suc s (j + d)))

pub place_ascends : (s : List ℕ) (j k : ℕ) → j < k → next_at s (place s j) ≤ place s k
place_ascends s j k h = let r = place_after s (suc j) (k - suc j) k (omega arith) in omega (arith, place_suc s j)

uncut : (s : List ℕ) (at : ℕ) → next_at s at ≤ length s → cut_short s at ≡ false
unfolding cut_short
uncut s at h = simp (le-ltb (length s) (at + 3) (omega arith), le-ltb (length s) (next_at s at) (omega arith))

module _ (s : List ℕ) (p : ℕ) (inside : p ≤ length s) where
  abbrev part : List ℕ
  part = take p s

  part_length : length part ≡ p
  part_length = length-take-le p s inside

  byte_same : (i : ℕ) → i < p → get_or part i 0 ≡ get_or s i 0
  byte_same i h = get_or-take p s i 0 h

  module _ (at : ℕ) (h : next_at s at ≤ p) where
    tag_same : tag_at part at ≡ tag_at s at
    tag_same = byte_same at (omega arith)

    length_same : length_at part at ≡ length_at s at
    length_same = ap₂ big (byte_same (at + 1) (omega arith)) (byte_same (at + 1 + 1) (omega arith))

    next_same : next_at part at ≡ next_at s at
    next_same = ap (λ (n : ℕ). at + 3 + n) length_same

    value_same : value_at part at ≡ value_at s at
    value_same =
        let l = length_at s at in
        let rest = drop p s in
        let d : drop (at + 3) s ≡ drop (at + 3) part ++ rest =
        ap (drop (at + 3)) (sym (take-append-drop p s)) ∙ drop-append-le (at + 3) part rest (omega (arith, part_length)) in
        ap (λ (n : ℕ). take n (drop (at + 3) part)) length_same
        ∙ sym (ap (take l) d ∙ take-append-le l (drop (at + 3) part) rest (omega (arith, part_length, length-drop (at + 3) part)))

    uncut_part : cut_short part at ≡ false
    uncut_part = uncut part at (omega (arith, part_length, next_same))

  -- the first k fields end in the part
  module _ (k : ℕ) (ends : (j : ℕ) → j < k → next_at s (place s j) ≤ p) where
    pub places_same : (j : ℕ) → j ≤ k → place part j ≡ place s j
    places_same zero h = place_start part ∙ sym (place_start s)
    places_same (suc j) h =
        let e = places_same j (omega arith) in
        place_suc part j ∙ ap (next_at part) e ∙ next_same (place s j) (ends j (omega arith)) ∙ sym (place_suc s j)

    befores_same : (j : ℕ) → j ≤ k → tag_before part j ≡ tag_before s j
    befores_same zero h = before_start part ∙ sym (before_start s)
    befores_same (suc j) h =
        before_suc part j ∙ ap (tag_at part) (places_same j (omega arith)) ∙ tag_same (place s j) (ends j (omega arith)) ∙ sym (before_suc s j)

    pub programs_same : (j : ℕ) → j ≤ k → program part j ≡ program s j
    programs_same zero h = program_start part ∙ sym (program_start s)
    programs_same (suc j) h =
        let e = ends j (omega arith) in
        let q : tag_at part (place part j) ≡ tag_at s (place s j) = ap (tag_at part) (places_same j (omega arith)) ∙ tag_same (place s j) e in
        let v : value_at part (place part j) ≡ value_at s (place s j) = ap (value_at part) (places_same j (omega arith)) ∙ value_same (place s j) e in
        program_suc part j ∙ ap₂ with (programs_same j (omega arith)) (ap₂ item_of q v) ∙ sym (program_suc s j)

    pub refusals_same : (j : ℕ) → j < k → field_refusal part j ≡ field_refusal s j
    unfolding field_refusal
    refusals_same j h =
        let e = ends j h in
        let u : cut_short part (place part j) ≡ false = ap (cut_short part) (places_same j (omega arith)) ∙ uncut_part (place s j) e in
        let w : cut_short s (place s j) ≡ false = uncut s (place s j) (omega arith) in
        let t = befores_same j (omega arith) in
        let q : tag_at part (place part j) ≡ tag_at s (place s j) = ap (tag_at part) (places_same j (omega arith)) ∙ tag_same (place s j) e in
        let v : value_at part (place part j) ≡ value_at s (place s j) = ap (value_at part) (places_same j (omega arith)) ∙ value_same (place s j) e in
        rw (u, w, t, q, v, programs_same j (omega arith))
