-- Wrong checks, each refuted by what it would answer on a starred plan, whatever report it is lent.
use Prim.Native.Nat.{ℕ, ◌≤◌}
use mathlib.Core.Path.{◌≡◌, ap}
use mathlib.Core.List.{List, [], ◌∷◌, ◌++◌}
use native.Mathlib.Omega.{arith}
use lib.Dec.{lit≤}
use lib.ListN.{length, get_or, replicate}
use Rattle.plans.specs.Starred.{small, printed, example2, example4, contrary}
use Rattle.verdict.specs.Checks.{Answer, unfounded, stable, Checks}
use Rattle.verdict.proofs.Demanded.{word, first, second}
use Rattle.verdict.proofs.Determined.{checks_unique}
use Rattle.plans.proofs.StarredChecks.{starred_checks}

-- three values, two bytes each
abbrev three : ℕ → ℕ → ℕ → List ℕ
three x y z = small x (small y (small z []))

module _ {b b' : List ℕ} where
  module _ (h : 36 ≤ length b) where
    -- "a check that says `stable` to everything"
    pub not_always_stable : Checks printed (three 0 1 1) b stable b' → ⊥
    not_always_stable q = let e = ap word (checks_unique q (starred_checks.printed_shown b h)).0 in omega arith

    -- "one that always says `unfounded`"
    pub not_always_unfounded : {n k : ℕ} → Checks printed (three 1 1 1) b (unfounded n k) b' → ⊥
    not_always_unfounded q = let e = ap word (checks_unique q (starred_checks.printed_stable b h)).0 in omega arith

    -- "one that does so without comparing": a sound circle is not struck
    pub not_without_comparing : {n k : ℕ} → Checks example4 (three 3 4 5) b (unfounded n k) b' → ⊥
    not_without_comparing q = let e = ap word (checks_unique q (starred_checks.example4_stable b h)).0 in omega arith

    -- "one that invents the counts"
    pub no_other_counts : {n k : ℕ} → Checks printed (three 0 1 1) b (unfounded n k) b' → (n ≡ 2) × (k ≡ 1)
    no_other_counts q = let e = (checks_unique q (starred_checks.printed_shown b h)).0 in (ap first e, ap second e)

    -- one whose first count is one too high
    pub not_one_too_many : {k : ℕ} → Checks printed (three 0 1 1) b (unfounded 3 k) b' → ⊥
    not_one_too_many q = let e = (no_other_counts q).0 in omega arith

    -- "one that shows a part of the set": its counts
    pub not_a_part : {k : ℕ} → Checks printed (three 0 1 1) b (unfounded 1 k) b' → ⊥
    not_a_part q = let e = (no_other_counts q).0 in omega arith

    -- "one that lists every value as a condition": its counts
    pub not_every_value : Checks printed (three 0 1 1) b (unfounded 2 3) b' → ⊥
    not_every_value q = let e = (no_other_counts q).1 in omega arith

    -- one where a falling position asks nothing: a's rule reads c, which falls, and the report ends after the condition on b
    pub not_falling_passed_over : Checks example2 (0xFF ∷ 0xF9 ∷ 0xFF ∷ 0xF6 ∷ small 5 []) b (unfounded 1 1) b' → ⊥
    not_falling_passed_over q = let e = ap second (checks_unique q (starred_checks.example2_shown b h)).0 in omega arith

  -- "Dropping 'a at least 1' because a is in the set"
  pub not_dropped : 12 ≤ length b → Checks contrary (small 1 []) b (unfounded 1 0) b' → ⊥
  not_dropped h q = let e = ap second (checks_unique q (starred_checks.contrary_shown b h)).0 in omega arith

-- the bytes, in a lent report of 36 bytes 9: the two bounds and the condition, as printed, and 9 after them
abbrev nines : ℕ → List ℕ
nines n = replicate n 9

abbrev entries : List ℕ
entries = 1 ∷ 0 ∷ 0 ∷ 0 ∷ 2 ∷ 0 ∷ 0 ∷ 0 ∷ 0 ∷ 1 ∷ 0 ∷ 0 ∷ []

only_entries : {r : Answer} {b' : List ℕ} → Checks printed (three 0 1 1) (nines 36) r b' → b' ≡ entries ++ nines 24
only_entries q = (checks_unique q (starred_checks.printed_shown (nines 36) (lit≤ tt))).1

-- one that shows a part of the set, whatever its counts: the condition follows the bound of a
pub not_a_part_shown : {r : Answer} {b rest : List ℕ} → 36 ≤ length b → Checks printed (three 0 1 1) b r (1 ∷ 0 ∷ 0 ∷ 0 ∷ 0 ∷ 1 ∷ 0 ∷ 0 ∷ rest) → ⊥
not_a_part_shown {b = b} h q =
    let e : ◌≡◌ {A = ℕ} 0 2 = ap (λ (l : List ℕ). get_or l 4 0) (checks_unique q (starred_checks.printed_shown b h)).1 in
    omega arith

-- one that lists every value as a condition, whatever its counts: those of a and b follow that of s
pub not_every_value_shown : {r : Answer} → Checks printed (three 0 1 1) (nines 36) r (entries ++ (1 ∷ 1 ∷ 0 ∷ 1 ∷ 2 ∷ 1 ∷ 0 ∷ 1 ∷ nines 16)) → ⊥
not_every_value_shown q = let e : ◌≡◌ {A = ℕ} 1 9 = ap (λ (l : List ℕ). get_or l 12 0) (only_entries q) in omega arith

-- one that clears the bytes after the last entry
pub not_cleared : {r : Answer} → Checks printed (three 0 1 1) (nines 36) r (entries ++ replicate 24 0) → ⊥
not_cleared q = let e : ◌≡◌ {A = ℕ} 0 9 = ap (λ (l : List ℕ). get_or l 12 0) (only_entries q) in omega arith

-- one where a falling position asks nothing, whatever its counts: the condition on c, which is the last entry, is not written
pub not_falling_left_out : {r : Answer} → Checks example2 (0xFF ∷ 0xF9 ∷ 0xFF ∷ 0xF6 ∷ small 5 []) (nines 36) r
    (0 ∷ 0 ∷ 0xFF ∷ 0xF8 ∷ 1 ∷ 1 ∷ 0xFF ∷ 0xF6 ∷ nines 28) → ⊥
not_falling_left_out q =
    let e : ◌≡◌ {A = ℕ} 9 2 = ap (λ (l : List ℕ). get_or l 8 0) (checks_unique q (starred_checks.example2_shown (nines 36) (lit≤ tt))).1 in
    omega arith

-- one that drops the condition on a because a is in the set, whatever its counts
pub not_dropped_shown : {r : Answer} → Checks contrary (small 1 []) (nines 12) r (0 ∷ 0 ∷ 0 ∷ 0 ∷ nines 8) → ⊥
not_dropped_shown q =
    let e : ◌≡◌ {A = ℕ} 9 0 = ap (λ (l : List ℕ). get_or l 4 0) (checks_unique q (starred_checks.contrary_shown (nines 12) (lit≤ tt))).1 in
    omega arith
