-- When an input is misframed, and what the framing of any other says of its parts.
use Prim.Native.Nat.{ℕ, ◌+◌, ◌-◌, ◌≤◌, ◌<◌}
use mathlib.Core.Path.{◌≡◌, refl, sym, ap, ◌∙◌, subst}
use mathlib.Core.Bool.{Bool, true, false, not, ◌||◌}
use mathlib.Core.List.{List}
use native.Mathlib.Omega.{arith}
use lib.Dec.{T, ltb}
use lib.ListN.{length, take, drop, length-drop}
use lib.Seq.{take_all}
use borrow.Author.Tests.{ltb-false, lt-ltb, le-ltb}
use Rattle.framing.specs.Framing.{announced, file_in, rest_in, misframed}

-- ---- the test

module _ (most : ℕ) (s : List ℕ) where
  pub too_few : length s < 2 → true ≡ misframed most s
  unfolding misframed
  too_few h = simp (lt-ltb (length s) 2 h)

  pub file_short : 2 ≤ length s → length s < 2 + announced s → true ≡ misframed most s
  unfolding misframed
  file_short h k = simp (le-ltb (length s) 2 h, lt-ltb (length s) (2 + announced s) k)

  pub by_length : 2 ≤ length s → 2 + announced s ≤ length s → ltb most (length s) ≡ misframed most s
  unfolding misframed
  by_length h k = simp (le-ltb (length s) 2 h, le-ltb (length s) (2 + announced s) k)

  pub framed : misframed most s ≡ false → (2 ≤ length s) × (2 + announced s ≤ length s)
  unfolding misframed
  framed e = go (ltb (length s) 2) (ltb (length s) (2 + announced s)) (ltb most (length s)) refl refl e
    where
      go : (p q r : Bool) → ltb (length s) 2 ≡ p → ltb (length s) (2 + announced s) ≡ q → (p || q || r) ≡ false → (2 ≤ length s) × (2 + announced s ≤ length s)
      go true q r a b f = let z : ◌≡◌ {A = ℕ} 0 1 = cc in absurd (omega arith)
      go false true r a b f = let z : ◌≡◌ {A = ℕ} 0 1 = cc in absurd (omega arith)
      go false false r a b f = (ltb-false (length s) 2 a, ltb-false (length s) (2 + announced s) b)

  pub is_bad : misframed most s ≡ true → T (misframed most s)
  is_bad e = subst T (sym e) tt

  pub is_right : misframed most s ≡ false → T (not (misframed most s))
  is_right e = subst (λ (x : Bool). T (not x)) (sym e) tt

-- ---- the file and the rest, as parts of the input that the code hands on

module _ (s : List ℕ) (end : ℕ) (q : end ≡ 2 + announced s) where
  pub file_part : take (end - 2) (drop 2 s) ≡ file_in s
  file_part = let k : end - 2 ≡ announced s = omega arith in ap (λ (j : ℕ). take j (drop 2 s)) k

  pub rest_part : take (length s - end) (drop end s) ≡ rest_in s
  rest_part = take_all (length s - end) (drop end s) (omega (arith, length-drop end s)) ∙ ap (λ (j : ℕ). drop j s) q
