-- The first terms of a body, and the others.
use Prim.Native.Nat.{ℕ, zero, suc, ◌+◌, ◌*◌}
use mathlib.Core.Path.{◌≡◌, refl, sym, ap, ◌∙◌}
use mathlib.Core.List.{List, [], ◌∷◌}
use native.Mathlib.Omega.{arith}
use lib.ListN.{take, drop, length-drop}
use lib.Seq.{drop-drop, get_or-drop}
use Rattle.program.specs.Program.{terms_of, no_term}
use Rattle.normal.proofs.OrderedLaws.{Distinct}
use Rattle.program.specs.declared.Term.{Term}

four_more : (y : ℕ) → 4 * suc y ≡ suc (suc (suc (suc (4 * y))))
four_more y = omega arith

pub terms_take : (y : ℕ) (b : List ℕ) → terms_of (take (4 * y) b) ≡ take y (terms_of b)
unfolding terms_of
terms_take zero b = refl
terms_take (suc y) [] = rw (four_more y)
terms_take (suc y) (x ∷ []) = rw (four_more y)
terms_take (suc y) (x ∷ op ∷ []) = rw (four_more y)
terms_take (suc y) (x ∷ op ∷ high ∷ []) = rw (four_more y)
terms_take (suc y) (x ∷ op ∷ high ∷ low ∷ rest) = rw (four_more y, terms_take y rest)

terms_drop : (y : ℕ) (b : List ℕ) → terms_of (drop (4 * y) b) ≡ drop y (terms_of b)
unfolding terms_of
terms_drop zero b = refl
terms_drop (suc y) [] = rw (four_more y)
terms_drop (suc y) (x ∷ []) = rw (four_more y)
terms_drop (suc y) (x ∷ op ∷ []) = rw (four_more y)
terms_drop (suc y) (x ∷ op ∷ high ∷ []) = rw (four_more y)
terms_drop (suc y) (x ∷ op ∷ high ∷ low ∷ rest) = rw (four_more y) (terms_drop y rest)

-- the terms of a value after its header and its first d + y terms
pub terms_after : (header : ℕ) (v : List ℕ) (d y : ℕ) → terms_of (drop (header + 4 * (d + y)) v) ≡ drop y (terms_of (drop (header + 4 * d) v))
terms_after header v d y =
    let e : header + 4 * (d + y) ≡ header + 4 * d + 4 * y = omega arith in
    ap (λ (n : ℕ). terms_of (drop n v)) e ∙ ap terms_of (sym (drop-drop (4 * y) (header + 4 * d) v)) ∙ terms_drop y (drop (header + 4 * d) v)

-- terms without a variable twice, from one of them on
pub distinct_drop : (n : ℕ) (ts : List Term) → Distinct ts → Distinct (drop n ts)
distinct_drop n ts d i j h k =
    let l = length-drop n ts in
    rw (get_or-drop n ts i no_term, get_or-drop n ts j no_term) (d (n + i) (n + j) (omega arith) (omega arith))
