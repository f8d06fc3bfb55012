-- How many bytes a tree's rules take at most.
use Prim.Native.Nat.{ℕ, zero, suc, ◌+◌, ◌*◌, ◌≤◌}
use mathlib.Core.Path.{◌≡◌, refl}
use mathlib.Core.Bool.{Bool, true, false, ◌&&◌, ◌||◌}
use mathlib.Core.List.{List, [], ◌∷◌}
use native.Mathlib.Omega.{arith}
use lib.Dec.{T, eqb, leb, leb→le}
use lib.ListN.{length}
use Rattle.trees.specs.Tree.{inner_bytes, max_children}
use Rattle.program.proofs.Tests.{and_right}
use Rattle.flat.specs.Flat.{Stand, past, OneTree, children_of, size_in, root_size, flat_size}

few : (a b : ℕ) → T (inner_bytes a b) → b ≤ 16
few a b h = leb→le b max_children (and_right (leb 1 b) (leb b max_children) (and_right (leb 1 a && leb a 3) (leb 1 b && leb b max_children) h))

stand_size : (s : List ℕ) (n : ℕ) → Stand s n → past s n ≡ [] → size_in s ≤ 36 * length s
unfolding Stand past size_in
stand_size [] n h e = omega arith
stand_size (a ∷ []) n h e = omega arith
stand_size (a ∷ b ∷ rest) zero h e = absurd (let z : ◌≡◌ {A = ℕ} 0 1 = cc in omega arith)
stand_size (a ∷ b ∷ rest) (suc n) h e =
    let r = stand_size rest (children_of a b + n) h.1 e in
    go (eqb a 0) refl h.0 r
  where
    go : (z : Bool) → eqb a 0 ≡ z → T (z || inner_bytes a b) → size_in rest ≤ 36 * length rest → size_in (a ∷ b ∷ rest) ≤ 36 * length (a ∷ b ∷ rest)
    go true q t r = rw q (omega arith)
    go false q t r = let f = few a b t in rw q (omega arith)

root_size_lem : (s : List ℕ) → flat_size s ≤ 11 + size_in s
unfolding flat_size size_in
root_size_lem [] = omega arith
root_size_lem (a ∷ []) = omega arith
root_size_lem (a ∷ b ∷ rest) = go (eqb a 0) refl
  where
    go : (z : Bool) → eqb a 0 ≡ z → root_size (a ∷ b ∷ rest) + size_in rest ≤ 11 + size_in (a ∷ b ∷ rest)
    go true q = rw q (omega arith)
    go false q = rw q (omega arith)

pub flat_bounded : (s : List ℕ) → OneTree s → flat_size s ≤ 11 + 36 * length s
flat_bounded s o = let a = root_size_lem s in let b = stand_size s 1 o.stands o.ends in omega arith
