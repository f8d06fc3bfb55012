-- Trees and their bytes, both ways; how deep a tree is that is read.
use Prim.Native.Nat.{ℕ, zero, suc, ◌+◌, ◌<◌, ◌≤◌}
use mathlib.Core.Path.{◌≡◌, refl, sym, ap, subst, ◌∙◌}
use mathlib.Core.List.{List, [], ◌∷◌, ◌++◌, append_assoc}
use mathlib.Core.Bool.{Bool, true, false, cond, ◌&&◌}
use native.Mathlib.Omega.{arith}
use lib.Dec.{T, eqb, leb, leb→le}
use lib.ListN.{length}
use borrow.Author.Tests.{eqb-true, leb-true, leb-false, ne_eqb}
use Rattle.program.specs.Encode.{All}
use Rattle.program.proofs.Tests.{is_true, is_test, and_left}
use Rattle.trees.specs.Tree.{Tree, leaf, inner, max_children, joined, largest, levels, tree_bytes, inner_bytes, Formed}
use Rattle.trees.specs.Tree.{Front, nothing, ◌then◌, map_front, next, several, tree_in}

-- ---- what is read

-- nothing is no thing
no_front : {A : Type 0} {x : A} {rest : List ℕ} → nothing ≡ (x then rest) → ⊥
no_front e = let z : ◌≡◌ {A = ℕ} 0 1 = cc in omega arith

same_front : {A : Type 0} {x y : A} {r q : List ℕ} → (x then r) ≡ (y then q) → (x ≡ y) × (r ≡ q)
same_front e = (cc, cc)

mapped_front : {A B : Type 0} (f : A → B) (q : Front A) (y : B) (rest : List ℕ) → map_front f q ≡ (y then rest) → (x : A) × (q ≡ (x then rest)) × (f x ≡ y)
mapped_front f nothing y rest e = absurd (no_front e)
mapped_front f (x then r) y rest e = let p = same_front e in (x, ap (λ (s : List ℕ). x then s) p.1, p.0)

next_front : {A B : Type 0} (q : Front A) (go : A → List ℕ → Front B) (y : B) (rest : List ℕ)
    → next q go ≡ (y then rest) → (x : A) × (r : List ℕ) × (q ≡ (x then r)) × (go x r ≡ (y then rest))
next_front nothing go y rest e = absurd (no_front e)
next_front (x then r) go y rest e = (x, r, refl, e)

-- a field that is read is the encoding of what it is read as
abbrev Reads : {A : Type 0} → (List ℕ → Front A) → (A → List ℕ) → (A → Type 0) → Type 0
Reads {A} one bytes good = (s : List ℕ) (x : A) (rest : List ℕ) → one s ≡ (x then rest) → (s ≡ bytes x ++ rest) × good x

several_read : {A : Type 0} (one : List ℕ → Front A) (bytes : A → List ℕ) (good : A → Type 0) → Reads one bytes good
    → (n : ℕ) → Reads (several one n) (joined bytes) (λ xs. (length xs ≡ n) × All good xs)
unfolding several joined
several_read one bytes good reads zero s xs rest e =
    let p = same_front e in
    subst (λ xs. (s ≡ joined bytes xs ++ rest) × ((length xs ≡ 0) × All good xs)) p.0 (p.1, (refl, tt))
several_read one bytes good reads (suc n) s xs rest e =
    let p = next_front (one s) (λ a r. map_front (λ ys. a ∷ ys) (several one n r)) xs rest e in
    let x = p.0 in
    let q = mapped_front (λ ys. x ∷ ys) (several one n p.1) xs rest p.3 in
    let ys = q.0 in
    let h = reads s x p.1 p.2 in
    let k = several_read one bytes good reads n p.1 ys rest q.1 in
    subst (λ xs. (s ≡ joined bytes xs ++ rest) × ((length xs ≡ suc n) × All good xs)) q.2
    (h.0 ∙ ap (λ r. bytes x ++ r) k.0 ∙ sym (append_assoc (bytes x) (joined bytes ys) rest), (ap suc k.1.0, (h.1, k.1.1)))

-- "an accepted tree field is the encoding of its tree"
pub tree_read : (l : ℕ) (s : List ℕ) (t : Tree l) (rest : List ℕ) → tree_in l s ≡ (t then rest) → (s ≡ tree_bytes l t ++ rest) × Formed l t
unfolding tree_in tree_bytes Formed
tree_read zero s t rest e = absurd (no_front e)
tree_read (suc l) [] t rest e = absurd (no_front e)
tree_read (suc l) (a ∷ []) t rest e = absurd (no_front e)
tree_read (suc l) (a ∷ b ∷ s) t rest e = go (tree_read l) (eqb a 0) (inner_bytes a b) refl refl e
  where
    go : Reads (tree_in l) (tree_bytes l) (Formed l) → (x y : Bool) → eqb a 0 ≡ x → inner_bytes a b ≡ y
        → cond x (leaf b then s) (cond y (map_front (λ ts. inner a ts) (several (tree_in l) b s)) nothing) ≡ (t then rest)
        → (a ∷ b ∷ s ≡ tree_bytes (suc l) t ++ rest) × Formed (suc l) t
    go reads true y f g e =
        let p = same_front e in
        subst (λ (t : Tree (suc l)). (a ∷ b ∷ s ≡ tree_bytes (suc l) t ++ rest) × Formed (suc l) t) p.0
        (ap (λ (n : ℕ). n ∷ b ∷ s) (eqb-true a 0 f) ∙ ap (λ (r : List ℕ). 0 ∷ b ∷ r) p.1, tt)
    go reads false true f g e =
        let p = mapped_front (λ ts. inner a ts) (several (tree_in l) b s) t rest e in
        let k = several_read (tree_in l) (tree_bytes l) (Formed l) reads b s p.0 rest p.1 in
        subst (λ (t : Tree (suc l)). (a ∷ b ∷ s ≡ tree_bytes (suc l) t ++ rest) × Formed (suc l) t) p.2 (
          ap (λ (n : ℕ). a ∷ n ∷ s) (sym k.1.0) ∙ ap (λ (r : List ℕ). a ∷ length p.0 ∷ r) k.0,
          (is_test (ap (inner_bytes a) k.1.0 ∙ g), k.1.1),
        )
    go reads false false f g e = absurd (no_front e)

-- ---- what is written

pub inner_byte : (a b : ℕ) → T (inner_bytes a b) → eqb a 0 ≡ false
inner_byte a b h =
    let k = leb→le 1 a (and_left (leb 1 a) (leb a 3) (and_left (leb 1 a && leb a 3) (leb 1 b && leb b max_children) h)) in
    ne_eqb a 0 (λ e. omega arith)

-- an inner node is read as such
inner_in : (l a b : ℕ) (s : List ℕ) → T (inner_bytes a b) → tree_in (suc l) (a ∷ b ∷ s) ≡ map_front (λ ts. inner a ts) (several (tree_in l) b s)
unfolding tree_in
inner_in l a b s h = rw (inner_byte a b h, is_true (inner_bytes a b) h)

several_back : {A : Type 0} (one : List ℕ → Front A) (bytes : A → List ℕ) (good : A → Type 0)
    → ((x : A) (rest : List ℕ) → good x → one (bytes x ++ rest) ≡ (x then rest))
    → (xs : List A) (rest : List ℕ) → All good xs → several one (length xs) (joined bytes xs ++ rest) ≡ (xs then rest)
unfolding several joined
several_back one bytes good back [] rest h = refl
several_back one bytes good back (x ∷ xs) rest h =
    rw (append_assoc (bytes x) (joined bytes xs) rest, back x (joined bytes xs ++ rest) h.0, several_back one bytes good back xs rest h.1)

pub tree_read_back : (l : ℕ) (t : Tree l) (rest : List ℕ) → Formed l t → tree_in l (tree_bytes l t ++ rest) ≡ (t then rest)
unfolding tree_in tree_bytes Formed
tree_read_back zero t rest h = absurd t
tree_read_back (suc l) (leaf x) rest h = refl
tree_read_back (suc l) (inner form ts) rest h =
    inner_in l form (length ts) (joined (tree_bytes l) ts ++ rest) h.0
    ∙ ap (map_front (λ ts. inner form ts)) (several_back (tree_in l) (tree_bytes l) (Formed l) (tree_read_back l) ts rest h.1)

-- ---- "at most 8 levels, root included"

either_most : (b : Bool) (x y m : ℕ) → x ≤ m → y ≤ m → cond b x y ≤ m
either_most true x y m h k = h
either_most false x y m h k = k

largest_most : {A : Type 0} (f : A → ℕ) (m : ℕ) → ((x : A) → f x ≤ m) → (xs : List A) → largest f xs ≤ m
unfolding largest
largest_most f m h [] = omega arith
largest_most f m h (x ∷ xs) = either_most (leb (largest f xs) (f x)) (f x) (largest f xs) m (h x) (largest_most f m h xs)

pub tree_levels : (l : ℕ) (t : Tree l) → levels l t ≤ l
unfolding levels
tree_levels zero t = absurd t
tree_levels (suc l) (leaf x) = omega arith
tree_levels (suc l) (inner form ts) = let h = largest_most (levels l) l (tree_levels l) ts in omega arith

-- a reader that knows l levels, tried on something of n levels: it finds nothing where they are more, and reads it where not
pub data Tried {A : Type 0} (l n : ℕ) (rest : List ℕ) (q : Front A) : Type 0 where
  deep : l < n → q ≡ nothing → Tried l n rest q
  read : n ≤ l → (x : A) → q ≡ (x then rest) → Tried l n rest q

tried_mapped : {A B : Type 0} {l n : ℕ} {rest : List ℕ} {q : Front A} (f : A → B) → Tried l n rest q → Tried (suc l) (1 + n) rest (map_front f q)
tried_mapped f (deep h e) = deep (omega arith) (ap (map_front f) e)
tried_mapped f (read h x e) = read (omega arith) (f x) (ap (map_front f) e)

larger_least : (m n : ℕ) → (m ≤ cond (leb n m) m n) × (n ≤ cond (leb n m) m n)
larger_least m n = go (leb n m) refl
  where
    go : (b : Bool) → leb n m ≡ b → (m ≤ cond b m n) × (n ≤ cond b m n)
    go true e = let h = leb-true n m e in omega arith
    go false e = let h = leb-false n m e in omega arith

-- one, and then what go finds
tried_next : {A : Type 0} {l m n : ℕ} {r rest : List ℕ} {q : Front A} (go : List ℕ → Front (List A))
    → Tried l m r q → Tried l n rest (go r) → Tried l (cond (leb n m) m n) rest (next q (λ x s. map_front (λ xs. x ∷ xs) (go s)))
tried_next {m} {n} go (deep h e) k = deep (omega (arith, larger_least m n)) (ap (λ q. next q (λ x s. map_front (λ xs. x ∷ xs) (go s))) e)
tried_next {m} {n} go (read h x e) (deep k f) =
    deep (omega (arith, larger_least m n)) (ap (λ q. next q (λ x s. map_front (λ xs. x ∷ xs) (go s))) e ∙ ap (map_front (λ xs. x ∷ xs)) f)
tried_next {l} {m} {n} go (read h x e) (read k xs f) =
    read (either_most (leb n m) m n l h k) (x ∷ xs) (ap (λ q. next q (λ x s. map_front (λ xs. x ∷ xs) (go s))) e ∙ ap (map_front (λ xs. x ∷ xs)) f)

several_tried : {A B : Type 0} (one : List ℕ → Front A) (bytes : B → List ℕ) (good : B → Type 0) (size : B → ℕ) (l : ℕ)
    → ((x : B) (rest : List ℕ) → good x → Tried l (size x) rest (one (bytes x ++ rest)))
    → (xs : List B) (rest : List ℕ) → All good xs → Tried l (largest size xs) rest (several one (length xs) (joined bytes xs ++ rest))
unfolding several joined largest
several_tried one bytes good size l tries [] rest h = read (omega arith) [] refl
several_tried one bytes good size l tries (x ∷ xs) rest h =
    rw (append_assoc (bytes x) (joined bytes xs) rest)
    (tried_next (several one (length xs)) (tries x (joined bytes xs ++ rest) h.0) (several_tried one bytes good size l tries xs rest h.1))

-- a tree is read at l levels just where it has no more
pub tree_tried : (l k : ℕ) (t : Tree k) (rest : List ℕ) → Formed k t → Tried l (levels k t) rest (tree_in l (tree_bytes k t ++ rest))
unfolding tree_in tree_bytes Formed levels
tree_tried zero zero t rest h = absurd t
tree_tried zero (suc k) (leaf x) rest h = deep (omega arith) refl
tree_tried zero (suc k) (inner form ts) rest h = deep (omega arith) refl
tree_tried (suc l) zero t rest h = absurd t
tree_tried (suc l) (suc k) (leaf x) rest h = read (omega arith) (leaf x) refl
tree_tried (suc l) (suc k) (inner form ts) rest h =
    subst (Tried (suc l) (1 + largest (levels k) ts) rest) (sym (inner_in l form (length ts) (joined (tree_bytes k) ts ++ rest) h.0))
    (tried_mapped (λ us. inner form us) (several_tried (tree_in l) (tree_bytes k) (Formed k) (levels k) l (tree_tried l k) ts rest h.1))

pub too_deep : (l k : ℕ) (t : Tree k) (rest : List ℕ) → Formed k t → l < levels k t → tree_in l (tree_bytes k t ++ rest) ≡ nothing
too_deep l k t rest h more = go (tree_tried l k t rest h)
  where
    go : Tried l (levels k t) rest (tree_in l (tree_bytes k t ++ rest)) → tree_in l (tree_bytes k t ++ rest) ≡ nothing
    go (deep h e) = e
    go (read h x e) = let f : ⊥ = omega arith in absurd f
