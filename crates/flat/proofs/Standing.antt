-- Trees that stand one after the other at the front of bytes: any bytes, any number of trees.
use Prim.Native.Nat.{ℕ, zero, suc, ◌+◌, ◌*◌, ◌≤◌}
use mathlib.Core.Path.{◌≡◌, refl, sym, ap, ap₂, subst, ◌∙◌}
use mathlib.Core.List.{List, [], ◌∷◌, ◌++◌}
use native.Mathlib.Omega.{arith}
use lib.ListN.{length}
use Rattle.flat.specs.Flat.{children_of, Stand, past, inners_passed, inners_in, operand_in, operands_in}

-- ---- n trees stand there

pub stand_zero : (s : List ℕ) → Stand s 0
unfolding Stand
stand_zero [] = tt
stand_zero (a ∷ []) = tt
stand_zero (a ∷ b ∷ rest) = tt

pub stand_some : (s : List ℕ) (n : ℕ) → Stand s (suc n) → 2 ≤ length s
unfolding Stand
stand_some [] n h = absurd h
stand_some (a ∷ []) n h = absurd h
stand_some (a ∷ b ∷ rest) n h = omega arith

pub stand_room : (s : List ℕ) (n : ℕ) → Stand s n → 2 * n ≤ length s
unfolding Stand
stand_room [] zero h = omega arith
stand_room [] (suc n) h = absurd h
stand_room (a ∷ []) zero h = omega arith
stand_room (a ∷ []) (suc n) h = absurd h
stand_room (a ∷ b ∷ rest) zero h = omega arith
stand_room (a ∷ b ∷ rest) (suc n) h = let k = stand_room rest (children_of a b + n) h.1 in omega arith

-- one more in front of a sum of numbers
suc_sum : (m n : ℕ) → suc m + n ≡ suc (m + n)
suc_sum m n = omega arith

sum_in : (c m n : ℕ) → c + (m + n) ≡ (c + m) + n
sum_in c m n = omega arith

none_sum : (n : ℕ) → 0 + n ≡ n
none_sum n = omega arith

one_sum : (n : ℕ) → 1 + n ≡ suc n
one_sum n = omega arith

-- m trees, then n
pub stand_first : (s : List ℕ) (m n : ℕ) → Stand s (m + n) → Stand s m
unfolding Stand
stand_first [] zero n h = tt
stand_first [] (suc m) n h = subst (Stand []) (suc_sum m n) h
stand_first (a ∷ []) zero n h = tt
stand_first (a ∷ []) (suc m) n h = subst (Stand (a ∷ [])) (suc_sum m n) h
stand_first (a ∷ b ∷ rest) zero n h = tt
stand_first (a ∷ b ∷ rest) (suc m) n h =
    let k : Stand (a ∷ b ∷ rest) (suc (m + n)) = subst (Stand (a ∷ b ∷ rest)) (suc_sum m n) h in
    (k.0, stand_first rest (children_of a b + m) n (subst (Stand rest) (sum_in (children_of a b) m n) k.1))

pub stand_rest : (s : List ℕ) (m n : ℕ) → Stand s (m + n) → Stand (past s m) n
unfolding Stand past
stand_rest [] zero n h = subst (Stand []) (none_sum n) h
stand_rest [] (suc m) n h = absurd (subst (Stand []) (suc_sum m n) h)
stand_rest (a ∷ []) zero n h = subst (Stand (a ∷ [])) (none_sum n) h
stand_rest (a ∷ []) (suc m) n h = absurd (subst (Stand (a ∷ [])) (suc_sum m n) h)
stand_rest (a ∷ b ∷ rest) zero n h = subst (Stand (a ∷ b ∷ rest)) (none_sum n) h
stand_rest (a ∷ b ∷ rest) (suc m) n h =
    let k : Stand (a ∷ b ∷ rest) (suc (m + n)) = subst (Stand (a ∷ b ∷ rest)) (suc_sum m n) h in
    stand_rest rest (children_of a b + m) n (subst (Stand rest) (sum_in (children_of a b) m n) k.1)

pub stand_both : (s : List ℕ) (m n : ℕ) → Stand s m → Stand (past s m) n → Stand s (m + n)
unfolding Stand past
stand_both [] zero n h k = subst (Stand []) (sym (none_sum n)) k
stand_both [] (suc m) n h k = absurd h
stand_both (a ∷ []) zero n h k = subst (Stand (a ∷ [])) (sym (none_sum n)) k
stand_both (a ∷ []) (suc m) n h k = absurd h
stand_both (a ∷ b ∷ rest) zero n h k = subst (Stand (a ∷ b ∷ rest)) (sym (none_sum n)) k
stand_both (a ∷ b ∷ rest) (suc m) n h k =
    subst (Stand (a ∷ b ∷ rest)) (sym (suc_sum m n))
    (h.0, subst (Stand rest) (sym (sum_in (children_of a b) m n)) (stand_both rest (children_of a b + m) n h.1 k))

-- ---- the bytes after them

pub past_none : (s : List ℕ) → past s 0 ≡ s
unfolding past
past_none [] = refl
past_none (a ∷ []) = refl
past_none (a ∷ b ∷ rest) = refl

pub past_add : (s : List ℕ) (m n : ℕ) → past s (m + n) ≡ past (past s m) n
unfolding past
past_add [] m n = refl
past_add (a ∷ []) m n = refl
past_add (a ∷ b ∷ rest) zero n = ap (past (a ∷ b ∷ rest)) (none_sum n)
past_add (a ∷ b ∷ rest) (suc m) n =
    ap (past (a ∷ b ∷ rest)) (suc_sum m n) ∙ ap (past rest) (sum_in (children_of a b) m n) ∙ past_add rest (children_of a b + m) n

pub past_length : (s : List ℕ) (n : ℕ) → length (past s n) ≤ length s
unfolding past
past_length [] n = omega arith
past_length (a ∷ []) n = omega arith
past_length (a ∷ b ∷ rest) zero = omega arith
past_length (a ∷ b ∷ rest) (suc n) = let k = past_length rest (children_of a b + n) in omega arith

-- ---- their inner nodes

pub passed_none : (s : List ℕ) → inners_passed s 0 ≡ 0
unfolding inners_passed
passed_none [] = refl
passed_none (a ∷ []) = refl
passed_none (a ∷ b ∷ rest) = refl

pub passed_add : (s : List ℕ) (m n : ℕ) → inners_passed s (m + n) ≡ inners_passed s m + inners_passed (past s m) n
unfolding inners_passed past
passed_add [] m n = refl
passed_add (a ∷ []) m n = refl
passed_add (a ∷ b ∷ rest) zero n = let e = ap (inners_passed (a ∷ b ∷ rest)) (none_sum n) in omega arith
passed_add (a ∷ b ∷ rest) (suc m) n =
    let e = ap (inners_passed (a ∷ b ∷ rest)) (suc_sum m n) in
    let f = ap (inners_passed rest) (sum_in (children_of a b) m n) in
    let k = passed_add rest (children_of a b + m) n in
    omega arith

-- those of n trees, and those after them
pub inners_passed_lem : (s : List ℕ) (n : ℕ) → inners_passed s n + inners_in (past s n) ≡ inners_in s
unfolding inners_passed inners_in past
inners_passed_lem [] n = refl
inners_passed_lem (a ∷ []) n = refl
inners_passed_lem (a ∷ b ∷ rest) zero = omega arith
inners_passed_lem (a ∷ b ∷ rest) (suc n) = let k = inners_passed_lem rest (children_of a b + n) in omega arith

-- ---- the variables that stand for them

pub operands_length : (n c : ℕ) (s : List ℕ) → length (operands_in n c s) ≡ c
unfolding operands_in
operands_length n zero s = refl
operands_length n (suc c) s = ap suc (operands_length (n + inners_passed s 1) c (past s 1))

pub operands_add : (n c d : ℕ) (s : List ℕ) → operands_in n (c + d) s ≡ operands_in n c s ++ operands_in (n + inners_passed s c) d (past s c)
unfolding operands_in
operands_add n zero d s =
    let k : n + inners_passed s 0 ≡ n = omega (arith, passed_none s) in
    ap (λ (e : ℕ). operands_in n e s) (none_sum d) ∙ sym (ap₂ (λ (m : ℕ) (r : List ℕ). operands_in m d r) k (past_none s))
operands_add n (suc c) d s =
    let k : (n + inners_passed s 1) + inners_passed (past s 1) c ≡ n + inners_passed s (suc c) = omega (arith, passed_add s 1 c, ap (inners_passed s) (one_sum c)) in
    let e : past (past s 1) c ≡ past s (suc c) = sym (past_add s 1 c) ∙ ap (past s) (one_sum c) in
    ap (λ (x : ℕ). operands_in n x s) (suc_sum c d)
    ∙ ap (λ (xs : List ℕ). operand_in n s ∷ xs) (operands_add (n + inners_passed s 1) c d (past s 1)
    ∙ ap₂ (λ (m : ℕ) (r : List ℕ). operands_in (n + inners_passed s 1) c (past s 1) ++ operands_in m d r) k e)
