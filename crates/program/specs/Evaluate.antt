-- Document 01, "Rule forms": what a rule gives, and what a constraint asks, when the variable at position i of its body is read as
-- `at i`.
use Rattle.std.specs.Prelude.{ℕ, zero, suc, ◌+◌, ◌-◌, ◌/◌, List, [], ◌∷◌, Bool, true, false, cond, ◌&&◌, ℤ, pos, negsuc, neg_ℤ, nat_abs, ◌+ℤ◌, ◌*ℤ◌, length, Option, Some, None}
use Rattle.std.specs.Int.Signed.{le_z, lt_z}
use Rattle.program.specs.Tables.{◌⇒◌, select, any_below}
use Rattle.program.specs.Program.{Rule, Constraint, term_form, divisor_of, term_in}
use Rattle.program.specs.declared.Term.{Term}

-- f 0 + .. + f (n - 1)
unfoldable pub sum_below : (ℕ → ℤ) → ℕ → ℤ
sum_below f zero = pos 0
sum_below f (suc n) = sum_below f n +ℤ f n

abbrev pub larger : ℤ → ℤ → ℤ
larger a b = cond (lt_z a b) b a

abbrev pub smaller : ℤ → ℤ → ℤ
smaller a b = cond (lt_z b a) b a

-- f 0, then for each of f 1 .. f n the one that `pick` takes of it and the one before
unfoldable pub pick_to : (ℤ → ℤ → ℤ) → (ℕ → ℤ) → ℕ → ℤ
pick_to pick f zero = f zero
pick_to pick f (suc n) = pick (pick_to pick f n) (f (suc n))

-- the largest and the smallest of f 0 .. f n
abbrev pub largest_to : (ℕ → ℤ) → ℕ → ℤ
largest_to = pick_to larger

abbrev pub smallest_to : (ℕ → ℤ) → ℕ → ℤ
smallest_to = pick_to smaller

-- "op 1 means variable ≥ number; op 2 means variable < number"; a plain term asks nothing
abbrev pub holds : Term → ℤ → Bool
holds t a = select t.op ((1 ⇒ le_z t.number a) ∷ (2 ⇒ lt_z a t.number) ∷ []) true

-- every literal among the first n terms holds
unfoldable pub all_hold : List Term → (ℕ → ℤ) → ℕ → Bool
all_hold ts at zero = true
all_hold ts at (suc n) = all_hold ts at n && holds (term_in ts n) (at n)

abbrev pub only_if : Bool → ℤ → Option ℤ
only_if b a = cond b (Some a) None

-- Document 02, wish 1: "the smallest whole number not below the sum, c included, over the divisor": z over d, rounded up, for d from 1 on (laws
-- `over_up_reaches`, `over_up_smallest`)
unfoldable pub over_up : ℤ → ℤ → ℤ
over_up d (pos a) = pos ((a + (nat_abs d - 1)) / nat_abs d)
over_up d (negsuc a) = neg_ℤ (pos (suc a / nat_abs d))

-- what each form amounts to, by the form as which its terms are read, c, the divisor d and the terms
unfoldable pub amount_of : ℕ → ℤ → ℤ → List Term → (ℕ → ℤ) → ℤ
amount_of form c d ts at =
    let n = length ts in
    select form
    ((1 ⇒ over_up d (c +ℤ sum_below (λ i. (term_in ts i).number *ℤ at i) n))
    ∷ (2 ⇒ (c +ℤ largest_to at (n - 1)))
    ∷ (3 ⇒ (c +ℤ smallest_to at (n - 1)))
    ∷ (4 ⇒ (c +ℤ (at 0 *ℤ at 1)))
    ∷ (5 ⇒ (c +ℤ pos (nat_abs (at 0))))
    ∷ (6 ⇒ c)
    ∷ (7 ⇒ (c +ℤ at 0))
    ∷ [])
    c

abbrev pub amount : Rule → (ℕ → ℤ) → ℤ
amount r at = amount_of (term_form r.form) r.c (divisor_of r) r.terms at

-- "when every literal holds, else nothing": a form without literals always gives its amount
unfoldable pub evaluate : Rule → (ℕ → ℤ) → Option ℤ
evaluate r at = only_if (all_hold r.terms at (length r.terms)) (amount r at)

-- "Constraint form 1: c + Σ number · variable ≤ 0 .. Form 2: at least one literal holds"
unfoldable pub satisfied : Constraint → (ℕ → ℤ) → Bool
satisfied k at =
    let ts = k.terms in
    let n = length k.terms in
    select k.form
    ((1 ⇒ le_z (k.c +ℤ sum_below (λ i. (term_in ts i).number *ℤ at i) n) (pos 0))
    ∷ (2 ⇒ any_below n (λ i. holds (term_in ts i) (at i)))
    ∷ [])
    false
