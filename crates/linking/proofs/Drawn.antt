-- The edges of rules, one list of rules after the other.
use Prim.Native.Nat.{ℕ, zero, suc, ◌+◌}
use mathlib.Core.Path.{◌≡◌, sym, ap, ap₂, ◌∙◌, subst}
use mathlib.Core.List.{List, [], ◌∷◌, ◌++◌}
use mathlib.Core.Bool.{Bool, ◌||◌, or-false, or_assoc}
use native.Mathlib.Nat.{add-zero, add-suc}
use lib.ListN.{length, length-append, get_or-append}
use lib.Seq.{get_or-append-add}
use Rattle.program.specs.Tables.{any_below}
use Rattle.program.specs.Program.{Rule, rule_in, no_rule}
use Rattle.program.specs.declared.Variable.{Variable}
use Rattle.program.proofs.Conditions.{any_same}
use Rattle.edges.specs.Edges.{Grown}
use Rattle.validity.specs.Marks.{draws_by}
use Rattle.linking.specs.Drawing.{drawn_by}

-- the numbers below m, then n more
any_sum : (m n : ℕ) (p : ℕ → Bool) → any_below (m + n) p ≡ (any_below m p || any_below n (λ i. p (m + i)))
unfolding any_below
any_sum m zero p = ap (λ (k : ℕ). any_below k p) (add-zero m) ∙ sym (or-false (any_below m p))
any_sum m (suc n) p =
    ap (λ (k : ℕ). any_below k p) (add-suc m n) ∙ ap (λ (t : Bool). t || p (m + n)) (any_sum m n p) ∙ or_assoc (any_below m p) (any_below n (λ i. p (m + i))) (p (m + n))

module _ (vs : List Variable) where
  pub drawn_append : (rs qs : List Rule) (x y : ℕ) → drawn_by vs (rs ++ qs) x y ≡ (drawn_by vs rs x y || drawn_by vs qs x y)
  unfolding drawn_by
  drawn_append rs qs x y =
      ap (λ (n : ℕ). any_below n (λ i. draws_by vs (rule_in (rs ++ qs) i) x y)) (length-append rs qs)
      ∙ any_sum (length rs) (length qs) (λ i. draws_by vs (rule_in (rs ++ qs) i) x y)
      ∙ ap₂ ◌||◌
      (any_same (length rs) _ _ (λ i l. ap (λ (r : Rule). draws_by vs r x y) (get_or-append rs qs no_rule i l)))
      (any_same (length qs) _ _ (λ i l. ap (λ (r : Rule). draws_by vs r x y) (get_or-append-add rs qs i no_rule)))

  pub drawn_none : (t : ℕ → ℕ → Bool) → Grown t t (drawn_by vs [])
  unfolding drawn_by any_below
  drawn_none t = record { is = λ a b ha hb. sym (or-false (t a b)) }

  pub drawn_one : {t t' : ℕ → ℕ → Bool} (r : Rule) → Grown t t' (draws_by vs r) → Grown t t' (drawn_by vs (r ∷ []))
  unfolding drawn_by any_below
  drawn_one r g = record { is = g.is }

  -- rows that take in the edges of one list, then those of the next
  pub drawn_more : {t t' t'' : ℕ → ℕ → Bool} (rs qs : List Rule) → Grown t t' (drawn_by vs rs) → Grown t' t'' (drawn_by vs qs) → Grown t t'' (drawn_by vs (rs ++ qs))
  drawn_more {t} rs qs g h = record {
    is = λ a b ha hb. h.is a b ha hb ∙ ap (λ (z : Bool). z || drawn_by vs qs a b) (g.is a b ha hb) ∙ or_assoc (t a b) (drawn_by vs rs a b) (drawn_by vs qs a b)
        ∙ ap (λ (z : Bool). t a b || z) (sym (drawn_append rs qs a b));
  }

  pub drawn_as : {t t' : ℕ → ℕ → Bool} {rs qs : List Rule} → rs ≡ qs → Grown t t' (drawn_by vs rs) → Grown t t' (drawn_by vs qs)
  drawn_as {t} {t'} e g = subst (λ (z : List Rule). Grown t t' (drawn_by vs z)) e g
