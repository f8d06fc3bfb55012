-- Form 8 beside the others: its divisor, and the form as which its terms are read.
use Prim.Native.Nat.{ℕ, ◌≤◌}
use mathlib.Core.Path.{◌≡◌, refl, ap}
use mathlib.Core.List.{List, [], ◌∷◌}
use mathlib.Core.Bool.{Bool, true, false, cond}
use native.Mathlib.Omega.{arith}
use lib.Dec.{eqb}
use lib.IntN.{pos}
use lib.ListN.{length, get_or}
use borrow.Author.Tests.{ne_eqb, eqb-false}
use Rattle.program.specs.Program.{divisor_terms, term_form, by_one, divisor_of, terms_of, rule_of}
use Rattle.program.specs.declared.Term.{Term}

module _ (form : ℕ) where
  pub divisor_own : form ≡ 8 → 1 ≡ divisor_terms form
  unfolding divisor_terms
  divisor_own h = rw h

  pub divisor_none : (form ≡ 8 → ⊥) → 0 ≡ divisor_terms form
  unfolding divisor_terms
  divisor_none h = simp (ne_eqb form 8 h)

  -- a form has at most one
  pub divisor_few : divisor_terms form ≤ 1
  unfolding divisor_terms
  divisor_few = go (eqb form 8)
    where
      go : (t : Bool) → cond t 1 0 ≤ 1
      go true = omega arith
      go false = omega arith

  pub read_as_sum : form ≡ 8 → 1 ≡ term_form form
  unfolding term_form
  read_as_sum h = rw h

  pub read_as_itself : (form ≡ 8 → ⊥) → form ≡ term_form form
  unfolding term_form
  read_as_itself h = simp (ne_eqb form 8 h)

  -- forms 1 to 8 are read as forms 1 to 7
  pub read_as_known : 1 ≤ form → form ≤ 8 → (1 ≤ term_form form) × (term_form form ≤ 7)
  unfolding term_form
  read_as_known h k = go (eqb form 8) refl
    where
      go : (t : Bool) → eqb form 8 ≡ t → (1 ≤ cond t 1 form) × (cond t 1 form ≤ 7)
      go true e = (omega arith, omega arith)
      go false e = let n = eqb-false form 8 e in (h, omega arith)

-- where no divisor stands it is 1
pub none_is_one : (ts : List Term) → length ts ≡ 0 → (get_or ts 0 by_one).number ≡ pos 1
none_is_one [] e = refl
none_is_one (t ∷ ts) e = let f : ⊥ = omega arith in absurd f

-- the rule in a value, of another form than 8
module _ (v : List ℕ) (f : get_or v 0 0 ≡ 8 → ⊥) where
  pub no_divisor : (rule_of v).divisor ≡ []
  unfolding terms_of
  no_divisor = rw (← divisor_none (get_or v 0 0) f)

  pub divided_by_one : divisor_of (rule_of v) ≡ pos 1
  divided_by_one = none_is_one (rule_of v).divisor (ap length no_divisor)
