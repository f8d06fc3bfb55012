-- Entering a rule among the readers of its variables.
use Prim.Native.Nat.{ℕ, ◌+◌, ◌*◌, ◌<◌}
use mathlib.Core.Path.{◌≡◌, refl, sym, ap, ap₂, ◌∙◌}
use mathlib.Core.Bool.{Bool, true, false, ◌||◌, ◌&&◌}
use mathlib.Core.List.{List}
use native.Mathlib.Decide.{ℕ_discrete}
use native.Mathlib.Omega.{arith}
use lib.Dec.{eqb}
use lib.ListN.{length}
use borrow.Author.Tests.{eq-eqb, ne_eqb}
use Rattle.format.specs.Limits.{max_rules}
use Rattle.words.specs.Bit.{has, bit}
use Rattle.program.specs.Tables.{any_below}
use Rattle.program.proofs.Conditions.{any_next, any_none}
use Rattle.program.specs.Program.{Rule}
use Rattle.program.specs.Readings.{body_variable}
use Rattle.tables.specs.Tabled.{read_at, Entered}

-- two numbers of the table are the same where the variables and the rules are
one_number : (x i y k : ℕ) → i < max_rules → k < max_rules → Dec (i ≡ k) → Dec (y ≡ x) → eqb (max_rules * x + i) (max_rules * y + k) ≡ (eqb i k && eqb y x)
one_number x i y k h l (yes p) (yes q) = eq-eqb (max_rules * x + i) (max_rules * y + k) (omega arith) ∙ sym (ap₂ ◌&&◌ (eq-eqb i k p) (eq-eqb y x q))
one_number x i y k h l (yes p) (no g) = ne_eqb (max_rules * x + i) (max_rules * y + k) (λ e. g (omega arith)) ∙ sym (ap₂ ◌&&◌ (eq-eqb i k p) (ne_eqb y x g))
one_number x i y k h l (no f) d = ne_eqb (max_rules * x + i) (max_rules * y + k) (λ e. f (omega arith)) ∙ sym (ap (λ (b : Bool). b && eqb y x) (ne_eqb i k f))

or_swap : (a b : Bool) → (a || b) ≡ (b || a)
or_swap true true = refl
or_swap true false = refl
or_swap false true = refl
or_swap false false = refl

or_none : (a b : Bool) → a ≡ (a || (b && false))
or_none true b = refl
or_none false true = refl
or_none false false = refl

or_both : (a b p q : Bool) → ((a || (b && p)) || (b && q)) ≡ (a || (b && (p || q)))
or_both true b p q = refl
or_both false true p q = refl
or_both false false p q = refl

module _ (ws ws' : List ℕ) (k y : ℕ) (b : Bool) where
  -- the position is kept, and the variable's row takes the rule in
  pub entered_one : b ≡ true → k < max_rules → ((n : ℕ) → has ws' n ≡ (eqb n (max_rules * y + k) || has ws n)) → Entered ws ws' k (λ x. b && eqb y x)
  entered_one e h f x i l m =
      f (max_rules * x + i) ∙ or_swap (eqb (max_rules * x + i) (max_rules * y + k)) (has ws (max_rules * x + i))
      ∙ ap (λ (t : Bool). has ws (max_rules * x + i) || t)
      (one_number x i y k m h (ℕ_discrete i k) (ℕ_discrete y x) ∙ ap (λ (t : Bool). eqb i k && (t && eqb y x)) (sym e))

  -- the position is not kept
  pub entered_none : b ≡ false → ws' ≡ ws → Entered ws ws' k (λ x. b && eqb y x)
  entered_none e f x i l m = rw (f, e) (or_none (has ws (max_rules * x + i)) (eqb i k))

-- one position more
pub entered_start : (ws : List ℕ) (k : ℕ) (p : ℕ → ℕ → Bool) → Entered ws ws k (λ x. any_below 0 (λ j. p j x))
entered_start ws k p x i l m = or_none (has ws (max_rules * x + i)) (eqb i k) ∙ ap (λ (t : Bool). has ws (max_rules * x + i) || (eqb i k && t)) (any_none (λ j. p j x))

pub entered_more : (ws ws' ws'' : List ℕ) (k j : ℕ) (p : ℕ → ℕ → Bool) → Entered ws ws' k (λ x. any_below j (λ n. p n x)) → Entered ws' ws'' k (p j)
    → Entered ws ws'' k (λ x. any_below (j + 1) (λ n. p n x))
entered_more ws ws' ws'' k j p f g x i l m =
    g x i l m ∙ ap (λ (t : Bool). t || (eqb i k && p j x)) (f x i l m) ∙ or_both (has ws (max_rules * x + i)) (eqb i k) (any_below j (λ n. p n x)) (p j x)
    ∙ ap (λ (t : Bool). has ws (max_rules * x + i) || (eqb i k && t)) (sym (any_next j (λ n. p n x)))

-- every position of a rule
pub entered_rule : (ws ws' : List ℕ) (k j : ℕ) (r : Rule) (mask : ℕ) → j ≡ length r.terms
    → Entered ws ws' k (λ x. any_below j (λ n. bit mask n && eqb (body_variable r n) x)) → Entered ws ws' k (read_at r mask)
unfolding read_at
entered_rule ws ws' k j r mask e h = rw e at h
