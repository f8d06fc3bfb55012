-- A position is kept by the kind of its variable.
use Prim.Native.Nat.{ℕ, zero, suc, ◌<◌, ◌≤◌}
use mathlib.Core.Path.{◌≡◌, refl, sym, ap, ◌∙◌}
use mathlib.Core.Bool.{Bool, true, false, not, cond, ◌&&◌, ◌||◌}
use mathlib.Core.List.{List}
use native.Mathlib.Omega.{arith}
use lib.Dec.{eqb, leb}
use lib.IntN.{ℤ, pos}
use lib.Signed.{lt_z}
use borrow.Author.Tests.{eqb-true, eqb-false, ne_eqb, le-leb, lt-leb}
use Rattle.program.specs.Program.{Rule, term_form, term_in, variable_in}
use Rattle.program.specs.Variables.{is_founded, from_above, swaps}
use Rattle.program.specs.Directions.{opposite, away, plain_direction, term_direction, direction, is_rising, is_mixed}
use Rattle.program.specs.Readings.{kept}
use Rattle.program.specs.declared.Direction.{Direction}
use Rattle.program.specs.declared.Direction.TheVariants.{Rising, Falling, Mixed}
use Rattle.program.specs.declared.Term.{Term}
use Rattle.program.specs.declared.Variable.{Variable}
use Rattle.program.proofs.Pushes.{direction_is}
use Rattle.positions.specs.Positions.{OpenedIs}
use Rattle.positions.specs.declared.Opened.{Opened}
use Rattle.positions.proofs.Occurrences.{position_read}
use Rattle.positions.specs.Kinds.{kind_of, direction_of, plain_kind, kind_in, kept_by, KindsOf}
use Rattle.positions.specs.declared.kinds.Kinds.{Kinds}

-- ---- a direction

module _ (k : ℕ) where
  rising_kind : (p q : Bool) → eqb k 1 ≡ p → eqb k 2 ≡ q → (is_rising (cond q Falling Rising) && (p || q)) ≡ (p && (p || q))
  rising_kind true true e f = let z : ⊥ = omega (arith, eqb-true k 1 e, eqb-true k 2 f) in absurd z
  rising_kind true false e f = refl
  rising_kind false true e f = refl
  rising_kind false false e f = refl

  falling_kind : (p q : Bool) → (is_rising (cond q Rising Falling) && (p || q)) ≡ (q && (p || q))
  falling_kind p true = refl
  falling_kind p false = refl

  no_kind : (o p q : Bool) → eqb k 0 ≡ o → eqb k 1 ≡ p → eqb k 2 ≡ q → (is_rising (cond q Mixed Mixed) && (p || q)) ≡ (o && (p || q))
  no_kind true true q d e f = let z : ⊥ = omega (arith, eqb-true k 0 d, eqb-true k 1 e) in absurd z
  no_kind true false true d e f = let z : ⊥ = omega (arith, eqb-true k 0 d, eqb-true k 2 f) in absurd z
  no_kind true false false d e f = refl
  no_kind false p true d e f = refl
  no_kind false p false d e f = refl

kept_kind : (x : Variable) (d : Direction) → (is_rising (away x d) && is_founded x) ≡ (eqb x.kind (kind_of d) && is_founded x)
unfolding away swaps
kept_kind x Rising = rising_kind x.kind (eqb x.kind 1) (eqb x.kind 2) refl refl
kept_kind x Falling = falling_kind x.kind (eqb x.kind 1) (eqb x.kind 2)
kept_kind x Mixed = no_kind x.kind (eqb x.kind 0) (eqb x.kind 1) (eqb x.kind 2) refl refl refl

kind_and_back : (d : Direction) → direction_of (kind_of d) ≡ d
kind_and_back Rising = refl
kind_and_back Falling = refl
kind_and_back Mixed = refl

-- no founded variable has another kind
other_kind : (x : Variable) (n : ℕ) → (n ≡ 1 → ⊥) → (n ≡ 2 → ⊥) → (eqb x.kind n && is_founded x) ≡ false
other_kind x n h k = go (eqb x.kind n) refl
  where
    go : (t : Bool) → eqb x.kind n ≡ t → (t && is_founded x) ≡ false
    go true e = let q : x.kind ≡ n = eqb-true x.kind n e in simp (q, ne_eqb n 1 h, ne_eqb n 2 k)
    go false e = refl

-- ---- a term

module _ (h : Variable) (form : ℕ) (f : form ≡ 5 → ⊥) where
  plain_kind_is : (x : Variable) (z : ℤ) → kind_of (away h (plain_direction form x z)) ≡ plain_kind h form (lt_z z (pos 0))
  unfolding plain_direction plain_kind
  plain_kind_is x z = simp (ne_eqb form 5 f)

  chosen_kind : (b : Bool) → plain_kind h form b ≡ cond b (plain_kind h form true) (plain_kind h form false)
  chosen_kind true = refl
  chosen_kind false = refl

  pub term_kept : (x : Variable) (t : Term) → kept_by (plain_kind h form false) (plain_kind h form true) x t ≡ (is_rising (away x (term_direction h form x t)) && is_founded x)
  unfolding kept_by kind_in term_direction
  term_kept x t = sym (kept_kind x (term_direction h form x t) ∙ go (eqb t.op 0) (eqb t.op 1) (eqb t.op 2) refl refl refl)
    where
      n : ℕ
      n = cond (lt_z t.number (pos 0)) (plain_kind h form true) (plain_kind h form false)

      go : (a b c : Bool) → eqb t.op 0 ≡ a → eqb t.op 1 ≡ b → eqb t.op 2 ≡ c
          → (eqb x.kind (kind_of (term_direction h form x t)) && is_founded x) ≡ (eqb x.kind (cond (eqb t.op 0) n t.op) && is_founded x)
      go true b c p q r = rw p (ap (λ (k : ℕ). eqb x.kind k && is_founded x) (plain_kind_is x t.number ∙ chosen_kind (lt_z t.number (pos 0))))
      go false true c p q r = simp (eqb-true t.op 1 q)
      go false false true p q r = simp (eqb-true t.op 2 r)
      go false false false p q r = simp (p, q, r) (other_kind x 0 (λ e. absurd (omega arith)) (λ e. absurd (omega arith)) ∙ sym (other_kind x t.op (eqb-false t.op 1 q) (eqb-false t.op 2 r)))

  -- a term pushes as the kind that is kept there says
  pub term_directed : (x : Variable) (t : Term) → term_direction h form x t ≡ direction_of (kind_in (plain_kind h form false) (plain_kind h form true) t)
  unfolding kind_in term_direction
  term_directed x t = go (eqb t.op 0) (eqb t.op 1) (eqb t.op 2) refl refl refl
    where
      n : ℕ
      n = cond (lt_z t.number (pos 0)) (plain_kind h form true) (plain_kind h form false)

      go : (a b c : Bool) → eqb t.op 0 ≡ a → eqb t.op 1 ≡ b → eqb t.op 2 ≡ c
          → term_direction h form x t ≡ direction_of (cond (eqb t.op 0) n t.op)
      go true b c p q r = rw p (sym (kind_and_back _) ∙ ap direction_of (plain_kind_is x t.number ∙ chosen_kind (lt_z t.number (pos 0))))
      go false true c p q r = simp (eqb-true t.op 1 q)
      go false false true p q r = simp (eqb-true t.op 2 r)
      go false false false p q r = simp (p, q, r)

-- terms are read as of form 5 in form 5 alone
not_five : (form : ℕ) → (form ≡ 5 → ⊥) → term_form form ≡ 5 → ⊥
unfolding term_form
not_five form f = go (eqb form 8)
  where
    go : (t : Bool) → cond t 1 form ≡ 5 → ⊥
    go true e = omega arith
    go false e = f e

-- ---- a position

pub position_kept : (vs : List Variable) (r : Rule) (i : ℕ) {k : Kinds} {t : Term} {x : Variable} {b : Bool} → KindsOf vs r k → t ≡ term_in r.terms i
    → x ≡ variable_in vs t.variable → b ≡ kept_by k.up k.down x t → b ≡ kept vs r i
position_kept vs r i {k} {t} {x} {b} h p q e =
    let v = variable_in vs r.head in
    let f = term_form r.form in
    let a : b ≡ (is_rising (away x (term_direction v f x t)) && is_founded x) = e ∙ rw (h.up_is, h.down_is) (term_kept v f (not_five r.form h.other) x t) in
    (position_read vs r i {d = term_direction v f x t} refl p q refl a).kept_is

pub position_directed : (vs : List Variable) (r : Rule) (i : ℕ) {k : Kinds} {t : Term} {x : Variable} {n : ℕ} → KindsOf vs r k → t ≡ term_in r.terms i
    → x ≡ variable_in vs t.variable → n ≡ kind_in k.up k.down t → direction_of n ≡ direction vs r i
position_directed vs r i {k} {t} {x} {n} h p q e =
    let v = variable_in vs r.head in
    let f = term_form r.form in
    let a : term_direction v f x t ≡ direction_of (kind_in k.up k.down t) = rw (h.up_is, h.down_is) (term_directed v f (not_five r.form h.other) x t) in
    ap direction_of e ∙ sym a ∙ direction_is vs r i refl p q

-- ---- the code's tests

pub by_tests : (up down : ℕ) (t : Term) {a b : ℕ} → b ≡ cond (eqb t.op 0) a t.op → a ≡ cond (lt_z t.number (pos 0)) down up → b ≡ kind_in up down t
unfolding kind_in
by_tests up down t p q = p ∙ rw q

-- neither rising nor falling
pub mixed_by : (k : ℕ) → (not (eqb k 1) && not (eqb k 2)) ≡ is_mixed (direction_of k)
mixed_by k = go (eqb k 1) (eqb k 2)
  where
    go : (a b : Bool) → (not a && not b) ≡ is_mixed (cond a Rising (cond b Falling Mixed))
    go true b = refl
    go false true = refl
    go false false = refl

pub kept_by_lem : (up down : ℕ) (x : Variable) (t : Term) {b : ℕ} {f : Bool} → b ≡ kind_in up down t → f ≡ (eqb x.kind b && is_founded x) → f ≡ kept_by up down x t
unfolding kept_by
kept_by_lem up down x t p q = q ∙ rw p

abbrev sums : ℕ → Bool
sums form = eqb form 1 || eqb form 8

abbrev rises : ℕ → Bool
rises form = (sums form || eqb form 7) || (leb 2 form && leb form 4)

rising_is : (a : Bool) → cond a 2 1 ≡ kind_of (cond a Falling Rising)
rising_is true = refl
rising_is false = refl

falling_is : (a : Bool) → cond a 1 2 ≡ kind_of (cond a Rising Falling)
falling_is true = refl
falling_is false = refl

mixed_is : (a : Bool) → 0 ≡ kind_of (cond a Mixed Mixed)
mixed_is true = refl
mixed_is false = refl

-- a number from 9 on is no form
other : (n : ℕ) → 9 ≤ n → (k : ℕ) → k ≤ 8 → eqb n k ≡ false
other n h k l = ne_eqb n k (λ e. omega arith)

-- what holds of each form holds of every number
nine : (P : ℕ → Type 0) → P 0 → P 1 → P 2 → P 3 → P 4 → P 5 → P 6 → P 7 → P 8 → ((n : ℕ) → 9 ≤ n → P n) → (n : ℕ) → P n
nine P a b c d e f g i j k zero = a
nine P a b c d e f g i j k (suc zero) = b
nine P a b c d e f g i j k (suc (suc zero)) = c
nine P a b c d e f g i j k (suc (suc (suc zero))) = d
nine P a b c d e f g i j k (suc (suc (suc (suc zero)))) = e
nine P a b c d e f g i j k (suc (suc (suc (suc (suc zero))))) = f
nine P a b c d e f g i j k (suc (suc (suc (suc (suc (suc zero)))))) = g
nine P a b c d e f g i j k (suc (suc (suc (suc (suc (suc (suc zero))))))) = i
nine P a b c d e f g i j k (suc (suc (suc (suc (suc (suc (suc (suc zero)))))))) = j
nine P a b c d e f g i j k (suc (suc (suc (suc (suc (suc (suc (suc (suc n))))))))) = k (suc (suc (suc (suc (suc (suc (suc (suc (suc n))))))))) (omega arith)

no-sum : (n : ℕ) → 9 ≤ n → (a b : ℕ) → cond (sums n) a b ≡ b
no-sum n l a b = simp (other n l 1 (omega arith), other n l 8 (omega arith))

no-rise : (n : ℕ) → 9 ≤ n → (a : ℕ) → cond (rises n) a 0 ≡ 0
no-rise n l a = simp (other n l 1 (omega arith), other n l 8 (omega arith), other n l 7 (omega arith), le-leb 2 n (omega arith), lt-leb n 4 (omega arith))

module _ (h : Variable) where
  no_form : (n : ℕ) → 9 ≤ n → (b : Bool) → 0 ≡ plain_kind h (term_form n) b
  unfolding plain_kind term_form away swaps
  no_form n l b =
      simp (other n l 8 (omega arith), other n l 1 (omega arith), other n l 2 (omega arith), other n l 3 (omega arith), other n l 4 (omega arith), other n l 7 (omega arith))
      (mixed_is (from_above h))

  up_kind : (form : ℕ) → cond (rises form) (cond (from_above h) 2 1) 0 ≡ plain_kind h (term_form form) false
  unfolding plain_kind term_form away swaps
  up_kind = nine (λ form. cond (rises form) (cond (from_above h) 2 1) 0 ≡ plain_kind h (term_form form) false)
      (mixed_is (from_above h)) (rising_is (from_above h)) (rising_is (from_above h)) (rising_is (from_above h)) (rising_is (from_above h)) (mixed_is (from_above h)) (mixed_is (from_above h)) (rising_is (from_above h)) (rising_is (from_above h))
      (λ n l. no-rise n l _ ∙ no_form n l false)

  down_kind : (form : ℕ) {u : ℕ} → u ≡ plain_kind h (term_form form) false → cond (sums form) (cond (from_above h) 1 2) u ≡ plain_kind h (term_form form) true
  unfolding plain_kind term_form away swaps
  down_kind form {u} = nine (λ form. u ≡ plain_kind h (term_form form) false → cond (sums form) (cond (from_above h) 1 2) u ≡ plain_kind h (term_form form) true)
      (λ e. e) (λ e. falling_is (from_above h)) (λ e. e) (λ e. e) (λ e. e) (λ e. e) (λ e. e) (λ e. e) (λ e. falling_is (from_above h))
      (λ n l e. no-sum n l _ u ∙ e ∙ sym (no_form n l false) ∙ no_form n l true) form

  pub kinds_are : (form : ℕ) {a : Bool} {up down same turned : ℕ} → a ≡ from_above h → same ≡ cond a 2 1 → up ≡ cond (rises form) same 0 → turned ≡ cond a 1 2
      → down ≡ cond (sums form) turned up → (up ≡ plain_kind h (term_form form) false) × (down ≡ plain_kind h (term_form form) true)
  kinds_are form {up = up} e p q r d =
      let u : up ≡ plain_kind h (term_form form) false = q ∙ rw (p, e) (up_kind form) in
      (u, d ∙ rw (r, e) (down_kind form u))

pub rule_kinds : (vs : List Variable) (r : Rule) {o : Opened} {k : Kinds} → OpenedIs vs r o → (o.form ≡ 5 → ⊥)
    → k ≡ record { up = plain_kind o.variable (term_form o.form) false; down = plain_kind o.variable (term_form o.form) true } → KindsOf vs r k
rule_kinds vs r {o} {k} x f q = record {
  other = λ e. f (x.form_is ∙ e);
  up_is = ap (λ (k : Kinds). k.up) q ∙ same false;
  down_is = ap (λ (k : Kinds). k.down) q ∙ same true;
}
  where
    same : (b : Bool) → plain_kind o.variable (term_form o.form) b ≡ plain_kind (variable_in vs r.head) (term_form r.form) b
    same b = rw (x.variable_is, x.form_is)
