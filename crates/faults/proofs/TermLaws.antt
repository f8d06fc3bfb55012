-- What may stand in a term, case by case.
use Prim.Native.Nat.{ℕ, suc, ◌+◌, ◌*◌, ◌-◌, ◌^◌, ◌<◌, ◌≤◌}
use mathlib.Core.Path.{◌≡◌, refl, sym, ap, ◌∙◌}
use mathlib.Core.List.{List}
use mathlib.Core.Bool.{Bool, true, false, not, ◌||◌, ◌&&◌}
use lib.Dec.{eqb}
use lib.IntN.{ℤ, pos, negsuc, nat_abs}
use lib.ListN.{length, get_or, get_or-eq_default}
use lib.Signed.{lt_z}
use mir.Syntax.{w64}
use mir.Val.{SFits, of_z}
use native.Mathlib.Omega.{arith}
use borrow.Author.Tests.{eq-eqb, ne_eqb, eqb-false}
use Rattle.format.specs.Limits.{max_number, max_coefficient, max_divisor}
use Rattle.format.specs.Numbers.{beyond}
use Rattle.program.specs.Tables.{any_below}
use Rattle.program.specs.Program.{terms_of, term_in, variable_in, variables_at, no_variable}
use Rattle.program.specs.Refusals.{wrong_divisor, outside_divisor, literal_position, wrong_op, must_be_zero, wrong_term, outside_term, repeated_term, negative_term}
use Rattle.program.proofs.Bodies.{term_at_is}
use Rattle.program.proofs.Conditions.{any_more, below_some}
use Rattle.program.proofs.Places.{variables_length}
use Rattle.program.specs.declared.Variable.{Variable}
use Rattle.program.specs.declared.Term.{Term}

-- a number is 0 where its bits are
pub zero_bits : (z : ℤ) → SFits w64 z → eqb (of_z w64 z) 0 ≡ eqb (nat_abs z) 0
zero_bits (pos n) f = refl
zero_bits (negsuc n) f =
    ne_eqb (2 ^ 64 - suc n) 0 (let h : n < 2 ^ 63 = f.sfits in omega arith) ∙ sym (ne_eqb (suc n) 0 (omega arith))

one_or_two : (op : ℕ) → 1 ≤ op → op ≤ 2 → (eqb op 1 || eqb op 2) ≡ true
one_or_two op h k = go (eqb op 1) refl
  where
    go : (t : Bool) → eqb op 1 ≡ t → (t || eqb op 2) ≡ true
    go true e = refl
    go false e = eq-eqb op 2 (let n = eqb-false op 1 e in omega arith)

module _ (form i : ℕ) where
  pub position_if : form ≡ 6 → true ≡ literal_position form i
  unfolding literal_position
  position_if h = rw h

  pub position_carry : form ≡ 7 → not (eqb i 0) ≡ literal_position form i
  unfolding literal_position
  position_carry h = rw h

  pub position_plain : (form ≡ 6 → ⊥) → (form ≡ 7 → ⊥) → false ≡ literal_position form i
  unfolding literal_position
  position_plain h k = simp (ne_eqb form 6 h, ne_eqb form 7 k)

  pub zero_literal : literal_position form i ≡ true → false ≡ must_be_zero form i
  unfolding must_be_zero
  zero_literal h = simp h

  pub zero_plain : literal_position form i ≡ false → not (eqb form 1) ≡ must_be_zero form i
  unfolding must_be_zero
  zero_plain h = simp h

  pub op_plain : (op : ℕ) (l : Bool) → l ≡ literal_position form i → op ≡ 0 → l ≡ wrong_op form i op
  unfolding wrong_op
  op_plain op true e h = rw (← e, h)
  op_plain op false e h = rw (← e, h)

  pub op_literal : (op : ℕ) (l : Bool) → l ≡ literal_position form i → 1 ≤ op → op ≤ 2 → not l ≡ wrong_op form i op
  unfolding wrong_op
  op_literal op true e h k = simp (← e, one_or_two op h k)
  op_literal op false e h k = simp (← e, ne_eqb op 0 (omega arith))

  pub op_unknown : (op : ℕ) (l : Bool) → l ≡ literal_position form i → 2 < op → true ≡ wrong_op form i op
  unfolding wrong_op
  op_unknown op true e h = simp (← e, ne_eqb op 1 (omega arith), ne_eqb op 2 (omega arith))
  op_unknown op false e h = simp (← e, ne_eqb op 0 (omega arith))

  module _ (t : Term) where
    pub wrong_op_is : wrong_op form i t.op ≡ true → true ≡ wrong_term form i t
    unfolding wrong_term
    wrong_op_is h = simp h

    pub wrong_zero : wrong_op form i t.op ≡ false → must_be_zero form i ≡ true → (b : Bool) → b ≡ eqb (nat_abs t.number) 0 → not b ≡ wrong_term form i t
    unfolding wrong_term
    wrong_zero h k b e = simp (h, k, e)

    pub wrong_none : wrong_op form i t.op ≡ false → must_be_zero form i ≡ false → false ≡ wrong_term form i t
    unfolding wrong_term
    wrong_none h k = simp (h, k)

    pub outside_literal : literal_position form i ≡ true → beyond max_number t.number ≡ outside_term form i t
    unfolding outside_term
    outside_literal k = simp k

    pub outside_plain : literal_position form i ≡ false → (form ≡ 1 → ⊥) → false ≡ outside_term form i t
    unfolding outside_term
    outside_plain k f = simp (k, ne_eqb form 1 f)

    pub outside_zero : literal_position form i ≡ false → form ≡ 1 → eqb (nat_abs t.number) 0 ≡ true → true ≡ outside_term form i t
    unfolding outside_term
    outside_zero k f z = simp (k, eq-eqb form 1 f, z)

    pub outside_sum : literal_position form i ≡ false → form ≡ 1 → eqb (nat_abs t.number) 0 ≡ false → beyond max_coefficient t.number ≡ outside_term form i t
    unfolding outside_term
    outside_sum k f z = simp (k, eq-eqb form 1 f, z)

-- the variable of a term stands at its first byte
pub variable_byte : (body : List ℕ) (i : ℕ) → 4 * i + 4 ≤ length body → (term_in (terms_of body) i).variable ≡ get_or body (4 * i) 0
variable_byte body i h = ap (λ (t : Term). t.variable) (term_at_is body i (omega arith))

-- whether position j has the variable of position i
abbrev pub same_as : List ℕ → ℕ → ℕ → Bool
same_as body i j = eqb (term_in (terms_of body) j).variable (term_in (terms_of body) i).variable

-- the positions before i whose variable is that of position i
module _ (body : List ℕ) (i : ℕ) (h : 4 * i + 4 ≤ length body) where
  pub repeated_none : (j : ℕ) → j < i → (get_or body (4 * j) 0 ≡ get_or body (4 * i) 0 → ⊥) → false ≡ any_below j (same_as body i)
      → false ≡ any_below (j + 1) (same_as body i)
  repeated_none j k f e =
      any_more j _ false false e (sym (rw (variable_byte body i h, variable_byte body j (omega arith)) (ne_eqb _ _ f)))

  pub repeated_some : (j : ℕ) → j < i → get_or body (4 * j) 0 ≡ get_or body (4 * i) 0 → true ≡ repeated_term (terms_of body) i
  unfolding repeated_term
  repeated_some j k e =
      sym (below_some i (same_as body i) j k (rw (variable_byte body i h, variable_byte body j (omega arith)) (eq-eqb _ _ e)))

  pub repeated_done : (j : ℕ) → j ≡ i → false ≡ any_below j (same_as body i) → false ≡ repeated_term (terms_of body) i
  unfolding repeated_term
  repeated_done j k e = rw k at e

module _ (vs : List Variable) (form : ℕ) (t : Term) where
  pub negative_other : (form ≡ 4 → ⊥) → false ≡ negative_term vs form t
  unfolding negative_term
  negative_other h = simp (ne_eqb form 4 h)

  pub negative_low : form ≡ 4 → lt_z (variable_in vs t.variable).low (pos 0) ≡ negative_term vs form t
  unfolding negative_term
  negative_low h = simp (eq-eqb form 4 h)

-- the low of the term's variable, where that is declared
module _ (s : List ℕ) (n form : ℕ) (t : Term) (h : form ≡ 4) where
  pub negative_declared : {x : Variable} → x ≡ variable_in (variables_at s n) t.variable → lt_z x.low (pos 0) ≡ negative_term (variables_at s n) form t
  negative_declared e = ap (λ (y : Variable). lt_z y.low (pos 0)) e ∙ negative_low (variables_at s n) form t h

  pub negative_undeclared : n ≤ t.variable → false ≡ negative_term (variables_at s n) form t
  negative_undeclared k =
      ap (λ (y : Variable). lt_z y.low (pos 0)) (sym (get_or-eq_default (variables_at s n) no_variable (omega (arith, variables_length s n))))
      ∙ negative_low (variables_at s n) form t h

-- ---- the divisor's term

module _ (t : Term) where
  pub divisor_op : t.op ≡ 3 → not (eqb t.variable 0) ≡ wrong_divisor t
  unfolding wrong_divisor
  divisor_op h = go (eqb t.variable 0) refl
    where
      go : (b : Bool) → eqb t.variable 0 ≡ b → not b ≡ not (b && eqb t.op 3)
      go true e = rw (eq-eqb t.op 3 h)
      go false e = refl

  pub divisor_other_op : (t.op ≡ 3 → ⊥) → true ≡ wrong_divisor t
  unfolding wrong_divisor
  divisor_other_op h = go (eqb t.variable 0)
    where
      go : (b : Bool) → true ≡ not (b && eqb t.op 3)
      go true = rw (ne_eqb t.op 3 h)
      go false = refl

  pub divisor_below : lt_z t.number (pos 1) ≡ true → true ≡ outside_divisor t
  unfolding outside_divisor
  divisor_below h = simp h

  pub divisor_above : lt_z t.number (pos 1) ≡ false → lt_z (pos max_divisor) t.number ≡ outside_divisor t
  unfolding outside_divisor
  divisor_above h = simp h
