-- The plain rule of a node meets no refusal: its form is 1, 2 or 3, its head founded, its operands declared, from 1 to 16, and no two the same.
use Prim.Native.Nat.{ℕ, zero, suc, ◌<◌, ◌≤◌}
use mathlib.Core.Path.{◌≡◌, refl, sym, ap, ◌∙◌}
use mathlib.Core.Logic.{◌≢◌}
use mathlib.Core.Bool.{Bool, true, false}
use mathlib.Core.List.{List, [], ◌∷◌, ◌++◌, map}
use native.Mathlib.Omega.{arith}
use lib.ListN.{length, get_or, length-map}
use borrow.Author.Tests.{lt-leb, le-ltb, eqb-false, ne_eqb}
use Rattle.trees.specs.Tree.{max_children}
use Rattle.format.specs.Limits.{max_terms}
use Rattle.format.specs.Numbers.{beyond}
use Rattle.program.specs.Program.{rule, variable_in, term_in, no_term, term_form, divisor_terms}
use Rattle.program.specs.Variables.{is_founded}
use Rattle.program.specs.Refusals.{any_term, literal_position, wrong_op, must_be_zero, wrong_term, unknown_form, wrong_form, outside_term, outside_range}
use Rattle.program.specs.Refusals.{undeclared_term, wrong_head, undeclared, not_from, wrong_count_of, wrong_divisors}
use Rattle.program.specs.Refusals.{wrong_count, repeated_term, variable_twice, negative_term, negative_product, item_refusal}
use Rattle.program.specs.Tables.{any_below}
use Rattle.program.specs.Encode.{All}
use Rattle.program.specs.declared.Variable.{Variable}
use Rattle.program.specs.declared.Term.{Term}
use Rattle.program.proofs.Conditions.{none_below, below_none}
use Rattle.program.proofs.Encoding.{all_of}
use Rattle.normal.proofs.Fine.{fine_item}
use Rattle.nested.specs.Flatten.{node_term, node_rule}
use Rattle.nested.proofs.Alongs.{map_at, all_at, all_first}

-- ---- no two the same

abbrev pub Apart : List ℕ → Type 0
Apart [] = Unit {0}
Apart (x ∷ xs) = All (λ y. x ≢ y) xs × Apart xs

pub apart_first : (xs ys : List ℕ) → Apart (xs ++ ys) → Apart xs
apart_first [] ys a = tt
apart_first (x ∷ xs) ys a = (all_first (λ y. x ≢ y) xs ys a.0, apart_first xs ys a.1)

pub apart_second : (xs ys : List ℕ) → Apart (xs ++ ys) → Apart ys
apart_second [] ys a = a
apart_second (x ∷ xs) ys a = apart_second xs ys a.1

apart_at : (xs : List ℕ) → Apart xs → (i j : ℕ) → i < length xs → j < i → get_or xs j 0 ≢ get_or xs i 0
apart_at [] a i j h l = let f : ⊥ = omega arith in absurd f
apart_at (x ∷ xs) a zero j h l = let f : ⊥ = omega arith in absurd f
apart_at (x ∷ xs) a (suc i) zero h l = all_at (λ y. x ≢ y) 0 xs a.0 i (omega arith)
apart_at (x ∷ xs) a (suc i) (suc j) h l = apart_at xs a.1 i j (omega arith) (omega arith)

at_apart : (xs : List ℕ) → ((i j : ℕ) → i < length xs → j < i → get_or xs j 0 ≢ get_or xs i 0) → Apart xs
at_apart [] h = tt
at_apart (x ∷ xs) h = (all_of (λ y. x ≢ y) 0 xs (λ i l. h (suc i) 0 (omega arith) (omega arith)), at_apart xs (λ i j l m. h (suc i) (suc j) (omega arith) (omega arith)))

-- ---- the terms of a node

module _ (form : ℕ) (xs : List ℕ) where
  abbrev terms : List Term
  terms = map (node_term form) xs

  pub term_at_is : (i : ℕ) → i < length xs → term_in terms i ≡ node_term form (get_or xs i 0)
  term_at_is i h = map_at (node_term form) xs i 0 no_term h

  -- a property that no term has
  no_term_is : (p : ℕ → Term → Bool) → ((i : ℕ) → i < length xs → p i (node_term form (get_or xs i 0)) ≡ false) → any_term terms p ≡ false
  no_term_is p h = below_none (length terms) _ (λ i l. let k : i < length xs = omega (arith, length-map xs (node_term form)) in ap (p i) (term_at_is i k) ∙ h i k)

  never_twice : Apart xs → any_term terms (λ i t. repeated_term terms i) ≡ false
  unfolding repeated_term
  never_twice a = below_none (length terms) _ (λ i l. below_none i _ (λ j m. ne_eqb (term_in terms j).variable (term_in terms i).variable (apart i j l m)))
    where
      apart : (i j : ℕ) → i < length terms → j < i → (term_in terms j).variable ≢ (term_in terms i).variable
      apart i j l m e =
          let k : i < length xs = omega (arith, length-map xs (node_term form)) in
          apart_at xs a i j k m (sym (ap (λ (t : Term). t.variable) (term_at_is j (omega arith))) ∙ e ∙ ap (λ (t : Term). t.variable) (term_at_is i k))

  pub never_apart : any_term terms (λ i t. repeated_term terms i) ≡ false → Apart xs
  unfolding repeated_term
  never_apart e = at_apart xs (λ i j l m q.
      eqb-false (term_in terms j).variable (term_in terms i).variable
      (none_below i _ (none_below (length terms) _ e i (omega (arith, length-map xs (node_term form)))) j m)
      (ap (λ (t : Term). t.variable) (term_at_is j (omega arith)) ∙ q ∙ sym (ap (λ (t : Term). t.variable) (term_at_is i l))))

-- the forms of nodes
three : (P : ℕ → Type 0) → P 1 → P 2 → P 3 → (form : ℕ) → 1 ≤ form → form ≤ 3 → P form
three P a b c zero h l = let f : ⊥ = omega arith in absurd f
three P a b c (suc zero) h l = a
three P a b c (suc (suc zero)) h l = b
three P a b c (suc (suc (suc zero))) h l = c
three P a b c (suc (suc (suc (suc form)))) h l = let f : ⊥ = omega arith in absurd f

-- what a node's rule asks of the variables ws
pub record NodeFits (ws : List Variable) (form h : ℕ) (xs : List ℕ) : Type 0 where
  pub from : 1 ≤ form
  pub to : form ≤ 3
  pub head : h < length ws
  pub founded : is_founded (variable_in ws h) ≡ true
  pub some : 1 ≤ length xs
  pub few : length xs ≤ max_children
  pub declared : All (λ x. x < length ws) xs
  pub apart : Apart xs

module _ {ws : List Variable} {form h : ℕ} {xs : List ℕ} (f : NodeFits ws form h xs) where
  node_formed : wrong_form (rule (node_rule form h xs)) ≡ false
  unfolding wrong_form unknown_form wrong_term wrong_op must_be_zero literal_position term_form any_below
  node_formed = three (λ n. wrong_form (rule (node_rule n h xs)) ≡ false)
      (no_term_is 1 xs (wrong_term 1) (λ i l. refl)) (no_term_is 2 xs (wrong_term 2) (λ i l. refl)) (no_term_is 3 xs (wrong_term 3) (λ i l. refl)) form f.from f.to

  node_ranged : outside_range (rule (node_rule form h xs)) ≡ false
  unfolding outside_range outside_term literal_position term_form beyond any_below
  node_ranged = three (λ n. outside_range (rule (node_rule n h xs)) ≡ false)
      (no_term_is 1 xs (outside_term 1) (λ i l. refl)) (no_term_is 2 xs (outside_term 2) (λ i l. refl)) (no_term_is 3 xs (outside_term 3) (λ i l. refl)) form f.from f.to

  node_declared : undeclared ws (rule (node_rule form h xs)) ≡ false
  unfolding undeclared wrong_head undeclared_term
  node_declared =
      rw (lt-leb (length ws) h f.head, f.founded)
      (no_term_is form xs (λ i t. undeclared_term ws t) (λ i l. lt-leb (length ws) (get_or xs i 0) (all_at (λ x. x < length ws) 0 xs f.declared i l)))

  node_counted : wrong_count (rule (node_rule form h xs)) ≡ false
  unfolding wrong_count wrong_divisors wrong_count_of divisor_terms term_form
  node_counted = three (λ m. wrong_count (rule (node_rule m h xs)) ≡ false) (counted 1 0 (omega arith)) (counted 2 1 (omega arith)) (counted 3 1 (omega arith))
      form f.from f.to
    where
      counted : (m least : ℕ) → least ≤ 1 → not_from least max_terms (length (map (node_term m) xs)) ≡ false
      counted m least l =
          let n = length (map (node_term m) xs) in
          rw (
            le-ltb n least (omega (arith, length-map xs (node_term m), f.some)),
            le-ltb max_terms n (omega (arith, length-map xs (node_term m), f.few)),
          )

  node_product : negative_product ws (rule (node_rule form h xs)) ≡ false
  unfolding negative_product negative_term term_form
  node_product = three (λ n. negative_product ws (rule (node_rule n h xs)) ≡ false)
      (no_term_is 1 xs (λ i t. negative_term ws 1 t) (λ i l. refl))
      (no_term_is 2 xs (λ i t. negative_term ws 2 t) (λ i l. refl))
      (no_term_is 3 xs (λ i t. negative_term ws 3 t) (λ i l. refl))
      form f.from f.to

  pub node_fine : item_refusal ws (rule (node_rule form h xs)) ≡ 0
  unfolding variable_twice
  node_fine = fine_item (record {
    formed = node_formed;
    ranged = node_ranged;
    declared = node_declared;
    counted = node_counted;
    once = never_twice form xs f.apart;
    product = node_product;
  })
