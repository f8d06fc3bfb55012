-- The normal form of a proper program has no more fields and no more bytes, and is proper where it is valid.
use Prim.Native.Nat.{ℕ, ◌+◌, ◌≤◌}
use mathlib.Core.Path.{◌≡◌, refl, sym, ap, subst, ◌∙◌}
use mathlib.Core.Bool.{Bool}
use mathlib.Core.Logic.{◌⊎◌, inl, inr, ⊎_elim}
use mathlib.Core.List.{List, [], ◌∷◌, ◌++◌}
use native.Mathlib.Omega.{arith}
use lib.Dec.{T}
use lib.ListN.{length, length-append}
use Rattle.format.specs.Numbers.{bytes_of}
use Rattle.program.specs.Program.{Program, Rule, Constraint, variable, rule, constraint}
use Rattle.program.specs.Refusals.{item_refusal}
use Rattle.program.specs.Components.{Valid}
use Rattle.program.specs.Encode.{each, rule_bytes, constraint_bytes, variable_bytes, encode, All, Proper}
use Rattle.program.specs.declared.Variable.{Variable}
use Rattle.program.proofs.Promises.{rule_promised, constraint_promised}
use Rattle.program.proofs.Encoding.{rule_size, terms_size}
use Rattle.normal.specs.Listing.{Among, Ascending}
use Rattle.normal.specs.Ordered.{OrderedRule, OrderedConstraint}
use Rattle.normal.specs.Normal.{Normal}
use Rattle.normal.proofs.Listings.{Strict, all_among, among_all}
use Rattle.normal.proofs.OrderedLaws.{ordered_rule_unique, ordered_constraint_unique}
use Rattle.normal.proofs.Normals.{rule_strict, constraint_strict}
use Rattle.normal.proofs.Folds.{rule_rearranged, constraint_rearranged}
use Rattle.normal.proofs.Alikes.{fine_rule, fine_constraint}
use Rattle.normal.proofs.Fine.{ordered_rule_fine, ordered_constraint_fine}

-- ---- the weights of a list's elements, added up; and of the list with one element less

module _ {A : Type 0} where
  total : (A → ℕ) → List A → ℕ
  total w [] = 0
  total w (x ∷ xs) = w x + total w xs

  total_ones : (xs : List A) → length xs ≡ total (λ x. 1) xs
  unfolding total
  total_ones [] = refl
  total_ones (x ∷ xs) = let e = total_ones xs in omega arith

  total_each : (f : A → List ℕ) (xs : List A) → length (each f xs) ≡ total (λ x. length (f x)) xs
  unfolding total
  total_each f [] = refl
  total_each f (x ∷ xs) = let e = total_each f xs in omega (arith, length-append (f x) (each f xs))

  without : (x : A) (xs : List A) → Among x xs → List A
  without x (y ∷ ys) (inl e) = ys
  without x (y ∷ ys) (inr m) = y ∷ without x ys m
  without x [] x'' = elim x'' [ ]

  total_without : (w : A → ℕ) (x : A) (xs : List A) (m : Among x xs) → total w xs ≡ w x + total w (without x xs m)
  unfolding total without
  total_without w x (y ∷ ys) (inl e) = rw e
  total_without w x (y ∷ ys) (inr m) = let h = total_without w x ys m in omega arith
  total_without w x [] m = elim m [ ]

  among_without : (x z : A) (xs : List A) (m : Among x xs) → Among z xs → (z ≡ x) ⊎ Among z (without x xs m)
  unfolding without
  among_without x z (y ∷ ys) (inl e) (inl f) = inl (f ∙ sym e)
  among_without x z (y ∷ ys) (inl e) (inr n) = inr n
  among_without x z (y ∷ ys) (inr m) (inl f) = inr (inl f)
  among_without x z (y ∷ ys) (inr m) (inr n) = ⊎_elim inl (λ l. inr (inr l)) (among_without x z ys m n)
  among_without x z [] m n = elim m [ ]

-- ---- a list without repeats, each element of which comes from one of another list that weighs no less, weighs no more in all

module _ {A : Type 0} (From : A → A → Type 0) (one : (x y z : A) → From x y → From x z → y ≡ z) {less : A → A → Bool} (strict : Strict less)
    (w : A → ℕ) (no_more : (x y : A) → From x y → w y ≤ w x) where
  weighs_less : (xs ys : List A) → Ascending less ys → ((y : A) → Among y ys → (x : A) × Among x xs × From x y) → total w ys ≤ total w xs
  unfolding total
  weighs_less xs [] a f = omega arith
  weighs_less xs (y ∷ ys) a f =
      let x = f y (inl refl) in
      let rest = without x.0 xs x.1 in
      let h = weighs_less rest ys a.1 (λ z m. let u = f z (inr m) in
      (u.0, ⊎_elim (λ e. absurd (other z m u x e)) (λ l. l) (among_without x.0 u.0 xs x.1 u.1), u.2)) in
      omega (arith, total_without w x.0 xs x.1, no_more x.0 y x.2)
    where
      other : (z : A) → Among z ys → (u : (x : A) × Among x xs × From x z) (x : (x : A) × Among x xs × From x y) → u.0 ≡ x.0 → ⊥
      other z m u x e =
          let t = all_among (λ z. T (less y z)) z ys a.0 m in
          let same = one x.0 z y (subst (λ x. From x z) e u.2) x.2 in
          let s = subst (λ z. T (less y z)) same t in
          strict.asym y y s s

-- ---- rules and constraints

encode_size : (P : Program) → length (encode P)
    ≡ length (each variable_bytes P.variables) + (total (λ r. length (rule_bytes r)) P.rules + total (λ k. length (constraint_bytes k)) P.constraints)
unfolding encode
encode_size P =
    let rules = each rule_bytes P.rules in
    let constraints = each constraint_bytes P.constraints in
    omega (
      arith,
      length-append (each variable_bytes P.variables) (rules ++ constraints),
      length-append rules constraints,
      total_each rule_bytes P.rules,
      total_each constraint_bytes P.constraints,
    )

module _ {P Q : Program} (p : Proper P) (n : Normal P Q) where
  -- q is the rule r of P in order, l its constraint k
  abbrev RuleFrom : Rule → Rule → Type 0
  RuleFrom r q = Among r P.rules × OrderedRule r q

  abbrev ConstraintFrom : Constraint → Constraint → Type 0
  ConstraintFrom k l = Among k P.constraints × OrderedConstraint k l

  rules_weigh : (w : Rule → ℕ) → ((r q : Rule) → RuleFrom r q → w q ≤ w r) → total w Q.rules ≤ total w P.rules
  rules_weigh w h = weighs_less RuleFrom (λ r q q' o o'. ordered_rule_unique o.1 o'.1) rule_strict w h P.rules Q.rules n.rules.ascending
      (λ q m. let o = (n.rules.exactly q).0 m in (o.rule, o.among, (o.among, o.ordered)))

  constraints_weigh : (w : Constraint → ℕ) → ((k l : Constraint) → ConstraintFrom k l → w l ≤ w k) → total w Q.constraints ≤ total w P.constraints
  constraints_weigh w h = weighs_less ConstraintFrom (λ k l l' o o'. ordered_constraint_unique o.1 o'.1) constraint_strict w h P.constraints Q.constraints
      n.constraints.ascending (λ l m. let o = (n.constraints.exactly l).0 m in (o.constraint, o.among, (o.among, o.ordered)))

  pub few_normal_rules : length Q.rules ≤ length P.rules
  few_normal_rules = omega (arith, total_ones Q.rules, total_ones P.rules, rules_weigh (λ r. 1) (λ r q o. omega arith))

  pub few_normal_constraints : length Q.constraints ≤ length P.constraints
  few_normal_constraints = omega (arith, total_ones Q.constraints, total_ones P.constraints, constraints_weigh (λ k. 1) (λ k l o. omega arith))

  rule_long : (r q : Rule) → RuleFrom r q → length (rule_bytes q) ≤ length (rule_bytes r)
  rule_long r q o =
      let m = rule_rearranged (rule_promised P.variables r (fine_rule p r o.0)) o.1 in
      omega (arith, rule_size r, rule_size q, ap length o.1.divisor, m.sizes)

  constraint_long : (k l : Constraint) → ConstraintFrom k l → length (constraint_bytes l) ≤ length (constraint_bytes k)
  unfolding bytes_of
  constraint_long k l o =
      let m = constraint_rearranged (constraint_promised P.variables k (fine_constraint p k o.0)) o.1 in
      omega (arith, terms_size k.terms, terms_size l.terms, m.sizes)

  pub normal_short : length (encode Q) ≤ length (encode P)
  normal_short =
      let variables = ap (λ (vs : List Variable). length (each variable_bytes vs)) n.variables in
      omega (arith, encode_size Q, encode_size P, variables, rules_weigh (λ r. length (rule_bytes r)) rule_long, constraints_weigh (λ k. length (constraint_bytes k)) constraint_long)

pub normal_proper : {P Q : Program} → Valid Q → Proper P → Normal P Q → Proper Q
normal_proper {P} {Q} v p n = record {
  short = omega (arith, normal_short p n, p.short);
  few_variables = omega (arith, ap (λ (vs : List Variable). length vs) n.variables, p.few_variables);
  few_rules = omega (arith, few_normal_rules p n, p.few_rules);
  few_constraints = omega (arith, few_normal_constraints p n, p.few_constraints);
  fine_variables = subst (λ vs. All (λ x. item_refusal vs (variable x) ≡ 0) vs) (sym n.variables) p.fine_variables;
  fine_rules = among_all _ Q.rules (λ q m. let o = (n.rules.exactly q).0 m in
      subst (λ vs. item_refusal vs (rule q) ≡ 0) (sym n.variables) (ordered_rule_fine P.variables o.rule q (fine_rule p o.rule o.among) o.ordered));
  fine_constraints = among_all _ Q.constraints (λ l m. let o = (n.constraints.exactly l).0 m in
      subst (λ vs. item_refusal vs (constraint l) ≡ 0) (sym n.variables)
      (ordered_constraint_fine P.variables o.constraint l (fine_constraint p o.constraint o.among) o.ordered));
  valid = v;
}
