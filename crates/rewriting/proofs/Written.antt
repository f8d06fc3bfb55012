-- The fields of the ordered text, sorted without repeats, are the fields of the normal form.
use Prim.Native.Nat.{ℕ, ◌+◌, ◌-◌, ◌<◌}
use mathlib.Core.Path.{◌≡◌, refl, sym, ap, ap₂, ◌∙◌, subst}
use mathlib.Core.Logic.Iff
use mathlib.Core.Logic.{◌⊎◌, inl, inr}
use mathlib.Core.List.{List, [], ◌∷◌, ◌++◌, map}
use native.Mathlib.Omega.{arith}
use native.Mathlib.Decide.{dec_lt}
use lib.Dec.{T}
use lib.ListN.{length, get_or}
use Rattle.program.specs.Program.{Program, Rule, Constraint, rule_in, constraint_in, no_rule, no_constraint}
use Rattle.program.specs.Encode.{each, rule_bytes, constraint_bytes}
use Rattle.program.proofs.RoundTrip.{each_append}
use Rattle.normal.specs.Listing.{Among, Listing}
use Rattle.normal.specs.Ordered.{OrderedRule, OrderedConstraint}
use Rattle.normal.specs.Normal.{less_bytes, rule_less, constraint_less, HasRule, HasConstraint, Normal}
use Rattle.normal.proofs.Listings.{ascending_map, ascending_append, among_at, at_among, among_left, among_right, among_append, among_map, map_among, listing_unique}
use Rattle.normal.proofs.ByteOrder.{bytes_strict}
use Rattle.normal.proofs.OrderedLaws.{ordered_rule_unique, ordered_constraint_unique}
use Rattle.sorting.specs.Sorts.{Sorts}
use Rattle.rewriting.specs.Writing.{FieldsOf}

-- ---- bytes one after the other

each_map : {A : Type 0} (f : A → List ℕ) (xs : List A) → each (λ w. w) (map f xs) ≡ each f xs
each_map f [] = refl
each_map f (x ∷ xs) = ap (λ r. f x ++ r) (each_map f xs)

-- ---- the fields of a program's ordered rules and constraints

-- the bytes w are such a field
unfoldable FieldOf : Program → List ℕ → Type 0
FieldOf P w = ((q : Rule) × HasRule P q × (w ≡ rule_bytes q)) ⊎ ((l : Constraint) × HasConstraint P l × (w ≡ constraint_bytes l))

module _ {P : Program} {f : ℕ → List ℕ} {places ys : List ℕ} (x : FieldsOf P f places) (o : Sorts f places ys) where
  -- what stands at a place is such a field
  at_place : (i : ℕ) → i < length places → FieldOf P (f (get_or places i 0))
  unfolding FieldOf
  at_place i h = go (dec_lt i (length P.rules))
    where
      go : Dec (i < length P.rules) → FieldOf P (f (get_or places i 0))
      go (yes l) = let r = x.rules i l in inl (r.0, record { rule = rule_in P.rules i; among = at_among no_rule P.rules i l; ordered = r.1 }, r.2)
      go (no n) =
          let j = i - length P.rules in
          let e : length P.rules + j ≡ i = omega arith in
          let l : j < length P.constraints = omega (arith, x.counted) in
          let r = x.constraints j l in
          inr (
            r.0,
            record { constraint = constraint_in P.constraints j; among = at_among no_constraint P.constraints j l; ordered = r.1 },
            sym (ap (λ (k : ℕ). f (get_or places k 0)) e) ∙ r.2,
          )

  -- and each such field stands at a place
  rule_stands : (q : Rule) → HasRule P q → Among (rule_bytes q) (map f ys)
  rule_stands q r =
      let i = among_at no_rule r.rule P.rules r.among in
      let m = x.rules i.0 i.1 in
      let e : m.0 ≡ q = ordered_rule_unique (subst (λ b. OrderedRule b m.0) i.2 m.1) r.ordered in
      subst (λ w. Among w (map f ys)) (m.2 ∙ ap rule_bytes e) (o.whole _ (at_among 0 places i.0 (omega (arith, x.counted, i.1))))

  constraint_stands : (l : Constraint) → HasConstraint P l → Among (constraint_bytes l) (map f ys)
  constraint_stands l r =
      let i = among_at no_constraint r.constraint P.constraints r.among in
      let m = x.constraints i.0 i.1 in
      let e : m.0 ≡ l = ordered_constraint_unique (subst (λ b. OrderedConstraint b m.0) i.2 m.1) r.ordered in
      subst (λ w. Among w (map f ys)) (m.2 ∙ ap constraint_bytes e) (o.whole _ (at_among 0 places (length P.rules + i.0) (omega (arith, x.counted, i.1))))

  sorted_fields : Listing less_bytes (FieldOf P) (map f ys)
  unfolding FieldOf
  sorted_fields = record { ascending = o.ascending; exactly = λ w. (λ m. told w (map_among f w ys m), λ h. found w h) }
    where
      told : (w : List ℕ) → (y : ℕ) × Among y ys × (w ≡ f y) → FieldOf P w
      told w (y, m, e) =
          let i = among_at 0 y places (o.from y m) in
          subst (FieldOf P) (ap f i.2 ∙ sym e) (at_place i.0 i.1)

      found : (w : List ℕ) → FieldOf P w → Among w (map f ys)
      found w (inl (q, r, e)) = subst (λ v. Among v (map f ys)) (sym e) (rule_stands q r)
      found w (inr (l, r, e)) = subst (λ v. Among v (map f ys)) (sym e) (constraint_stands l r)

-- those of the normal form
module _ {P Q : Program} (n : Normal P Q) where
  abbrev fields : List (List ℕ)
  fields = map rule_bytes Q.rules ++ map constraint_bytes Q.constraints

  -- a rule's tag is less than a constraint's
  tags_ascend : (v w : List ℕ) → Among v (map rule_bytes Q.rules) → Among w (map constraint_bytes Q.constraints) → T (less_bytes v w)
  unfolding less_bytes
  tags_ascend v w a b =
      let r = map_among rule_bytes v Q.rules a in
      let k = map_among constraint_bytes w Q.constraints b in
      rw (r.2, k.2) tt

  normal_fields : Listing less_bytes (FieldOf P) fields
  unfolding FieldOf
  normal_fields = record {
    ascending = ascending_append less_bytes (map rule_bytes Q.rules) (map constraint_bytes Q.constraints)
        (ascending_map rule_less rule_bytes less_bytes Q.rules (λ r q a b h. h) n.rules.ascending)
        (ascending_map constraint_less constraint_bytes less_bytes Q.constraints (λ k l a b h. h) n.constraints.ascending)
        tags_ascend;
    exactly = λ w. (λ m. told w (among_append w (map rule_bytes Q.rules) (map constraint_bytes Q.constraints) m), λ h. found w h);
  }
    where
      told : (w : List ℕ) → Among w (map rule_bytes Q.rules) ⊎ Among w (map constraint_bytes Q.constraints) → FieldOf P w
      told w (inl m) = let r = map_among rule_bytes w Q.rules m in inl (r.0, (n.rules.exactly r.0).0 r.1, r.2)
      told w (inr m) = let k = map_among constraint_bytes w Q.constraints m in inr (k.0, (n.constraints.exactly k.0).0 k.1, k.2)

      found : (w : List ℕ) → FieldOf P w → Among w fields
      found w (inl (q, r, e)) =
          rw e (among_left (rule_bytes q) (map rule_bytes Q.rules) (map constraint_bytes Q.constraints) (among_map rule_bytes q Q.rules ((n.rules.exactly q).1 r)))
      found w (inr (l, r, e)) =
          rw e (among_right (constraint_bytes l) (map rule_bytes Q.rules) (map constraint_bytes Q.constraints)
          (among_map constraint_bytes l Q.constraints ((n.constraints.exactly l).1 r)))

-- so both are the same bytes
pub fields_written : {P Q : Program} {f : ℕ → List ℕ} {places ys : List ℕ} → FieldsOf P f places → Sorts f places ys → Normal P Q
    → each f ys ≡ each rule_bytes Q.rules ++ each constraint_bytes Q.constraints
fields_written {P} {Q} {f} {places} {ys} x o n =
    let e : map f ys ≡ map rule_bytes Q.rules ++ map constraint_bytes Q.constraints = listing_unique bytes_strict (sorted_fields x o) (normal_fields n) (λ w. Iff.rfl) in
    sym (each_map f ys)
    ∙ ap (each (λ w. w)) e
    ∙ each_append (λ w. w) (map rule_bytes Q.rules) (map constraint_bytes Q.constraints)
    ∙ ap₂ (λ a b. a ++ b) (each_map rule_bytes Q.rules) (each_map constraint_bytes Q.constraints)
