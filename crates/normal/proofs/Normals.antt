-- Normal forms: a program whose rules and constraints have no variable twice has one, and its own is itself.
use Prim.Native.Nat.{ℕ}
use mathlib.Core.Path.{◌≡◌, refl, sym, ap, ◌∙◌, subst}
use mathlib.Core.Bool.{Bool}
use mathlib.Core.Logic.Iff
use mathlib.Core.Logic.{◌⊎◌, inl, inr, ◌↔◌}
use mathlib.Core.List.{List, map}
use lib.Dec.{T}
use lib.ListN.{drop}
use Rattle.program.specs.Program.{Program, Rule, Constraint, rule_of, constraint_of, term_in, no_term, no_rule, no_constraint}
use Rattle.program.specs.Encode.{rule_bytes, constraint_bytes}
use Rattle.program.proofs.Encoding.{Small, SmallTerms, rule_read, constraint_read, divisor_small, body_small}
use Rattle.program.proofs.Promises.{RulePromise, ConstraintPromise, Promises}
use Rattle.program.specs.declared.Term.{Term}
use Rattle.normal.specs.Listing.{Among, Listing, SameSet}
use Rattle.normal.specs.Ordered.{OrderedTerms, OrderedRule, OrderedConstraint}
use Rattle.normal.specs.Normal.{less_bytes, rule_less, constraint_less, HasRule, HasConstraint, Normal}
use Rattle.normal.specs.Sentences.{Agree}
use Rattle.normal.proofs.Listings.{Strict, Comparable, sorted, sorted_lists, listing_unique, among_at, at_among, among_map, map_among}
use Rattle.normal.proofs.ByteOrder.{bytes_strict, bytes_comparable}
use Rattle.normal.proofs.OrderedLaws.{ordered_terms_among, ordered_rule_unique, ordered_again, ordered_constraint_unique, ordered_constraint_again}
use Rattle.normal.proofs.OrderedLaws.{ordered_rule, ordered_constraint, distinct_rule, distinct_constraint}

-- ---- the normal form is one

-- two listings that are the same list are of the same set
listing_same : {A : Type 0} {less : A → A → Bool} {p q : A → Type 0} {xs ys : List A} → Listing less p xs → Listing less q ys → xs ≡ ys → SameSet p q
listing_same {q = q} l m e x = Iff.trans (Iff.symm (l.exactly x)) (subst (λ zs. Among x zs ↔ q x) (sym e) (m.exactly x))

by_bytes : {A : Type 0} (f : A → List ℕ) → Strict (λ x y. less_bytes (f x) (f y))
by_bytes f = record { asym = λ x y. bytes_strict.asym (f x) (f y); trans = λ x y z. bytes_strict.trans (f x) (f y) (f z) }

pub rule_strict : Strict rule_less
rule_strict = by_bytes rule_bytes

pub constraint_strict : Strict constraint_less
constraint_strict = by_bytes constraint_bytes

module _ {P P' Q Q' : Program} (n : Normal P Q) (m : Normal P' Q') where
  pub normal_same : Agree P P' → Q ≡ Q'
  normal_same a = λ i. record {
    variables = (n.variables ∙ a.variables ∙ sym m.variables) i;
    rules = listing_unique rule_strict n.rules m.rules a.rules i;
    constraints = listing_unique constraint_strict n.constraints m.constraints a.constraints i;
  }

  pub same_normal : Q ≡ Q' → Agree P P'
  same_normal e = record {
    variables = sym n.variables ∙ ap (λ (R : Program). R.variables) e ∙ m.variables;
    rules = listing_same n.rules m.rules (ap (λ (R : Program). R.rules) e);
    constraints = listing_same n.constraints m.constraints (ap (λ (R : Program). R.constraints) e);
  }

pub normal_unique : {P Q Q' : Program} → Normal P Q → Normal P Q' → Q ≡ Q'
normal_unique n m = normal_same n m (record { variables = refl; rules = λ q. Iff.rfl; constraints = λ l. Iff.rfl })

-- ---- rules and constraints alike: the elements of a list, put in order

relisted : {A : Type 0} {less : A → A → Bool} {p q : A → Type 0} {xs : List A} → Listing less p xs → SameSet p q → Listing less q xs
relisted l s = record { ascending = l.ascending; exactly = λ x. Iff.trans (l.exactly x) (s x) }

module _ {A : Type 0} (Ordered : A → A → Type 0) where
  -- q is one of them, put in order
  abbrev Of : List A → A → Type 0
  Of rs q = (r : A) × Among r rs × Ordered r q

module _ {A : Type 0} (Ordered : A → A → Type 0) (unique : (r q q' : A) → Ordered r q → Ordered r q' → q ≡ q') where
  -- elements in order are their own
  own_listed : {less : A → A → Bool} {p : A → Type 0} (qs : List A) → Listing less p qs → ((q : A) → p q → Ordered q q) → Listing less (Of Ordered qs) qs
  own_listed qs l again = record { ascending = l.ascending; exactly = λ q. (λ m. (q, m, own q m), λ a. subst (λ x. Among x qs) (same q a) a.1) }
    where
      own : (q : A) → Among q qs → Ordered q q
      own q m = again q ((l.exactly q).0 m)

      same : (q : A) (a : Of Ordered qs q) → a.0 ≡ q
      same q a = unique a.0 a.0 q (own a.0 a.1) a.2

  -- the images of a list, sorted by their bytes, where they can be read back
  module _ (bytes : A → List ℕ) (back : List ℕ → A) (f : A → A) (rs : List A) (ordered : (r : A) → Among r rs → Ordered r (f r))
      (reads : (r : A) → Among r rs → back (bytes (f r)) ≡ f r) where
    abbrev less : A → A → Bool
    less x y = less_bytes (bytes x) (bytes y)

    read_image : (x : A) → Among x (map f rs) → back (bytes x) ≡ x
    read_image x m = let a = map_among f x rs m in ap (λ (y : A). back (bytes y)) a.2 ∙ reads a.0 a.1 ∙ sym a.2

    images_comparable : Comparable less (map f rs)
    images_comparable x y m n = go (bytes_comparable (bytes x) (bytes y))
      where
        go : T (less x y) ⊎ ((bytes x ≡ bytes y) ⊎ T (less y x)) → T (less x y) ⊎ ((x ≡ y) ⊎ T (less y x))
        go (inl h) = inl h
        go (inr (inl e)) = inr (inl (sym (read_image x m) ∙ ap back e ∙ read_image y n))
        go (inr (inr h)) = inr (inr h)

    images_listed : Listing less (Of Ordered rs) (sorted less (map f rs))
    images_listed = relisted (sorted_lists (by_bytes bytes) (map f rs) images_comparable) (λ q. (image q, of_image q))
      where
        image : (q : A) → Among q (map f rs) → Of Ordered rs q
        image q m = let a = map_among f q rs m in (a.0, a.1, subst (Ordered a.0) (sym a.2) (ordered a.0 a.1))

        of_image : (q : A) → Of Ordered rs q → Among q (map f rs)
        of_image q a = subst (λ x. Among x (map f rs)) (unique a.0 (f a.0) q (ordered a.0 a.1) a.2) (among_map f a.0 rs a.1)

module _ (P : Program) where
  of_rules : SameSet (Of OrderedRule P.rules) (HasRule P)
  of_rules q = (λ a. record { rule = a.0; among = a.1; ordered = a.2 }, λ o. (o.rule, o.among, o.ordered))

  of_constraints : SameSet (Of OrderedConstraint P.constraints) (HasConstraint P)
  of_constraints l = (λ a. record { constraint = a.0; among = a.1; ordered = a.2 }, λ o. (o.constraint, o.among, o.ordered))

-- ---- the normal form is its own

pub normal_again : {P Q : Program} → Normal P Q → Normal Q Q
normal_again {P} {Q} n = record {
  variables = refl;
  rules = relisted (own_listed OrderedRule (λ r q q'. ordered_rule_unique) Q.rules n.rules (λ q o. ordered_again o.ordered)) (of_rules Q);
  constraints = relisted
      (own_listed OrderedConstraint (λ k l l'. ordered_constraint_unique) Q.constraints n.constraints (λ l o. ordered_constraint_again o.ordered))
      (of_constraints Q);
}

-- ---- the normal form exists

ordered_small : {form : ℕ} {ts us : List Term} → OrderedTerms form ts us → SmallTerms ts → SmallTerms us
ordered_small {ts = ts} {us} o s i h =
    let t = term_in us i in
    let a = among_at no_term t ts (ordered_terms_among o t (at_among no_term us i h)) in
    subst (λ (u : Term). Small u.number) a.2 (s a.0 a.1)

-- the rules and the constraints, their terms in order, sorted
abbrev pub normal_form : Program → Program
normal_form P = record {
  variables = P.variables;
  rules = sorted rule_less (map ordered_rule P.rules);
  constraints = sorted constraint_less (map ordered_constraint P.constraints);
}

module _ {P : Program} (p : Promises P) where
  rule_of_is : (r : Rule) → Among r P.rules → RulePromise P.variables r
  rule_of_is r m = let a = among_at no_rule r P.rules m in subst (RulePromise P.variables) a.2 (p.rules a.0 a.1)

  constraint_of_is : (k : Constraint) → Among k P.constraints → ConstraintPromise P.variables k
  constraint_of_is k m = let a = among_at no_constraint k P.constraints m in subst (ConstraintPromise P.variables) a.2 (p.constraints a.0 a.1)

  rules_listed : Listing rule_less (HasRule P) (sorted rule_less (map ordered_rule P.rules))
  rules_listed = relisted
      (images_listed OrderedRule (λ r q q'. ordered_rule_unique) rule_bytes (λ s. rule_of (drop 3 s)) ordered_rule P.rules in_order_is read) (of_rules P)
    where
      in_order_is : (r : Rule) → Among r P.rules → OrderedRule r (ordered_rule r)
      in_order_is r m = distinct_rule r (rule_of_is r m).body.distinct

      read : (r : Rule) → Among r P.rules → rule_of (drop 3 (rule_bytes (ordered_rule r))) ≡ ordered_rule r
      read r m =
          let q = rule_of_is r m in
          rule_read (ordered_rule r) q.c_small q.divided (divisor_small r.divisor q.divisor) (ordered_small (in_order_is r m).terms (body_small q.body))

  constraints_listed : Listing constraint_less (HasConstraint P) (sorted constraint_less (map ordered_constraint P.constraints))
  constraints_listed = relisted
      (images_listed OrderedConstraint (λ k l l'. ordered_constraint_unique) constraint_bytes (λ s. constraint_of (drop 3 s)) ordered_constraint P.constraints in_order_is read)
      (of_constraints P)
    where
      in_order_is : (k : Constraint) → Among k P.constraints → OrderedConstraint k (ordered_constraint k)
      in_order_is k m = distinct_constraint k (constraint_of_is k m).body.distinct

      read : (k : Constraint) → Among k P.constraints → constraint_of (drop 3 (constraint_bytes (ordered_constraint k))) ≡ ordered_constraint k
      read k m = let q = constraint_of_is k m in constraint_read (ordered_constraint k) q.c_small (ordered_small (in_order_is k m).terms (body_small q.body))

  pub normal_form_is : Normal P (normal_form P)
  normal_form_is = record { variables = refl; rules = rules_listed; constraints = constraints_listed }

  pub normal_exists : (Q : Program) × Normal P Q
  normal_exists = (normal_form P, normal_form_is)
