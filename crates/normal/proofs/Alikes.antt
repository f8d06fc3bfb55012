-- A rule and a constraint read alike with their terms in order, and so does a program in its normal form.
use Rattle.std.specs.Prelude.{Option}
use Prim.Native.Nat.{ℕ, ◌<◌}
use mathlib.Core.Path.{◌≡◌, sym, ap, ap₂, subst, ◌∙◌}
use mathlib.Core.Bool.{cond, ◌&&◌}
use mathlib.Core.List.{List}
use lib.IntN.{ℤ}
use lib.ListN.{length, get_or}
use Rattle.program.specs.Program.{Program, Rule, Constraint, rule, constraint, term_form, variable_in, term_in, no_rule, no_constraint}
use Rattle.program.specs.Refusals.{item_refusal}
use Rattle.program.specs.Variables.{is_founded, start, no_more}
use Rattle.program.specs.Directions.{away, term_direction, direction, is_rising}
use Rattle.program.specs.Evaluate.{evaluate}
use Rattle.program.specs.Readings.{Valuation, kept, gives}
use Rattle.program.specs.Idle.{demanding, most_at, most, lows, highs, is_idle}
use Rattle.program.specs.Encode.{Proper}
use Rattle.program.specs.declared.Direction.{Direction}
use Rattle.program.specs.declared.Variable.{Variable}
use Rattle.program.specs.declared.Term.{Term}
use Rattle.program.proofs.Promises.{rule_promised}
use Rattle.normal.specs.Listing.{Among}
use Rattle.normal.specs.Ordered.{OrderedRule, OrderedConstraint}
use Rattle.normal.specs.Normal.{Normal}
use Rattle.normal.proofs.Alike.{Stands, AlikeRule, AlikeConstraint, AlikePrograms}
use Rattle.normal.proofs.Listings.{all_among, among_at, at_among}
use Rattle.normal.proofs.OrderedLaws.{ordered_rule, ordered_constraint, rule_ordered, constraint_ordered}
use Rattle.normal.proofs.Rearranged.{Found}
use Rattle.normal.proofs.Folds.{rule_rearranged, ordered_evaluate, ordered_satisfied}

module _ (vs : List Variable) (r q : Rule) (e : item_refusal vs (rule r) ≡ 0) (o : OrderedRule r q) where
  -- each position read by its term, the form and the head
  same_read : (read : ℕ → ℕ → Term → ℤ) → evaluate q (λ i. read q.form q.head (term_in q.terms i)) ≡ evaluate r (λ i. read r.form r.head (term_in r.terms i))
  same_read read =
      ap₂ (λ (f h : ℕ). evaluate q (λ i. read f h (term_in q.terms i))) o.form o.head ∙ ordered_evaluate vs r q e o (read r.form r.head)

  same_given : (m θ : Valuation) → gives vs q m θ ≡ gives vs r m θ
  unfolding gives kept direction
  same_given m θ = same_read (λ f h t. let x = variable_in vs t.variable in
      cond (is_rising (away x (term_direction (variable_in vs h) (term_form f) x t)) && is_founded x) (m t.variable) (θ t.variable))

  same_most : most vs q (lows vs) (highs vs) ≡ most vs r (lows vs) (highs vs)
  unfolding most most_at direction
  same_most = same_read (λ f h t. let x = variable_in vs t.variable in demanding (variable_in vs h) (term_direction (variable_in vs h) (term_form f) x t) x.low x.high)

  same_idle : is_idle vs q ≡ is_idle vs r
  unfolding is_idle
  same_idle = ap₂ (λ (h : ℕ) (a : Option ℤ). let x = variable_in vs h in no_more x a (start x)) o.head same_most

  same_stands : (s u : Rule) → s.form ≡ u.form → s.head ≡ u.head → ((i : ℕ) → i < length s.terms → Found (term_form r.form) u.terms i (term_in s.terms i))
      → (x : ℕ) (d : Direction) → Stands vs s x d → Stands vs u x d
  unfolding direction
  same_stands s u f h there x d t =
      let w = there t.at t.inside in
      record {
        at = w.at;
        inside = w.inside;
        is = ap (λ (t : Term). t.variable) w.is ∙ t.is;
        pushes = rw (w.is, ← f, ← h) t.pushes;
      }

  pub ordered_rule_alike : AlikeRule vs r q
  ordered_rule_alike =
      let m = rule_rearranged (rule_promised vs r e) o in
      record {
        head = o.head;
        given = same_given;
        idle = same_idle;
        stands = λ x d. (same_stands r q (sym o.form) (sym o.head) m.there x d, same_stands q r o.form o.head m.back x d);
      }

pub ordered_constraint_alike : (vs : List Variable) (k l : Constraint) → item_refusal vs (constraint k) ≡ 0 → OrderedConstraint k l → AlikeConstraint k l
ordered_constraint_alike vs k l e o = record { asks = λ θ. ordered_satisfied vs k l e o (λ t. θ t.variable) }

-- ---- programs

-- each element of a list has one of the other that it is alike to: so has each place
places : {A : Type 0} (d : A) (Alike : A → A → Type 0) (xs ys : List A) → ((x : A) → Among x xs → (y : A) × Among y ys × Alike x y)
    → (i : ℕ) → i < length xs → (j : ℕ) × (j < length ys) × Alike (get_or xs i d) (get_or ys j d)
places d Alike xs ys f i h =
    let y = f (get_or xs i d) (at_among d xs i h) in
    let j = among_at d y.0 ys y.1 in
    (j.0, j.1, subst (Alike (get_or xs i d)) (sym j.2) y.2)

module _ {P : Program} (p : Proper P) where
  pub fine_rule : (r : Rule) → Among r P.rules → item_refusal P.variables (rule r) ≡ 0
  fine_rule r m = all_among (λ (r : Rule). item_refusal P.variables (rule r) ≡ 0) r P.rules p.fine_rules m

  pub fine_constraint : (k : Constraint) → Among k P.constraints → item_refusal P.variables (constraint k) ≡ 0
  fine_constraint k m = all_among (λ (k : Constraint). item_refusal P.variables (constraint k) ≡ 0) k P.constraints p.fine_constraints m

  rule_alike : (r q : Rule) → Among r P.rules → OrderedRule r q → AlikeRule P.variables r q
  rule_alike r q m = ordered_rule_alike P.variables r q (fine_rule r m)

  constraint_alike : (k l : Constraint) → Among k P.constraints → OrderedConstraint k l → AlikeConstraint k l
  constraint_alike k l m = ordered_constraint_alike P.variables k l (fine_constraint k m)

  pub normal_alike : {Q : Program} → Normal P Q → AlikePrograms P Q
  normal_alike {Q} n = record {
    variables = n.variables;
    rules = places no_rule (AlikeRule P.variables) P.rules Q.rules
        (λ r m. let q = ordered_rule r in let o = rule_ordered P.variables r (fine_rule r m) in
        (q, (n.rules.exactly q).1 (record { rule = r; among = m; ordered = o }), rule_alike r q m o));
    rules_back = places no_rule (λ q r. AlikeRule P.variables r q) Q.rules P.rules
        (λ q m. let o = (n.rules.exactly q).0 m in (o.rule, o.among, rule_alike o.rule q o.among o.ordered));
    constraints = places no_constraint AlikeConstraint P.constraints Q.constraints
        (λ k m. let l = ordered_constraint k in let o = constraint_ordered P.variables k (fine_constraint k m) in
        (l, (n.constraints.exactly l).1 (record { constraint = k; among = m; ordered = o }), constraint_alike k l m o));
    constraints_back = places no_constraint (λ l k. AlikeConstraint k l) Q.constraints P.constraints
        (λ l m. let o = (n.constraints.exactly l).0 m in (o.constraint, o.among, constraint_alike o.constraint l o.among o.ordered));
  }
