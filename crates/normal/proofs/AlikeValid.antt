-- Alike programs, either way round: the same edges and the same idle rules, so the one is valid where the other is.
use Prim.Native.Nat.{ℕ, ◌<◌}
use mathlib.Core.Path.{◌≡◌, refl, sym, ap, ap₂, ◌∙◌, subst, subst₂}
use mathlib.Core.Bool.{Bool, true, false, not, cond, ◌||◌, ◌&&◌}
use mathlib.Core.List.{List}
use lib.Dec.{T, eqb}
use lib.ListN.{length}
use Rattle.program.specs.Tables.{any_below}
use Rattle.program.specs.Program.{Program, Rule, Constraint, variable_in, rule_in}
use Rattle.program.specs.Variables.{is_founded, start, in_range, no_more}
use Rattle.program.specs.Directions.{away, direction, is_rising, is_mixed}
use Rattle.program.specs.Evaluate.{evaluate}
use Rattle.program.specs.Readings.{Valuation, body_variable, kept, gives}
use Rattle.program.specs.Idle.{Idle}
use Rattle.program.specs.Components.{draws, edge, Share, Valid}
use Rattle.program.specs.declared.Direction.{Direction}
use Rattle.program.specs.declared.Variable.{Variable}
use Rattle.program.proofs.Conditions.{none_below, below_none, some_below, below_some}
use Rattle.program.proofs.Tests.{cases}
use Rattle.meaning.proofs.IdleFiles.{share_over}
use Rattle.normal.proofs.Alike.{Stands, AlikeRule, AlikeConstraint, AlikePrograms}

-- ---- the other way round

rule_back : {vs : List Variable} {r q : Rule} → AlikeRule vs r q → AlikeRule vs q r
rule_back a = record {
  head = sym a.head;
  given = λ m θ. sym (a.given m θ);
  idle = sym a.idle;
  stands = λ x d. ((a.stands x d).1, (a.stands x d).0);
}

constraint_back : {k l : Constraint} → AlikeConstraint k l → AlikeConstraint l k
constraint_back a = record { asks = λ θ. sym (a.asks θ) }

pub alike_back : {P Q : Program} → AlikePrograms P Q → AlikePrograms Q P
alike_back a = record {
  variables = sym a.variables;
  rules = λ j l. let f = a.rules_back j l in (f.0, f.1, rw a.variables (rule_back f.2));
  rules_back = λ i l. let f = a.rules i l in (f.0, f.1, rw a.variables (rule_back f.2));
  constraints = λ j l. let f = a.constraints_back j l in (f.0, f.1, constraint_back f.2);
  constraints_back = λ i l. let f = a.constraints i l in (f.0, f.1, constraint_back f.2);
}

-- ---- the same variables

-- the program over these variables
abbrev pub with_variables : List Variable → Program → Program
with_variables vs Q = record { variables = vs; rules = Q.rules; constraints = Q.constraints }

module _ {P Q : Program} (a : AlikePrograms P Q) where
  over_same : Q ≡ with_variables P.variables Q
  over_same = ap (λ vs. with_variables vs Q) a.variables

  pub alike_over : AlikePrograms P (with_variables P.variables Q)
  alike_over = record {
    variables = refl;
    rules = a.rules;
    rules_back = a.rules_back;
    constraints = a.constraints;
    constraints_back = a.constraints_back;
  }

-- ---- tests of positions and of rules

-- `kept`, of a position with this variable that pushes this way
abbrev pub keeps : List Variable → ℕ → Direction → Bool
keeps vs x d = let y = variable_in vs x in is_rising (away y d) && is_founded y

-- some number below m has q, some below n has p: the same where each has one that answers alike
same_any : (n m : ℕ) (p q : ℕ → Bool) → ((i : ℕ) → i < n → (j : ℕ) × (j < m) × (q j ≡ p i)) → ((j : ℕ) → j < m → (i : ℕ) × (i < n) × (q j ≡ p i))
    → any_below m q ≡ any_below n p
same_any n m p q f g = go (any_below n p) refl
  where
    go : (t : Bool) → any_below n p ≡ t → any_below m q ≡ t
    go true e = let i = some_below n p e in let j = f i.0 i.1 in below_some m q j.0 j.1 (j.2 ∙ i.2)
    go false e = below_none m q (λ j l. let i = g j l in i.2 ∙ none_below n p e i.0 i.1)

-- each position of the one body has one of the other, with its variable and its direction
position : {vs : List Variable} {r q : Rule} → AlikeRule vs r q → (i : ℕ) → i < length r.terms → Stands vs q (body_variable r i) (direction vs r i)
position {vs} {r} a i l = (a.stands (body_variable r i) (direction vs r i)).0 (record { at = i; inside = l; is = refl; pushes = refl })

-- some position passes a test of its variable and its direction
pub same_positions : {vs : List Variable} {r q : Rule} → AlikeRule vs r q → (p : ℕ → Direction → Bool)
    → any_below (length q.terms) (λ j. p (body_variable q j) (direction vs q j)) ≡ any_below (length r.terms) (λ i. p (body_variable r i) (direction vs r i))
same_positions {vs} {r} {q} a p =
    same_any (length r.terms) (length q.terms) (λ i. p (body_variable r i) (direction vs r i)) (λ j. p (body_variable q j) (direction vs q j))
    (λ i l. let s = position a i l in (s.at, s.inside, ap₂ p s.is s.pushes))
    (λ j l. let s = position (rule_back a) j l in (s.at, s.inside, sym (ap₂ p s.is s.pushes)))

-- some rule passes a test that alike rules pass alike
pub same_rules : {P Q : Program} → AlikePrograms P Q → (p : Rule → Bool) → ((r q : Rule) → AlikeRule P.variables r q → p q ≡ p r)
    → any_below (length Q.rules) (λ j. p (rule_in Q.rules j)) ≡ any_below (length P.rules) (λ i. p (rule_in P.rules i))
same_rules {P} {Q} a p h =
    same_any (length P.rules) (length Q.rules) (λ i. p (rule_in P.rules i)) (λ j. p (rule_in Q.rules j))
    (λ i l. let f = a.rules i l in (f.0, f.1, h _ _ f.2)) (λ j l. let f = a.rules_back j l in (f.0, f.1, h _ _ f.2))

-- ---- edges

module _ (P : Program) where
  draws_same : (x y : ℕ) (r q : Rule) → AlikeRule P.variables r q → draws P q x y ≡ draws P r x y
  unfolding draws kept
  draws_same x y r q a =
      ap₂ ◌&&◌ (ap not a.idle) (ap₂ ◌&&◌ (ap (λ h. eqb h x) a.head)
      (same_positions a (λ z d. eqb z y && (keeps P.variables z d || is_mixed d))))

  edge_same : (Q : Program) → AlikePrograms P (with_variables P.variables Q) → (x y : ℕ) → edge (with_variables P.variables Q) x y ≡ edge P x y
  unfolding edge draws
  edge_same Q a x y = same_rules a (λ r. draws P r x y) (draws_same x y)

  -- ---- idle rules

  -- a rule's positions, all read in one valuation
  given_in : (r : Rule) (m : Valuation) → gives P.variables r m m ≡ evaluate r (λ i. m (body_variable r i))
  unfolding gives
  given_in r m =
      ap (evaluate r) (λ k i. let z = m (body_variable r i) in cases (kept P.variables r i) (λ b. cond b z z ≡ z) (λ t. refl) (λ t. refl) k)

  idle_over : {r q : Rule} → AlikeRule P.variables r q → Idle P r → Idle P q
  idle_over {r} {q} a h m w =
      subst (λ g. T (no_more (variable_in P.variables q.head) g (start (variable_in P.variables q.head)))) (sym (a.given m m ∙ given_in r m) ∙ given_in q m)
      (rw a.head (h m (λ i l. let s = position a i l in subst (λ x. T (in_range (variable_in P.variables x) (m x))) s.is (w s.at s.inside))))

  -- ---- validity

  valid_over : (Q : Program) → AlikePrograms P (with_variables P.variables Q) → Valid P → Valid (with_variables P.variables Q)
  valid_over Q a v j o =
      let f = a.rules_back j o.among in
      let s = position (rule_back f.2) o.at o.inside in
      v f.0 (record {
        among = f.1;
        not_idle = λ h. o.not_idle (idle_over f.2 h);
        at = s.at;
        inside = s.inside;
        pushes = ap is_mixed s.pushes ∙ o.pushes;
        shares = subst₂ (Share P) f.2.head (sym s.is) (share_over P (with_variables P.variables Q) (λ x y e. sym (edge_same Q a x y) ∙ e) o.shares);
      })

pub alike_valid : {P Q : Program} → AlikePrograms P Q → Valid P → Valid Q
alike_valid {P} {Q} a v = subst Valid (sym (over_same a)) (valid_over P Q (alike_over a) v)
