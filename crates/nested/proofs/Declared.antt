-- What is declared: the file's own rules and constraints, and the leaves of its trees, read the declared variables vs alone, so that what is added after those
-- changes nothing of what they read. An added variable is kept in the rules of its tree.
use Prim.Native.Nat.{ℕ, ◌<◌, ◌≤◌}
use mathlib.Core.Path.{◌≡◌, sym, ap, ap₂, subst, ◌∙◌}
use mathlib.Core.Logic.{⊎_elim}
use mathlib.Core.Bool.{Bool, true, false, not, cond, ◌&&◌}
use mathlib.Core.List.{List, [], ◌∷◌, ◌++◌, map}
use native.Mathlib.Omega.{arith}
use lib.Dec.{leb, ltb}
use lib.IntN.{ℤ, ◌*ℤ◌}
use lib.ListN.{length, get_or, length-map, get_or-append}
use borrow.Author.Tests.{leb-false, lt-ltb, le-ltb, not-false}
use Rattle.trees.specs.Tree.{max_levels, leaves}
use Rattle.program.specs.Encode.{All}
use Rattle.program.specs.Program.{Rule, Constraint, rule, constraint, term_form, variable_in, no_variable, term_in, no_term}
use Rattle.program.specs.Refusals.{any_term, item_refusal, undeclared, undeclared_term, wrong_head}
use Rattle.program.specs.Variables.{is_founded}
use Rattle.program.specs.Directions.{away, term_direction, direction, is_rising}
use Rattle.program.specs.Evaluate.{holds, satisfied}
use Rattle.program.specs.Readings.{Valuation, body_variable, kept, reading, gives}
use Rattle.program.specs.declared.Variable.{Variable}
use Rattle.program.proofs.Conditions.{neither, none_below, any_same}
use Rattle.program.proofs.Gives.{sum_same, evaluate_same, promised_evaluable}
use Rattle.program.proofs.Promises.{RulePromise, constraint_promised}
use Rattle.program.proofs.Tests.{is_test}
use Rattle.program.proofs.Variables.{founded_kind}
use Rattle.nested.specs.Nested.{Rooted}
use Rattle.nested.specs.Flatten.{node_term}
use Rattle.nested.specs.TreeRefusals.{body_of}
use Rattle.nested.specs.Meaning.{leaf_rule, leaf_reading}
use Rattle.nested.specs.Sentences.{Extends}
use Rattle.nested.proofs.Lists.{at_all}
use Rattle.nested.proofs.Nodes.{map_at, kind_kept, read_by, node_reading}
use Rattle.nested.proofs.Trees.{Seen, Own}

-- ---- a tree's head and leaves

pub record DeclaredTree (vs : List Variable) (t : Rooted) : Type 0 where
  pub head : t.head < length vs
  pub founded : is_founded (variable_in vs t.head) ≡ true
  pub leaves : All (λ x. x < length vs) (leaves max_levels t.tree)

pub declared_tree : (vs : List Variable) (t : Rooted) → undeclared vs (rule (body_of t)) ≡ false → DeclaredTree vs t
unfolding undeclared wrong_head undeclared_term
declared_tree vs t e =
    let ls = leaves max_levels t.tree in
    let a = neither (wrong_head vs t.head) _ e in
    let b = neither (leb (length vs) t.head) (not (is_founded (variable_in vs t.head))) a.0 in
    record {
      head = leb-false (length vs) t.head b.0;
      founded = not-false (is_founded (variable_in vs t.head)) b.1;
      leaves = at_all (λ x. x < length vs) 0 ls (at ls a.1);
    }
  where
    at : (ls : List ℕ) → any_term (map (node_term 1) ls) (λ i t. undeclared_term vs t) ≡ false → (i : ℕ) → i < length ls → get_or ls i 0 < length vs
    at ls e i h =
        let u = none_below (length (map (node_term 1) ls)) _ e i (omega (arith, length-map ls (node_term 1))) in
        subst (λ t. t.variable < length vs) (map_at (node_term 1) 0 no_term ls i h) (leb-false (length vs) (term_in (map (node_term 1) ls) i).variable u)

-- ---- more variables after vs

module _ (vs more : List Variable) where
  pub variable_same : (x : ℕ) → x < length vs → variable_in (vs ++ more) x ≡ variable_in vs x
  variable_same x h = get_or-append vs more no_variable x h

  module _ {m m' θ θ' : Valuation} (em : Extends (length vs) m m') (eθ : Extends (length vs) θ θ') where
    -- a rule of the file gives the same
    pub rule_same : (r : Rule) → RulePromise vs r → gives (vs ++ more) r m' θ' ≡ gives vs r m θ
    unfolding gives kept direction
    rule_same r p = evaluate_same r (reading (vs ++ more) r m' θ') (reading vs r m θ) same (promised_evaluable p)
      where
        -- the reading of position i, by what is known of the head, the variable and its two values
        read : ℕ → Variable → Variable → ℤ → ℤ → ℤ
        read i h x a b = cond (is_rising (away x (term_direction h (term_form r.form) x (term_in r.terms i))) && is_founded x) a b

        same : (i : ℕ) → i < length r.terms → reading (vs ++ more) r m' θ' i ≡ reading vs r m θ i
        same i l =
            let d = (p.body.terms i l).declared in
            ap₂ (λ h x. read i h x (m' (body_variable r i)) (θ' (body_variable r i))) (variable_same r.head p.head_declared) (variable_same (body_variable r i) d)
            ∙ ap₂ (read i (variable_in vs r.head) (variable_in vs (body_variable r i))) (em.same (body_variable r i) d) (eθ.same (body_variable r i) d)

-- a constraint of the file asks the same
pub constraint_same : (vs : List Variable) (k : Constraint) → item_refusal vs (constraint k) ≡ 0 → {θ θ' : Valuation} → Extends (length vs) θ θ'
    → satisfied k (λ j. θ' (term_in k.terms j).variable) ≡ satisfied k (λ j. θ (term_in k.terms j).variable)
unfolding satisfied
constraint_same vs k e {θ} {θ'} eθ =
    rw (
      sum_same (weighted θ') (weighted θ) n (λ i l. ap (λ (z : ℤ). (term_in k.terms i).number *ℤ z) (read i l)),
      any_same n (held θ') (held θ) (λ i l. ap (holds (term_in k.terms i)) (read i l)),
    )
  where
    n : ℕ
    n = length k.terms

    weighted : Valuation → ℕ → ℤ
    weighted a i = (term_in k.terms i).number *ℤ a (term_in k.terms i).variable

    held : Valuation → ℕ → Bool
    held a i = holds (term_in k.terms i) (a (term_in k.terms i).variable)

    read : (i : ℕ) → i < length k.terms → θ' (term_in k.terms i).variable ≡ θ (term_in k.terms i).variable
    read i l = eθ.same (term_in k.terms i).variable ((constraint_promised vs k e).body.terms i l).declared

-- ---- what the rules of a tree with the head h read: a leaf by `leaf_reading`, an added variable in m

abbrev pub seen : List Variable → ℕ → Valuation → Valuation → Valuation
seen vs h m θ x = cond (ltb x (length vs)) (leaf_reading vs h m θ x) (m x)

module _ (vs : List Variable) (h : ℕ) (m θ : Valuation) where
  pub seen_declared : (x : ℕ) → x < length vs → seen vs h m θ x ≡ leaf_reading vs h m θ x
  seen_declared x l = rw (lt-ltb x (length vs) l)

  pub seen_added : (x : ℕ) → length vs ≤ x → seen vs h m θ x ≡ m x
  seen_added x l = rw (le-ltb x (length vs) l)

  -- a leaf is read by its kind and the head's
  pub leaf_read : (x : ℕ) → leaf_reading vs h m θ x ≡ read_by vs (variable_in vs h).kind m θ x
  leaf_read x = node_reading (record { least = omega arith; most = omega arith }) vs h (x ∷ []) m θ 0 (omega arith)

module _ (vs more : List Variable) (h : ℕ) (m θ : Valuation) where
  pub leaf_seen : (x : ℕ) → x < length vs → Seen (vs ++ more) (variable_in vs h).kind m θ (seen vs h m θ) x
  leaf_seen x l =
      ap (λ (v : Variable). cond (kind_kept (variable_in vs h).kind v.kind) (m x) (θ x)) (variable_same vs more x l)
      ∙ sym (leaf_read vs h m θ x) ∙ sym (seen_declared vs h m θ x l)

  pub added_own : is_founded (variable_in vs h) ≡ true → (v : ℕ) → length vs ≤ v → (variable_in (vs ++ more) v).kind ≡ (variable_in vs h).kind
      → Own (vs ++ more) (variable_in vs h).kind m θ (seen vs h m θ) v
  unfolding kind_kept
  added_own f v l e = record {
    kinds = e;
    seen = ap (λ (k : ℕ). cond (kind_kept (variable_in vs h).kind k) (m v) (θ v)) e
        ∙ ap (λ (b : Bool). cond b (m v) (θ v)) (own (variable_in vs h) f) ∙ sym (seen_added vs h m θ v l);
    read = seen_added vs h m θ v l;
  }
    where
      own : (x : Variable) → is_founded x ≡ true → kind_kept x.kind x.kind ≡ true
      own x f = ⊎_elim (λ k. ap (λ (n : ℕ). kind_kept n n) k.1) (λ k. ap (λ (n : ℕ). kind_kept n n) k.1) (founded_kind x (is_test f))

-- the leaf's reading looks at the leaf alone
pub leaf_same : (vs : List Variable) (h : ℕ) {m m' θ θ' : Valuation} → Extends (length vs) m m' → Extends (length vs) θ θ'
    → (x : ℕ) → x < length vs → leaf_reading vs h m θ x ≡ leaf_reading vs h m' θ' x
leaf_same vs h {m} {m'} {θ} {θ'} em eθ x l = ap₂ (λ (a b : ℤ). cond (kept vs (leaf_rule h x) 0) a b) (sym (em.same x l)) (sym (eθ.same x l))
