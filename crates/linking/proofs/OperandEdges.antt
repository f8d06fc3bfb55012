-- The edges of a node's rule: an operand is kept exactly where it is of the head's kind, and none is mixed.
use Prim.Native.Nat.{ℕ, ◌<◌}
use mathlib.Core.Path.{◌≡◌, refl, sym, ap, ap₂, ◌∙◌, subst}
use mathlib.Core.Bool.{Bool, true, false, ◌||◌, or-false, or-true}
use mathlib.Core.List.{List}
use native.Mathlib.Omega.{arith}
use borrow.Author.Tests.{eqb-true, eq-eqb, ne_eqb}
use lib.Dec.{eqb}
use lib.ListN.{length, length-map}
use Rattle.program.specs.Program.{Rule, variable_in, no_term}
use Rattle.program.specs.Variables.{is_founded}
use Rattle.program.specs.Readings.{body_variable, kept}
use Rattle.program.specs.declared.Term.{Term}
use Rattle.program.specs.declared.Variable.{Variable}
use Rattle.program.proofs.IdleRules.{only_sizes_mixed}
use Rattle.program.proofs.Forms.{read_as_itself}
use Rattle.program.proofs.Promises.{rule_promised}
use Rattle.program.proofs.Tests.{eqb_swap}
use Rattle.edges.specs.Edges.{draws_edge}
use Rattle.nested.specs.Flatten.{node_term, node_rule}
use Rattle.nested.proofs.TreeRules.{FineNode}
use Rattle.nested.proofs.Nodes.{NodeForm, map_at, kind_kept, node_kept}
use Rattle.linking.specs.Drawing.{NodeValue}

-- of a founded head
from_below : (kind : ℕ) → kind_kept 1 kind ≡ eqb 1 kind
unfolding kind_kept
from_below kind = go (eqb kind 2) refl
  where
    go : (b : Bool) → eqb kind 2 ≡ b → kind_kept 1 kind ≡ eqb 1 kind
    go true e = let q = eqb-true kind 2 e in rw (e, ne_eqb 1 kind (λ d. omega arith))
    go false e = rw e (or-false (eqb kind 1) ∙ eqb_swap kind 1)

from_above_is : (kind : ℕ) → kind_kept 2 kind ≡ eqb 2 kind
unfolding kind_kept
from_above_is kind = go (eqb kind 2) refl
  where
    go : (b : Bool) → eqb kind 2 ≡ b → kind_kept 2 kind ≡ eqb 2 kind
    go true e = rw (e, ← eqb_swap kind 2, e) (or-true (eqb kind 1))
    go false e = rw (e, ← eqb_swap kind 2, e)

own_kind : (head kind : ℕ) → (eqb head 1 || eqb head 2) ≡ true → kind_kept head kind ≡ eqb head kind
own_kind head kind f = go (eqb head 1) (eqb head 2) refl refl f
  where
    go : (a b : Bool) → eqb head 1 ≡ a → eqb head 2 ≡ b → (a || b) ≡ true → kind_kept head kind ≡ eqb head kind
    go true b p q h = let e = eqb-true head 1 p in subst (λ (k : ℕ). kind_kept k kind ≡ eqb k kind) (sym e) (from_below kind)
    go false true p q h = let e = eqb-true head 2 q in subst (λ (k : ℕ). kind_kept k kind ≡ eqb k kind) (sym e) (from_above_is kind)
    go false false p q h = absurd (let z : ◌≡◌ {A = ℕ} 0 1 = cc in omega arith)

node_draws : {form : ℕ} → NodeForm form → (vs : List Variable) (h : ℕ) (xs : List ℕ) → is_founded (variable_in vs h) ≡ true → (i : ℕ) → i < length xs
    → kept vs (node_rule form h xs) i ≡ eqb (variable_in vs h).kind (variable_in vs (body_variable (node_rule form h xs) i)).kind
node_draws {form} f vs h xs founded i l =
    node_kept f vs h xs i l
    ∙ own_kind (variable_in vs h).kind _ founded
    ∙ ap (λ (t : Term). eqb (variable_in vs h).kind (variable_in vs t.variable).kind) (sym (map_at (node_term form) 0 no_term xs i l))

pub operand-draws : {vs : List Variable} {r : Rule} → NodeValue vs r → (i : ℕ) → i < length r.terms
    → draws_edge vs r i ≡ eqb (variable_in vs r.head).kind (variable_in vs (body_variable r i)).kind
operand-draws {vs} {r} k i l =
    let p = rule_promised vs r k.fine.fine in
    let own = read_as_itself r.form (λ q. omega (arith, k.fine.form)) in
    let mixed = only_sizes_mixed p (λ q. omega (arith, own, k.fine.form)) i l in
    let form = ap (λ (q : Rule). q.form) k.is in
    let head = ap (λ (q : Rule). q.head) k.is in
    let byte : NodeForm k.form = record { least = omega (arith, p.form_least, own, form); most = omega (arith, k.fine.form, form) } in
    let inside : i < length k.operands = omega (arith, ap (λ (q : Rule). length q.terms) k.is, length-map k.operands (node_term k.form)) in
    let keeps = subst (λ (q : Rule). kept vs q i ≡ eqb (variable_in vs q.head).kind (variable_in vs (body_variable q i)).kind) (sym k.is)
    (node_draws byte vs k.head k.operands (subst (λ (h : ℕ). is_founded (variable_in vs h) ≡ true) head p.head_founded) i inside) in
    ap₂ (λ (a b : Bool). a || b) keeps mixed ∙ or-false _

-- what the code reads: h and v are the head's variable and the operand's
module _ {vs : List Variable} {r : Rule} (k : NodeValue vs r) (i : ℕ) (l : i < length r.terms) {h v : Variable} (head : h ≡ variable_in vs r.head) (own : v ≡ variable_in vs (body_variable r i)) where
  kinds : draws_edge vs r i ≡ eqb h.kind v.kind
  kinds = operand-draws k i l ∙ sym (ap₂ (λ (x y : Variable). eqb x.kind y.kind) head own)

  pub other_kind : (h.kind ≡ v.kind → ⊥) → draws_edge vs r i ≡ false
  other_kind ne = kinds ∙ ne_eqb h.kind v.kind ne

  pub same_kind : h.kind ≡ v.kind → draws_edge vs r i ≡ true
  same_kind e = kinds ∙ eq-eqb h.kind v.kind e

-- a value that means a node's rule
pub node_value_lem : {vs : List Variable} (form head : ℕ) (xs : List ℕ) {r : Rule} → FineNode vs (node_rule form head xs) → r ≡ node_rule form head xs → NodeValue vs r
node_value_lem {vs} form head xs f e = record { form = form; head = head; operands = xs; is = e; fine = subst (FineNode vs) (sym e) f }
