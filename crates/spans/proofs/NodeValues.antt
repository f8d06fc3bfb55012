-- What a node gives, read from the bytes of its rule.
use Rattle.std.specs.Prelude.{Option, Some}
use Prim.Native.Nat.{ℕ, ◌-◌, ◌<◌, ◌≤◌}
use mathlib.Core.Path.{◌≡◌, refl, sym, ap, subst, ◌∙◌}
use mathlib.Core.Bool.{Bool, true, false, cond}
use mathlib.Core.List.{List, [], ◌∷◌}
use native.Mathlib.Omega.{arith}
use lib.Dec.{eqb}
use lib.IntN.{ℤ, pos, nat_abs}
use lib.Signed.{≤ℤ_refl}
use lib.ListN.{length, get_or, take, drop, length-map}
use lib.Seq.{take_at}
use borrow.Author.Tests.{ne_eqb}
use Rattle.program.specs.Tables.{◌⇒◌, select}
use Rattle.program.specs.Program.{Rule, term_form, divisor_terms, rule_of, term_in, no_term}
use Rattle.program.specs.Evaluate.{evaluate}
use Rattle.program.specs.Evaluable.{fewest, Evaluable}
use Rattle.program.specs.Readings.{valued}
use Rattle.program.specs.Encode.{field_bytes, rule_bytes}
use Rattle.program.specs.declared.Term.{Term}
use Rattle.program.proofs.Encoding.{rule_value, rule_read, rule_size}
use Rattle.program.proofs.Gives.{seven}
use Rattle.program.proofs.Tests.{cases}
use Rattle.words.specs.Bit.{bit}
use Rattle.parts.specs.Values.{rule_header}
use Rattle.bodies.specs.Readings.{reading_of}
use Rattle.nested.specs.Flatten.{node_term}
use Rattle.nested.proofs.Nodes.{map_at, node_evaluates}
use Rattle.flat.specs.Flat.{operands_in}
use Rattle.flat.proofs.Standing.{operands_length}
use Rattle.noderules.specs.NodeRules.{rule_at, Writable, PutIn}
use Rattle.noderules.specs.declared.Inner.{Inner}
use Rattle.spans.specs.Filling.{node_value}

-- the value of a field that was put in at the front
field_value : {tag end : ℕ} {b b' : List ℕ} (v : List ℕ) → PutIn (field_bytes tag v) b 0 end b' → take (end - 3) (drop 3 b') ≡ v
field_value {end = end} v p =
    let n : length v ≡ end - 3 = omega (arith, p.ends) in
    ap (λ (r : List ℕ). take (end - 3) (drop 3 r)) p.bytes ∙ take_at v _ (end - 3) n

either_way : (b : Bool) (z : ℤ) → cond b z z ≡ z
either_way true z = refl
either_way false z = refl

-- a node's form is read as itself and reads one term; its terms have number 0 or 1
form_itself : (form : ℕ) → form ≤ 3 → term_form form ≡ form
unfolding term_form
form_itself form h = simp (ne_eqb form 8 (λ e. omega arith))

no_divisor : (form : ℕ) → form ≤ 3 → 0 ≡ divisor_terms form
unfolding divisor_terms
no_divisor form h = simp (ne_eqb form 8 (λ e. omega arith))

form_fewest : (form : ℕ) → 1 ≤ form → form ≤ 3 → fewest form ≤ 1
form_fewest form h k =
    seven (λ n. n ≤ 3 → fewest n ≤ 1)
    (λ m. omega arith) (λ m. omega arith) (λ m. omega arith) (λ m. omega arith) (λ m. omega arith) (λ m. omega arith) (λ m. omega arith)
    form h (omega arith) k

form_number : (form : ℕ) → nat_abs (select form ((1 ⇒ pos 1) ∷ []) (pos 0)) ≤ 1
form_number form = cases (eqb form 1) (λ b. nat_abs (cond b (pos 1) (pos 0)) ≤ 1) (λ t. omega arith) (λ t. omega arith)

module _ (s : List ℕ) (node : Inner) (w : Writable s node) (from : 1 ≤ node.form) (to : node.form ≤ 3) (some : 1 ≤ node.n) where
  abbrev xs : List ℕ
  xs = operands_in node.next node.n (drop node.at s)

  terms_many : length (rule_at s node).terms ≡ node.n
  terms_many = length-map xs (node_term node.form) ∙ operands_length node.next node.n (drop node.at s)

  term_is : (i : ℕ) → i < length (rule_at s node).terms → term_in (rule_at s node).terms i ≡ node_term node.form (get_or xs i 0)
  term_is i h = map_at (node_term node.form) 0 no_term xs i (omega (arith, length-map xs (node_term node.form)))

  terms_small : (i : ℕ) → i < length (rule_at s node).terms → nat_abs (term_in (rule_at s node).terms i).number ≤ 1
  terms_small i h = rw (term_is i h) (form_number node.form)

  rule_evaluable : Evaluable (rule_at s node)
  rule_evaluable =
      let e = form_itself node.form to in
      record {
        from = omega arith;
        to = omega arith;
        near = omega arith;
        divisor_least = ≤ℤ_refl (pos 1);
        divisor_near = omega arith;
        weights = λ one i h. omega (arith, terms_small i h);
        plain = λ no i h. rw (term_is i h);
        few = omega (arith, terms_many, w.few);
        enough = rw e (omega (arith, form_fewest node.form from to, terms_many));
      }

  module _ {b b' : List ℕ} {end : ℕ} (p : PutIn (rule_bytes (rule_at s node)) b 0 end b') where
    rule_back : rule_of (take (end - 3) (drop 3 b')) ≡ rule_at s node
    rule_back =
        ap rule_of (field_value (rule_value (rule_at s node)) p)
        ∙ rule_read (rule_at s node) (omega arith) (no_divisor node.form to) (λ i h. let f : ⊥ = omega arith in absurd f) (λ i h. omega (arith, terms_small i h))

    pub value_evaluable : Evaluable (rule_of (take (end - 3) (drop 3 b')))
    value_evaluable = subst Evaluable (sym rule_back) rule_evaluable

    pub value_headed : rule_header ≤ length (take (end - 3) (drop 3 b'))
    value_headed = omega (arith, ap length (field_value (rule_value (rule_at s node)) p), rule_size (rule_at s node))

    pub value_given : (table : List ℤ) {g : Option ℤ}
        → g ≡ evaluate (rule_of (take (end - 3) (drop 3 b'))) (reading_of 0 table table (rule_of (take (end - 3) (drop 3 b'))).terms) → g ≡ Some (node_value s node table)
    unfolding reading_of
    value_given table e =
        e
        ∙ ap (λ (r : Rule). evaluate r (reading_of 0 table table r.terms)) rule_back
        ∙ node_evaluates (record { least = from; most = to }) node.head xs (reading_of 0 table table (rule_at s node).terms) (valued table)
        (omega (arith, operands_length node.next node.n (drop node.at s)))
        (λ i h. either_way (bit 0 i) _ ∙ ap (λ (t : Term). valued table t.variable) (term_is i (omega (arith, length-map xs (node_term node.form)))))
