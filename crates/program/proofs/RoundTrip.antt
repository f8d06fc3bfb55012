-- The format, both ways: an accepted file is what its program encodes to, and a proper program's encoding is accepted as that program.
use Prim.Native.Nat.{ℕ, zero, suc, ◌+◌, ◌*◌, ◌/◌, ◌%◌, ◌<◌, ◌≤◌}
use mathlib.Core.Path.{◌≡◌, refl, sym, ap, ap₂, ◌∙◌, subst, subst₂}
use mathlib.Core.List.{List, [], ◌∷◌, ◌++◌, append-nil, append_assoc}
use mathlib.Core.Bool.{false}
use native.Mathlib.Omega.{arith}
use native.Mathlib.Nat.{add_assoc}
use borrow.Author.Tests.{le-leb, le-ltb, lt-leb, eq-eqb}
use lib.Dec.{eqb}
use lib.ListN.{length, get_or, take, drop, length-append}
use lib.Seq.{take-add, take_all, take-append_seam, append_snoc, drop-append-add, get_or_at, get_or-append-add}
use Rattle.format.specs.Limits.{max_file, max_variables, max_rules, max_constraints, max_terms}
use Rattle.format.specs.Numbers.{bytes_of}
use Rattle.program.specs.Fields.{tag_at, length_at, value_at, next_at, place, tag_before}
use Rattle.program.specs.Program.{Rule, Constraint, Program, Item, variable, rule, constraint, with, item_of, program, divisor_terms, no_variable, no_rule, no_constraint}
use Rattle.program.specs.Refusals.{cut_short, unknown_tag, tag_below, one_too_many, wrong_length, not_terms, item_refusal, value_refusal, field_refusal}
use Rattle.program.specs.Components.{Valid}
use Rattle.program.specs.Reading.{Passed, Whole, Accepts}
use Rattle.program.specs.Encode.{each, field_bytes, variable_bytes, rule_bytes, constraint_bytes, encode, Bytes, All, Proper}
use Rattle.program.proofs.Places.{Fine, Next, a_variable, a_rule, a_constraint, next_of, alone, length_snoc, place_start, program_start, before_start, place_next}
use Rattle.program.proofs.Places.{program_next, before_next, place_suc, value_length, passed_less, passed_none, passed_more, passed_fine, counts, variable_stands}
use Rattle.program.proofs.Places.{rule_at_is, constraint_at_is}
use Rattle.program.proofs.Encoding.{variable_value, rule_value, constraint_value, front, variable_written, rule_written, constraint_written, divisor_small}
use Rattle.program.proofs.Encoding.{body_small, variable_read, rule_read, constraint_read, terms_size, rule_size, value_bytes, bytes_each, bytes_append, all_of}
use Rattle.program.proofs.Encoding.{all_map, variable_bytes_lem, rule_bytes_lem, constraint_bytes_lem}
use Rattle.program.proofs.Promises.{variable_promised, rule_promised, constraint_promised}
use Rattle.program.proofs.Conditions.{below_some}
use Rattle.program.specs.declared.Variable.{Variable}

-- ---- an accepted file is what its program encodes to

pub each_append : {A : Type 0} (f : A → List ℕ) (xs ys : List A) → each f (xs ++ ys) ≡ each f xs ++ each f ys
each_append f [] ys = refl
each_append f (x ∷ xs) ys = rw (each_append f xs ys) (sym (append_assoc (f x) (each f xs) (each f ys)))

pub each_snoc : {A : Type 0} (f : A → List ℕ) (xs : List A) (x : A) → each f (xs ++ (x ∷ [])) ≡ each f xs ++ f x
each_snoc f xs x = each_append f xs (x ∷ []) ∙ ap (λ (r : List ℕ). each f xs ++ r) (append-nil (f x))

-- no element, no byte
no_list : {A : Type 0} (f : A → List ℕ) (xs : List A) → length xs ≡ 0 → each f xs ≡ []
no_list f [] h = refl
no_list f (x ∷ xs) h = let e : ⊥ = omega arith in absurd e

module _ (P : Program) where
  encode_constraint : (k : Constraint) → encode (with P (constraint k)) ≡ encode P ++ constraint_bytes k
  unfolding encode
  encode_constraint k = simp (each_snoc, append_assoc)

  encode_rule : (r : Rule) → length P.constraints ≡ 0 → encode (with P (rule r)) ≡ encode P ++ rule_bytes r
  unfolding encode
  encode_rule r h = simp (each_snoc, append_assoc, append-nil, no_list constraint_bytes P.constraints h)

  encode_variable : (x : Variable) → length P.rules ≡ 0 → length P.constraints ≡ 0 → encode (with P (variable x)) ≡ encode P ++ variable_bytes x
  unfolding encode
  encode_variable x h l = simp (each_snoc, append_assoc, append-nil, no_list rule_bytes P.rules h, no_list constraint_bytes P.constraints l)

-- the tag and the length of a field
header : (s : List ℕ) (at : ℕ) → at + 3 ≤ length s → drop at s ≡ tag_at s at ∷ get_or s (at + 1) 0 ∷ get_or s (at + 1 + 1) 0 ∷ drop (at + 3) s
header s at h =
    let a : at + 1 + 1 ≡ suc (suc at) = omega arith in
    let b : at + 1 ≡ suc at = omega arith in
    let c : at + 3 ≡ suc (suc (suc at)) = omega arith in
    rw (a, b, c) (front s at _ (omega arith) (front s (suc at) _ (omega arith) (front s (suc (suc at)) _ (omega arith) refl)))

-- the bytes of a field that ends within the file
pub field_stretch : (s : List ℕ) (at : ℕ) → Bytes s → next_at s at ≤ length s → take (3 + length_at s at) (drop at s) ≡ field_bytes (tag_at s at) (value_at s at)
field_stretch s at b h =
    let v = value_at s at in
    let e : 3 + length_at s at ≡ suc (suc (suc (length_at s at))) = omega arith in
    let l = value_length s at h in
    let high : length v / 256 ≡ get_or s (at + 1) 0 = omega (arith, b (at + 1), b (at + 1 + 1)) in
    let low : length v % 256 ≡ get_or s (at + 1 + 1) 0 = omega (arith, b (at + 1), b (at + 1 + 1)) in
    rw (e, header s at (omega arith), high, low)

field_bytes_lem : (s : List ℕ) (at : ℕ) → Bytes s → next_at s at ≤ length s → take (next_at s at) s ≡ take at s ++ field_bytes (tag_at s at) (value_at s at)
field_bytes_lem s at b h =
    let e : at + 3 + length_at s at ≡ at + (3 + length_at s at) = omega arith in
    ap (λ (n : ℕ). take n s) e ∙ take-add at (3 + length_at s at) s ∙ ap (◌++◌ (take at s)) (field_stretch s at b h)

module _ (s : List ℕ) (k : ℕ) where
  -- field k, written after the fields before it
  abbrev Written : Type 0
  Written = encode (program s (suc k)) ≡ encode (program s k) ++ field_bytes (tag_at s (place s k)) (value_at s (place s k))

  one_written : {t : ℕ} {w : List ℕ} → encode (program s (suc k)) ≡ encode (program s k) ++ w
      → w ≡ field_bytes t (value_at s (place s k)) → tag_at s (place s k) ≡ t → Written
  one_written e d h = e ∙ ap (λ (r : List ℕ). encode (program s k) ++ r) (d ∙ ap (λ (t : ℕ). field_bytes t (value_at s (place s k))) (sym h))

  next_written : Bytes s → Fine s k → Next s k → Written
  next_written b f (a_variable x) =
      one_written
      (ap encode x.means ∙ encode_variable (program s k) _ x.no_rule_is x.no_constraint_is)
      (variable_written (value_at s (place s k)) (value_bytes s (place s k) b) (f.length_is ∙ x.takes)) x.tagged
  next_written b f (a_rule x) =
      one_written
      (ap encode x.means ∙ encode_rule (program s k) _ x.no_constraint_is)
      (rule_written (value_at s (place s k)) (value_bytes s (place s k) b) x.sized.terms x.sized.length_is) x.tagged
  next_written b f (a_constraint x) =
      one_written
      (ap encode x.means ∙ encode_constraint (program s k) _)
      (constraint_written (value_at s (place s k)) (value_bytes s (place s k) b) x.sized.terms x.sized.length_is) x.tagged

pub passed_encoded : {s : List ℕ} → Bytes s → (k : ℕ) → Passed s k → take (place s k) s ≡ encode (program s k)
unfolding place program encode
passed_encoded b zero p = refl
passed_encoded {s} b (suc k) p =
    let f = passed_fine p k (omega arith) in
    ap (λ (n : ℕ). take n s) (place_suc s k)
    ∙ field_bytes_lem s (place s k) b f.whole
    ∙ ap (λ (r : List ℕ). r ++ field_bytes (tag_at s (place s k)) (value_at s (place s k))) (passed_encoded b k (passed_less p (omega arith)))
    ∙ sym (next_written s k b f (next_of p))

whole_encoded : {s : List ℕ} {k : ℕ} → Bytes s → Whole s k → s ≡ encode (program s k)
whole_encoded {s} {k} b w = sym (take_all (place s k) s w.ended) ∙ passed_encoded b k w.passed

pub accepted_encoded : {s : List ℕ} {P : Program} → Bytes s → Accepts s P → s ≡ encode P
accepted_encoded b a = whole_encoded b a.whole ∙ ap encode a.means

-- and its program is proper
whole_proper : {s : List ℕ} {k : ℕ} → Bytes s → Whole s k → Valid (program s k) → Proper (program s k)
whole_proper {s} {k} b w v =
    let p = w.passed in
    let c = counts p in
    record {
      short = omega (arith, p.short, ap length (whole_encoded b w));
      few_variables = c.few_variables;
      few_rules = c.few_rules;
      few_constraints = c.few_constraints;
      fine_variables = all_of _ no_variable (program s k).variables (λ x h. (variable_stands p h).fine);
      fine_rules = all_of _ no_rule (program s k).rules (λ i h. (rule_at_is p h).fine);
      fine_constraints = all_of _ no_constraint (program s k).constraints (λ i h. (constraint_at_is p h).fine);
      valid = v;
    }

pub accepted_proper : {s : List ℕ} {P : Program} → Bytes s → Accepts s P → Proper P
accepted_proper {s} b a = subst Proper a.means (whole_proper b a.whole (subst Valid (sym a.means) a.valid))

-- ---- a proper program's encoding is accepted as that program

-- a field with this tag and value stands here
record Here (s : List ℕ) (at tag : ℕ) (v : List ℕ) : Type 0 where
  tag_is : tag_at s at ≡ tag
  length_is : length_at s at ≡ length v
  value_is : value_at s at ≡ v
  inside : next_at s at ≤ length s

here : (done : List ℕ) (tag : ℕ) (v rest : List ℕ) → Here (done ++ (field_bytes tag v ++ rest)) (length done) tag v
here done tag v rest =
    let f = field_bytes tag v ++ rest in
    let at = length done in
    let one = get_or-append-add done f 1 0 in
    let two : get_or (done ++ f) (at + 1 + 1) 0 ≡ length v % 256 = ap (λ (i : ℕ). get_or (done ++ f) i 0) (add_assoc at 1 1) ∙ get_or-append-add done f 2 0 in
    let l : length_at (done ++ f) at ≡ length v = omega arith in
    record {
      tag_is = get_or_at done tag _ 0 at refl;
      length_is = l;
      value_is = ap₂ (λ (n : ℕ) (r : List ℕ). take n r) l (drop-append-add done f 3) ∙ take-append_seam v rest;
      inside = omega (arith, length-append done f, length-append v rest);
    }

-- the fields of a file read so far: they mean Q, no tag was above `tag`, and `rest` comes next
record Reached (s : List ℕ) (tag : ℕ) (Q : Program) (rest : List ℕ) : Type 0 where
  fields : ℕ
  done : List ℕ
  passed : Passed s fields
  means : program s fields ≡ Q
  last : tag_before s fields ≤ tag
  split : done ++ rest ≡ s
  placed : length done ≡ place s fields

reached_above : {s rest : List ℕ} {t u : ℕ} {Q : Program} → Reached s t Q rest → t ≤ u → Reached s u Q rest
reached_above r h = record { fields = r.fields; done = r.done; passed = r.passed; means = r.means; last = omega arith; split = r.split; placed = r.placed }

-- after Q, a field with this tag and value meets no refusal, and means `it`
record Fits (Q : Program) (tag : ℕ) (v : List ℕ) (it : Item) : Type 0 where
  tag_least : 1 ≤ tag
  tag_most : tag ≤ 3
  room : one_too_many Q tag ≡ false
  sized : wrong_length tag v ≡ false
  means : item_of tag v ≡ it
  fine : item_refusal Q.variables it ≡ 0

value_fits : {Q : Program} {tag : ℕ} {v : List ℕ} {it : Item} → Fits Q tag v it → (before : ℕ) → before ≤ tag → value_refusal Q before tag v ≡ 0
unfolding value_refusal unknown_tag tag_below
value_fits {Q} {tag} f before h =
    simp (le-leb 1 tag f.tag_least, le-leb tag 3 f.tag_most, le-ltb tag before h, f.room, f.sized)
    (ap (item_refusal Q.variables) f.means ∙ f.fine)

field_fits : (s : List ℕ) (k : ℕ) {Q : Program} {tag : ℕ} {v : List ℕ} {it : Item} → Here s (place s k) tag v → program s k ≡ Q → tag_before s k ≤ tag
    → Fits Q tag v it → field_refusal s k ≡ 0
unfolding field_refusal cut_short
field_fits s k h m l f =
    let at = place s k in
    simp (le-ltb (length s) (at + 3) (omega (arith, h.inside)), le-ltb (length s) (next_at s at) h.inside, h.tag_is, h.value_is, m)
    (value_fits f (tag_before s k) l)

step : {s v rest : List ℕ} {tag : ℕ} {Q : Program} {it : Item} → Reached s tag Q (field_bytes tag v ++ rest) → Fits Q tag v it
    → Reached s tag (with Q it) rest
step {s} {v} {rest} {tag} {Q} {it} r f =
    let k = r.fields in
    let done = r.done in
    let h : Here s (place s k) tag v = subst₂ (λ (l : List ℕ) (at : ℕ). Here l at tag v) r.split r.placed (here done tag v rest) in
    record {
      fields = k + 1;
      done = done ++ field_bytes tag v;
      passed = passed_more r.passed (omega (arith, h.inside)) (field_fits s k h r.means r.last f);
      means = program_next s k ∙ rw (r.means, h.tag_is, h.value_is) (ap (with Q) f.means);
      last = omega (arith, before_next s k, h.tag_is);
      split = append_assoc done (field_bytes tag v) rest ∙ r.split;
      placed = omega (arith, length-append done (field_bytes tag v), place_next s k, h.length_is, r.placed);
    }

-- a right length
right_length : (header most len n : ℕ) → n ≤ most → len ≡ header + 4 * n → not_terms header most len ≡ false
unfolding not_terms
right_length header most len n h e = rw (below_some (most + 1) (λ i. eqb len (header + 4 * i)) n (omega arith) (eq-eqb len (header + 4 * n) e))

module _ (Q : Program) where
  fits_variable : (x : Variable) → item_refusal Q.variables (variable x) ≡ 0 → length Q.variables < max_variables → Fits Q 1 (variable_value x) (variable x)
  unfolding one_too_many wrong_length bytes_of
  fits_variable x e h =
      let p = variable_promised Q.variables x e in
      record {
        tag_least = omega arith;
        tag_most = omega arith;
        room = lt-leb max_variables (length Q.variables) h;
        sized = refl;
        means = ap variable (variable_read x p.low_small p.high_small);
        fine = e;
      }

  fits_rule : (r : Rule) → item_refusal Q.variables (rule r) ≡ 0 → length Q.rules < max_rules → Fits Q 2 (rule_value r) (rule r)
  unfolding one_too_many wrong_length bytes_of
  fits_rule r e h =
      let p = rule_promised Q.variables r e in
      record {
        tag_least = omega arith;
        tag_most = omega arith;
        room = lt-leb max_rules (length Q.rules) h;
        sized = right_length 4 (divisor_terms r.form + max_terms) (length (rule_value r)) (length r.divisor + length r.terms)
            (omega (arith, p.divided, p.body.count.most)) (rule_size r);
        means = ap rule (rule_read r p.c_small p.divided (divisor_small r.divisor p.divisor) (body_small p.body));
        fine = e;
      }

  fits_constraint : (k : Constraint) → item_refusal Q.variables (constraint k) ≡ 0 → length Q.constraints < max_constraints
      → Fits Q 3 (constraint_value k) (constraint k)
  unfolding one_too_many wrong_length bytes_of
  fits_constraint k e h =
      let p = constraint_promised Q.variables k e in
      record {
        tag_least = omega arith;
        tag_most = omega arith;
        room = lt-leb max_constraints (length Q.constraints) h;
        sized = right_length 3 max_terms (length (constraint_value k)) (length k.terms) p.body.count.most (omega (arith, terms_size k.terms));
        means = ap constraint (constraint_read k p.c_small (body_small p.body));
        fine = e;
      }

-- one kind of fields after the other
module _ {s rest : List ℕ} (vs : List Variable) where
  read_variables : (xs : List Variable) {Q : Program} → Reached s 1 Q (each variable_bytes xs ++ rest) → length Q.variables + length xs ≤ max_variables
      → All (λ x. item_refusal vs (variable x) ≡ 0) xs
      → Reached s 1 (record { variables = Q.variables ++ xs; rules = Q.rules; constraints = Q.constraints }) rest
  read_variables [] {Q} r h a = rw (append-nil Q.variables) r
  read_variables (x ∷ xs) {Q} r h a =
      let f = fits_variable Q x (alone Q.variables vs x ∙ a.0) (omega arith) in
      let next = step (rw (append_assoc (variable_bytes x) (each variable_bytes xs) rest) at r) f in
      let all = read_variables xs next (omega (arith, length_snoc Q.variables x)) a.1 in
      rw (append_snoc Q.variables x xs) at all

module _ {s rest : List ℕ} where
  read_rules : (rs : List Rule) {Q : Program} → Reached s 2 Q (each rule_bytes rs ++ rest) → length Q.rules + length rs ≤ max_rules
      → All (λ r. item_refusal Q.variables (rule r) ≡ 0) rs
      → Reached s 2 (record { variables = Q.variables; rules = Q.rules ++ rs; constraints = Q.constraints }) rest
  read_rules [] {Q} r h a = rw (append-nil Q.rules) r
  read_rules (x ∷ rs) {Q} r h a =
      let next = step (rw (append_assoc (rule_bytes x) (each rule_bytes rs) rest) at r) (fits_rule Q x a.0 (omega arith)) in
      let all = read_rules rs next (omega (arith, length_snoc Q.rules x)) a.1 in
      rw (append_snoc Q.rules x rs) at all

  read_constraints : (ks : List Constraint) {Q : Program} → Reached s 3 Q (each constraint_bytes ks ++ rest) → length Q.constraints + length ks ≤ max_constraints
      → All (λ k. item_refusal Q.variables (constraint k) ≡ 0) ks
      → Reached s 3 (record { variables = Q.variables; rules = Q.rules; constraints = Q.constraints ++ ks }) rest
  read_constraints [] {Q} r h a = rw (append-nil Q.constraints) r
  read_constraints (x ∷ ks) {Q} r h a =
      let next = step (rw (append_assoc (constraint_bytes x) (each constraint_bytes ks) rest) at r) (fits_constraint Q x a.0 (omega arith)) in
      let all = read_constraints ks next (omega (arith, length_snoc Q.constraints x)) a.1 in
      rw (append_snoc Q.constraints x ks) at all

reached_start : (s : List ℕ) → length s ≤ max_file → Reached s 1 (record { variables = []; rules = []; constraints = [] }) s
reached_start s h = record {
  fields = 0;
  done = [];
  passed = passed_none s h;
  means = program_start s;
  last = omega (arith, before_start s);
  split = refl;
  placed = sym (place_start s);
}

reached_whole : {s : List ℕ} {tag : ℕ} {Q : Program} (r : Reached s tag Q []) → Whole s r.fields
reached_whole r = record { passed = r.passed; ended = omega (arith, ap length r.split, ap length (append-nil r.done), r.placed) }

reached_end : {s : List ℕ} {P : Program} → Proper P → Reached s 1 (record { variables = []; rules = []; constraints = [] }) (encode P) → Reached s 3 P []
unfolding encode
reached_end {s} {P} p r =
    let constraints = each constraint_bytes P.constraints in
    let a = read_variables P.variables P.variables r (omega (arith, p.few_variables)) p.fine_variables in
    let b = read_rules P.rules (reached_above a (omega arith)) (omega (arith, p.few_rules)) p.fine_rules in
    let c = subst (Reached s 3 _) (sym (append-nil constraints)) (reached_above b (omega arith)) in
    read_constraints P.constraints c (omega (arith, p.few_constraints)) p.fine_constraints

pub encoded_accepted : {P : Program} → Proper P → Accepts (encode P) P
encoded_accepted {P} p =
    let r = reached_end p (reached_start (encode P) p.short) in
    record { fields = r.fields; whole = reached_whole r; means = r.means; valid = p.valid }

-- ---- what is encoded is bytes

pub encode_bytes : {P : Program} → Proper P → Bytes (encode P)
unfolding encode
encode_bytes {P} p =
    let vs = P.variables in
    let variables = bytes_each variable_bytes vs (all_map (λ x e. variable_bytes_lem x (variable_promised vs x e)) vs p.fine_variables) in
    let rules = bytes_each rule_bytes P.rules (all_map (λ r e. rule_bytes_lem r p.few_variables (rule_promised vs r e)) P.rules p.fine_rules) in
    let constraints =
    bytes_each constraint_bytes P.constraints
    (all_map (λ k e. constraint_bytes_lem k p.few_variables (constraint_promised vs k e)) P.constraints p.fine_constraints) in
    bytes_append (each variable_bytes vs) _ variables (bytes_append (each rule_bytes P.rules) (each constraint_bytes P.constraints) rules constraints)
