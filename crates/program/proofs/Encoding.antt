-- The bytes of a value and what they mean, both ways.
use Prim.Native.Nat.{ℕ, zero, suc, ◌+◌, ◌-◌, ◌*◌, ◌/◌, ◌%◌, ◌<◌, ◌≤◌}
use mathlib.Core.Path.{◌≡◌, refl, sym, ap, ◌∙◌}
use mathlib.Core.List.{List, [], ◌∷◌, ◌++◌, append-nil}
use mathlib.Core.Bool.{Bool, true, false}
use native.Mathlib.Omega.{arith}
use lib.Dec.{eqb, leb}
use borrow.Author.Tests.{eqb-true, eqb-false, leb-true, leb-false}
use lib.IntN.{ℤ, nat_abs}
use lib.ListN.{length, get_or, take, drop, length-drop, drop_of_length-le, take-append-drop, length-append}
use lib.Seq.{drop-cons, get_or-drop, drop-drop, take_all, length-take-le, take-append_seam, drop-append_seam, drop-append-add}
use mir.Syntax.{w16}
use mir.Val.{of_z}
use Rattle.format.specs.Limits.{max_variables, max_number}
use Rattle.format.specs.Numbers.{signed, bytes_of}
use Rattle.format.proofs.Ints.{read_written, written_read, raw_small}
use Rattle.program.specs.Fields.{length_at, value_at}
use Rattle.program.specs.Program.{Rule, Constraint, divisor_terms, terms_of, term_in, no_term, variable_of, rule_body, rule_of, constraint_of}
use Rattle.program.specs.Refusals.{literal_position}
use Rattle.program.specs.Encode.{each, field_bytes, term_bytes, variable_bytes, rule_bytes, constraint_bytes, Bytes, All}
use Rattle.program.proofs.Forms.{divisor_few}
use Rattle.program.proofs.Promises.{TermPromise, DivisorPromise, BodyPromise, VariablePromise, RulePromise, ConstraintPromise}
use Rattle.program.specs.declared.Variable.{Variable}
use Rattle.program.specs.declared.Term.{Term}

-- the values of fields
abbrev pub variable_value : Variable → List ℕ
variable_value x = x.kind ∷ bytes_of x.low ++ bytes_of x.high

abbrev pub rule_value : Rule → List ℕ
rule_value r = r.form ∷ r.head ∷ bytes_of r.c ++ (each term_bytes r.divisor ++ each term_bytes r.terms)

abbrev pub constraint_value : Constraint → List ℕ
constraint_value k = k.form ∷ bytes_of k.c ++ each term_bytes k.terms

-- ---- parts of a list of bytes are bytes

pub bytes_drop : (n : ℕ) (s : List ℕ) → Bytes s → Bytes (drop n s)
bytes_drop n s b i = rw (get_or-drop n s i 0) (b (n + i))

pub bytes_take : (n : ℕ) (s : List ℕ) → Bytes s → Bytes (take n s)
bytes_take zero s b i = omega arith
bytes_take (suc n) [] b i = omega arith
bytes_take (suc n) (x ∷ s) b zero = b 0
bytes_take (suc n) (x ∷ s) b (suc i) = bytes_take n s (λ j. b (suc j)) i

pub value_bytes : (s : List ℕ) (at : ℕ) → Bytes s → Bytes (value_at s at)
value_bytes s at b = bytes_take (length_at s at) (drop (at + 3) s) (bytes_drop (at + 3) s b)

-- ---- read, then written

-- one byte more in front
pub front : (v : List ℕ) (j : ℕ) (rest : List ℕ) → j < length v → drop (suc j) v ≡ rest → drop j v ≡ get_or v j 0 ∷ rest
front v j rest h e = drop-cons v j 0 h ∙ ap (λ (r : List ℕ). get_or v j 0 ∷ r) e

pub front_three : (v : List ℕ) → 3 ≤ length v → v ≡ get_or v 0 0 ∷ get_or v 1 0 ∷ get_or v 2 0 ∷ drop 3 v
front_three v h = front v 0 _ (omega arith) (front v 1 _ (omega arith) (front v 2 _ (omega arith) refl))

pub front_four : (v : List ℕ) → 4 ≤ length v → v ≡ get_or v 0 0 ∷ get_or v 1 0 ∷ get_or v 2 0 ∷ get_or v 3 0 ∷ drop 4 v
front_four v h = front v 0 _ (omega arith) (front v 1 _ (omega arith) (front v 2 _ (omega arith) (front v 3 _ (omega arith) refl)))

all_five : (v : List ℕ) → length v ≡ 5 → v ≡ get_or v 0 0 ∷ get_or v 1 0 ∷ get_or v 2 0 ∷ get_or v 3 0 ∷ get_or v 4 0 ∷ []
all_five v h =
    front v 0 _ (omega arith) (front v 1 _ (omega arith) (front v 2 _ (omega arith) (front v 3 _ (omega arith) (front v 4 _ (omega arith)
    (drop_of_length-le v {i = 5} (omega arith))))))

pub terms_written : (n : ℕ) (b : List ℕ) → length b ≡ 4 * n → Bytes b → each term_bytes (terms_of b) ≡ b
unfolding terms_of
terms_written n [] h y = refl
terms_written n (x ∷ []) h y = let f : ⊥ = omega arith in absurd f
terms_written n (x ∷ op ∷ []) h y = let f : ⊥ = omega arith in absurd f
terms_written n (x ∷ op ∷ high ∷ []) h y = let f : ⊥ = omega arith in absurd f
terms_written zero (x ∷ op ∷ high ∷ low ∷ rest) h y = let f : ⊥ = omega arith in absurd f
terms_written (suc n) (x ∷ op ∷ high ∷ low ∷ rest) h y =
    rw (written_read high low (y 2) (y 3), terms_written n rest (omega arith) (λ i. y (suc (suc (suc (suc i))))))

-- n terms, cut after the first k of them: where there are fewer, the second part is empty
parted_written : (n k : ℕ) (b : List ℕ) → length b ≡ 4 * n → Bytes b → each term_bytes (terms_of (take (4 * k) b)) ++ each term_bytes (terms_of (drop (4 * k) b)) ≡ b
unfolding terms_of
parted_written n k b h y = go (leb k n) refl
  where
    go : (t : Bool) → leb k n ≡ t → each term_bytes (terms_of (take (4 * k) b)) ++ each term_bytes (terms_of (drop (4 * k) b)) ≡ b
    go true e =
        let l = leb-true k n e in
        let p = terms_written k (take (4 * k) b) (length-take-le (4 * k) b (omega arith)) (bytes_take (4 * k) b y) in
        let q = terms_written (n - k) (drop (4 * k) b) (omega (arith, length-drop (4 * k) b)) (bytes_drop (4 * k) b y) in
        rw (p, q) (take-append-drop (4 * k) b)
    go false e =
        let l = leb-false k n e in
        let p : take (4 * k) b ≡ b = take_all (4 * k) b (omega arith) in
        let q : drop (4 * k) b ≡ [] = drop_of_length-le b {i = 4 * k} (omega arith) in
        rw (p, q, terms_written n b h y) (append-nil b)

module _ (v : List ℕ) (y : Bytes v) where
  pub variable_written : length v ≡ 5 → variable_bytes (variable_of v) ≡ field_bytes 1 v
  variable_written h =
      let e : variable_value (variable_of v) ≡ v =
      rw (written_read (get_or v 1 0) (get_or v 2 0) (y 1) (y 2), written_read (get_or v 3 0) (get_or v 4 0) (y 3) (y 4)) (sym (all_five v h)) in
      ap (field_bytes 1) e

  pub rule_written : (n : ℕ) → length v ≡ 4 + 4 * n → rule_bytes (rule_of v) ≡ field_bytes 2 v
  rule_written n h =
      let t = parted_written n (divisor_terms (get_or v 0 0)) (drop 4 v) (omega (arith, length-drop 4 v)) (bytes_drop 4 v y) in
      let d : each term_bytes (rule_of v).divisor ++ each term_bytes (rule_of v).terms ≡ drop 4 v =
      ap (λ (b : List ℕ). each term_bytes (rule_of v).divisor ++ each term_bytes (terms_of b)) (sym (drop-drop (4 * divisor_terms (get_or v 0 0)) 4 v)) ∙ t in
      let e : rule_value (rule_of v) ≡ v = rw (written_read (get_or v 2 0) (get_or v 3 0) (y 2) (y 3), d) (sym (front_four v (omega arith))) in
      ap (field_bytes 2) e

  pub constraint_written : (n : ℕ) → length v ≡ 3 + 4 * n → constraint_bytes (constraint_of v) ≡ field_bytes 3 v
  constraint_written n h =
      let t = terms_written n (drop 3 v) (omega (arith, length-drop 3 v)) (bytes_drop 3 v y) in
      let e : constraint_value (constraint_of v) ≡ v = rw (written_read (get_or v 1 0) (get_or v 2 0) (y 1) (y 2), t) (sym (front_three v (omega arith))) in
      ap (field_bytes 3) e

-- ---- lengths

pub terms_size : (ts : List Term) → length (each term_bytes ts) ≡ 4 * length ts
unfolding bytes_of
terms_size [] = refl
terms_size (t ∷ ts) = let e = terms_size ts in omega arith

-- ---- written, then read

-- a number that two bytes hold
abbrev pub Small : ℤ → Type 0
Small z = nat_abs z ≤ max_number

abbrev pub SmallTerms : List Term → Type 0
SmallTerms ts = (i : ℕ) → i < length ts → Small (term_in ts i).number

read_back : (z : ℤ) → Small z → signed (of_z w16 z / 256) (of_z w16 z % 256) ≡ z
read_back z h = read_written z (omega arith)

pub terms_read : (ts : List Term) → SmallTerms ts → terms_of (each term_bytes ts) ≡ ts
unfolding terms_of bytes_of
terms_read [] h = refl
terms_read (t ∷ ts) h = rw (read_back t.number (h 0 (omega arith)), terms_read ts (λ i l. h (suc i) (omega arith)))

pub variable_read : (x : Variable) → Small x.low → Small x.high → variable_of (variable_value x) ≡ x
unfolding bytes_of
variable_read x h l = rw (read_back x.low h, read_back x.high l)

-- the divisor's bytes and those of the terms, cut where the one ends
parted_read : (form : ℕ) (ds ts : List Term) → length ds ≡ divisor_terms form → SmallTerms ds → SmallTerms ts
    → (terms_of (take (4 * divisor_terms form) (each term_bytes ds ++ each term_bytes ts)) ≡ ds)
    × (terms_of (drop (4 * divisor_terms form) (each term_bytes ds ++ each term_bytes ts)) ≡ ts)
parted_read form ds ts e h l =
    let a = each term_bytes ds in
    let b = each term_bytes ts in
    let k : 4 * divisor_terms form ≡ length a = omega (arith, terms_size ds) in (
      ap (λ (n : ℕ). terms_of (take n (a ++ b))) k ∙ ap terms_of (take-append_seam a b) ∙ terms_read ds h,
      ap (λ (n : ℕ). terms_of (drop n (a ++ b))) k ∙ ap terms_of (drop-append_seam a b) ∙ terms_read ts l,
    )

pub rule_read : (r : Rule) → Small r.c → length r.divisor ≡ divisor_terms r.form → SmallTerms r.divisor → SmallTerms r.terms → rule_of (rule_value r) ≡ r
unfolding bytes_of
rule_read r h e d l =
    let p = parted_read r.form r.divisor r.terms e d l in
    let q : terms_of (rule_body (rule_value r)) ≡ r.terms =
    ap terms_of (drop-append-add (r.form ∷ r.head ∷ bytes_of r.c) _ (4 * divisor_terms r.form)) ∙ p.1 in
    rw (read_back r.c h, p.0, q)

pub constraint_read : (k : Constraint) → Small k.c → SmallTerms k.terms → constraint_of (constraint_value k) ≡ k
unfolding bytes_of
constraint_read k h l = rw (read_back k.c h, terms_read k.terms l)

-- the numbers and ops of terms are small
module _ {vs : List Variable} {form i : ℕ} {t : Term} (p : TermPromise vs form i t) where
  term_small : Small t.number
  term_small = go (literal_position form i) (eqb form 1) refl refl
    where
      go : (a b : Bool) → literal_position form i ≡ a → eqb form 1 ≡ b → Small t.number
      go true b e f = p.literal_small e
      go false true e f = omega (arith, p.coefficient_small (eqb-true form 1 f))
      go false false e f = omega (arith, ap nat_abs (p.plain_zero e (eqb-false form 1 f)))

  term_op : t.op < 256
  term_op = go (literal_position form i) refl
    where
      go : (a : Bool) → literal_position form i ≡ a → t.op < 256
      go true e = omega (arith, p.literal_op_most e)
      go false e = omega (arith, p.plain_op e)

pub divisor_small : (ts : List Term) → ((i : ℕ) → i < length ts → DivisorPromise (term_in ts i)) → SmallTerms ts
divisor_small ts p i h = omega (arith, (p i h).small)

pub body_small : {vs : List Variable} {form : ℕ} {ts : List Term} → BodyPromise vs form ts → SmallTerms ts
body_small b i h = term_small (b.terms i h)

-- ---- what is written is bytes

pub bytes_none : Bytes []
bytes_none i = omega arith

pub bytes_cons : (x : ℕ) (s : List ℕ) → x < 256 → Bytes s → Bytes (x ∷ s)
bytes_cons x s h b zero = h
bytes_cons x s h b (suc i) = b i

pub bytes_append : (s t : List ℕ) → Bytes s → Bytes t → Bytes (s ++ t)
bytes_append [] t b y = y
bytes_append (x ∷ s) t b y = bytes_cons x (s ++ t) (b 0) (bytes_append s t (λ i. b (suc i)) y)

pub bytes_each : {A : Type 0} (f : A → List ℕ) (xs : List A) → All (λ x. Bytes (f x)) xs → Bytes (each f xs)
bytes_each f [] h = bytes_none
bytes_each f (x ∷ xs) h = bytes_append (f x) (each f xs) h.0 (bytes_each f xs h.1)

bytes_number : (z : ℤ) → Small z → Bytes (bytes_of z)
unfolding bytes_of
bytes_number z h =
    let r = raw_small z (omega arith) in
    bytes_cons (of_z w16 z / 256) (of_z w16 z % 256 ∷ []) (omega arith) (bytes_cons (of_z w16 z % 256) [] (omega arith) bytes_none)

bytes_field : (tag : ℕ) (v : List ℕ) → tag < 256 → length v < 256 * 256 → Bytes v → Bytes (field_bytes tag v)
bytes_field tag v h l b =
    let high = length v / 256 in
    let low = length v % 256 in
    bytes_cons tag (high ∷ low ∷ v) h (bytes_cons high (low ∷ v) (omega arith) (bytes_cons low v (omega arith) b))

-- what holds at each place holds of each element
pub all_of : {A : Type 0} (q : A → Type 0) (d : A) (xs : List A) → ((i : ℕ) → i < length xs → q (get_or xs i d)) → All q xs
all_of q d [] h = tt
all_of q d (x ∷ xs) h = (h 0 (omega arith), all_of q d xs (λ i l. h (suc i) (omega arith)))

pub all_map : {A : Type 0} {p q : A → Type 0} → ((x : A) → p x → q x) → (xs : List A) → All p xs → All q xs
all_map f [] h = tt
all_map f (x ∷ xs) h = (f x h.0, all_map f xs h.1)

divisor_bytes : (ts : List Term) → ((i : ℕ) → i < length ts → DivisorPromise (term_in ts i)) → Bytes (each term_bytes ts)
divisor_bytes ts p = bytes_each term_bytes ts (all_of (λ t. Bytes (term_bytes t)) no_term ts (λ i h. one (term_in ts i) (p i h)))
  where
    one : (t : Term) → DivisorPromise t → Bytes (term_bytes t)
    one t q =
        let rest = bytes_of t.number in
        bytes_cons t.variable (t.op ∷ rest) (omega (arith, q.no_variable_is))
        (bytes_cons t.op rest (omega (arith, q.divisor_op)) (bytes_number t.number (omega (arith, q.small))))

module _ {vs : List Variable} (few : length vs ≤ max_variables) where
  term_bytes_is : {form i : ℕ} {t : Term} → TermPromise vs form i t → Bytes (term_bytes t)
  term_bytes_is {t = t} p =
      let rest = bytes_of t.number in
      bytes_cons t.variable (t.op ∷ rest) (omega (arith, p.declared)) (bytes_cons t.op rest (term_op p) (bytes_number t.number (term_small p)))

  body_bytes : {form : ℕ} {ts : List Term} → BodyPromise vs form ts → Bytes (each term_bytes ts)
  body_bytes {ts = ts} b = bytes_each term_bytes ts (all_of (λ t. Bytes (term_bytes t)) no_term ts (λ i h. term_bytes_is (b.terms i h)))

pub rule_size : (r : Rule) → length (rule_value r) ≡ 4 + 4 * (length r.divisor + length r.terms)
unfolding bytes_of
rule_size r = omega (arith, terms_size r.divisor, terms_size r.terms, length-append (each term_bytes r.divisor) (each term_bytes r.terms))

pub variable_bytes_lem : (x : Variable) → VariablePromise x → Bytes (variable_bytes x)
unfolding bytes_of
variable_bytes_lem x p =
    let low = bytes_number x.low p.low_small in
    let high = bytes_number x.high p.high_small in
    let numbers = bytes_of x.low ++ bytes_of x.high in
    bytes_field 1 (variable_value x) (omega arith) (omega arith)
    (bytes_cons x.kind numbers (omega (arith, p.kind)) (bytes_append (bytes_of x.low) (bytes_of x.high) low high))

pub rule_bytes_lem : {vs : List Variable} (r : Rule) → length vs ≤ max_variables → RulePromise vs r → Bytes (rule_bytes r)
unfolding bytes_of
rule_bytes_lem r few p =
    let divisor = each term_bytes r.divisor in
    let body = divisor ++ each term_bytes r.terms in
    let rest = bytes_of r.c ++ body in
    let bodies = bytes_append divisor (each term_bytes r.terms) (divisor_bytes r.divisor p.divisor) (body_bytes few p.body) in
    let numbers = bytes_append (bytes_of r.c) body (bytes_number r.c p.c_small) bodies in
    bytes_field 2 (rule_value r) (omega arith) (omega (arith, rule_size r, p.divided, divisor_few r.form, p.body.count.most))
    (bytes_cons r.form (r.head ∷ rest) (omega (arith, p.form_byte)) (bytes_cons r.head rest (omega (arith, p.head_declared)) numbers))

pub constraint_bytes_lem : {vs : List Variable} (k : Constraint) → length vs ≤ max_variables → ConstraintPromise vs k → Bytes (constraint_bytes k)
unfolding bytes_of
constraint_bytes_lem k few p =
    let body = each term_bytes k.terms in
    let rest = bytes_of k.c ++ body in
    let numbers = bytes_append (bytes_of k.c) body (bytes_number k.c p.c_small) (body_bytes few p.body) in
    bytes_field 3 (constraint_value k) (omega arith) (omega (arith, terms_size k.terms, p.body.count.most))
    (bytes_cons k.form rest (omega (arith, p.form_most)) numbers)
