-- The parts of a file, by the bytes that they are read from: a part of a slice is the bytes of its stretch.
use Prim.Native.Nat.{ℕ, ◌+◌, ◌-◌, ◌*◌, ◌/◌, ◌<◌, ◌≤◌}
use mathlib.Core.Path.{◌≡◌, refl, sym, ap, ap₂, ◌∙◌}
use mathlib.Core.List.{List, [], ◌∷◌}
use native.Mathlib.Omega.{arith}
use native.Mathlib.Nat.{add-sub_cancel_left}
use lib.Dec.{lit<}
use lib.IntN.{ℤ, pos}
use lib.ListN.{length, get_or, take, drop, length-drop, drop_of_length-le}
use lib.Seq.{take_all, get_or-take, get_or-drop}
use Rattle.format.specs.Numbers.{signed, signed_at}
use Rattle.program.specs.Fields.{length_at, value_at}
use Rattle.program.specs.Program.{variable_of, variable_in, variables_at, divisor_terms, by_one, divisor_of, rule_divisor, rule_body, rule_of, terms_of, term_in, no_term}
use Rattle.program.proofs.Bodies.{terms_length, term_at, term_at_is}
use Rattle.program.proofs.Places.{variable_at_is}
use Rattle.program.proofs.Forms.{divisor_own, divisor_none, none_is_one}
use Rattle.parts.specs.Values.{Handed}
use Rattle.program.specs.declared.Variable.{Variable}
use Rattle.program.specs.declared.Term.{Term}

-- a stretch of a value, handed on
pub handed_as : {body b : List ℕ} → b ≡ body → Handed body b
handed_as {body} e = record { is = e; many = ap (λ (b : List ℕ). length b / 4) e ∙ sym (terms_length body) }

-- the part from h on
pub handed : (h : ℕ) (v : List ℕ) → h ≤ length v → Handed (drop h v) (take (length v - h) (drop h v))
handed h v l = handed_as (take_all (length v - h) (drop h v) (simp length-drop (omega arith)))

-- ---- the body of a rule

module _ (v : List ℕ) where
  -- a form other than 8 has no divisor
  pub undivided_body : ((rule_of v).form ≡ 8 → ⊥) → 4 ≤ length v → Handed (rule_body v) (take (length v - 4) (drop 4 v))
  undivided_body f h = rw (← divisor_none (get_or v 0 0) f) (handed 4 v h)

  module _ (e : (rule_of v).form ≡ 8) where
    divided_bytes : 4 * divisor_terms (get_or v 0 0) ≡ 4
    divided_bytes = omega (arith, divisor_own (get_or v 0 0) e)

    pub divided_body : 8 ≤ length v → Handed (rule_body v) (take (length v - 8) (drop 8 v))
    divided_body h = rw (← divisor_own (get_or v 0 0) e) (handed 8 v h)

    pub body_past : length v < 8 → Handed (rule_body v) (take (length v - length v) (drop (length v) v))
    body_past h = handed_as (take_all (length v - length v) (drop (length v) v) (omega (arith, length-drop (length v) v))
        ∙ drop_of_length-le v {i = length v} (omega arith) ∙ sym (drop_of_length-le v {i = 4 + 4 * divisor_terms (get_or v 0 0)} (omega (arith, divided_bytes))))

    pub divisor_whole : 8 ≤ length v → Handed (rule_divisor v) (take (8 - 4) (drop 4 v))
    divisor_whole h = handed_as (ap (λ (n : ℕ). take n (drop 4 v)) (sym divided_bytes))

    pub divisor_cut : 4 ≤ length v → length v < 8 → Handed (rule_divisor v) (take (length v - 4) (drop 4 v))
    divisor_cut h l = handed_as (take_all (length v - 4) (drop 4 v) (omega (arith, length-drop 4 v))
        ∙ sym (take_all (4 * divisor_terms (get_or v 0 0)) (drop 4 v) (omega (arith, length-drop 4 v, divided_bytes))))

-- ---- the divisor

module _ (v : List ℕ) {b : List ℕ} (h : Handed (rule_divisor v) b) where
  -- of no term, and of the first
  pub divisor_missing : length b < 4 → pos 1 ≡ divisor_of (rule_of v)
  divisor_missing l = sym (none_is_one (rule_of v).divisor (omega (arith, h.many)))

  pub divisor_first : {t : Term} → 4 ≤ length b → t ≡ term_in (terms_of b) 0 → t.number ≡ divisor_of (rule_of v)
  divisor_first {t} l e = ap (λ (u : Term). u.number) (e ∙ ap (λ (c : List ℕ). term_in (terms_of c) 0) h.is) ∙ go (rule_of v).divisor (omega (arith, h.many))
    where
      go : (ts : List Term) → 1 ≤ length ts → (get_or ts 0 no_term).number ≡ (get_or ts 0 by_one).number
      go [] k = let f : ⊥ = omega arith in absurd f
      go (u ∷ ts) k = refl

-- the value of the field at a place
pub value_part : (s : List ℕ) (at : ℕ) {start len : ℕ} → start ≡ at + 3 → len ≡ length_at s at → take (start + len - start) (drop start s) ≡ value_at s at
value_part s at {start} {len} p q = rw (add-sub_cancel_left start len, p, q)

-- a byte of the n bytes from a on
part_byte : (s : List ℕ) (a n k : ℕ) {b : ℕ} → b ≡ a + n → k < n → get_or (take (b - a) (drop a s)) k 0 ≡ get_or (drop a s) k 0
part_byte s a n k e h = rw (e, add-sub_cancel_left a n, get_or-take n (drop a s) k 0 h)

part_number : (s : List ℕ) (a n k : ℕ) {b : ℕ} → b ≡ a + n → k + 1 < n → signed_at (take (b - a) (drop a s)) k ≡ signed_at (drop a s) k
part_number s a n k e h = ap₂ signed (part_byte s a n k e (omega arith)) (part_byte s a n (k + 1) e h)

-- ---- variables

made : {k l : ℕ} {a b c d : ℤ} → k ≡ l → a ≡ b → c ≡ d → ◌≡◌ {A = Variable} (record { kind = k; low = a; high = c }) (record { kind = l; low = b; high = d })
made p q r = rw (p, q, r)

-- the variable in 5 bytes of its field is variable x
pub variable_part : (s : List ℕ) (x n a b : ℕ) → a ≡ 8 * x + 3 → b ≡ a + 5 → x < n → variable_of (take (b - a) (drop a s)) ≡ variable_in (variables_at s n) x
variable_part s x n a b p q h =
    made (part_byte s a 5 0 q (lit< tt)) (part_number s a 5 1 q (lit< tt)) (part_number s a 5 3 q (lit< tt))
    ∙ ap (λ (k : ℕ). variable_of (drop k s)) p ∙ sym (variable_at_is s n x h)

-- ---- terms

module _ (body : List ℕ) (i : ℕ) where
  byte : (k : ℕ) {j : ℕ} → k < 4 → j ≡ 4 * i + k → get_or (take (4 * i + 4 - 4 * i) (drop (4 * i) body)) k 0 ≡ get_or body j 0
  byte k h e = part_byte body (4 * i) 4 k refl h ∙ sym (rw (e, get_or-drop))

  -- the term in the 4 bytes from 4 i on is term i
  pub term_part : {r : Term} → 4 * i + 4 ≤ length body
      → r ≡ record {
        variable = get_or (take (4 * i + 4 - 4 * i) (drop (4 * i) body)) 0 0;
        op = get_or (take (4 * i + 4 - 4 * i) (drop (4 * i) body)) 1 0;
        number = signed_at (take (4 * i + 4 - 4 * i) (drop (4 * i) body)) 2;
      }
      → r ≡ term_in (terms_of body) i
  term_part {r} h e = e ∙ same ∙ sym (term_at_is body i (omega arith))
    where
      part : List ℕ
      part = take (4 * i + 4 - 4 * i) (drop (4 * i) body)

      same : ◌≡◌ {A = Term} (record { variable = get_or part 0 0; op = get_or part 1 0; number = signed_at part 2 }) (term_at body i)
      same = rw (byte 0 {j = 4 * i} (lit< tt) (omega arith), byte 1 (lit< tt) refl, byte 2 (lit< tt) refl, byte 3 {j = 4 * i + 2 + 1} (lit< tt) (omega arith))

-- ---- positions

-- a term of the body that is handed on is the rule's
pub term_handed : (v : List ℕ) (i : ℕ) {b : List ℕ} {t : Term} → Handed (rule_body v) b → t ≡ term_in (terms_of b) i → t ≡ term_in (rule_of v).terms i
term_handed v i h e = e ∙ ap (λ (b : List ℕ). term_in (terms_of b) i) h.is
