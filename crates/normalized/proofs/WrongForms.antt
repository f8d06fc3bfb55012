-- Wrong ways to write a file anew, each refuted by what it would answer or write for a small file: the call has one answer and one output, and they are others.
use Prim.Native.Nat.{ℕ, ◌<◌, ◌≤◌}
use mathlib.Core.Path.{◌≡◌, refl, sym, ap, ◌∙◌}
use mathlib.Core.Bool.{false}
use mathlib.Core.Logic.{inl}
use mathlib.Core.List.{List, [], ◌∷◌}
use native.Mathlib.Omega.{arith}
use lib.Dec.{eqb, lit<, lit≤}
use lib.ListN.{length, get_or, take, drop, replicate}
use lib.Seq.{take-append_seam}
use borrow.Author.Tests.{eq-eqb}
use Rattle.program.proofs.Conditions.{never}
use Rattle.program.proofs.Examples.{cut_header}
use Rattle.meaning.specs.Calls.{bad_file, bad_call}
use Rattle.normal.specs.Normalizes.{Answer, refusal, written, Normalizes, turned_down, rewritten}
use Rattle.normal.proofs.Calls.{long_enough, normalizes_unique}
use Rattle.plans.specs.Starred.{small}
use Rattle.plans.specs.Arrivals.{natural, own_above}
use Rattle.plans.proofs.Arrivals.{own_not_valid}
use Rattle.normalized.specs.Samples.{Written, variables, rule, once, plain, from, over, a_from_1, a_from_minus_1, b_from_1, a_from_b, a_from_b_over_1, sum, pair, at_most_5}
use Rattle.normalized.specs.Samples.{a_or_x, x_or_a, repeated, exchanged, crossed, carrying, divided, by_bytes, other_forms, over_1, constrained}
use Rattle.normalized.specs.Samples.{equal_and_idle}
use Rattle.normalized.proofs.Samples.{samples, repeated-read}

-- ---- one answer, one output

-- which case an answer is, and its first number
abbrev pub word : Answer → ℕ
word (refusal n at) = 0
word (written n) = 1

abbrev pub first : Answer → ℕ
first (refusal n at) = n
first (written n) = n

lent : {s b b' : List ℕ} {n : ℕ} → Normalizes s b (written n) b' → length s ≤ length b
lent {b = b} (rewritten c m) = long_enough b c

module _ {s o : List ℕ} {n : ℕ} (w : Written s n o) where
  -- a call that writes answers n and writes o
  only_length : {b b' : List ℕ} {m : ℕ} → Normalizes s b (written m) b' → m ≡ n
  only_length {b} q = ap first (normalizes_unique q (w.call b (lent q))).0

  only_output : {b b' : List ℕ} {m : ℕ} → Normalizes s b (written m) b' → take m b' ≡ o
  only_output {b} {b'} {m} q =
      ap (λ (k : ℕ). take k b') (only_length q ∙ sym w.told) ∙ ap (take (length o)) (normalizes_unique q (w.call b (lent q))).1 ∙ take-append_seam o (drop n b)

-- no call with the file s answers the length of p and writes p
abbrev pub NeverWrites : List ℕ → List ℕ → Type 0
NeverWrites s p = (b b' : List ℕ) → Normalizes s b (written (length p)) b' → take (length p) b' ≡ p → ⊥

-- the byte at i is another; past the end of either it counts as 0
differs : {s o : List ℕ} {n : ℕ} → Written s n o → (p : List ℕ) (i : ℕ) → eqb (get_or p i 0) (get_or o i 0) ≡ false → NeverWrites s p
differs {o = o} w p i f b b' q e = never (eq-eqb (get_or p i 0) (get_or o i 0) (ap (λ (l : List ℕ). get_or l i 0) (sym e ∙ only_output w q))) f

-- ---- terms

-- one that leaves the terms of a sum as they stand
pub not-terms-left : NeverWrites exchanged exchanged
not-terms-left = differs samples.exchanged_back exchanged 38 refl

-- one that leaves those of a max, a min and a product
pub not-sums-alone : NeverWrites other_forms (variables (pair 2 2 1 (pair 3 2 1 (pair 4 2 1 []))))
not-sums-alone = differs samples.forms_ordered _ 31 refl

-- one that leaves the literals
pub not-literals-left : NeverWrites carrying carrying
not-literals-left = differs samples.carried_first carrying 35 refl

-- one that leaves the terms of constraints
pub not-constraint-terms-left : NeverWrites constrained (variables (b_from_1 (at_most_5 2 1 (a_or_x (x_or_a [])))))
not-constraint-terms-left = differs samples.constraints_last _ 37 refl

-- one that sorts the carried variable in
pub not-carried-sorted : NeverWrites carrying (variables (rule 16 7 0 (small 0 (from 0 2 (from 1 1 (plain 2 []))))))
not-carried-sorted = differs samples.carried_first _ 31 refl

-- one that sorts the divisor in, behind the term of variable 0
pub not-divisor-sorted : NeverWrites divided (variables (rule 16 8 1 (small 0 (once 0 (over 2 (once 2 []))))))
not-divisor-sorted = differs samples.divisor_first _ 32 refl

-- ---- rules and constraints

-- one that leaves the rules in their order
pub not-rules-left : NeverWrites by_bytes by_bytes
not-rules-left = differs samples.bytes_ascending by_bytes 26 refl

-- one that sorts them before their terms are in order
pub not-sorted-before-ordering : NeverWrites crossed (variables (sum 1 2 (sum 0 2 [])))
not-sorted-before-ordering = differs samples.terms_decide _ 31 refl

-- one that keeps repeats
pub not-repeats-kept : NeverWrites repeated (variables (b_from_1 (b_from_1 (sum 1 2 (sum 1 2 [])))))
not-repeats-kept = differs samples.repeated_once _ 33 refl

-- one that drops repeats before the terms are in order
pub not-dropped-before-ordering : NeverWrites repeated (variables (b_from_1 (sum 1 2 (sum 1 2 []))))
not-dropped-before-ordering = differs samples.repeated_once _ 46 refl

-- one that compares signed bytes, or signed numbers: -1 before 1
pub not-signed : NeverWrites by_bytes (variables (a_from_minus_1 (a_from_1 (a_from_b []))))
not-signed = differs samples.bytes_ascending _ 29 refl

-- one that compares values without their lengths
pub not-without-lengths : NeverWrites by_bytes (variables (a_from_b (a_from_1 (a_from_minus_1 []))))
not-without-lengths = differs samples.bytes_ascending _ 26 refl

-- one that writes constraints before rules
pub not-constraints-first : NeverWrites constrained (variables (at_most_5 1 2 (a_or_x (b_from_1 []))))
not-constraints-first = differs samples.constraints_last _ 24 refl

-- one that merges form 8 by 1 with form 1, and keeps the one or the other
pub not-merged-as-form-1 : NeverWrites over_1 (variables (a_from_b []))
not-merged-as-form-1 = differs samples.both_stay _ 35 refl

pub not-merged-as-form-8 : NeverWrites over_1 (variables (a_from_b_over_1 []))
not-merged-as-form-8 = differs samples.both_stay _ 26 refl

-- one that sorts the variables
pub not-variables-sorted : NeverWrites exchanged (natural 0 (natural 1 (natural 1 (b_from_1 (sum 1 2 [])))))
not-variables-sorted = differs samples.exchanged_back _ 3 refl

-- one that drops an idle rule, or an equal variable
pub not-idle-dropped : NeverWrites equal_and_idle (natural 1 (natural 1 []))
not-idle-dropped = differs samples.all_stay _ 16 refl

pub not-equal-dropped : NeverWrites equal_and_idle (natural 1 (rule 4 1 0 (small 0 [])))
not-equal-dropped = differs samples.all_stay _ 8 refl

-- ---- the answer, and the buffer after the output

-- one that answers the length of its input
pub not_the_inputs_length : {b b' : List ℕ} → Normalizes repeated b (written 68) b' → ⊥
not_the_inputs_length q = let e = only_length samples.repeated_once q in omega arith

module _ {b' : List ℕ} {r : Answer} (q : Normalizes repeated (replicate 68 9) r b') where
  after : get_or b' 46 0 ≡ 9
  after = ap (λ (l : List ℕ). get_or l 46 0) (normalizes_unique q (samples.repeated_once.call (replicate 68 9) (lit≤ tt))).1

  -- one that clears the bytes after its output
  pub not_rest_cleared : get_or b' 46 0 ≡ 0 → ⊥
  not_rest_cleared e = let f = after in omega arith

  -- one that leaves the input's bytes there: it works in the buffer
  pub not-input-left : get_or b' 46 0 ≡ get_or repeated 46 0 → ⊥
  not-input-left e = let f = after in omega arith

-- ---- refusal 17

module _ {b b' : List ℕ} {r : Answer} (q : Normalizes repeated b r b') where
  -- a buffer shorter than the file is refusal 17, also where it would hold the output, and keeps its bytes
  pub only_17 : length b < 68 → (r ≡ refusal 17 0) × (b' ≡ b)
  only_17 h = normalizes_unique q (turned_down (bad_call repeated-read (inl (refl, (h, refl)))))

  -- a buffer as long as the file is enough
  pub only-46 : 68 ≤ length b → r ≡ written 46
  only-46 h = (normalizes_unique q (samples.repeated_once.call b h)).0

-- one that compares the buffer with the length of its output
pub not-by-the-output : {b b' : List ℕ} {n : ℕ} → length b ≡ 46 → Normalizes repeated b (written n) b' → ⊥
not-by-the-output e q = let f = ap word (only_17 q (omega arith)).0 in omega arith

-- one that asks for more than the file's length
pub not-longer-asked : {b b' : List ℕ} {at : ℕ} → length b ≡ 68 → Normalizes repeated b (refusal 17 at) b' → ⊥
not-longer-asked e q = let f = ap word (only-46 q (omega arith)) in omega arith

-- one that writes though it turns the call down
pub not_written_on_17 : {r : Answer} → Normalizes repeated (9 ∷ []) r (1 ∷ []) → ⊥
not_written_on_17 q = let e : ◌≡◌ {A = ℕ} 1 9 = ap (λ (l : List ℕ). get_or l 0 0) (only_17 q (lit< tt)).1 in omega arith

-- one that gives 17 before the file's own refusals: before those of a field, and before 13
pub not_17_before_2 : {b' : List ℕ} {at : ℕ} → Normalizes (9 ∷ []) [] (refusal 17 at) b' → ⊥
not_17_before_2 q = let e = ap first (normalizes_unique q (turned_down (bad_file cut_header))).0 in omega arith

pub not_17_before_13 : {b' : List ℕ} {at : ℕ} → Normalizes (own_above 4) [] (refusal 17 at) b' → ⊥
not_17_before_13 q = let e = ap first (normalizes_unique q (turned_down (bad_file own_not_valid))).0 in omega arith
