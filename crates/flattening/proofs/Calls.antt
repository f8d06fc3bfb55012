-- What the call answers, by what has been found.
use Rattle.std.specs.Prelude.{Option, Some, None, Result, Ok, Err}
use Prim.Native.Nat.{ℕ, ◌*◌, ◌<◌, ◌≤◌}
use mathlib.Core.Path.{◌≡◌, refl, sym, ap, subst, subst₂, ◌∙◌}
use mathlib.Core.Logic.{inl, inr}
use mathlib.Core.List.{List, ◌++◌}
use native.Mathlib.Omega.{arith}
use lib.IntN.{ℤ}
use lib.ListN.{length, take, drop}
use Rattle.format.specs.Limits.{max_file}
use Rattle.program.specs.declared.Counts.{Counts}
use Rattle.meaning.specs.Calls.{denial_number, denial_place}
use Rattle.meaning.specs.declared.Denied.{Denied}
use Rattle.normal.specs.Normalizes.{refusal, written}
use Rattle.nested.specs.Nested.{nested}
use Rattle.nested.specs.NestedReading.{NestedWhole, NestedAccepts, NestedRefuses, not_valid}
use Rattle.nested.specs.FlattenCall.{flat, FlattenCall, turned_down, flattened, bad_file, no_room}
use Rattle.plainpart.specs.PlainPart.{PlainCounted}
use Rattle.nesting.specs.Surveying.{Surveyed, Surveys, passed, refused}
use Rattle.nesting.specs.declared.Totals.{Totals}
use Rattle.linking.specs.Judging.{JudgesNested}
use Rattle.flattening.specs.Writing.{FlatWritten, Sized}

module _ {s : List ℕ} {counts : Counts} {from variables bytes : ℕ} {records : List ℕ} (z : Sized s counts from variables bytes records) (b : List ℕ) (r : Option ℕ)
    (judged : (k : ℕ) → NestedWhole s k → JudgesNested s k r) where
  abbrev K : ℕ
  K = z.settled.fields

  pub call_offending : {at : ℕ} → r ≡ Some at → FlattenCall s b (refusal 13 at) b
  call_offending {at} e =
      let o = subst (JudgesNested s K) e (judged K z.settled.whole) in
      subst (λ (m : ℕ). FlattenCall s b (refusal 13 m) b) (sym o.placed) (turned_down (bad_file (not_valid z.settled.whole o.before o.is o.first)))

  module _ (valid : r ≡ None) where
    accepts : NestedAccepts s (nested s K)
    accepts = record { fields = K; whole = z.settled.whole; means = refl; valid = subst (JudgesNested s K) valid (judged K z.settled.whole) }

    pub call_long : max_file < bytes → FlattenCall s b (refusal 17 0) b
    call_long h = turned_down (no_room accepts (inl (omega (arith, z.size))))

    pub call_roomless : length b < bytes → FlattenCall s b (refusal 17 0) b
    call_roomless h = turned_down (no_room accepts (inr (omega (arith, z.size))))

    pub call_written : {n : ℕ} {b' : List ℕ} → bytes ≤ max_file → bytes ≤ length b → FlatWritten s b n b' → FlattenCall s b (written n) b'
    call_written {n} {b'} h l w =
        let e = w.length_is K z.settled.whole in
        subst₂ (λ (m : ℕ) (c : List ℕ). FlattenCall s b (written m) c) (sym e)
        (sym (w.bytes K z.settled.whole ∙ ap (λ (m : ℕ). flat (nested s K) ++ drop m b) e))
        (flattened accepts (record { short = omega (arith, z.size); fits = omega (arith, z.size) }))

-- ---- the survey's answer

module _ {s : List ℕ} {records : List ℕ} {lows highs : List ℤ} {f : Result Totals Denied} (x : Surveys s records lows highs f) where
  pub call_refused : {d : Denied} {b : List ℕ} → f ≡ Err d → FlattenCall s b (refusal (denial_number d) (denial_place d)) b
  call_refused e = turned_down (bad_file (why (subst (Surveys s records lows highs) e x)))
    where
      why : {d : Denied} → Surveys s records lows highs (Err d) → NestedRefuses s (denial_number d) (denial_place d)
      why (refused h) = h

  pub surveyed_sized : {t : Totals} {counts : Counts} {from : ℕ} → f ≡ Ok t → PlainCounted s counts from → Sized s counts from t.variables t.bytes records
  surveyed_sized e p =
      let k = found (subst (Surveys s records lows highs) e x) in
      let d = k.known.tabled in
      record {
        settled = record {
          plain = p;
          fields = k.fields;
          whole = k.whole;
          many = k.known.variables_are;
          inside = omega (arith, d.records_many, d.few, k.known.variables_are);
          records_are = ap (λ (m : ℕ). take (8 * m) records) k.known.variables_are ∙ d.fields;
        };
        size = k.known.bytes_are;
      }
    where
      found : {t : Totals} → Surveys s records lows highs (Ok t) → Surveyed s t records lows highs
      found (passed k) = k
