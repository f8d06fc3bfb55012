-- Worked examples of normalize, computed from the bytes of their files.
use Prim.Native.Nat.{ℕ}
use mathlib.Core.Path.{◌≡◌, refl, subst}
use mathlib.Core.List.{List, [], ◌++◌}
use native.Mathlib.Omega.{arith}
use lib.Dec.{lit<, lit≤}
use lib.ListN.{length, drop}
use Rattle.program.specs.Program.{Program, program}
use Rattle.program.specs.Encode.{encode}
use Rattle.program.specs.Reading.{Accepts}
use Rattle.program.specs.Evaluate.{satisfied}
use Rattle.program.proofs.Conditions.{never}
use Rattle.program.proofs.Promises.{accepts_promises}
use Rattle.normal.specs.Ordered.{staying}
use Rattle.normal.specs.Normal.{less_bytes}
use Rattle.normal.specs.Normalizes.{written, Normalizes, rewritten}
use Rattle.normal.proofs.Listings.{inserted, sorted}
use Rattle.normal.proofs.OrderedLaws.{ordered_terms}
use Rattle.normal.proofs.Normals.{normal_form, normal_form_is}
use Rattle.normal.proofs.Calls.{enough_called}
use Rattle.plans.proofs.Starred.{read, plan_of, unmet_plan}
use Rattle.plans.proofs.StarredChecks as checks
use Rattle.plans.proofs.StarredChecks.{unmet_checked, constraint_checked}
use Rattle.normalized.specs.Samples.{Written, Samples, repeated, exchanged, ordered, crossed, carrying, divided, by_bytes, other_forms, over_1, constrained}
use Rattle.normalized.specs.Samples.{constrained_ordered, equal_and_idle, OtherNumbers}

-- unfolding this unfolds the normal form and its file too
unfoldable computes : Unit {0}
unfolding checks.computes encode staying less_bytes inserted sorted ordered_terms
computes = tt

-- the call writes the file of the normal form
written_by : {s o : List ℕ} {P : Program} {n : ℕ} → Accepts s P → encode (normal_form P) ≡ o → length o ≡ n → Written s n o
written_by {s} {o} {P} {n} x e l = record {
  told = l;
  call = λ b h. subst (λ (k : ℕ). Normalizes s b (written k) (o ++ drop k b)) l
      (subst (λ (w : List ℕ). Normalizes s b (written (length w)) (w ++ drop (length w) b)) e
      (rewritten (enough_called b x h) (normal_form_is (accepts_promises x))));
}

-- ---- the files

pub repeated-read : Accepts repeated (program repeated 7)
unfolding checks.computes
repeated-read = read repeated 7 (lit≤ tt) refl (lit≤ tt) refl

ordered-read : Accepts ordered (program ordered 5)
unfolding checks.computes
ordered-read = read ordered 5 (lit≤ tt) refl (lit≤ tt) refl

constrained-read : Accepts constrained (program constrained 7)
unfolding checks.computes
constrained-read = read constrained 7 (lit≤ tt) refl (lit≤ tt) refl

constrained-ordered-read : Accepts constrained_ordered (program constrained_ordered 6)
unfolding checks.computes
constrained-ordered-read = read constrained_ordered 6 (lit≤ tt) refl (lit≤ tt) refl

-- ---- the samples

pub samples : Samples
unfolding computes
samples = record {
  empty = written_by (read [] 0 (lit≤ tt) refl (lit≤ tt) refl) refl refl;
  repeated_once = written_by repeated-read refl refl;
  exchanged_back = written_by (read exchanged 5 (lit≤ tt) refl (lit≤ tt) refl) refl refl;
  terms_decide = written_by (read crossed 5 (lit≤ tt) refl (lit≤ tt) refl) refl refl;
  carried_first = written_by (read carrying 4 (lit≤ tt) refl (lit≤ tt) refl) refl refl;
  divisor_first = written_by (read divided 4 (lit≤ tt) refl (lit≤ tt) refl) refl refl;
  bytes_ascending = written_by (read by_bytes 6 (lit≤ tt) refl (lit≤ tt) refl) refl refl;
  forms_ordered = written_by (read other_forms 6 (lit≤ tt) refl (lit≤ tt) refl) refl refl;
  both_stay = written_by (read over_1 5 (lit≤ tt) refl (lit≤ tt) refl) refl refl;
  constraints_last = written_by constrained-read refl refl;
  all_stay = written_by (read equal_and_idle 3 (lit≤ tt) refl (lit≤ tt) refl) refl refl;
}

-- ---- the check names an unmet rule and an unmet constraint of the input and of the output by other numbers

pub other-numbers : OtherNumbers
unfolding checks.computes satisfied
other-numbers = record {
  rule_of_input = unmet_checked (unmet_plan (plan_of _ repeated-read refl refl) 1 (lit< tt) refl refl) 3 refl;
  rule_of_output = unmet_checked (unmet_plan (plan_of _ ordered-read refl refl) 0 (lit< tt) refl refl) 3 refl;
  constraint_of_input = constraint_checked (plan_of _ constrained-read refl refl) refl
      (record { among = lit< tt; unmet = λ e. never e refl; first = λ j h. let z : j ≡ 0 = omega arith in rw z }) 3 refl;
  constraint_of_output = constraint_checked (plan_of _ constrained-ordered-read refl refl) refl
      (record { among = lit< tt; unmet = λ e. never e refl; first = λ j h. absurd (omega arith) }) 3 refl;
}
