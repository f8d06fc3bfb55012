-- From what the layers below answer to what reading answers.
use Rattle.std.specs.Prelude.{Option, Some, None, Result, Ok, Err}
use Prim.Native.Nat.{ℕ}
use mathlib.Core.Path.{◌≡◌, sym, subst}
use mathlib.Core.Bool.{Bool, true, false}
use mathlib.Core.List.{List}
use Rattle.program.specs.Program.{program}
use Rattle.program.specs.Components as components
use Rattle.program.specs.Reading.{Whole, Reads, AcceptedAs, refused, whole, not_valid, number_of, answer_of}
use Rattle.program.specs.declared.Counts.{Counts}
use Rattle.program.specs.declared.Refusal.{Refusal}
use Rattle.fields.specs.Scanning.{Counted, Stopped}
use Rattle.reader.specs.Passing.{Passes}
use Rattle.fields.proofs.ScanLaws.{counts_are}
use Rattle.validity.specs.Judging.{Judges, OffendingAt}
use Rattle.program.specs.declared.Rejection.{Rejection}

module _ (s : List ℕ) (k : Counts) (j : Option ℕ) (c : Counted s k) (judges : (n : ℕ) → Whole s n → Judges s n j) where
  pub judged_valid : j ≡ None → AcceptedAs s k
  judged_valid e =
      let v : components.Valid (program s c.fields) = subst (Judges s c.fields) e (judges c.fields c.whole) in
      subst (AcceptedAs s) (sym (counts_are c.describes)) (whole c.whole v)

  pub judged_offending : (at : ℕ) → j ≡ Some at → Reads s (refused 13 at)
  judged_offending at e =
      let o : OffendingAt s c.fields at = subst (Judges s c.fields) e (judges c.fields c.whole) in
      subst (λ (n : ℕ). Reads s (refused 13 n)) (sym o.placed) (not_valid c.whole o.before o.is o.first)

-- what passing a file answers
module _ (s : List ℕ) where
  pub fields_whole : (k : Counts) → Counted s k → {b : Bool} → b ≡ false → Passes s b (Ok k)
  fields_whole k c e = subst (λ (b : Bool). Passes s b (Ok k)) (sym e) c

  pub fields_stopped : (why : Refusal) (at : ℕ) → Stopped s (number_of why) at → (b : Bool) → Passes s b (Err (record { why = why; at = at }))
  fields_stopped why at t true = t.reads
  fields_stopped why at t false = t

  pub passed : (r : Result Counts Rejection) → Passes s true r → Reads s (answer_of r)
  passed (Ok k) p = p
  passed (Err e) p = p
