-- Document 02, wish 6: what flatten writes is an accepted plain file with the stable assignments of the nested one.
use Prim.Native.Nat.{ℕ}
use mathlib.Core.Path.{sym, subst}
use mathlib.Core.List.{List}
use lib.ListN.{take}
use lib.Seq.{take-append_seam}
use Rattle.program.specs.Reading.{Accepts}
use Rattle.normal.specs.Normalizes.{written}
use Rattle.nested.specs.Nested.{Nested}
use Rattle.nested.specs.Flatten.{flatten}
use Rattle.nested.specs.NestedReading.{NestedAccepts}
use Rattle.nested.specs.FlattenCall.{flat, FlattenCall, flattened}
use Rattle.nested.specs.Sentences.{Flattened}
use Rattle.nested.proofs.FineNested.{FineNested}
use Rattle.nested.proofs.PassedFine.{passed_fine}
use Rattle.nested.proofs.SameStable.{same_stable}
use Rattle.nested.proofs.FlatProper.{more_variables, more_rules, flat_accepted}

pub accepts_fine : {s : List ℕ} {N : Nested} → NestedAccepts s N → FineNested N
accepts_fine a = subst FineNested a.means (passed_fine a.whole.passed)

pub flattened_sentence : {s b b' : List ℕ} {n : ℕ} → FlattenCall s b (written n) b' → Flattened s (take n b')
flattened_sentence {s} (flattened {N = N} a h) =
    let f = accepts_fine a in
    record {
      nested = N;
      plain = flatten N;
      input = a;
      output = subst (λ o. Accepts o (flatten N)) (sym (take-append_seam (flat N) _)) (flat_accepted f a.valid h.short);
      more_variables = more_variables N;
      more_rules = more_rules N;
      same_stable = same_stable f;
    }
