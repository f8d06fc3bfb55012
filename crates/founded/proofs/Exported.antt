-- From a call's answer x, its parts p and the number r that they are packed in, to what the exported call says.
use Prim.Native.Nat.{ℕ}
use mathlib.Core.Path.{◌≡◌, ap, subst, ◌∙◌}
use mathlib.Core.List.{List}
use Rattle.program.specs.Encode.{Bytes}
use Rattle.program.specs.Reading.{Reads}
use Rattle.program.specs.Reading as read
use Rattle.meaning.specs.LeastCall.{LeastCall}
use Rattle.meaning.specs.LeastCall as least
use Rattle.verdict.specs.Checks.{Checks}
use Rattle.verdict.specs.Checks as check
use Rattle.verdict.specs.Demands.{Demands}
use Rattle.normal.specs.Normalizes.{Normalizes}
use Rattle.normal.specs.Normalizes as normalize
use Rattle.normal.proofs.Calls.{normalize_demands}
use Rattle.nested.specs.FlattenCall.{FlattenCall}
use Rattle.nested.proofs.FlattenDemanded.{flatten_demanded}
use Rattle.nested.proofs.Sentences.{flattened_sentence}
use Rattle.search.specs.BeginCall.{BeginCall}
use Rattle.search.specs.BeginCall as begin
use Rattle.search.proofs.BeginDetermined.{begin_demands}
use Rattle.lent.specs.BoundsCall.{BoundsCall}
use Rattle.lent.specs.BoundsCall as bounds
use Rattle.lent.proofs.Calls.{bounds_demands}
use Rattle.packing.specs.declared.Parts.{Parts}
use Rattle.packing.specs.Packing.{packed, unpacked, length_in, read_parts, least_parts, check_parts, normalize_parts, begin_parts, bounds_parts}
use Rattle.founded.specs.Exports.{ExportedRead, ExportedLeast, ExportedCheck, ExportedNormalize, ExportedFlatten, ExportedBegin, ExportedBounds}
use Rattle.packing.proofs.Bounds.{length_short, flat_short}
use Rattle.packing.proofs.Unpacked.{read_unpacks, least_unpacks, check_unpacks, normalize_unpacks, flatten_unpacks, begin_unpacks, bounds_unpacks, length_back}

module _ {p : Parts} {r : ℕ} (e : r ≡ packed p) where
  pub exported_read : {s : List ℕ} {x : read.Answer} → Reads s x → p ≡ read_parts x → ExportedRead s r
  exported_read {s} {x} h q =
      let d : r ≡ packed (read_parts x) = e ∙ ap packed q in
      record { answer = x; reads = h; is_packed = d; unpacks = ap unpacked d ∙ read_unpacks h }

  pub exported_least : {s a b b' : List ℕ} {x : least.Answer} → LeastCall s a b x b' → p ≡ least_parts x → ExportedLeast s a b r b'
  exported_least {x = x} h q =
      let d : r ≡ packed (least_parts x) = e ∙ ap packed q in
      record { answer = x; answers = h; is_packed = d; unpacks = ap unpacked d ∙ least_unpacks h }

  pub exported_check : {s a b b' : List ℕ} {x : check.Answer} → Checks s a b x b' → Demands s a b x b' → p ≡ check_parts x → ExportedCheck s a b r b'
  exported_check {x = x} h t q =
      let d : r ≡ packed (check_parts x) = e ∙ ap packed q in
      record { answer = x; checks = h; demands = t; is_packed = d; unpacks = ap unpacked d ∙ check_unpacks h }

  pub exported_normalize : {s b b' : List ℕ} {x : normalize.Answer} → Bytes s → Normalizes s b x b' → p ≡ normalize_parts x → ExportedNormalize s b r b'
  exported_normalize {s} {b} {b'} {x} y h q =
      let d : r ≡ packed (normalize_parts x) = e ∙ ap packed q in
      record {
        answer = x;
        normalizes = h;
        demands = normalize_demands y h;
        is_packed = d;
        unpacks = ap unpacked d ∙ normalize_unpacks y h;
        length_told = λ n f. ap length_in (d ∙ ap (λ (z : normalize.Answer). packed (normalize_parts z)) f)
            ∙ length_back n (length_short y (subst (λ z. Normalizes s b z b') f h));
      }

  pub exported_flatten : {s b b' : List ℕ} {x : normalize.Answer} → Bytes s → FlattenCall s b x b' → p ≡ normalize_parts x → ExportedFlatten s b r b'
  exported_flatten {s} {b} {b'} {x} y h q =
      let d : r ≡ packed (normalize_parts x) = e ∙ ap packed q in
      record {
        answer = x;
        flattens = h;
        demands = flatten_demanded y h;
        same_stable = λ n f. flattened_sentence (subst (λ z. FlattenCall s b z b') f h);
        is_packed = d;
        unpacks = ap unpacked d ∙ flatten_unpacks h;
        length_told = λ n f. ap length_in (d ∙ ap (λ (z : normalize.Answer). packed (normalize_parts z)) f)
            ∙ length_back n (flat_short (subst (λ z. FlattenCall s b z b') f h));
      }

  pub exported_begin : {s w w' : List ℕ} {x : begin.Answer} → BeginCall s w x w' → p ≡ begin_parts x → ExportedBegin s w r w'
  exported_begin {x = x} h q =
      let d : r ≡ packed (begin_parts x) = e ∙ ap packed q in
      record { answer = x; begins = h; demands = begin_demands h; is_packed = d; unpacks = ap unpacked d ∙ begin_unpacks h }

  pub exported_bounds : {s g b b' : List ℕ} {x : bounds.Answer} → BoundsCall s g b x b' → p ≡ bounds_parts x → ExportedBounds s g b r b'
  exported_bounds {x = x} h q =
      let d : r ≡ packed (bounds_parts x) = e ∙ ap packed q in
      record { answer = x; answers = h; demands = bounds_demands h; is_packed = d; unpacks = ap unpacked d ∙ bounds_unpacks h }
