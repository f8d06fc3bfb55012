-- Document 02, wish 4: outputs are equal exactly when programs agree, and writing an output again changes nothing.
use Prim.Native.Nat.{ℕ}
use mathlib.Core.Path.{◌≡◌, sym, ap, ◌∙◌, subst}
use mathlib.Core.Logic.{◌↔◌}
use mathlib.Core.List.{List}
use lib.ListN.{take}
use lib.Seq.{take-append_seam}
use Rattle.program.specs.Program.{Program}
use Rattle.program.specs.Reading.{Accepts}
use Rattle.program.specs.Encode.{encode}
use Rattle.program.proofs.Unique.{accepts_unique}
use Rattle.normal.specs.Normal.{Normal}
use Rattle.normal.specs.Normalizes.{written, Normalizes, rewritten}
use Rattle.normal.specs.Sentences.{Agree, Writes, Again, Sentences}
use Rattle.normal.proofs.Normals.{normal_same, same_normal, normal_again}
use Rattle.normal.proofs.NormalFiles.{form_accepted}
use Rattle.normal.proofs.Calls.{enough_called}

-- an output is the file of a normal form, and is accepted
record Output (P : Program) (output : List ℕ) : Type 0 where
  form : Program
  normal : Normal P form
  accepted : Accepts (encode form) form
  is : output ≡ encode form

output_of : {P : Program} {output : List ℕ} → Writes P output → Output P output
output_of {P} {output} w = go w.call w.is
  where
    go : {b b' : List ℕ} {n : ℕ} → Normalizes w.file b (written n) b' → take n b' ≡ output → Output P output
    go (rewritten {Q = Q} c n) e =
        let m : Normal P Q = subst (λ R. Normal R Q) (accepts_unique c.accepts w.means) n in
        record { form = Q; normal = m; accepted = form_accepted w.bytes w.means m; is = sym e ∙ take-append_seam (encode Q) _ }

outputs_equal : {P P' : Program} {output output' : List ℕ} → Writes P output → Writes P' output' → (output ≡ output') ↔ Agree P P'
outputs_equal w w' =
    let o = output_of w in
    let q = output_of w' in (
      λ e. same_normal o.normal q.normal (accepts_unique o.accepted (subst (λ s. Accepts s q.form) (sym q.is ∙ sym e ∙ o.is) q.accepted)),
      λ a. o.is ∙ ap encode (normal_same o.normal q.normal a) ∙ sym q.is,
    )

written_again : {P : Program} {output : List ℕ} → Writes P output → Again output
written_again w =
    let o = output_of w in
    let n = normal_again o.normal in
    subst Again (sym o.is) (record {
      program = o.form;
      means = o.accepted;
      normal = n;
      call = λ c h. rewritten (enough_called c o.accepted h) n;
    })

pub normal_sentences : Sentences
normal_sentences = record { equal = outputs_equal; again = written_again }
