-- What normalize writes is accepted, and the calls answer alike for it and for its input.
use Prim.Native.Nat.{ℕ}
use mathlib.Core.Path.{◌≡◌, refl, sym, subst, subst₂}
use mathlib.Core.Logic.{◌↔◌}
use mathlib.Core.List.{List}
use lib.ListN.{length, take, drop}
use lib.Seq.{take-append_seam}
use Rattle.program.specs.Program.{Program}
use Rattle.program.specs.Reading.{Accepts}
use Rattle.program.specs.Encode.{encode, Bytes}
use Rattle.program.proofs.RoundTrip.{accepted_proper}
use Rattle.meaning.specs.Stable.{Stable}
use Rattle.meaning.proofs.SameModels.{meant}
use Rattle.verdict.specs.Checks.{Answer, unfounded, stable, Checks}
use Rattle.verdict.proofs.Total.{checks_total}
use Rattle.normal.specs.Normalizes.{written, Normalizes, rewritten}
use Rattle.normal.proofs.Alike.{AlikePrograms}
use Rattle.normal.proofs.AlikeValid.{alike_back}
use Rattle.normal.proofs.Alikes.{normal_alike}
use Rattle.normal.proofs.NormalFiles.{form_accepted}
use Rattle.normalized.specs.Unchanged.{SameButNumbers, same, Unchanged}
use Rattle.normalized.proofs.Meanings.{stable-alike}
use Rattle.normalized.proofs.Answers.{alike-checked, alike-least}

-- ---- two accepted files of alike programs

stable-same : (r : Answer) → SameButNumbers stable r → stable ≡ r
stable-same r same = refl

unfounded-same : {n k : ℕ} (r : Answer) → SameButNumbers (unfounded n k) r → unfounded n k ≡ r
unfounded-same r same = refl

-- an answer that no other is the same as but for numbers
carried : {s o : List ℕ} {P Q : Program} → Accepts s P → Accepts o Q → AlikePrograms P Q → {r : Answer} → ((r' : Answer) → SameButNumbers r r' → r ≡ r')
    → (a c : List ℕ) {c' : List ℕ} → Checks s a c r c' → Checks o a c r c'
carried {o = o} x y al one a c p =
    let t = checks_total o a c in
    let e = alike-checked x y al a c p t.2 in
    subst₂ (Checks o a c) (sym (one t.0 e.0)) (sym e.1) t.2

pub unchanged : {s o : List ℕ} {P Q : Program} → Accepts s P → Accepts o Q → AlikePrograms P Q → Unchanged s o
unchanged {P = P} {Q} x y al = record {
  input = (P, x);
  output = (Q, y);
  stables = λ P' Q' x' y' θ. meant (λ R. Stable R θ ↔ Stable Q' θ) x x' (meant (λ R. Stable P θ ↔ Stable R θ) y y' (stable-alike al θ));
  checked = λ {a} {c} p q. alike-checked x y al a c p q;
  least = λ {a} {c} p q. alike-least x y al a c p q;
  called_stable = λ a c c'. (carried x y al stable-same a c, carried y x (alike_back al) stable-same a c);
  called_unfounded = λ a c c' n k. (carried x y al unfounded-same a c, carried y x (alike_back al) unfounded-same a c);
}

-- ---- a call of normalize

pub normalizes-unchanged : {s b b' : List ℕ} {n : ℕ} → Bytes s → Normalizes s b (written n) b' → Unchanged s (take n b')
normalizes-unchanged {s} {b} h (rewritten {Q = Q} c k) =
    let x = c.accepts in
    subst (Unchanged s) (sym (take-append_seam (encode Q) (drop (length (encode Q)) b)))
    (unchanged x (form_accepted h x k) (normal_alike (accepted_proper h x) k))
