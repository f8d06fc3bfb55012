-- Two accepted files, of which the second leaves idle rules of the first out: for every assignment and every lent buffer the call least answers the same for
-- both and leaves the same bytes.
use Prim.Native.Nat.{ℕ}
use mathlib.Core.Path.{◌≡◌, refl}
use mathlib.Core.List.{List}
use Rattle.program.specs.Program.{Program, Rule}
use Rattle.program.specs.Reading.{Accepts}
use Rattle.program.specs.Encode.{Bytes}
use Rattle.program.proofs.Promises.{accepts_promises}
use Rattle.meaning.specs.LeastCall.{Answer, LeastCall}
use Rattle.meaning.specs.LeftOut.{with_rules, LeftOut, struck}
use Rattle.meaning.proofs.SameModels.{least_same}
use Rattle.meaning.proofs.IdleRules.{models_left, acting_left}
use Rattle.meaning.proofs.IdleFiles.{struck_accepted}

pub least_left_same : {s s' : List ℕ} {P : Program} {rs : List Rule} → Accepts s P → Accepts s' (with_rules P rs) → LeftOut P rs
    → (a b : List ℕ) {r r' : Answer} {b₁ b₂ : List ℕ} → LeastCall s a b r b₁ → LeastCall s' a b r' b₂ → (r ≡ r') × (b₁ ≡ b₂)
least_left_same x y left a b = least_same x y refl (λ θ w. models_left (accepts_promises x) left w) a b

-- a file, and the file of its program without its idle rules
pub struck_least : {s a b : List ℕ} {P : Program} → Bytes s → Accepts s P → {r r' : Answer} {b₁ b₂ : List ℕ}
    → LeastCall s a b r b₁ → LeastCall (struck P) a b r' b₂ → (r ≡ r') × (b₁ ≡ b₂)
struck_least {a = a} {b} h x = least_left_same x (struck_accepted h x) (acting_left (accepts_promises x)) a b
