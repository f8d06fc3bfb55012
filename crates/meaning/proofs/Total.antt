-- The call least has an answer for every file, assignment and lent buffer.
use Prim.Native.Nat.{ℕ, ◌<◌}
use mathlib.Core.Path.{◌≡◌}
use mathlib.Core.Logic.{◌⊎◌, inl, inr}
use mathlib.Core.Bool.{true}
use mathlib.Core.List.{List}
use native.Mathlib.Omega.{arith}
use lib.ListN.{length}
use Rattle.program.specs.Program.{Program, variable_in}
use Rattle.program.proofs.Promises.{accepts_promises}
use Rattle.meaning.specs.Reduct.{reduct}
use Rattle.meaning.specs.Stable.{assigned}
use Rattle.meaning.specs.Calls.{Called, lengths}
use Rattle.meaning.specs.LeastCall.{FirstOutside, AllInside, Answer, LeastCall, turned_down, outside, no_model, least_model, least_bytes}
use Rattle.meaning.proofs.InRanges.{assigned_within}
use Rattle.meaning.proofs.Search.{Solvable, solvable}
use Rattle.program.specs.Readings.{Valuation}
use Rattle.program.specs.Variables.{in_range}
use Rattle.program.proofs.Tests.{First, first_or_all, is_it, not_it}
use Rattle.meaning.proofs.Denials.{Begun, begun, lengths_told, long}

-- an answer, what the buffer then holds, and that they are the call's
abbrev pub Answers : List ℕ → List ℕ → List ℕ → Type 0
Answers s a b = (r : Answer) × (b' : List ℕ) × LeastCall s a b r b'

-- values all lie in their ranges, or there is a first that does not
pub ranged : (P : Program) (θ : Valuation) → ((v : ℕ) × FirstOutside P θ v) ⊎ AllInside P θ
ranged P θ = go (first_or_all inside (λ v. is_it (in_range (variable_in P.variables v) (θ v))) (length P.variables))
  where
    inside : ℕ → Type 0
    inside v = in_range (variable_in P.variables v) (θ v) ≡ true

    go : ((v : ℕ) × (v < length P.variables) × First inside v) ⊎ AllInside P θ → ((v : ℕ) × FirstOutside P θ v) ⊎ AllInside P θ
    go (inl f) = inl (f.0, record { declared = f.1; outside = not_it (in_range (variable_in P.variables f.0) (θ f.0)) f.2.0; first = f.2.1 })
    go (inr all) = inr all

-- ---- the call least

module _ {s a b : List ℕ} {P : Program} (x : Called (lengths least_bytes a b) s P) where
  solved_total : AllInside P (assigned a) → Solvable P (reduct P) (assigned a) → Answers s a b
  solved_total i (inl l) = (_, _, least_model x i l.1)
  solved_total i (inr n) = (_, _, no_model x i n)

  called_total : ((v : ℕ) × FirstOutside P (assigned a) v) ⊎ AllInside P (assigned a) → Answers s a b
  called_total (inl f) = (_, _, outside x f.1)
  called_total (inr i) = solved_total i (solvable (accepts_promises x.accepts) (assigned_within P a (omega (arith, long least_bytes a b x)) i))

pub least_call_total : (s a b : List ℕ) → Answers s a b
least_call_total s a b = go (begun (lengths least_bytes a b) (lengths_told least_bytes a b) s)
  where
    go : Begun (lengths least_bytes a b) s → Answers s a b
    go (inl r) = (_, _, turned_down r.2)
    go (inr c) = called_total c.1 (ranged c.0 (assigned a))
