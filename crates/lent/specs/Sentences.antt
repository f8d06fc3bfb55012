-- Document 02, wish 7: "Every stable assignment inside the ranges keeps its founded variables within these bounds. With single ranges and every rule met, they
-- are the least model's founded values."
use Rattle.std.specs.Prelude.{ℕ, ◌<◌, ◌≡◌, ◌↔◌, List, T, length}
use Rattle.std.specs.Int.Signed.{lt_z}
use Rattle.program.specs.Program.{Program, variable_in}
use Rattle.program.specs.Reading.{Accepts}
use Rattle.program.specs.Variables.{is_founded}
use Rattle.program.specs.Readings.{Valuation}
use Rattle.meaning.specs.Founded.{AtOrBefore}
use Rattle.meaning.specs.Reduct.{system}
use Rattle.meaning.specs.Stable.{assigned, RuleMet, Stable}
use Rattle.meaning.specs.LeastCall.{Answer, LeastCall, refusal, found}
use Rattle.lent.specs.Ranges.{low_in, high_in, InsideRanges, Narrower, drawn_low, drawn_high}
use Rattle.lent.specs.BoundsCall.{bounded, BoundsCall}

-- a call with the ranges g is not turned down, and `after` are the bytes that it leaves; the file means P. The bound of variable v is the value of v in them
pub record Leaves (P : Program) (g after : List ℕ) : Type 0 where
  pub file : List ℕ
  pub means : Accepts file P
  pub buffer : List ℕ
  pub call : BoundsCall file g buffer bounded after

-- v is a founded variable of P
abbrev pub Founded : Program → ℕ → Type 0
Founded P v = T (is_founded (variable_in P.variables v))

-- the ranges are single, and they are the assignment a, which meets every rule
pub record SingleAt (P : Program) (g a : List ℕ) : Type 0 where
  pub low_is : (v : ℕ) → v < length P.variables → low_in g v ≡ assigned a v
  pub high_is : (v : ℕ) → v < length P.variables → high_in g v ≡ assigned a v
  pub met : (i : ℕ) → i < length P.rules → RuleMet P (assigned a) i

pub record Sentences : Type 0 where
  -- "Every stable assignment inside the ranges keeps its founded variables within these bounds.": each in its own order
  pub every_stable : {P : Program} {g b : List ℕ} → Leaves P g b → (θ : Valuation) → Stable P θ → InsideRanges P (low_in g) (high_in g) θ
      → (v : ℕ) → Founded P v → AtOrBefore (system P) v (θ v) (assigned b v)
  -- "With single ranges and every rule met, they are the least model's founded values.": where a call of least with that assignment is not turned down, it
  -- answers `found` and leaves the same values
  pub single : {P : Program} {g b : List ℕ} → Leaves P g b → {s a c c' : List ℕ} {r : Answer} → Accepts s P → SingleAt P g a → LeastCall s a c r c'
      → ((n at : ℕ) → r ≡ refusal n at → ⊥) → (r ≡ found) × ((v : ℕ) → Founded P v → assigned b v ≡ assigned c' v)
  -- narrower ranges never give a bound further from the starting end
  pub narrower : {P : Program} {g g' b b' : List ℕ} → Leaves P g b → Leaves P g' b' → Narrower P (low_in g) (high_in g) (low_in g') (high_in g')
      → (v : ℕ) → Founded P v → AtOrBefore (system P) v (assigned b' v) (assigned b v)
  -- the stable assignments inside the ranges are those inside the ranges with each founded far end drawn in to its bound
  pub drawn_in : {P : Program} {g b : List ℕ} → Leaves P g b → (θ : Valuation) → Stable P θ
      → InsideRanges P (low_in g) (high_in g) θ ↔ InsideRanges P (drawn_low P (assigned b) (low_in g)) (drawn_high P (assigned b) (high_in g)) θ
  -- where that leaves a range empty, there are none
  pub empty : {P : Program} {g b : List ℕ} → Leaves P g b → (v : ℕ) → v < length P.variables
      → T (lt_z (drawn_high P (assigned b) (high_in g) v) (drawn_low P (assigned b) (low_in g) v))
      → (θ : Valuation) → Stable P θ → InsideRanges P (low_in g) (high_in g) θ → ⊥
