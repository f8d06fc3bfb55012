-- What each exported call answers: a number r that is some answer of the call, packed, and that gives this answer's word and numbers back.
use Rattle.std.specs.Prelude.{ℕ, ◌≡◌, List, take}
use Rattle.program.specs.Reading.{Reads}
use Rattle.program.specs.Reading as read
use Rattle.meaning.specs.LeastCall.{LeastCall}
use Rattle.meaning.specs.LeastCall as least
use Rattle.verdict.specs.Checks.{Checks}
use Rattle.verdict.specs.Checks as check
use Rattle.verdict.specs.Demands.{Demands}
use Rattle.normal.specs.Normalizes.{Normalizes, written}
use Rattle.normal.specs.Normalizes as normalize
use Rattle.normal.specs.NormalizeDemands.{NormalizeDemands}
use Rattle.nested.specs.FlattenCall.{FlattenCall}
use Rattle.nested.specs.FlattenDemands.{FlattenDemands}
use Rattle.nested.specs.Sentences.{Flattened}
use Rattle.search.specs.BeginCall.{BeginCall}
use Rattle.search.specs.BeginCall as begin
use Rattle.search.specs.BeginDemands.{BeginDemands}
use Rattle.lent.specs.BoundsCall.{BoundsCall}
use Rattle.lent.specs.BoundsCall as bounds
use Rattle.lent.specs.BoundsDemands.{BoundsDemands}
use Rattle.packing.specs.Packing.{packed, unpacked, length_in, read_parts, least_parts, check_parts, normalize_parts, begin_parts, bounds_parts}

pub record ExportedRead (s : List ℕ) (r : ℕ) : Type 0 where
  pub answer : read.Answer
  pub reads : Reads s answer
  pub is_packed : r ≡ packed (read_parts answer)
  pub unpacks : unpacked r ≡ read_parts answer

pub record ExportedLeast (s a b : List ℕ) (r : ℕ) (b' : List ℕ) : Type 0 where
  pub answer : least.Answer
  pub answers : LeastCall s a b answer b'
  pub is_packed : r ≡ packed (least_parts answer)
  pub unpacks : unpacked r ≡ least_parts answer

pub record ExportedCheck (s a b : List ℕ) (r : ℕ) (b' : List ℕ) : Type 0 where
  pub answer : check.Answer
  pub checks : Checks s a b answer b'
  pub demands : Demands s a b answer b'
  pub is_packed : r ≡ packed (check_parts answer)
  pub unpacks : unpacked r ≡ check_parts answer

pub record ExportedNormalize (s b : List ℕ) (r : ℕ) (b' : List ℕ) : Type 0 where
  pub answer : normalize.Answer
  pub normalizes : Normalizes s b answer b'
  pub demands : NormalizeDemands s b answer b'
  pub is_packed : r ≡ packed (normalize_parts answer)
  pub unpacks : unpacked r ≡ normalize_parts answer
  pub length_told : (n : ℕ) → answer ≡ written n → length_in r ≡ n

pub record ExportedFlatten (s b : List ℕ) (r : ℕ) (b' : List ℕ) : Type 0 where
  pub answer : normalize.Answer
  pub flattens : FlattenCall s b answer b'
  pub demands : FlattenDemands s b answer b'
  -- where it is not turned down, its output is an accepted plain file with the nested file's stable assignments
  pub same_stable : (n : ℕ) → answer ≡ written n → Flattened s (take n b')
  pub is_packed : r ≡ packed (normalize_parts answer)
  pub unpacks : unpacked r ≡ normalize_parts answer
  pub length_told : (n : ℕ) → answer ≡ written n → length_in r ≡ n

pub record ExportedBegin (s w : List ℕ) (r : ℕ) (w' : List ℕ) : Type 0 where
  pub answer : begin.Answer
  pub begins : BeginCall s w answer w'
  pub demands : BeginDemands s w answer w'
  pub is_packed : r ≡ packed (begin_parts answer)
  pub unpacks : unpacked r ≡ begin_parts answer

pub record ExportedBounds (s g b : List ℕ) (r : ℕ) (b' : List ℕ) : Type 0 where
  pub answer : bounds.Answer
  pub answers : BoundsCall s g b answer b'
  pub demands : BoundsDemands s g b answer b'
  pub is_packed : r ≡ packed (bounds_parts answer)
  pub unpacks : unpacked r ≡ bounds_parts answer
