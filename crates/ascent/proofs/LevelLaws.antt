-- Values that are the assigned ones on both sides.
use Prim.Native.Nat.{ℕ, ◌+◌, ◌<◌, ◌≤◌}
use mathlib.Core.Path.{◌≡◌, refl, sym, fun_ext, ◌∙◌}
use mathlib.Core.Bool.{Bool, true, false, not}
use mathlib.Core.List.{List}
use native.Mathlib.Decide.{dec_lt}
use native.Mathlib.Omega.{arith}
use lib.IntN.{ℤ, pos, nat_abs}
use lib.ListN.{length, replicate}
use borrow.Author.Count.{below_more}
use Rattle.format.specs.Limits.{max_variables, max_number}
use Rattle.program.specs.Program.{Program, variable_in}
use Rattle.program.specs.Reading.{AcceptedAs, Accepts}
use Rattle.program.specs.Readings.{Valuation}
use Rattle.program.specs.Evaluable.{Small}
use Rattle.program.specs.declared.Counts.{Counts}
use Rattle.program.specs.declared.Variable.{Variable}
use Rattle.reader.proofs.Published.{reads_accepts}
use Rattle.meaning.specs.Founded.{Within}
use Rattle.meaning.specs.Reduct.{system}
use Rattle.meaning.proofs.InRanges.{past_zero}
use Rattle.reduct.proofs.Fills.{zeros}
use Rattle.sided.specs.Sides.{sides_length, side_place, on_side}
use Rattle.sided.specs.Reached.{own_side, risen, Sided}
use Rattle.ascent.specs.Level.{LevelSides, LevelPast}
use Rattle.ascent.proofs.PlaceLaws.{side_of_lem, both, both_own, both_other, both_else}

-- ---- past the last variable

-- zeros stand there, and are assigned there
pub zero_sides : {s : List ℕ} {k : Counts} → AcceptedAs s k → (θ : Valuation) → ((P : Program) → Accepts s P → Within (system P) θ) → (v : ℕ) → k.variables ≤ v → (f : Bool)
    → on_side (replicate sides_length (pos 0)) f v ≡ θ v
zero_sides r θ w v h f = let a = reads_accepts r in zeros sides_length (side_place f v) ∙ sym (past_zero a.meant (w a.meant a.accepts) v (omega (arith, a.variables_are)))

-- ---- one variable after the other

pub level_none : (θ : Valuation) (sides : List ℤ) → LevelSides 0 θ sides sides
level_none θ sides = record { below = λ v l f. absurd (omega arith); past = λ v l f. refl }

module _ {θ : Valuation} {n : ℕ} {sides₀ sides : List ℤ} {a b : ℤ} (l : n < max_variables) (e : length sides ≡ sides_length) (k : LevelSides n θ sides₀ sides)
    (p : a ≡ θ n) (q : b ≡ θ n) where
  at_n : (f : Bool) → on_side (both sides false n a b) f n ≡ θ n
  at_n true = both_other sides e false n a b l ∙ q
  at_n false = both_own sides e false n a b l ∙ p

  pub level_next : LevelSides (n + 1) θ sides₀ (both sides false n a b)
  level_next = record {
    below = below_more (λ (v : ℕ). (f : Bool) → on_side (both sides false n a b) f v ≡ θ v) n
        (λ v h f. both_else sides e false n a b v (λ z. omega arith) f ∙ k.below v h f) at_n;
    past = λ v h f. both_else sides e false n a b v (λ z. omega arith) f ∙ k.past v (omega arith) f;
  }

pub level_done : {θ : Valuation} {n k : ℕ} {sides₀ sides : List ℤ} → k ≡ n → LevelSides k θ sides₀ sides → LevelSides n θ sides₀ sides
level_done e f = rw e at f

-- every value is the assigned one on both sides
module _ {n : ℕ} {θ : Valuation} {sides₀ sides : List ℤ} (k : LevelSides n θ sides₀ sides) (z : (v : ℕ) → n ≤ v → (f : Bool) → on_side sides₀ f v ≡ θ v) where
  pub level_all : (f : Bool) (v : ℕ) → on_side sides f v ≡ θ v
  level_all f v = go (dec_lt v n)
    where
      go : Dec (v < n) → on_side sides f v ≡ θ v
      go (yes l) = k.below v l f
      go (no l) = k.past v (omega arith) f ∙ z v (omega arith) f

  -- and stays so past the last variable
  pub past_level : LevelPast n θ sides
  past_level v l f = level_all f v

  pub level_sided : (vs : List Variable) → Sided vs θ θ sides
  unfolding risen
  level_sided vs = record { other = λ v. level_all (not (own_side (variable_in vs v))) v; standard = λ v t. level_all (own_side (variable_in vs v)) v }

  pub level_risen : (vs : List Variable) → risen vs sides ≡ θ
  unfolding risen
  level_risen vs = fun_ext (λ v. level_all (own_side (variable_in vs v)) v)

  pub level_small : ((v : ℕ) → nat_abs (θ v) ≤ max_number) → Small sides
  level_small h p = let q = side_of_lem p in rw (q.2, level_all q.1 q.0) (h q.0)
