-- Whole fields, and what stands at a place of the file, case by case.
use Prim.Native.Nat.{ℕ, ◌+◌, ◌<◌, ◌≤◌}
use mathlib.Core.Path.{◌≡◌, refl}
use mathlib.Core.List.{List}
use mathlib.Core.Bool.{Bool, true, false, not, ◌&&◌}
use lib.Dec.{leb}
use lib.ListN.{length}
use native.Mathlib.Omega.{arith}
use borrow.Author.Tests.{ne_eqb, lt-ltb, le-ltb, le-leb, lt-leb, leb-true}
use Rattle.format.specs.Limits.{max_variables, max_rules, max_constraints}
use Rattle.program.specs.Fields.{tag_at, length_at, next_at}
use Rattle.program.specs.Program.{Program}
use Rattle.program.specs.Refusals.{cut_short, unknown_tag, tag_below, one_too_many, value_refusal}
use Rattle.fields.specs.Standing.{field_at}
use Rattle.values.specs.Lengths.{length_refusal}
use Rattle.program.specs.declared.Variable.{Variable}
use Rattle.fields.specs.declared.cursor.Field.TheVariants.{Whole, Short, End}

module _ (s : List ℕ) (at : ℕ) where
  pub field_end : length s ≤ at → End ≡ field_at s at
  unfolding field_at
  field_end h = simp (le-leb (length s) at h)

  pub field_no_header : at < length s → length s < at + 3 → Short ≡ field_at s at
  unfolding field_at cut_short
  field_no_header h k = simp (lt-leb (length s) at h, lt-ltb (length s) (at + 3) k)

  pub field_no_value : (n : ℕ) → n ≡ length_at s at → at + 3 ≤ length s → length s < at + 3 + n → Short ≡ field_at s at
  unfolding field_at cut_short
  field_no_value n e h k =
      simp (lt-leb (length s) at (omega arith), le-ltb (length s) (at + 3) h, lt-ltb (length s) (next_at s at) (omega arith))

  pub field_whole : (n : ℕ) → n ≡ length_at s at → at + 3 + n ≤ length s → Whole (tag_at s at) (at + 3) n (record { at = at + 3 + n }) ≡ field_at s at
  unfolding field_at cut_short
  field_whole n e h =
      rw e
      (simp (lt-leb (length s) at (omega arith), le-ltb (length s) (at + 3) (omega arith), le-ltb (length s) (next_at s at) (omega arith)))

-- ---- tags

pub tag_known : (tag : ℕ) → 1 ≤ tag → tag ≤ 3 → false ≡ unknown_tag tag
unfolding unknown_tag
tag_known tag h k = simp (le-leb 1 tag h, le-leb tag 3 k)

pub tag_zero : (tag : ℕ) → tag ≡ 0 → true ≡ unknown_tag tag
unfolding unknown_tag
tag_zero tag h = rw h

pub tag_above : (tag : ℕ) → 3 < tag → true ≡ unknown_tag tag
unfolding unknown_tag
tag_above tag h = simp (le-leb 1 tag (omega arith), lt-leb tag 3 h)

-- ---- one too many

module _ (P : Program) (tag n : ℕ) where
  pub many_variables : length P.variables ≡ n → tag ≡ 1 → leb max_variables n ≡ one_too_many P tag
  unfolding one_too_many
  many_variables e h = rw (h, ← e)

  pub many_rules : length P.rules ≡ n → tag ≡ 2 → leb max_rules n ≡ one_too_many P tag
  unfolding one_too_many
  many_rules e h = rw (h, ← e)

  pub many_constraints : length P.constraints ≡ n → tag ≡ 3 → leb max_constraints n ≡ one_too_many P tag
  unfolding one_too_many
  many_constraints e h = rw (h, ← e)

pub many_unknown : (P : Program) (tag : ℕ) → (1 ≤ tag → tag ≤ 3 → ⊥) → false ≡ one_too_many P tag
unfolding one_too_many
many_unknown P tag h =
    simp (ne_eqb tag 1 (λ e. h (omega arith) (omega arith)), ne_eqb tag 2 (λ e. h (omega arith) (omega arith)), ne_eqb tag 3 (λ e. h (omega arith) (omega arith)))

-- ---- a field's value, by its tag

pub value_tag : (vs : List Variable) (tag k n : ℕ) (v : List ℕ) → tag ≡ k → n ≡ length_refusal vs k v → n ≡ length_refusal vs tag v
value_tag vs tag k n v h e = rw h e

-- a known tag that is neither of a variable nor of a rule
pub tag_last : (tag : ℕ) → unknown_tag tag ≡ false → (tag ≡ 1 → ⊥) → (tag ≡ 2 → ⊥) → tag ≡ 3
unfolding unknown_tag
tag_last tag e h k = go (leb 1 tag) (leb tag 3) refl refl e
  where
    go : (a b : Bool) → leb 1 tag ≡ a → leb tag 3 ≡ b → not (a && b) ≡ false → tag ≡ 3
    go true true p q e = let x = leb-true 1 tag p in let y = leb-true tag 3 q in omega arith
    go true false p q e = let z : ◌≡◌ {A = ℕ} 0 1 = cc in absurd (omega arith)
    go false b p q e = let z : ◌≡◌ {A = ℕ} 0 1 = cc in absurd (omega arith)

-- ---- a whole field

module _ (P : Program) (before tag : ℕ) (v : List ℕ) where
  pub whole_unknown : unknown_tag tag ≡ true → 3 ≡ value_refusal P before tag v
  unfolding value_refusal
  whole_unknown h = simp h

  module _ (a : unknown_tag tag ≡ false) where
    pub whole_below : tag < before → 4 ≡ value_refusal P before tag v
    unfolding value_refusal tag_below
    whole_below h = simp (a, lt-ltb tag before h)

    module _ (d : before ≤ tag) where
      pub whole_many : one_too_many P tag ≡ true → 5 ≡ value_refusal P before tag v
      unfolding value_refusal tag_below
      whole_many h = simp (a, le-ltb tag before d, h)

      pub whole_value : one_too_many P tag ≡ false → (vs : List Variable) (n : ℕ) → P.variables ≡ vs → n ≡ length_refusal vs tag v → n ≡ value_refusal P before tag v
      unfolding value_refusal tag_below length_refusal
      whole_value h vs n e q = simp (a, le-ltb tag before d, h, e) q
