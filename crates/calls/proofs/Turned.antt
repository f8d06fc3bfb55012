-- When a call on an accepted file is turned down, and when it is not: the counts of its reading are those of its program.
use Prim.Native.Nat.{ℕ, ◌*◌, ◌<◌, ◌≤◌}
use mathlib.Core.Path.{◌≡◌, refl}
use mathlib.Core.List.{List}
use native.Mathlib.Omega.{arith}
use lib.ListN.{length}
use Rattle.program.specs.Reading.{AcceptedAs}
use Rattle.program.specs.declared.Counts.{Counts}
use Rattle.meaning.specs.Calls.{Refuses, Called, bad_call, lengths}
use Rattle.reader.proofs.Published.{reads_accepts}
use mathlib.Core.Logic.{inl, inr}
use Rattle.meaning.proofs.Denials as denials

module _ (s : List ℕ) (k : Counts) (r : AcceptedAs s k) where
  module _ (a b : List ℕ) where
    same_length : length a ≡ 2 * k.variables → length a ≡ 2 * length (reads_accepts r).meant.variables
    same_length e = let q = (reads_accepts r).variables_are in omega arith

    pub wrong_assignment : (bytes : ℕ) → (length a ≡ 2 * k.variables → ⊥) → Refuses (lengths bytes a b) s 14 0
    wrong_assignment bytes n = bad_call (reads_accepts r).accepts (inl (refl, ((λ e. n (let q = (reads_accepts r).variables_are in omega arith)), refl)))

    pub wrong_buffer : (bytes : ℕ) → length a ≡ 2 * k.variables → length b < bytes * k.variables → Refuses (lengths bytes a b) s 15 0
    wrong_buffer bytes e h = bad_call (reads_accepts r).accepts (inr (λ at x. x.0 (same_length e), inl (refl, (rw (reads_accepts r).variables_are h, refl))))

    pub called : (bytes : ℕ) → length a ≡ 2 * k.variables → bytes * k.variables ≤ length b → Called (lengths bytes a b) s (reads_accepts r).meant
    called bytes e h = denials.called bytes a b (reads_accepts r).accepts (same_length e) (rw (reads_accepts r).variables_are h)
