-- What skipping trees answers.
use Rattle.std.specs.Prelude.{ℕ, ◌≤◌, ◌≡◌, List, length, drop}
use Rattle.flat.specs.Flat.{past, inners_passed}
use Rattle.skipping.specs.declared.Skipped.{Skipped}

-- n trees from `at` on
pub record Skips (s : List ℕ) (at n : ℕ) (r : Skipped) : Type 0 where
  pub rest : drop r.end s ≡ past (drop at s) n
  pub from : at ≤ r.end
  pub inside : r.end ≤ length s
  pub counted : r.inners ≡ inners_passed (drop at s) n
