-- Where something that is read from `at` on ends.
use Rattle.std.specs.Prelude.{ℕ, ◌≤◌, ◌≡◌, List, length, drop, Option, Some, None}
use Rattle.trees.specs.Tree.{Front, nothing, ◌then◌}

-- it is read, and the bytes from e on stand after it
pub record Ended {A : Type 0} (front : Front A) (s : List ℕ) (at e : ℕ) : Type 0 where
  pub what : A
  pub is : front ≡ (what then drop e s)
  pub from : at ≤ e
  pub inside : e ≤ length s

abbrev pub Ends : {A : Type 0} → Front A → List ℕ → ℕ → Option ℕ → Type 0
Ends front s at None = front ≡ nothing
Ends front s at (Some e) = Ended front s at e
