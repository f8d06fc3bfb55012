-- What the search of an order relies on.
use Rattle.std.specs.Prelude.{ℕ, ◌<◌, List, get_or}
use Rattle.run.specs.Running.{SomeRule}

-- rules of the file stand at the first n places of the table
abbrev pub RulesStand : List ℕ → List ℕ → ℕ → Type 0
RulesStand s offsets n = (i : ℕ) → i < n → SomeRule s (get_or offsets i 0)
