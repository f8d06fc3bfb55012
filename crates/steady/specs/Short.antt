-- Values on the way to their aims that fall short of them by at most n strides. vs are the program's variables.
use Rattle.std.specs.Prelude.{ℕ, ◌*◌, ◌<◌, ◌≡◌, true, List, ◌⊎◌, T, ℤ, pos, ◌+ℤ◌, ◌≤ℤ◌, length}
use Rattle.program.specs.Program.{Rule, variable_in}
use Rattle.program.specs.Variables.{not_past, ahead, in_range}
use Rattle.program.specs.Readings.{body_variable, kept}
use Rattle.program.specs.declared.Variable.{Variable}

-- for a variable x the value b is at most n steps short of a
abbrev pub ShortBy : ℕ → Variable → ℤ → ℤ → Type 0
ShortBy n x a b = ahead x a ≤ℤ (ahead x b +ℤ pos n)

module _ (vs : List Variable) (r : Rule) (at aim to : ℕ → ℤ) where
  -- the variable at position i
  abbrev there : ℕ → Variable
  there i = variable_in vs (body_variable r i)

  -- position i is kept; its aim and its value at `to` are at or after the present one, and its value at `to` is at most n steps short of the aim
  pub record Moving (n i : ℕ) : Type 0 where
    pub is_kept : kept vs r i ≡ true
    pub at_in : T (in_range (there i) (at i))
    pub aim_in : T (in_range (there i) (aim i))
    pub to_in : T (in_range (there i) (to i))
    pub aims : T (not_past (there i) (at i) (aim i))
    pub goes : T (not_past (there i) (at i) (to i))
    pub short : ShortBy n (there i) (aim i) (to i)

  -- position i stays
  pub record Staying (i : ℕ) : Type 0 where
    pub at_in : T (in_range (there i) (at i))
    pub at_aim : at i ≡ aim i
    pub at_to : at i ≡ to i

  -- every position stays, or moves and is at most n of its strides short
  abbrev pub Short : ℕ → (ℕ → ℕ) → Type 0
  Short n stride = (i : ℕ) → i < length r.terms → Moving (n * stride i) i ⊎ Staying i
