-- Document 01, "Which way a variable pushes": edges, components, validity. Document 02, wish 2: "An idle rule draws no edge and is never the
-- offending one of refusal 13." Wish 3: "edges run to kept and mixed variables".
use Rattle.std.specs.Prelude.{ℕ, ◌<◌, ◌≡◌, ◌⊎◌, Bool, true, not, ◌||◌, ◌&&◌, length, eqb}
use Rattle.walks.specs.Walk.{Walk}
use Rattle.program.specs.Tables.{any_below}
use Rattle.program.specs.Program.{Program, Rule, rule_in, term_in}
use Rattle.program.specs.Directions.{direction, is_mixed}
use Rattle.program.specs.Readings.{body_variable, kept}
use Rattle.program.specs.Idle.{Idle, is_idle}

-- "Dependency edges run from a rule's head to each" kept "or mixed body variable." "An idle rule draws no edge": where a test is needed it is `is_idle`
unfoldable pub draws : Program → Rule → ℕ → ℕ → Bool
draws P r x y =
    not (is_idle P.variables r)
    && (eqb r.head x
    && any_below (length r.terms)
    (λ i. eqb (body_variable r i) y && (kept P.variables r i || is_mixed (direction P.variables r i))))

unfoldable pub edge : Program → ℕ → ℕ → Bool
edge P x y = any_below (length P.rules) (λ i. draws P (rule_in P.rules i) x y)

-- x reaches y over one edge or more: a walk, whatever its stops
abbrev pub Reaches : Program → ℕ → ℕ → Type 0
Reaches P x y = (n : ℕ) × Walk (edge P) n x y

-- "Two variables share a component when they are the same or each reaches the other."
abbrev pub Share : Program → ℕ → ℕ → Type 0
Share P x y = (x ≡ y) ⊎ (Reaches P x y × Reaches P y x)

-- rule i is not idle, and has a mixed variable in its head's component
pub record Offends (P : Program) (i : ℕ) : Type 0 where
  pub among : i < length P.rules
  pub not_idle : Idle P (rule_in P.rules i) → ⊥
  pub at : ℕ
  pub inside : at < length (rule_in P.rules i).terms
  pub pushes : is_mixed (direction P.variables (rule_in P.rules i) at) ≡ true
  pub shares : Share P (rule_in P.rules i).head (term_in (rule_in P.rules i).terms at).variable

-- "A file is valid when no rule has a mixed variable in its head's component.": no rule that is not idle
abbrev pub Valid : Program → Type 0
Valid P = (i : ℕ) → Offends P i → ⊥

pub record FirstOffending (P : Program) (i : ℕ) : Type 0 where
  pub offends : Offends P i
  pub first : (j : ℕ) → j < i → Offends P j → ⊥
