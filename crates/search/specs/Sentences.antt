-- Document 02, wish 5, over what calls write: a search of the file s that is begun and stepped, one variable's round after the other.
use Rattle.std.specs.Prelude.{ℕ, suc, ◌<◌, ◌≡◌, ◌↔◌, true, List, length, get_or}
use Rattle.format.specs.Limits.{max_variables}
use Rattle.walks.specs.Walk.{Walk}
use Rattle.program.specs.Fields.{place}
use Rattle.program.specs.Program.{Program, program, rule_in, term_in}
use Rattle.program.specs.Directions.{direction, is_mixed}
use Rattle.program.specs.Idle.{Idle}
use Rattle.program.specs.Components.{edge, Share}
use Rattle.program.specs.Reading.{Reads, refused, RuleField}
use Rattle.reach.specs.Rows.{row_has}
use Rattle.reach.specs.Stepping.{Steps}
use Rattle.sharing.specs.Sharing.{Names}
use Rattle.search.specs.BeginCall.{BeginCall, begun}

-- the sets of so many variables before variable k's round: begun, then a step for each variable below k, in ascending order
pub data Searched (s : List ℕ) (variables : ℕ) : ℕ → List ℕ → Type 0 where
  begins : {w w' : List ℕ} → BeginCall s w (begun variables) w' → Searched s variables 0 w'
  steps : {k : ℕ} {w w' : List ℕ} → Searched s variables k w → Steps w variables k true w' → Searched s variables (suc k) w'

-- the search after its last round, and the bytes that the call components then writes
pub record Finished (s : List ℕ) (variables : ℕ) (b' : List ℕ) : Type 0 where
  pub sets : List ℕ
  pub searched : Searched s variables variables sets
  pub buffer : List ℕ
  pub names : Names sets variables buffer true b'

-- rule i is not idle, and has a mixed variable whose byte is its head's
pub record SameByte (P : Program) (b : List ℕ) (i : ℕ) : Type 0 where
  pub among : i < length P.rules
  pub not_idle : Idle P (rule_in P.rules i) → ⊥
  pub at : ℕ
  pub inside : at < length (rule_in P.rules i).terms
  pub pushes : is_mixed (direction P.variables (rule_in P.rules i) at) ≡ true
  pub same : get_or b (rule_in P.rules i).head 0 ≡ get_or b (term_in (rule_in P.rules i).terms at).variable 0

-- the field at this place is the first such rule
pub record FirstSameByte (s : List ℕ) (k : ℕ) (b : List ℕ) (place_is : ℕ) : Type 0 where
  pub field : ℕ
  pub rule : ℕ
  pub before : field < k
  pub is_rule : RuleField s field rule
  pub has : SameByte (program s k) b rule
  pub first : (j : ℕ) → j < rule → SameByte (program s k) b j → ⊥
  pub placed : place s field ≡ place_is

pub record Sentences (s : List ℕ) (fields variables : ℕ) : Type 0 where
  -- before the first round the sets are the edges of the file's rules
  pub edges : {w : List ℕ} → Searched s variables 0 w → (x y : ℕ) → x < variables → y < max_variables → row_has w x y ≡ edge (program s fields) x y
  -- "After variable k's round each set holds exactly those reached over one edge or more with every stop between at most k."
  pub after_round : {k : ℕ} {w : List ℕ} → Searched s variables (suc k) w → (x y : ℕ) → x < variables → y < max_variables
      → (row_has w x y ≡ true) ↔ Walk (edge (program s fields)) k x y
  -- "Components .. come out as they did": two variables have one byte exactly where they share a component
  pub components : {b : List ℕ} → Finished s variables b → (x y : ℕ) → x < variables → y < variables
      → (get_or b x 0 ≡ get_or b y 0) ↔ Share (program s fields) x y
  -- ".. refusal 13 and its place come out as they did"
  pub invalid : {b : List ℕ} → Finished s variables b → (at : ℕ) → Reads s (refused 13 at) ↔ FirstSameByte s fields b at
