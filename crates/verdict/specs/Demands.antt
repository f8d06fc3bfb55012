-- The mission's three demands, of a call of the check with the file s, the assignment a and the lent report b, which answers r and leaves the
-- report as b'.
use Rattle.std.specs.Prelude.{ℕ, zero, suc, ◌+◌, ◌*◌, ◌<◌, ◌≤◌, ◌≡◌, ◌↔◌, ◌⊎◌, List, [], ◌∷◌, Bool, false, cond, T, eqb, ℤ, pos, length, get_or}
use Rattle.std.specs.Int.Signed.{le_z}
use Rattle.format.specs.Numbers.{signed_at}
use Rattle.program.specs.Tables.{◌⇒◌, select, any_below}
use Rattle.program.specs.Program.{Program, variable_in}
use Rattle.program.specs.Reading.{Accepts}
use Rattle.meaning.specs.Founded.{AtOrBefore}
use Rattle.meaning.specs.Reduct.{system}
use Rattle.meaning.specs.Stable.{assigned, Meets, Stable}
use Rattle.meaning.specs.Calls.{Refuses, lengths}
use Rattle.meaning.specs.Unfounded.{Unfounded}
use Rattle.verdict.specs.Checks.{Answer, refusal, unfounded, stable, check_bytes}
use Rattle.program.specs.Readings.{Valuation}

-- ---- what is shown, read off the report's bytes

-- "Report entries have 4 bytes: variable, mark (1), number (2)."
abbrev pub variable_at : List ℕ → ℕ → ℕ
variable_at b i = get_or b (4 * i) 0

abbrev pub mark_at : List ℕ → ℕ → ℕ
mark_at b i = get_or b (4 * i + 1) 0

abbrev pub number_at : List ℕ → ℕ → ℤ
number_at b i = signed_at b (4 * i + 2)

-- "the set shown is the variables and numbers of the report's bound entries, as many as the first count says": whether v is shown, and its
-- number. No two of these entries have the same variable (`once`, below)
unfoldable pub is_shown : List ℕ → ℕ → ℕ → Bool
is_shown b n v = any_below n (λ i. eqb (variable_at b i) v)

unfoldable pub shown_bound : List ℕ → ℕ → Valuation
shown_bound b zero v = pos 0
shown_bound b (suc n) v = cond (eqb (variable_at b n) v) (number_at b n) (shown_bound b n v)

-- "A condition is true of an assignment, or met by it, when its variable is assigned at most (mark 1) or at least (mark 2) its number." An
-- entry with another mark is no condition, and met by nothing
pub record ConditionMet (θ : Valuation) (b : List ℕ) (i : ℕ) : Type 0 where
  pub met : T (select (mark_at b i) ((1 ⇒ le_z (θ (variable_at b i)) (number_at b i)) ∷ (2 ⇒ le_z (number_at b i) (θ (variable_at b i))) ∷ []) false)

-- "the conditions shown are the entries after them, as many as the second says"
abbrev pub ConditionsMet : Valuation → List ℕ → ℕ → ℕ → Type 0
ConditionsMet θ b n k = (i : ℕ) → n ≤ i → i < n + k → ConditionMet θ b i

-- "has an unfounded set"
abbrev pub HasUnfounded : Program → Valuation → Type 0
HasUnfounded P θ = (dom : ℕ → Bool) × (bounds : Valuation) × Unfounded (system P) θ dom bounds

-- ---- what an answer `unfounded n k` with the report b says of the assignment θ

pub record Shows (P : Program) (θ : Valuation) (b : List ℕ) (n k : ℕ) : Type 0 where
  -- the entries lie in the report; those of the set have mark 0 where the variable's kind is 1, mark 3 where it is 2, and no variable twice, those of the
  -- conditions mark 1 or 2 and no pair of variable and mark twice
  pub inside : 4 * (n + k) ≤ length b
  pub bounds_marked : (i : ℕ) → i < n → let x = variable_in P.variables (variable_at b i) in ((mark_at b i ≡ 0) × (x.kind ≡ 1)) ⊎ ((mark_at b i ≡ 3) × (x.kind ≡ 2))
  pub once : (i j : ℕ) → i < n → j < n → variable_at b i ≡ variable_at b j → i ≡ j
  pub conditions_marked : (i : ℕ) → n ≤ i → i < n + k → (mark_at b i ≡ 1) ⊎ (mark_at b i ≡ 2)
  pub conditions_once : (i j : ℕ) → n ≤ i → i < n + k → n ≤ j → j < n + k → variable_at b i ≡ variable_at b j → mark_at b i ≡ mark_at b j → i ≡ j
  -- "The set then shown is an unfounded set itself."
  pub is_unfounded : Unfounded (system P) θ (is_shown b n) (shown_bound b n)
  -- "It contains the variables of every other unfounded set of the assignment, none of them with a bound above that set's.": none further from the starting
  -- end, in the variable's order
  pub largest : (dom : ℕ → Bool) (bounds : Valuation) → Unfounded (system P) θ dom bounds → (v : ℕ) → T (dom v)
      → T (is_shown b n v) × AtOrBefore (system P) v (shown_bound b n v) (bounds v)
  -- "The conditions shown are true of the assignment."
  pub conditions_true : ConditionsMet θ b n k
  -- "Every stable assignment of the file that meets them keeps each shown variable at or below its shown bound.": at or above it where it is founded from above
  pub keeps : (θ' : Valuation) → Stable P θ' → ConditionsMet θ' b n k → (v : ℕ) → T (is_shown b n v) → AtOrBefore (system P) v (θ' v) (shown_bound b n v)

-- ---- the demands

-- "that the check does not refuse"
abbrev pub NotRefused : Answer → Type 0
NotRefused r = (n at : ℕ) → r ≡ refusal n at → ⊥

-- that every call returns, for any file, assignment and lent buffer, is what it means for `check` to be proved with no `requires`
pub record Demands (s a b : List ℕ) (r : Answer) (b' : List ℕ) : Type 0 where
  -- 1: "a file is turned down only under document 01's conditions, with the number and place fixed there"
  pub turned_down : (n at : ℕ) → (r ≡ refusal n at) ↔ Refuses (lengths check_bytes a b) s n at
  -- "a refusal leaves every buffer untouched"
  pub untouched : (n at : ℕ) → r ≡ refusal n at → b' ≡ b
  -- a file that is not turned down means a program; what follows stands for that program
  pub means : NotRefused r → (P : Program) × Accepts s P
  -- 2: "In a call not refused, an assignment is called stable exactly when it lies in its ranges, meets every rule and constraint, and is the
  -- least solution of its own reduct"
  pub called_stable : NotRefused r → (P : Program) → Accepts s P → (r ≡ stable) ↔ Stable P (assigned a)
  -- 3: "the assignment is called unfounded exactly when it lies in its ranges, meets every rule and constraint, and has an unfounded set"
  pub called_unfounded : NotRefused r → (P : Program) → Accepts s P
      → ((n : ℕ) × (k : ℕ) × (r ≡ unfounded n k)) ↔ (Meets P (assigned a) × HasUnfounded P (assigned a))
  pub shows : (P : Program) → Accepts s P → (n k : ℕ) → r ≡ unfounded n k → Shows P (assigned a) b' n k
