-- Document 02, wish 5: walks over edges, and a search by rounds. "give each variable a set of reached ones, and let one more variable, in
-- ascending order, be a stop between at each round." Sets are a test r of two variables: r i j says that the set of i has j.
use Rattle.std.specs.Prelude.{ℕ, zero, suc, ◌<◌, ◌≤◌, ◌≡◌, Bool, true, ◌||◌, ◌&&◌}

-- a walk from i to j "over one edge or more with every stop between at most k"
pub data Walk (e : ℕ → ℕ → Bool) (k : ℕ) : ℕ → ℕ → Type 0 where
  edge : {i j : ℕ} → e i j ≡ true → Walk e k i j
  step : {i m j : ℕ} → e i m ≡ true → m ≤ k → Walk e k m j → Walk e k i j

-- ---- the sets of so many variables, round by round

-- "After variable k's round each set holds exactly those reached over one edge or more with every stop between at most k."
pub record AfterRound (e r : ℕ → ℕ → Bool) (variables k : ℕ) : Type 0 where
  pub sound : (i j : ℕ) → i < variables → j < variables → r i j ≡ true → Walk e k i j
  pub whole : (i j : ℕ) → i < variables → j < variables → Walk e k i j → r i j ≡ true

-- before variable 0's round each set holds what an edge leads to; before that of the next variable what it holds after this one's
pub data BeforeRound (e r : ℕ → ℕ → Bool) (variables : ℕ) : ℕ → Type 0 where
  edges : ((i j : ℕ) → i < variables → j < variables → r i j ≡ e i j) → BeforeRound e r variables 0
  after : {k : ℕ} → AfterRound e r variables k → BeforeRound e r variables (suc k)

-- after the last round, that is before that of a variable which is none
abbrev pub AfterLast : (ℕ → ℕ → Bool) → (ℕ → ℕ → Bool) → ℕ → Type 0
AfterLast e r variables = BeforeRound e r variables variables

-- ---- what turns r into r', whatever the edges

-- variable k's round: if r were the sets before it, r' are those after it
pub record Round (r r' : ℕ → ℕ → Bool) (variables k : ℕ) : Type 0 where
  pub turns : (e : ℕ → ℕ → Bool) → BeforeRound e r variables k → AfterRound e r' variables k

-- all rounds, one after the other
pub record Rounds (r r' : ℕ → ℕ → Bool) (variables : ℕ) : Type 0 where
  pub turn : (e : ℕ → ℕ → Bool) → BeforeRound e r variables 0 → AfterLast e r' variables

-- what is reached, as a test: a round for each stop
unfoldable pub closed : (ℕ → ℕ → Bool) → ℕ → ℕ → ℕ → Bool
closed e zero i j = e i j
closed e (suc k) i j = closed e k i j || (closed e k i k && closed e k k j)
