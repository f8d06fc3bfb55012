-- Whether a rule offends, by a test: reaching is a walk whose stops are heads of rules. Small files are read by such tests.
use Prim.Native.Nat.{ℕ, ◌+◌, ◌<◌, ◌≤◌}
use mathlib.Core.Path.{◌≡◌}
use mathlib.Core.Logic.{◌⊎◌, inl, inr}
use mathlib.Core.List.{List}
use mathlib.Core.Bool.{Bool, true, false, not, ◌||◌, ◌&&◌, or-true}
use native.Mathlib.Omega.{arith}
use lib.ListN.{length}
use lib.Dec.{eqb, leb}
use borrow.Author.Tests.{eqb-true, eq-eqb, leb-false, not-true, not-false}
use Rattle.format.specs.Limits.{max_file}
use Rattle.walks.specs.Walk.{BeforeRound, closed}
use Rattle.walks.proofs.Walks.{or_cases, closed_before, before_walk, walk_before}
use Rattle.program.specs.Tables.{any_below}
use Rattle.program.specs.Fields.{place}
use Rattle.program.specs.Program.{Program, Rule, rule_in, term_in, program}
use Rattle.program.specs.Refusals.{field_refusal}
use Rattle.program.specs.Directions.{direction, is_mixed}
use Rattle.program.specs.Idle.{is_idle}
use Rattle.program.specs.Components.{draws, Reaches, Share, Offends, Valid, FirstOffending, edge as drawn}
use Rattle.program.specs.Reading.{Passed, Whole, Reads, accepted, refused, not_valid, whole}
use Rattle.program.proofs.Conditions.{never, neither, both, none_below, some_below, below_some}
use Rattle.program.proofs.Tests.{is_it}
use Rattle.program.proofs.Places.{rule_at_is}
use Rattle.program.proofs.Promises.{Promises, passed_promises}
use Rattle.program.proofs.IdleRules.{promised_acts, promised_not_idle}

-- ---- the test, where all heads are below b

-- x and y are the same or each reaches the other
unfoldable pub share_test : Program → ℕ → ℕ → ℕ → Bool
share_test P b x y = eqb x y || (closed (drawn P) b x y && closed (drawn P) b y x)

-- a position is mixed, and its variable shares the head's component
unfoldable pub offends_at_lem : Program → ℕ → Rule → ℕ → Bool
offends_at_lem P b r at = is_mixed (direction P.variables r at) && share_test P b r.head (term_in r.terms at).variable

-- rule i is not idle, and has such a position
unfoldable pub offends_test : Program → ℕ → ℕ → Bool
offends_test P b i =
    let r = rule_in P.rules i in
    not (is_idle P.variables r) && any_below (length r.terms) (offends_at_lem P b r)

-- one of the first n rules is such a rule
abbrev pub offends_in_lem : Program → ℕ → Bool
offends_in_lem P n = any_below n (offends_test P (length P.variables))

-- ---- what it means

-- every rule has its head below b
abbrev pub HeadsBelow : Program → ℕ → Type 0
HeadsBelow P b = (i : ℕ) → i < length P.rules → (rule_in P.rules i).head < b

module _ (P : Program) (b : ℕ) (heads : HeadsBelow P b) where
  edge_start : (x y : ℕ) → drawn P x y ≡ true → x < b
  unfolding drawn draws
  edge_start x y h =
      let r = some_below (length P.rules) (λ i. draws P (rule_in P.rules i) x y) h in
      let d = (both (not (is_idle P.variables (rule_in P.rules r.0))) _ r.2).1 in
      let e = eqb-true (rule_in P.rules r.0).head x (both (eqb (rule_in P.rules r.0).head x) _ d).0 in
      omega (arith, heads r.0 r.1)

  reached : (x y : ℕ) → BeforeRound (drawn P) (closed (drawn P) b) (b + x + y + 1) b
  reached x y = closed_before (drawn P) (b + x + y + 1) b (omega arith)

  reaches_told : (x y : ℕ) → closed (drawn P) b x y ≡ true → Reaches P x y
  reaches_told x y h = before_walk (reached x y) x y (omega arith) (omega arith) h

  -- every stop of a walk has an edge from it, so it is below b
  reaches_test : (x y : ℕ) → Reaches P x y → closed (drawn P) b x y ≡ true
  reaches_test x y w = walk_before (reached x y) (λ i m j p q. edge_start m j q) x y (omega arith) (omega arith) w.1

  share_told : (x y : ℕ) → share_test P b x y ≡ true → Share P x y
  unfolding share_test
  share_told x y h = go (or_cases (eqb x y) _ h)
    where
      go : (eqb x y ≡ true) ⊎ ((closed (drawn P) b x y && closed (drawn P) b y x) ≡ true) → Share P x y
      go (inl e) = inl (eqb-true x y e)
      go (inr c) = let d = both (closed (drawn P) b x y) _ c in inr (reaches_told x y d.0, reaches_told y x d.1)

  share_tested : (x y : ℕ) → Share P x y → share_test P b x y ≡ true
  unfolding share_test
  share_tested x y (inl e) = rw (eq-eqb x y e)
  share_tested x y (inr w) = rw (reaches_test x y w.0, reaches_test y x w.1) (or-true (eqb x y))

-- for the rules of a program that meets no refusal
module _ {P : Program} (promises : Promises P) (b : ℕ) (heads : HeadsBelow P b) (i : ℕ) where
  abbrev r : Rule
  r = rule_in P.rules i

  pub offends_told : i < length P.rules → offends_test P b i ≡ true → Offends P i
  unfolding offends_test offends_at_lem
  offends_told h e =
      let d = both (not (is_idle P.variables r)) _ e in
      let f = some_below (length r.terms) (offends_at_lem P b r) d.1 in
      let g = both (is_mixed (direction P.variables r f.0)) _ f.2 in
      record {
        among = h;
        not_idle = promised_acts promises i h (not-true _ d.0);
        at = f.0;
        inside = f.1;
        pushes = g.0;
        shares = share_told P b heads r.head (term_in r.terms f.0).variable g.1;
      }

  pub offends_tested : Offends P i → offends_test P b i ≡ true
  unfolding offends_test offends_at_lem
  offends_tested o =
      rw (promised_not_idle promises i o.among o.not_idle)
      (below_some (length r.terms) (offends_at_lem P b r) o.at o.inside (rw o.pushes (share_tested P b heads r.head _ o.shares)))

-- ---- all heads are declared

module _ {P : Program} (promises : Promises P) where
  declared : HeadsBelow P (length P.variables)
  declared i h = (promises.rules i h).head_declared

  pub decide : (i : ℕ) → i < length P.rules → Dec (Offends P i)
  decide i h = go (is_it (offends_test P (length P.variables) i))
    where
      go : Dec (offends_test P (length P.variables) i ≡ true) → Dec (Offends P i)
      go (yes e) = yes (offends_told promises _ declared i h e)
      go (no f) = no (λ o. f (offends_tested promises _ declared i o))

module _ {s : List ℕ} {k : ℕ} (p : Passed s k) where
  abbrev promises : Promises (program s k)
  promises = passed_promises p

  none_offends : (n : ℕ) → offends_in_lem (program s k) n ≡ false → (i : ℕ) → i < n → Offends (program s k) i → ⊥
  none_offends n e i h o = never (offends_tested promises _ (declared promises) i o) (none_below n _ e i h)

  pub valid_by : offends_in_lem (program s k) (length (program s k).rules) ≡ false → Valid (program s k)
  valid_by e i o = none_offends _ e i o.among o

  pub first_by : (i : ℕ) → i < length (program s k).rules → offends_test (program s k) (length (program s k).variables) i ≡ true
      → offends_in_lem (program s k) i ≡ false → FirstOffending (program s k) i
  first_by i h t e = record { offends = offends_told promises _ (declared promises) i h t; first = none_offends i e }

-- ---- reading a small file

-- one of the first k fields does not stand in the file or meets a refusal
unfoldable pub unfit : List ℕ → ℕ → Bool
unfit s k = any_below k (λ j. leb (length s) (place s j) || not (eqb (field_refusal s j) 0))

pub whole_by : (s : List ℕ) (k : ℕ) → length s ≤ max_file → unfit s k ≡ false → length s ≤ place s k → Whole s k
unfolding unfit
whole_by s k short fit ended = record {
  passed = record {
    short = short;
    stands = λ j h. leb-false (length s) (place s j) (at j h).0;
    fine = λ j h. eqb-true (field_refusal s j) 0 (not-false (eqb (field_refusal s j) 0) (at j h).1);
  };
  ended = ended;
}
  where
    at : (j : ℕ) → j < k → (leb (length s) (place s j) ≡ false) × (not (eqb (field_refusal s j) 0) ≡ false)
    at j h = neither (leb (length s) (place s j)) (not (eqb (field_refusal s j) 0)) (none_below k _ fit j h)

module _ {s : List ℕ} {k : ℕ} (w : Whole s k) where
  pub accepted_by : offends_in_lem (program s k) (length (program s k).rules) ≡ false
      → Reads s (accepted (length (program s k).variables) (length (program s k).rules) (length (program s k).constraints))
  accepted_by e = whole w (valid_by w.passed e)

  -- rules follow the variables
  pub refused_by : (i : ℕ) → i < length (program s k).rules → offends_test (program s k) (length (program s k).variables) i ≡ true
      → offends_in_lem (program s k) i ≡ false → Reads s (refused 13 (place s (length (program s k).variables + i)))
  refused_by i h t e = let r = rule_at_is w.passed h in not_valid w r.before r.field (first_by w.passed i h t e)
