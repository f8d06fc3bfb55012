-- Every accepted program is a system of the theory (`laws`): its rules are monotone by their directions (Rattle.program.proofs.Monotone).
use Rattle.std.specs.Prelude.{Option, Some, None, ℤ}
use Prim.Native.Nat.{ℕ, ◌<◌}
use mathlib.Core.Path.{refl}
use mathlib.Core.Bool.{Bool, true, false, cond, ◌&&◌}
use lib.Dec.{T}
use lib.ListN.{length}
use Rattle.program.specs.Program.{Rule, Program, variable_in, rule_in}
use Rattle.program.specs.Variables.{is_founded, not_past}
use Rattle.program.specs.Directions.{away, direction, is_rising}
use Rattle.program.specs.Readings.{Valuation, body_variable, kept, reading, gives}
use Rattle.program.specs.declared.Direction.{Direction}
use Rattle.program.specs.declared.Direction.TheVariants.{Rising, Falling, Mixed}
use Rattle.program.proofs.Promises.{Promises}
use Rattle.program.proofs.Tests.{is_test}
use Rattle.program.proofs.Monotone.{Moves, Onward, moves_away, Under, Between, in_between, evaluate_up}
use Rattle.meaning.specs.Founded.{Within}
use Rattle.meaning.specs.Reduct.{system}
use Rattle.meaning.proofs.Laws.{NoMore, Less, Laws}

module _ (P : Program) where
  -- what demands no more of its head
  no_more_as : (v : ℕ) (g h : Option ℤ) → Under (variable_in P.variables v) g h → NoMore (system P) v g h
  no_more_as v None h n = tt
  no_more_as v (Some a) None n = n
  no_more_as v (Some a) (Some b) n = record { le = n }

  -- what the theory asks at a position, as the two readings of its variable
  moves_of : (m θ m' θ' : Valuation) (x : ℕ) (d : Direction) → Less (system P) x (away (variable_in P.variables x) d) m θ m' θ'
      → let k = is_rising (away (variable_in P.variables x) d) && is_founded (variable_in P.variables x) in Moves d (cond k (m x) (θ x)) (cond k (m' x) (θ' x))
  moves_of m θ m' θ' x d h = moves_away (variable_in P.variables x) d _ _ (own (away (variable_in P.variables x) d) h)
    where
      own : (e : Direction) → Less (system P) x e m θ m' θ'
          → let k = is_rising e && is_founded (variable_in P.variables x) in Onward (not_past (variable_in P.variables x)) e (cond k (m x) (θ x)) (cond k (m' x) (θ' x))
      own Rising h = h.le
      own Falling h = h.le
      own Mixed h = h

  -- a reading of two valuations in the ranges is in the range
  pub read_between : {m θ : Valuation} → Within (system P) m → Within (system P) θ → (b : Bool) (x : ℕ) → Between (variable_in P.variables x) (cond b (m x) (θ x))
  read_between {m} {θ} wm wθ true x = in_between (variable_in P.variables x) (m x) (wm.inside x)
  read_between {m} {θ} wm wθ false x = in_between (variable_in P.variables x) (θ x) (wθ.inside x)

gives_up : {P : Program} → Promises P → (i : ℕ) → i < length P.rules → (m θ m' θ' : Valuation)
    → Within (system P) m → Within (system P) θ → Within (system P) m' → Within (system P) θ'
    → ((x : ℕ) (d : Direction) → (system P).occurs i x d → Less (system P) x d m θ m' θ')
    → NoMore (system P) (rule_in P.rules i).head (gives P.variables (rule_in P.rules i) m θ) (gives P.variables (rule_in P.rules i) m' θ')
unfolding gives kept
gives_up {P} p i h m θ m' θ' wm wθ wm' wθ' less =
    no_more_as P r.head (gives P.variables r m θ) (gives P.variables r m' θ')
    (evaluate_up (p.rules i h) (reading P.variables r m θ) (reading P.variables r m' θ')
    (λ j k. record { first = read_between P wm wθ (kept P.variables r j) (body_variable r j); second = read_between P wm' wθ' (kept P.variables r j) (body_variable r j) })
    (λ j k. moves_of P m θ m' θ' (body_variable r j) (direction P.variables r j)
    (less (body_variable r j) (away (variable_in P.variables (body_variable r j)) (direction P.variables r j)) (j, k, refl, refl))))
  where
    r : Rule
    r = rule_in P.rules i

pub laws : {P : Program} → Promises P → Laws (system P)
laws p = record { mono = gives_up p }

-- a head is founded
pub head_founded : {P : Program} → Promises P → (i : ℕ) → i < length P.rules → T (is_founded ((system P).variable ((system P).head i)))
head_founded p i h = is_test (p.rules i h).head_founded
