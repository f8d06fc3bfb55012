-- A search that is begun and stepped does what document 02 says of it.
use Prim.Native.Nat.{ℕ, suc, ◌<◌, ◌≤◌}
use mathlib.Core.Path.{◌≡◌, refl, sym, ◌∙◌, subst}
use mathlib.Core.Logic.{◌↔◌, ⊎_elim}
use mathlib.Core.Bool.{Bool, true, ◌||◌, ◌&&◌}
use mathlib.Core.List.{List}
use native.Mathlib.Omega.{arith}
use lib.Dec.{ltb}
use lib.ListN.{length, get_or}
use Rattle.format.specs.Limits.{max_variables}
use Rattle.walks.specs.Walk as walk
use Rattle.walks.specs.Walk.{Walk, BeforeRound, AfterLast}
use Rattle.walks.proofs.Walks.{or_cases}
use Rattle.walks.proofs.Joined.{reached_over}
use Rattle.program.specs.Program.{Program, program, rule_in, term_in}
use Rattle.program.specs.Components.{edge, Share, Offends, FirstOffending}
use Rattle.program.specs.Reading.{Reads, refused, Whole, not_valid}
use Rattle.program.specs.ReadDemands.{OffendingField}
use Rattle.program.proofs.Conditions.{both}
use Rattle.program.proofs.Places.{counts}
use Rattle.program.proofs.Promises.{passed_promises}
use Rattle.program.proofs.ReadDemanded.{read_demands}
use Rattle.program.proofs.Unique.{whole_unique}
use Rattle.reach.specs.Rows.{row_has}
use Rattle.reach.specs.Stepping.{Steps, stepped}
use Rattle.reach.proofs.StepLaws.{stepped_round}
use Rattle.sharing.specs.Sharing.{FirstSharing, Names, named}
use Rattle.sharing.proofs.Firsts.{Transitive, first_names}
use Rattle.validity.proofs.ComponentLaws.{edges_below, stops_declared, shared}
use Rattle.search.specs.BeginCall.{BeginCall, begun, starts, AtEdges}
use Rattle.search.specs.Sentences.{Searched, begins, steps, Finished, SameByte, FirstSameByte, Sentences}

-- ---- a search that is begun

record Begun (s : List ℕ) (n : ℕ) (w w' : List ℕ) : Type 0 where
  fields : ℕ
  fine : Whole s fields
  are : n ≡ length (program s fields).variables
  first : AtEdges (program s fields) w w'

begun_as : {s w w' : List ℕ} {n : ℕ} → BeginCall s w (begun n) w' → Begun s n w w'
begun_as (starts {k = k} v p a) = record { fields = k; fine = v; are = refl; first = a }

-- one step done
step_as : {w w' : List ℕ} {n k : ℕ} {e : ℕ → ℕ → Bool} → Steps w n k true w' → BeforeRound e (row_has w) n k → BeforeRound e (row_has w') n (suc k)
step_as {e = e} (stepped l h t) b = walk.after ((stepped_round l.few h t).turns e b)

-- each set has variables alone
record Inside (n : ℕ) (w : List ℕ) : Type 0 where
  is : (x y : ℕ) → x < n → y < max_variables → row_has w x y ≡ true → y < n

step_inside : {w w' : List ℕ} {n k : ℕ} → Steps w n k true w' → Inside n w → Inside n w'
step_inside {w} {n = n} {k = k} (stepped l h t) b = record { is = λ x y hx hy e. go x y hx hy (sym (t.is x y hy) ∙ e) }
  where
    go : (x y : ℕ) → x < n → y < max_variables → (row_has w x y || (ltb x n && (row_has w x k && row_has w k y))) ≡ true → y < n
    go x y hx hy e =
        ⊎_elim (b.is x y hx hy) (λ f. b.is k y h hy (both (row_has w x k) _ (both (ltb x n) _ f).1).1) (or_cases (row_has w x y) _ e)

-- what the sets hold before a round
module _ {e t : ℕ → ℕ → Bool} {n : ℕ} where
  exactly : {j : ℕ} → BeforeRound e t n (suc j) → (x y : ℕ) → x < n → y < n → (t x y ≡ true) ↔ Walk e j x y
  exactly (walk.after h) x y hx hy = (h.sound x y hx hy, h.whole x y hx hy)

-- ---- a file whose fields passed

module _ {s : List ℕ} {k : ℕ} (whole : Whole s k) where
  abbrev P : Program
  P = program s k

  abbrev n : ℕ
  n = length P.variables

  few : n ≤ max_variables
  few = (counts whole.passed).few_variables

  at_edges : {w w' : List ℕ} → BeginCall s w (begun n) w' → AtEdges P w w'
  at_edges {w} {w'} b = let g = begun_as b in subst (λ j. AtEdges (program s j) w w') (whole_unique g.fine whole) g.first

  lands : (x y : ℕ) → edge P x y ≡ true → y < n
  lands = edges_below (passed_promises whole.passed)

  -- the sets before each round
  before : {j : ℕ} {w : List ℕ} → Searched s n j w → BeforeRound (edge P) (row_has w) n j
  before (begins b) = walk.edges (λ x y hx hy. (at_edges b).is x y hx (omega (arith, few)))
  before (steps d t) = step_as t (before d)

  -- the edges, for every number of a set
  drawn : {w : List ℕ} → Searched s n 0 w → (x y : ℕ) → x < n → y < max_variables → row_has w x y ≡ edge P x y
  drawn (begins b) = (at_edges b).is

  -- no set has a number that is no variable, and no walk leads to one
  inside : {j : ℕ} {w : List ℕ} → Searched s n j w → Inside n w
  inside (begins b) = record { is = λ x y hx hy e. lands x y (sym ((at_edges b).is x y hx hy) ∙ e) }
  inside (steps d t) = step_inside t (inside d)

  walk_lands : {j x y : ℕ} → Walk (edge P) j x y → y < n
  walk_lands (walk.edge {i = i} {j = j} p) = lands i j p
  walk_lands (walk.step p l w) = walk_lands w

  reached : {j : ℕ} {w : List ℕ} → Searched s n (suc j) w → (x y : ℕ) → x < n → y < max_variables → (row_has w x y ≡ true) ↔ Walk (edge P) j x y
  reached d x y hx hy = (λ e. (exactly (before d) x y hx ((inside d).is x y hx hy e)).0 e, λ v. (exactly (before d) x y hx (walk_lands v)).1 v)

  -- sets after the last round
  module _ {t : ℕ → ℕ → Bool} (last : AfterLast (edge P) t n) where
    transitive : Transitive t n
    transitive = record { over = reached_over last (stops_declared whole) }

    same_first : {x y a b : ℕ} → x < n → y < n → FirstSharing t x a → FirstSharing t y b → (a ≡ b) ↔ Share P x y
    same_first {x} {y} hx hy f g =
        let p = first_names transitive hx hy f g in
        let q = shared whole last x y hx hy in
        (λ e. q.0 (p.0 e), λ c. p.1 (q.1 c))

  bytes : {ws c b : List ℕ} → Names ws n c true b → (x : ℕ) → x < n → FirstSharing (row_has ws) x (get_or b x 0)
  bytes (named l h p) = p.is

  -- ---- the bytes of a search

  module _ {b : List ℕ} (found : Finished s n b) where
    one_byte : (x y : ℕ) → x < n → y < n → (get_or b x 0 ≡ get_or b y 0) ↔ Share P x y
    one_byte x y hx hy = same_first (before found.searched) hx hy (bytes found.names x hx) (bytes found.names y hy)

    module _ (i : ℕ) where
      -- the head and each body variable are declared
      pair : i < length P.rules → (j : ℕ) → j < length (rule_in P.rules i).terms
          → (get_or b (rule_in P.rules i).head 0 ≡ get_or b (term_in (rule_in P.rules i).terms j).variable 0)
          ↔ Share P (rule_in P.rules i).head (term_in (rule_in P.rules i).terms j).variable
      pair h j l = let p = (passed_promises whole.passed).rules i h in one_byte _ _ p.head_declared (p.body.terms j l).declared

      same_offends : SameByte P b i → Offends P i
      same_offends o = record {
        among = o.among;
        not_idle = o.not_idle;
        at = o.at;
        inside = o.inside;
        pushes = o.pushes;
        shares = (pair o.among o.at o.inside).0 o.same;
      }

      offends_same : Offends P i → SameByte P b i
      offends_same o = record {
        among = o.among;
        not_idle = o.not_idle;
        at = o.at;
        inside = o.inside;
        pushes = o.pushes;
        same = (pair o.among o.at o.inside).1 o.shares;
      }

    -- refusal 13 and its place
    invalid_as : {at : ℕ} → OffendingField s at → FirstSameByte s k b at
    invalid_as o =
        let e = whole_unique o.fine whole in
        let f : FirstOffending P o.rule = subst (λ j. FirstOffending (program s j) o.rule) e o.offends in
        record {
          field = o.field;
          rule = o.rule;
          before = omega (arith, e, o.among);
          is_rule = o.is_rule;
          has = offends_same o.rule f.offends;
          first = λ j l x. f.first j l (same_offends j x);
          placed = o.placed;
        }

    as_invalid : {at : ℕ} → FirstSameByte s k b at → Reads s (refused 13 at)
    as_invalid f =
        let o : FirstOffending P f.rule = record { offends = same_offends f.rule f.has; first = λ j l x. f.first j l (offends_same j x) } in
        subst (λ p. Reads s (refused 13 p)) f.placed (not_valid whole f.before f.is_rule o)

  pub search_sentences : Sentences s k n
  search_sentences = record {
    edges = drawn;
    after_round = reached;
    components = one_byte;
    invalid = λ f at. (λ r. invalid_as f (((read_demands r).invalid at).0 refl), as_invalid f);
  }
