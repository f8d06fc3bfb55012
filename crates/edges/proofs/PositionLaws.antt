-- The positions of one rule, and rows that take in edges, case by case.
use Prim.Native.Nat.{ℕ, ◌+◌, ◌<◌}
use mathlib.Core.Path.{◌≡◌, refl, sym, ap, ap₂, ◌∙◌, subst}
use mathlib.Core.List.{List}
use mathlib.Core.Bool.{Bool, true, false, ◌||◌, ◌&&◌, or-false, or_comm, or_assoc}
use lib.ListN.{length}
use lib.Dec.{eqb}
use Rattle.reach.specs.Rows.{Marked, MarkedWhere}
use Rattle.program.specs.Tables.{any_below}
use Rattle.program.specs.Program.{Rule, variable_in, term_in}
use Rattle.program.specs.Variables.{is_founded}
use Rattle.program.specs.Directions.{direction, is_mixed}
use Rattle.program.specs.Readings.{body_variable}
use Rattle.program.proofs.Conditions.{any_next, below_some}
use Rattle.program.proofs.Tests.{eqb_swap}
use Rattle.program.specs.declared.Term.{Term}
use Rattle.positions.specs.Positions.{PositionIs}
use Rattle.positions.specs.Kinds.{direction_of, kind_in, KindsOf}
use Rattle.positions.specs.declared.Position.{Position}
use Rattle.positions.specs.declared.kinds.Kinds.{Kinds}
use Rattle.positions.proofs.KindLaws.{kept_by_lem, position_kept, position_directed}
use Rattle.sharing.specs.Sharing.{share_in}
use Rattle.edges.specs.Edges.{Grown, any_mixed, draws_edge, draws_by, draws_at, draws_in, offends_at, offends_in}
use Rattle.program.specs.declared.Variable.{Variable}

-- the code's tests of a term
pub draws_tests : (up down : ℕ) (x : Variable) (t : Term) {n : ℕ} {a b : Bool} → n ≡ kind_in up down t → a ≡ (eqb x.kind n && is_founded x)
    → b ≡ is_mixed (direction_of n) → (a || b) ≡ draws_by up down x t
unfolding draws_by
draws_tests up down x t p q e = ap₂ ◌||◌ (kept_by_lem up down x t p q) (e ∙ rw p)

-- ---- rows that take in edges

pub grown_as : {r r' e e' : ℕ → ℕ → Bool} → e ≡ e' → Grown r r' e → Grown r r' e'
grown_as {r} {r'} q g = subst (Grown r r') q g

module _ (p : ℕ → ℕ → ℕ → Bool) where
  pub grown_none : (r : ℕ → ℕ → Bool) → Grown r r (λ a b. any_below 0 (λ i. p i a b))
  unfolding any_below
  grown_none r = record { is = λ a b ha hb. sym (or-false (r a b)) }

  pub grown_more : (n : ℕ) {r r' r'' : ℕ → ℕ → Bool} → Grown r r' (λ a b. any_below n (λ i. p i a b)) → Grown r' r'' (p n)
      → Grown r r'' (λ a b. any_below (n + 1) (λ i. p i a b))
  grown_more n {r} g h = record {
    is = λ a b ha hb. h.is a b ha hb ∙ ap (λ (t : Bool). t || p n a b) (g.is a b ha hb) ∙ or_assoc (r a b) (any_below n (λ i. p i a b)) (p n a b)
        ∙ ap (λ (t : Bool). r a b || t) (sym (any_next n (λ i. p i a b)));
  }

  pub grown_done : {i n : ℕ} {r r' : ℕ → ℕ → Bool} → i ≡ n → Grown r r' (λ a b. any_below i (λ j. p j a b)) → Grown r r' (λ a b. any_below n (λ j. p j a b))
  grown_done e g = rw e at g

-- one edge where a test says so, by another test that says the same
pub marked_as : {t t' : Bool} {h v v' : ℕ} {r r' : ℕ → ℕ → Bool} → t ≡ t' → v ≡ v' → MarkedWhere t r r' h v → MarkedWhere t' r r' h v'
marked_as p q m = rw (p, q) at m

-- ---- one rule

module _ (vs : List Variable) (r : Rule) where
  pub mixed_some : {i : ℕ} → i < length r.terms → is_mixed (direction vs r i) ≡ true → true ≡ any_mixed vs r
  unfolding any_mixed
  mixed_some {i} h e = sym (below_some (length r.terms) (λ j. is_mixed (direction vs r j)) i h e)

  pub mixed_done : {i : ℕ} {f : Bool} → i ≡ length r.terms → f ≡ any_below i (λ j. is_mixed (direction vs r j)) → f ≡ any_mixed vs r
  unfolding any_mixed
  mixed_done e h = rw e at h

  pub draws_done : {i : ℕ} {t t' : ℕ → ℕ → Bool} → i ≡ length r.terms → Grown t t' (λ a b. any_below i (λ j. draws_at vs r j a b)) → Grown t t' (draws_in vs r)
  unfolding draws_in
  draws_done e g = grown_done (draws_at vs r) e g

  pub offends_some : (t : ℕ → ℕ → Bool) {i : ℕ} → i < length r.terms → offends_at t vs r i ≡ true → true ≡ offends_in t vs r
  unfolding offends_in
  offends_some t {i} h e = sym (below_some (length r.terms) (offends_at t vs r) i h e)

  pub offends_done : (t : ℕ → ℕ → Bool) {i : ℕ} {f : Bool} → i ≡ length r.terms → f ≡ any_below i (offends_at t vs r) → f ≡ offends_in t vs r
  unfolding offends_in
  offends_done t e h = rw e at h

  module _ (i : ℕ) where
    -- whether a position draws an edge, as the code asks it
    pub draws_as : {p : Position} {m t : Bool} → PositionIs vs r i p → m ≡ is_mixed p.direction → (p.kept || m) ≡ t → draws_edge vs r i ≡ t
    draws_as is e h = sym (ap₂ ◌||◌ is.kept_is (e ∙ ap is_mixed is.direction_is)) ∙ h

    -- a position that draws no edge
    pub draws_none : (t : ℕ → ℕ → Bool) → draws_edge vs r i ≡ false → Grown t t (draws_at vs r i)
    unfolding draws_at
    draws_none t e = record { is = λ a b ha hb. go a b (eqb r.head a) (eqb (body_variable r i) b) }
      where
        go : (a b : ℕ) (x y : Bool) → t a b ≡ (t a b || (x && (y && draws_edge vs r i)))
        go a b true true = sym (ap (λ (z : Bool). t a b || z) e ∙ or-false (t a b))
        go a b true false = sym (or-false (t a b))
        go a b false y = sym (or-false (t a b))

    -- a position that draws one
    pub draws_one : {t t' : ℕ → ℕ → Bool} (h x : ℕ) → draws_edge vs r i ≡ true
        → h ≡ r.head → x ≡ body_variable r i → Marked t t' h x → Grown t t' (draws_at vs r i)
    unfolding draws_at
    draws_one {t} h x e p q m = record {
      is = λ a b ha hb. m.is a b ha hb ∙ or_comm (eqb a h && eqb b x) (t a b)
          ∙ ap (λ (z : Bool). t a b || z)
          (go a b (eqb a h) (eqb b x) (eqb_swap a h ∙ ap (λ (y : ℕ). eqb y a) p) (eqb_swap b x ∙ ap (λ (y : ℕ). eqb y b) q));
    }
      where
        go : (a b : ℕ) (y z : Bool) → y ≡ eqb r.head a → z ≡ eqb (body_variable r i) b
            → (y && z) ≡ (eqb r.head a && (eqb (body_variable r i) b && draws_edge vs r i))
        go a b true true u w = rw (← u, ← w, e)
        go a b true false u w = rw (← u, ← w)
        go a b false z u w = rw (← u)

    -- either, by a test
    pub draws_where : {t t' : ℕ → ℕ → Bool} (test : Bool) (h x : ℕ) → draws_edge vs r i ≡ test
        → h ≡ r.head → x ≡ body_variable r i → MarkedWhere test t t' h x → Grown t t' (draws_at vs r i)
    draws_where true h x e p q m = draws_one h x e p q (record { is = m.is })
    draws_where {t} false h x e p q m = record { is = λ a b ha hb. m.is a b ha hb ∙ (draws_none t e).is a b ha hb }

    -- a term, by the kinds of its rule
    pub draws_term : {k : Kinds} {t : Term} {a a' : ℕ → ℕ → Bool} (h : ℕ) → KindsOf vs r k → t ≡ term_in r.terms i → h ≡ r.head
        → MarkedWhere (draws_by k.up k.down (variable_in vs t.variable) t) a a' h t.variable → Grown a a' (draws_at vs r i)
    unfolding draws_by
    draws_term {k} {t} h o p e m =
        draws_where (draws_by k.up k.down (variable_in vs t.variable) t) h t.variable
        (sym (ap₂ ◌||◌ (position_kept vs r i o p refl refl) (ap is_mixed (position_directed vs r i o p refl refl)))) e (ap (λ (u : Term). u.variable) p) m

    pub offends_none : (t : ℕ → ℕ → Bool) → is_mixed (direction vs r i) ≡ false → false ≡ offends_at t vs r i
    unfolding offends_at
    offends_none t e = rw e

    pub offends_shared : (t : ℕ → ℕ → Bool) {f : Bool} (h x : ℕ) → is_mixed (direction vs r i) ≡ true
        → h ≡ r.head → x ≡ body_variable r i → f ≡ share_in t h x → f ≡ offends_at t vs r i
    unfolding offends_at
    offends_shared t h x e p q s = s ∙ rw (e, p, q)
