-- The sentences of wish 7, of every call of bounds that is not turned down.
use Prim.Native.Nat.{ℕ, ◌+◌, ◌*◌, ◌<◌}
use mathlib.Core.Path.{◌≡◌, refl, sym, subst, ap, ◌∙◌}
use mathlib.Core.Logic.{◌↔◌}
use mathlib.Core.List.{List, ◌++◌}
use native.Mathlib.Omega.{arith}
use lib.IntN.{nat_abs}
use lib.ListN.{length, drop}
use Rattle.program.specs.Program.{Program, variable_in}
use Rattle.program.specs.Reading.{Accepts}
use Rattle.program.specs.Variables.{swaps}
use Rattle.program.specs.Readings.{Valuation}
use Rattle.program.proofs.Promises.{Promises, accepts_promises}
use Rattle.program.proofs.Conditions.{never}
use Rattle.program.proofs.Unique.{accepts_unique}
use Rattle.meaning.specs.Founded.{AtOrBefore, Within, Model, Least}
use Rattle.meaning.specs.Reduct.{system}
use Rattle.meaning.specs.Stable.{assigned, Stable}
use Rattle.meaning.specs.Calls.{Called, lengths}
use Rattle.meaning.specs.LeastCall.{Answer, found, refusal, FirstOutside, least_bytes, written, LeastCall, turned_down, outside, no_model, least_model}
use Rattle.meaning.proofs.Denials.{long}
use Rattle.meaning.proofs.InRanges.{founded_declared, signed_past, assigned_past, value_small, within_inside}
use Rattle.meaning.proofs.Theory.{least_unique}
use Rattle.meaning.proofs.Written.{written_reads}
use Rattle.lent.specs.Ranges.{low_in, high_in, InsideRanges, Narrower, drawn_low, drawn_high}
use Rattle.lent.specs.Lent.{Bounds}
use Rattle.lent.specs.BoundsCall.{bounded, BoundsCall, within_bounds}
use Rattle.lent.specs.Sentences.{Leaves, Founded, SingleAt, Sentences}
use Rattle.lent.proofs.Fits.{Fitting, lent_within, declared_or}
use Rattle.lent.proofs.Calls.{called_long, called_fitting}
use Rattle.lent.proofs.Narrowing.{narrower_bounds}
use Rattle.lent.proofs.Single.{single_within, single_model, single_bounds}
use Rattle.lent.proofs.Stables.{bound_end, stable_inside, drawn_same, none_inside}

-- ---- a call that is not turned down

-- the values that the bytes hold are a valuation's
record Holds (P : Program) (after : List ℕ) (m : Valuation) : Type 0 where
  same : (v : ℕ) → v < length P.variables → assigned after v ≡ m v

written_holds : {P : Program} → Promises P → {m : Valuation} → Within (system P) m → (rest : List ℕ) → Holds P (written m (length P.variables) ++ rest) m
written_holds {P} p {m} w rest = record {
  same = λ v h. let s : nat_abs (m v) < 32768 = omega (arith, value_small p w v) in written_reads m (length P.variables) rest v h s;
}

-- at a founded variable
held_at : {P : Program} {after : List ℕ} {m : Valuation} → Holds P after m → (v : ℕ) → Founded P v → assigned after v ≡ m v
held_at {P} t v k = t.same v (founded_declared P.variables v k)

-- what a call told: the bounds, which the bytes hold
record Told (P : Program) (g after : List ℕ) : Type 0 where
  promises : Promises P
  length_is : length g ≡ 4 * length P.variables
  fit : Fitting P (low_in g) (high_in g)
  m : Valuation
  bounds : Bounds P (low_in g) (high_in g) m
  holds : Holds P after m

told_by : {P : Program} {s g b after : List ℕ} → Accepts s P → BoundsCall s g b bounded after → Told P g after
told_by {g = g} {b} x (within_bounds {P = Q} {m} c l) = subst (λ R. Told R g (written m (length Q.variables) ++ rest)) (accepts_unique c.accepts x) (record {
  promises = accepts_promises c.accepts;
  length_is = called_long g b c;
  fit = called_fitting g b c;
  m = m;
  bounds = l;
  holds = written_holds (accepts_promises c.accepts) (lent_within (called_fitting g b c) l.model.within) rest;
})
  where
    rest : List ℕ
    rest = drop (2 * length Q.variables) b

told : {P : Program} {g after : List ℕ} → Leaves P g after → Told P g after
told w = told_by w.means w.call

-- ---- the sentences

module _ {P : Program} {g b : List ℕ} (w : Leaves P g b) where
  abbrev t : Told P g b
  t = told w

  every : (θ : Valuation) → Stable P θ → InsideRanges P (low_in g) (high_in g) θ → (v : ℕ) → Founded P v → AtOrBefore (system P) v (θ v) (assigned b v)
  every θ s i v k = rw (held_at t.holds v k) (stable_inside t.fit t.bounds t.promises s i v k)

  bound_in : (v : ℕ) → Founded P v → AtOrBefore (system P) v (assigned b v) (swaps (variable_in P.variables v) (high_in g v) (low_in g v))
  bound_in v k = rw (held_at t.holds v k) (bound_end t.fit t.bounds v)

  drawn : (θ : Valuation) → Stable P θ → InsideRanges P (low_in g) (high_in g) θ ↔ InsideRanges P (drawn_low P (assigned b) (low_in g)) (drawn_high P (assigned b) (high_in g)) θ
  drawn θ s = drawn_same P (low_in g) (high_in g) (assigned b) θ bound_in (every θ s)

  -- an assignment whose single ranges they are; past the last variable all are 0
  module _ {a : List ℕ} (k : SingleAt P g a) (n : length a ≡ 2 * length P.variables) where
    low_as : (v : ℕ) → low_in g v ≡ assigned a v
    low_as = declared_or P (λ v. low_in g v ≡ assigned a v) k.low_is
        (λ v h e. signed_past g (4 * v) (omega (arith, t.length_is)) ∙ sym (assigned_past a v (omega arith)))

    high_as : (v : ℕ) → high_in g v ≡ assigned a v
    high_as = declared_or P (λ v. high_in g v ≡ assigned a v) k.high_is
        (λ v h e. signed_past g (4 * v + 2) (omega (arith, t.length_is)) ∙ sym (assigned_past a v (omega arith)))

    not_outside : {v : ℕ} → FirstOutside P (assigned a) v → ⊥
    not_outside {v} o = never (within_inside P (single_within t.promises t.fit low_as high_as) v o.declared) o.outside

    own_model : Model (system P) (assigned a) (assigned a)
    own_model = single_model t.promises t.fit low_as high_as k.met

    same_values : {m : Valuation} → Least (system P) (assigned a) m → {c' : List ℕ} → Holds P c' m → (v : ℕ) → Founded P v → assigned b v ≡ assigned c' v
    same_values l o v i =
        held_at t.holds v i
        ∙ least_unique t.bounds (single_bounds t.promises t.fit low_as high_as k.met l) v
        ∙ sym (held_at o v i)

  -- a call of least with it
  module _ {s a : List ℕ} (c : List ℕ) (x : Accepts s P) (k : SingleAt P g a) where
    long_as : {Q : Program} → Called (lengths least_bytes a c) s Q → Q ≡ P → length a ≡ 2 * length P.variables
    long_as y e = long least_bytes a c y ∙ ap (λ R. 2 * length R.variables) e

    single_found : {c' : List ℕ} {r : Answer} → LeastCall s a c r c' → ((n at : ℕ) → r ≡ refusal n at → ⊥)
        → (r ≡ found) × ((v : ℕ) → Founded P v → assigned b v ≡ assigned c' v)
    single_found (turned_down {n} {at} q) f = absurd (f n at refl)
    single_found (outside {v = v} y o) f =
        let e = accepts_unique y.accepts x in
        absurd (not_outside k (long_as y e) (subst (λ R. FirstOutside R (assigned a) v) e o))
    single_found (no_model y i none) f =
        let e = accepts_unique y.accepts x in
        absurd (none (assigned a) (subst (λ R. Model (system R) (assigned a) (assigned a)) (sym e) (own_model k (long_as y e))))
    single_found (least_model {P = Q} {m} y i l) f =
        let e = accepts_unique y.accepts x in
        let rest = drop (2 * length Q.variables) c in
        let o = written_holds (accepts_promises y.accepts) l.model.within rest in
        (refl, same_values k (long_as y e) (subst (λ R. Least (system R) (assigned a) m) e l) (subst (λ R. Holds R (written m (length Q.variables) ++ rest) m) e o))

pub bounds_sentences : Sentences
bounds_sentences = record {
  every_stable = every;
  single = λ w {c = c} x k l f. single_found w c x k l f;
  narrower = λ {P} w w' n v k. further (told w) (told w') n v k;
  drawn_in = drawn;
  empty = λ {P} {g} {b} w v h e θ s i. none_inside P (drawn_low P (assigned b) (low_in g)) (drawn_high P (assigned b) (high_in g)) θ v h e ((drawn w θ s).0 i);
}
  where
    further : {P : Program} {g g' b b' : List ℕ} → Told P g b → Told P g' b' → Narrower P (low_in g) (high_in g) (low_in g') (high_in g')
        → (v : ℕ) → Founded P v → AtOrBefore (system P) v (assigned b' v) (assigned b v)
    further t t' n v k = rw (held_at t'.holds v k, held_at t.holds v k) (narrower_bounds t.promises t.fit t'.fit n t.bounds t'.bounds v k)
