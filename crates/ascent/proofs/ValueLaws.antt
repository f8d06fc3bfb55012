-- Where the values begin, and what they have reached.
use Rattle.std.specs.Prelude.{Option, Some, None, Result, Ok, Err}
use Prim.Native.Nat.{ℕ, ◌+◌, ◌<◌, ◌≤◌}
use mathlib.Core.Path.{◌≡◌, refl, sym, ap, fun_ext, ◌∙◌}
use mathlib.Core.Bool.{Bool, true, false, not, cond}
use mathlib.Core.List.{List}
use native.Mathlib.Omega.{arith}
use lib.Dec.{T, ltb}
use lib.IntN.{ℤ}
use lib.ListN.{length, set, get_or-eq_default}
use borrow.Author.Tests.{ltb-true, ltb-false}
use borrow.Author.Count.{below_more}
use Rattle.format.specs.Limits.{max_variables}
use Rattle.program.specs.Program.{Program, no_variable, variable_in, variables_at}
use Rattle.program.specs.Reading.{AcceptedAs, Accepts}
use Rattle.program.specs.Readings.{Valuation, valued}
use Rattle.program.specs.Variables.{is_founded, start, started}
use Rattle.program.specs.declared.Counts.{Counts}
use Rattle.program.specs.declared.Variable.{Variable}
use Rattle.program.proofs.Tests.{cases}
use Rattle.reader.proofs.Published.{variables_are, variables_length}
use Rattle.reduct.specs.Filling.{Filled}
use Rattle.meaning.specs.Founded.{Within}
use Rattle.meaning.specs.Reduct.{Reckoning, reckoned}
use Rattle.meaning.specs.Narrowing.{Narrows}
use Rattle.meaning.proofs.Narrowing.{narrows_founded, narrows_started}
use Rattle.meaning.proofs.Theory.{Progress, progress_start}
use Rattle.sided.specs.Sides.{sides_length, side_place, on_side}
use Rattle.sided.specs.Reached.{own_side, risen, Sided}
use Rattle.run.specs.Running.{EndsWith}
use Rattle.ascent.specs.Ascending.{SidesStart, ClimbIs}
use Rattle.ascent.proofs.PlaceLaws.{both, both_own, both_other, both_else}
use Rattle.run.specs.declared.NoModel.{NoModel}

-- ---- two values of one variable are stored

-- the code stores a, then b
pub stored_both : (sides : List ℤ) (v : ℕ) {sides⁺ sides⁺⁺ : List ℤ} {f g : Bool} {a a' b b' : ℤ} → f ≡ g → a ≡ a' → b ≡ b' → sides⁺ ≡ set sides (side_place f v) a
    → sides⁺⁺ ≡ set sides⁺ (side_place (not f) v) b → sides⁺⁺ ≡ set (set sides (side_place g v) a') (side_place (not g) v) b'
stored_both sides v e p q h k = rw (k, h, e, p, q)

-- ---- one variable after the other

pub starts_none : (vs : List Variable) (θ others : Valuation) (sides : List ℤ) → SidesStart vs 0 θ others sides sides
starts_none vs θ others sides = record { own = λ v l. absurd (omega arith); other = λ v l. absurd (omega arith); past = λ v l f. refl }

starts_next : {vs : List Variable} {n : ℕ} {θ others : Valuation} {sides sides⁺ : List ℤ} → length sides⁺ ≡ sides_length → n < max_variables
    → SidesStart vs n θ others sides sides⁺ → SidesStart vs (n + 1) θ others sides (both sides⁺ (own_side (variable_in vs n)) n (started (variable_in vs n) (θ n)) (others n))
starts_next {vs} {n} {θ} {others} {sides} {sides⁺} e l h = record {
  own = below_more (λ (v : ℕ). on_side next (own_side (variable_in vs v)) v ≡ started (variable_in vs v) (θ v)) n
      (λ v k. both_else sides⁺ e f n a b v (λ q. omega arith) (own_side (variable_in vs v)) ∙ h.own v k) (both_own sides⁺ e f n a b l);
  other = below_more (λ (v : ℕ). on_side next (not (own_side (variable_in vs v))) v ≡ others v) n
      (λ v k. both_else sides⁺ e f n a b v (λ q. omega arith) (not (own_side (variable_in vs v))) ∙ h.other v k) (both_other sides⁺ e f n a b l);
  past = λ v k g. both_else sides⁺ e f n a b v (λ q. omega arith) g ∙ h.past v (omega arith) g;
}
  where
    f : Bool
    f = own_side (variable_in vs n)

    a : ℤ
    a = started (variable_in vs n) (θ n)

    b : ℤ
    b = others n

    next : List ℤ
    next = both sides⁺ f n a b

-- the code has the variable x with the values a and b
pub starts_more : {vs : List Variable} {n : ℕ} {θ others : Valuation} {sides sides⁺ sides⁺⁺ : List ℤ} → length sides⁺ ≡ sides_length → n < max_variables
    → SidesStart vs n θ others sides sides⁺ → {x : Variable} {a b : ℤ} → x ≡ variable_in vs n → a ≡ θ n → b ≡ others n
    → sides⁺⁺ ≡ set (set sides⁺ (side_place (own_side x) n) (started x a)) (side_place (not (own_side x)) n) b → SidesStart vs (n + 1) θ others sides sides⁺⁺
starts_more e l h p q u r = rw (r, p, q, u) (starts_next e l h)

pub starts_done : {vs : List Variable} {n k : ℕ} {θ others : Valuation} {sides sides⁺ : List ℤ} → k ≡ n → SidesStart vs k θ others sides sides⁺ → SidesStart vs n θ others sides sides⁺
starts_done e h = rw e at h

-- ---- the start

started_standard : (x : Variable) (a : ℤ) → T (not (is_founded x)) → started x a ≡ a
started_standard x a n = cases (is_founded x) (λ b. T (not b) → cond b (start x) a ≡ a) (λ t f. absurd f) (λ t f. refl) n

module _ (s : List ℕ) (n : ℕ) where
  abbrev vs : List Variable
  vs = variables_at s n

  -- past the last variable stands a standard one
  past_standard : (v : ℕ) → n ≤ v → T (not (is_founded (variable_in vs v)))
  past_standard v l = rw (get_or-eq_default vs no_variable {n = v} (omega (arith, variables_length s n))) tt

  module _ {θ others : Valuation} {sides₀ sides : List ℤ} (z : (v : ℕ) → n ≤ v → (f : Bool) → on_side sides₀ f v ≡ θ v) (o : (v : ℕ) → n ≤ v → others v ≡ θ v)
      (h : SidesStart vs n θ others sides₀ sides) where
    risen_start : (v : ℕ) → risen vs sides v ≡ started (variable_in vs v) (θ v)
    unfolding risen
    risen_start v = go (ltb v n) refl
      where
        go : (t : Bool) → ltb v n ≡ t → on_side sides (own_side (variable_in vs v)) v ≡ started (variable_in vs v) (θ v)
        go true q = h.own v (ltb-true v n q)
        go false q = let l = ltb-false v n q in
            h.past v l (own_side (variable_in vs v)) ∙ z v l (own_side (variable_in vs v)) ∙ sym (started_standard (variable_in vs v) (θ v) (past_standard v l))

    pub sided_start : Sided vs θ others sides
    sided_start = record { other = λ v. go v (ltb v n) refl; standard = λ v t. risen_start v ∙ started_standard (variable_in vs v) (θ v) t }
      where
        go : (v : ℕ) (t : Bool) → ltb v n ≡ t → on_side sides (not (own_side (variable_in vs v))) v ≡ others v
        go v true q = h.other v (ltb-true v n q)
        go v false q = let l = ltb-false v n q in h.past v l (not (own_side (variable_in vs v))) ∙ z v l (not (own_side (variable_in vs v))) ∙ sym (o v l)

-- from an assignment in its ranges
pub start_progress : {s : List ℕ} {k : Counts} → AcceptedAs s k → {P : Program} → Accepts s P → {R : Reckoning} → Narrows P R → {θ others : Valuation}
    → Within (reckoned P R) θ → {sides₀ sides : List ℤ} → ((v : ℕ) → k.variables ≤ v → (f : Bool) → on_side sides₀ f v ≡ θ v)
    → ((v : ℕ) → k.variables ≤ v → others v ≡ θ v) → SidesStart (variables_at s k.variables) k.variables θ others sides₀ sides
    → Sided P.variables θ others sides × Progress (reckoned P R) θ (risen P.variables sides)
start_progress {s} {k} r {P} a {R} n {θ} {others} w {sides₀} {sides} z o h = (
  rw e (sided_start s k.variables z o h),
  progress_start {𝒮 = reckoned P R} w (risen P.variables sides) (λ v. own v ∙ sym (narrows_started n v (θ v))),
)
  where
    e : P.variables ≡ variables_at s k.variables
    e = variables_are r a

    own : (v : ℕ) → risen P.variables sides v ≡ started (variable_in P.variables v) (θ v)
    own v = rw e (risen_start s k.variables z o h v)

-- ---- the values reached

-- the code has the variable x
pub risen_at : (vs : List Variable) (sides : List ℤ) (v : ℕ) {x : Variable} {side : Bool} {a : ℤ} → x ≡ variable_in vs v → side ≡ own_side x → a ≡ on_side sides side v
    → a ≡ risen vs sides v
unfolding risen
risen_at vs sides v p b e = e ∙ rw (b, p)

pub risen_values : {s : List ℕ} {k : Counts} → AcceptedAs s k → {P : Program} → Accepts s P → {θ : Valuation} (sides : List ℤ)
    → ((v : ℕ) → T (not (is_founded (variable_in P.variables v))) → risen P.variables sides v ≡ θ v)
    → {m₀ m : List ℤ} → ((v : ℕ) → k.variables ≤ v → valued m₀ v ≡ θ v) → Filled (risen (variables_at s k.variables) sides) k.variables m₀ m
    → (v : ℕ) → valued m v ≡ risen P.variables sides v
risen_values {s} {k} r {P} a {θ} sides c {m₀} {m} z f v = go (ltb v k.variables) refl
  where
    e : P.variables ≡ variables_at s k.variables
    e = variables_are r a

    go : (t : Bool) → ltb v k.variables ≡ t → valued m v ≡ risen P.variables sides v
    go true q = f.below v (ltb-true v k.variables q) ∙ ap (λ (us : List Variable). risen us sides v) (sym e)
    go false q = let l = ltb-false v k.variables q in f.past v l ∙ z v l ∙ sym (c v (rw e (past_standard s k.variables v l)))

-- the values m are those that climbing has reached, in any reckoning
module _ {s : List ℕ} {k : Counts} (r : AcceptedAs s k) {P : Program} (a : Accepts s P) {R : Reckoning} (n : Narrows P R) (θ : Valuation) (sides : List ℤ) {m₀ m : List ℤ}
    (z : (v : ℕ) → k.variables ≤ v → valued m₀ v ≡ θ v) (f : Filled (risen (variables_at s k.variables) sides) k.variables m₀ m) where
  reached_as : ((v : ℕ) → T (not (is_founded (R.variable v))) → risen P.variables sides v ≡ θ v) → valued m ≡ risen P.variables sides
  reached_as h = fun_ext (risen_values r a sides (λ v t. h v (rw (narrows_founded n v) t)) z f)

  pub reached_end : (e : Result (Unit {0}) NoModel) → EndsWith P R θ (risen P.variables sides) e → EndsWith P R θ (valued m) e
  reached_end (Ok _) h = rw (reached_as h.model.standard) h
  reached_end (Err _) h = h

  pub reached_way : Progress (reckoned P R) θ (risen P.variables sides) → Progress (reckoned P R) θ (valued m)
  reached_way h = rw (reached_as h.standard) h

  pub reached_ended : {b : Option (Result (Unit {0}) NoModel)} → ClimbIs P R θ sides b → {e : Result (Unit {0}) NoModel} → b ≡ Some e → EndsWith P R θ (valued m) e
  reached_ended h {e} q = reached_end e (rw q at h)

  pub reached_open : {b : Option (Result (Unit {0}) NoModel)} → ClimbIs P R θ sides b → b ≡ None → Progress (reckoned P R) θ (valued m)
  reached_open h q = reached_way (rw q at h)
