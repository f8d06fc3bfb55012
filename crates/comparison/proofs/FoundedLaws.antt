-- The least model compared with the assignment: what the code's sets and counts say.
use Rattle.std.specs.Prelude.{Result, Ok, Err}
use Prim.Native.Nat.{ℕ, zero, suc, ◌+◌, ◌*◌, ◌<◌, ◌≤◌}
use mathlib.Core.Path.{◌≡◌, refl, sym, ap, ap₂, subst, ◌∙◌}
use mathlib.Core.Bool.{Bool, true, false, not, ◌&&◌}
use mathlib.Core.List.{List, [], ◌++◌}
use native.Mathlib.Omega.{arith}
use borrow.Author.Tests.{eqb-true}
use lib.Dec.{T, eqb, not_T, ltb, ltb→lt, nltb→le}
use lib.IntN.{ℤ, pos}
use lib.ListN.{length, drop}
use Rattle.format.specs.Limits.{max_variables}
use Rattle.words.specs.Bit.{has, one_if, count_from}
use Rattle.program.specs.Program.{Program, rule_in, variable_in, variables_at}
use Rattle.program.specs.Variables as variables
use Rattle.program.specs.Reading.{AcceptedAs, Accepts}
use Rattle.program.specs.Directions.{direction}
use Rattle.program.specs.declared.Counts.{Counts}
use Rattle.program.specs.declared.Direction.{Direction}
use Rattle.program.proofs.Conditions.{never, both, some_below}
use Rattle.program.proofs.Promises.{Promises, accepts_promises}
use Rattle.reader.proofs.Published.{reads_accepts, counts_of_is, variables_are, program_limited}
use Rattle.meaning.specs.Founded.{Model, Least}
use Rattle.meaning.specs.Reduct.{reduct, system}
use Rattle.meaning.specs.Stable.{Meets}
use Rattle.run.specs.Running.{EndsWith}
use Rattle.meaning.proofs.InRanges.{founded_declared, past_zero, within_small}
use Rattle.meaning.proofs.Theory.{self_model, self_least_iff}
use Rattle.meaning.proofs.Monotone.{laws}
use Rattle.report.specs.Report.{bytes_in, bound, bound_above, at_most, at_least, ascending, bounds_of, conditions_of}
use Rattle.report.specs.Report.{asks_most, asks_least, asked_at, asked_by, asked, shown, bounds, conditions, reported}
use Rattle.report.specs.Written.{marked, from_below_in, from_above_in}
use Rattle.report.proofs.Entries.{ascending_past, bounds_count, marked_count}
use Rattle.report.proofs.WritingLaws.{marked_bounds}
use Rattle.conditions.specs.Shortfall.{short_in, PartsAre}
use Rattle.conditions.specs.declared.short.Parts.{Parts}
use Rattle.verdict.specs.Checks.{Answer, unfounded, stable, answer_of, Judged, some_shown, is_stable, check_bytes}
use Rattle.comparison.specs.Shows.{entry_count, ShowsSets}
use Rattle.verdict.specs.declared.Verdict.{Verdict}
use Rattle.program.specs.Readings.{Valuation, body_variable, kept, valued}
use Rattle.program.specs.declared.Variable.{Variable}
use Rattle.program.specs.Evaluable.{Small}
use Rattle.program.proofs.Tests.{cases, is_true, is_test}
use Rattle.program.proofs.Variables.{short_founded}
use Rattle.run.specs.declared.NoModel.{NoModel}

-- ---- counts

count_most : (p : ℕ → Bool) (a n : ℕ) → count_from p a n ≤ n
unfolding count_from
count_most p a zero = omega arith
count_most p a (suc n) = cases (p a) (λ b. one_if b + count_from p (suc a) n ≤ suc n) (λ t. omega (arith, count_most p (suc a) n)) (λ t. omega (arith, count_most p (suc a) n))

pub count_some : (p : ℕ → Bool) (a n : ℕ) → (count_from p a n ≡ 0 → ⊥) → (v : ℕ) × T (p v)
unfolding count_from
count_some p a zero h = absurd (h refl)
count_some p a (suc n) h = go (p a) refl (count_some p (suc a) n)
  where
    go : (b : Bool) → p a ≡ b → ((count_from p (suc a) n ≡ 0 → ⊥) → (v : ℕ) × T (p v)) → (v : ℕ) × T (p v)
    go true e later = (a, is_test e)
    go false e later = later (λ q. h (ap (λ (b : Bool). one_if b + count_from p (suc a) n) e ∙ (let z : 0 + count_from p (suc a) n ≡ 0 = omega arith in z)))

pub count_none : (p : ℕ → Bool) (a n : ℕ) → count_from p a n ≡ 0 → (v : ℕ) → a ≤ v → v < a + n → p v ≡ false
unfolding count_from
count_none p a zero e v h l = let f : ⊥ = omega arith in absurd f
count_none p a (suc n) e v h l = go (p a) refl e (λ q k m. count_none p (suc a) n q v k m)
  where
    go : (b : Bool) → p a ≡ b → one_if b + count_from p (suc a) n ≡ 0 → (count_from p (suc a) n ≡ 0 → suc a ≤ v → v < suc a + n → p v ≡ false) → p v ≡ false
    go true q e later = let f : ⊥ = omega arith in absurd f
    go false q e later = cases (ltb a v) (λ b. p v ≡ false) (λ t. later (omega arith) (ltb→lt a v t) (omega arith))
        (λ t. let s : v ≡ a = same (nltb→le a v t) in ap p s ∙ q)
      where
        same : v ≤ a → v ≡ a
        same m = omega arith

-- nothing past n counts
module _ (p : ℕ → Bool) (n : ℕ) (past : (v : ℕ) → n ≤ v → p v ≡ false) (few : n ≤ max_variables) where
  none_past : (v : ℕ) → n ≤ v → bounds_of [] p (λ w. pos 0) v ≡ []
  none_past v h = rw (past v h)

  pub count_past : count_from p 0 max_variables ≡ count_from p 0 n
  count_past =
      sym (bounds_count [] p (λ w. pos 0) max_variables) ∙ ap length (ascending_past (bounds_of [] p (λ w. pos 0)) n max_variables none_past few) ∙ bounds_count [] p (λ w. pos 0) n

  pub count_few : count_from p 0 max_variables ≤ n
  count_few = omega (arith, count_past, count_most p 0 n)

-- ---- what is shown and asked is declared

module _ {P : Program} (promised : Promises P) where
  pub shown_past : (θ m : Valuation) (v : ℕ) → length P.variables ≤ v → shown P θ m v ≡ false
  shown_past θ m v h = go (shown P θ m v) refl
    where
      go : (b : Bool) → shown P θ m v ≡ b → b ≡ false
      go true e = let l = founded_declared P.variables v (short_founded (variable_in P.variables v) (θ v) (m v) (is_test e)) in let f : ⊥ = omega arith in absurd f
      go false e = refl

  pub asked_past : (set : ℕ → Bool) (asks : Direction → Bool → Bool) (v : ℕ) → length P.variables ≤ v → asked P set asks v ≡ false
  unfolding asked asked_by asked_at
  asked_past set asks v h = go (asked P set asks v) refl
    where
      go : (b : Bool) → asked P set asks v ≡ b → b ≡ false
      go false e = refl
      go true e =
          let i = some_below (length P.rules) (λ i. set (rule_in P.rules i).head && asked_by P.variables set asks (rule_in P.rules i) v) e in
          let r = rule_in P.rules i.0 in
          let q = both (set r.head) (asked_by P.variables set asks r v) i.2 in
          let j = some_below (length r.terms)
          (λ j. asks (direction P.variables r j) (kept P.variables r j && set (body_variable r j)) && eqb (body_variable r j) v) q.1 in
          let w = both (asks (direction P.variables r j.0) (kept P.variables r j.0 && set (body_variable r j.0))) (eqb (body_variable r j.0) v) j.2 in
          let l = ((promised.rules i.0 i.1).body.terms j.0 j.1).declared in
          let f : ⊥ = omega (arith, eqb-true (body_variable r j.0) v w.1) in absurd f

-- ---- the verdict

-- the run ends in the least model
pub ends_least : (P : Program) {θ m : Valuation} → Meets P θ → (r : Result (Unit {0}) NoModel) → EndsWith P (reduct P) θ m r → Least (system P) θ m
ends_least P t (Ok _) l = l
ends_least P {θ} t (Err _) n = absurd (n θ (self_model t.ranges t.rules))

module _ {P : Program} (promised : Promises P) (few : length P.variables ≤ max_variables) {θ m : Valuation} (meets : Meets P θ) (least : Least (system P) θ m)
    (set : ℕ → Bool) (is : (v : ℕ) → set v ≡ shown P θ m v) (b : List ℕ) where
  same_set : set ≡ shown P θ m
  same_set = λ i v. is v i

  pub all_founded : count_from set 0 max_variables ≡ 0 → Judged P θ b stable b
  all_founded e = is_stable (record { meets = meets; least = (self_least_iff (laws promised) (self_model meets.ranges meets.rules) least).1 none })
    where
      none : (v : ℕ) → T (not (shown P θ m v))
      none v = not_T (shown P θ m v) (λ t. never (is v ∙ is_true (shown P θ m v) t)
          (count_none set 0 max_variables e v (omega arith)
          (let l = founded_declared P.variables v (short_founded (variable_in P.variables v) (θ v) (m v) t) in omega arith)))

  module _ (below above : ℕ → Bool) (below_is : (v : ℕ) → below v ≡ from_below_in P.variables (shown P θ m) v)
      (above_is : (v : ℕ) → above v ≡ from_above_in P.variables (shown P θ m) v)
      (most lower : ℕ → Bool) (most_is : (v : ℕ) → most v ≡ asked P set asks_most v) (least_is : (v : ℕ) → lower v ≡ asked P set asks_least v) where
    same_most : most ≡ asked P (shown P θ m) asks_most
    same_most = (λ i v. most_is v i) ∙ ap (λ (p : ℕ → Bool). asked P p asks_most) same_set

    same_least : lower ≡ asked P (shown P θ m) asks_least
    same_least = (λ i v. least_is v i) ∙ ap (λ (p : ℕ → Bool). asked P p asks_least) same_set

    abbrev n : ℕ
    n = length P.variables

    -- the two parts are the set
    parts_are : marked below bound above bound_above m ≡ ascending (bounds_of P.variables (shown P θ m) m) max_variables
    parts_are = ap₂ (λ (p q : ℕ → Bool). marked p bound q bound_above m) (λ i v. below_is v i) (λ i v. above_is v i) ∙ marked_bounds P.variables (shown P θ m) m max_variables

    parts_count : count_from below 0 max_variables + count_from above 0 max_variables ≡ count_from (shown P θ m) 0 max_variables
    parts_count = sym (marked_count below above bound bound_above m max_variables) ∙ ap length parts_are ∙ bounds_count P.variables (shown P θ m) m max_variables

    bounds_are : marked below bound above bound_above m ≡ bounds P θ m
    bounds_are = parts_are ∙ ascending_past (bounds_of P.variables (shown P θ m) m) n max_variables (λ v h. rw (shown_past promised θ m v h)) few

    conditions_are : marked most at_most lower at_least θ ≡ conditions P θ m
    conditions_are =
        ap₂ (λ (p q : ℕ → Bool). marked p at_most q at_least θ) same_most same_least
        ∙ ascending_past (conditions_of (asked P (shown P θ m) asks_most) (asked P (shown P θ m) asks_least) θ) n max_variables
        (λ v h. rw (asked_past promised (shown P θ m) asks_most v h, asked_past promised (shown P θ m) asks_least v h)) few

    bounds_length : count_from below 0 max_variables + count_from above 0 max_variables ≡ length (bounds P θ m)
    bounds_length = sym (marked_count below above bound bound_above m max_variables) ∙ ap length bounds_are

    conditions_length : count_from most 0 max_variables + count_from lower 0 max_variables ≡ length (conditions P θ m)
    conditions_length = sym (marked_count most lower at_most at_least θ max_variables) ∙ ap length conditions_are

    -- the report has room: a variable has one bound at most and two conditions
    pub room_enough : 12 * n ≤ length b
        → 4 * ((count_from below 0 max_variables + count_from above 0 max_variables) + (count_from most 0 max_variables + count_from lower 0 max_variables)) ≤ length b
    room_enough h =
        let x = count_few (shown P θ m) n (λ v l. shown_past promised θ m v l) few in
        let y = count_few most n (λ v l. most_is v ∙ asked_past promised set asks_most v l) few in
        let z = count_few lower n (λ v l. least_is v ∙ asked_past promised set asks_least v l) few in omega (arith, parts_count)

    pub all_shown : (count_from set 0 max_variables ≡ 0 → ⊥) → (b' : List ℕ) (r : Verdict) → ShowsSets below above most lower m θ b b' r → Judged P θ b (answer_of (Ok r)) b'
    all_shown some b' r w =
        subst (λ (x : List ℕ). Judged P θ b (answer_of (Ok r)) x) (sym bytes)
        (subst (λ (x : Answer). Judged P θ b x (reported P θ m b)) (sym answer)
        (some_shown meets least (let v = count_some set 0 max_variables some in (v.0, subst (λ (p : ℕ → Bool). T (p v.0)) same_set v.1))))
      where
        answer : answer_of (Ok r) ≡ unfounded (length (bounds P θ m)) (length (conditions P θ m))
        answer = w.answer ∙ ap₂ unfounded bounds_length conditions_length

        bytes : b' ≡ reported P θ m b
        bytes = w.bytes ∙ ap₂ ◌++◌ (ap bytes_in (ap₂ ◌++◌ bounds_are conditions_are)) (ap (λ (j : ℕ). drop (4 * j) b) (ap₂ ◌+◌ bounds_length conditions_length))

-- ---- a file with these counts, in which every program that it means is met by θ

module _ (s : List ℕ) (k : Counts) (r : AcceptedAs s k) (θ : List ℤ)
    (meets : (P : Program) → Accepts s P → Meets P (valued θ)) where
  -- past the last variable the assignment is 0, as the model is before the run
  pub starts_past : (m : Valuation) → ((v : ℕ) → m v ≡ pos 0) → (v : ℕ) → k.variables ≤ v → m v ≡ valued θ v
  starts_past m z v h =
      let a = reads_accepts r in
      z v ∙ sym (past_zero a.meant (meets a.meant a.accepts).ranges v (omega (arith, a.variables_are)))

  pub assigned_small : Small θ
  assigned_small = let a = reads_accepts r in within_small (accepts_promises a.accepts) θ (meets a.meant a.accepts).ranges

  -- the run has ended in m
  module _ (m : List ℤ) (e : Result (Unit {0}) NoModel) (ends : (P : Program) → Accepts s P → EndsWith P (reduct P) (valued θ) (valued m) e) (b : List ℕ) where
    least : (P : Program) (x : Accepts s P) → Least (system P) (valued θ) (valued m)
    least P x = ends_least P (meets P x) e (ends P x)

    model_small : Small m
    model_small = let a = reads_accepts r in within_small (accepts_promises a.accepts) m (least a.meant a.accepts).model.within

    module _ (set : ℕ → Bool) (is : (v : ℕ) → set v ≡ short_in (variables_at s k.variables) (valued θ) (valued m) v) where
      set_is : (P : Program) → Accepts s P → (v : ℕ) → set v ≡ shown P (valued θ) (valued m) v
      set_is P x v = is v ∙ ap (λ (vs : List Variable). short_in vs (valued θ) (valued m) v) (sym (variables_are r x))

      -- nothing past the last variable is in it
      pub short_few : (v : ℕ) → k.variables ≤ v → set v ≡ false
      short_few v h =
          let x = (reads_accepts r).accepts in let P = (reads_accepts r).meant in
          set_is P x v ∙ shown_past (accepts_promises x) (valued θ) (valued m) v (omega (arith, (counts_of_is r x).variables_are))

      few_in : (P : Program) → Accepts s P → length P.variables ≤ max_variables
      few_in P x = (program_limited x).few_variables

      pub none_short : count_from set 0 max_variables ≡ 0 → (P : Program) → Accepts s P → Judged P (valued θ) b stable b
      none_short q P x = all_founded (accepts_promises x) (few_in P x) (meets P x) (least P x) set (set_is P x) b q

      module _ (parts : Parts) (parted : PartsAre (variables_at s k.variables) set parts)
          (most lower : ℕ → Bool) (most_is : (P : Program) → Accepts s P → (v : ℕ) → most v ≡ asked P set asks_most v)
          (least_is : (P : Program) → Accepts s P → (v : ℕ) → lower v ≡ asked P set asks_least v) where
        below_is : (P : Program) → Accepts s P → (v : ℕ) → has parts.below.words v ≡ from_below_in P.variables (shown P (valued θ) (valued m)) v
        below_is P x v = parted.below v
            ∙ ap₂ (λ (b : Bool) (vs : List Variable). b && not (variables.from_above (variable_in vs v))) (set_is P x v) (sym (variables_are r x))

        above_is : (P : Program) → Accepts s P → (v : ℕ) → has parts.above.words v ≡ from_above_in P.variables (shown P (valued θ) (valued m)) v
        above_is P x v = parted.above v ∙ ap₂ (λ (b : Bool) (vs : List Variable). b && variables.from_above (variable_in vs v)) (set_is P x v) (sym (variables_are r x))

        pub shown_room : check_bytes * k.variables ≤ length b → 4 * entry_count (has parts.below.words) (has parts.above.words) most lower ≤ length b
        shown_room h =
            let x = (reads_accepts r).accepts in let P = (reads_accepts r).meant in
            room_enough (accepts_promises x) (few_in P x) (meets P x) (least P x) set (set_is P x) b _ _ (below_is P x) (above_is P x) most lower (most_is P x) (least_is P x)
            (omega (arith, (counts_of_is r x).variables_are))

        pub shown_small : Small m × Small θ
        shown_small = (model_small, assigned_small)

        pub some_short : (count_from set 0 max_variables ≡ 0 → ⊥) → (b' : List ℕ) (v : Verdict)
            → ShowsSets (has parts.below.words) (has parts.above.words) most lower (valued m) (valued θ) b b' v
            → (P : Program) → Accepts s P → Judged P (valued θ) b (answer_of (Ok v)) b'
        some_short q b' v w P x =
            all_shown (accepts_promises x) (few_in P x) (meets P x) (least P x) set (set_is P x) b _ _ (below_is P x) (above_is P x) most lower (most_is P x) (least_is P x)
            q b' v w
