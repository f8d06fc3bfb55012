-- What the report of an unfounded assignment shows: demand 3's sentences, read off its bytes.
use Prim.Native.Nat.{ℕ, zero, suc, ◌+◌, ◌-◌, ◌<◌, ◌≤◌}
use mathlib.Core.Path.{◌≡◌, refl, sym, ap, ap₂, ◌∙◌, subst}
use mathlib.Core.Logic.{◌⊎◌, inl, inr}
use mathlib.Core.Bool.{Bool, true, false, not, cond, ◌&&◌, ◌||◌}
use mathlib.Core.List.{List, [], ◌∷◌, ◌++◌}
use native.Mathlib.Omega.{arith}
use borrow.Author.Tests.{eqb-true, eq-eqb}
use lib.Dec.{T, eqb}
use lib.IntN.{nat_abs}
use lib.ListN.{length, length-append}
use lib.Signed.{◌≤ℤ◌, le_z, le_z_yes}
use Rattle.format.proofs.Int.{int}
use Rattle.program.specs.Tables.{◌⇒◌, select, any_below}
use Rattle.program.specs.Program.{Program, rule_in, variable_in}
use Rattle.program.specs.Directions.{away, direction, is_rising}
use Rattle.program.specs.declared.Direction.{Direction}
use Rattle.program.specs.declared.Direction.TheVariants.{Rising, Falling, Mixed}
use Rattle.program.proofs.Conditions.{some_below, below_some}
use Rattle.program.proofs.Promises.{Promises}
use Rattle.meaning.specs.Founded.{AtOrBefore, Model, Least}
use Rattle.meaning.specs.Reduct.{system}
use Rattle.meaning.specs.Stable.{Meets}
use Rattle.meaning.specs.Unfounded.{over, Unfounded, AskedOf, Conditions}
use Rattle.meaning.proofs.Laws.{at_refl}
use Rattle.meaning.proofs.Theory.{self_model, inside_short, short_unfounded, bounded}
use Rattle.meaning.proofs.Monotone.{laws}
use Rattle.meaning.proofs.InRanges.{founded_declared, value_small}
use Rattle.report.specs.Report.{Entry, bytes_in, bound, bound_above, bound_mark, asks_most, asks_least, asked_at, asked_by, asked, shown, bounds, conditions}
use Rattle.report.proofs.Entries.{bytes_length}
use Rattle.verdict.specs.Demands.{variable_at, mark_at, number_at, is_shown, shown_bound, ConditionMet, ConditionsMet, Shows}
use Rattle.verdict.proofs.Listed.{entry_in, Listed, left_is, right_is, both_length, once_by_key, bounds_every, bounds_listed, bounds_sorted}
use Rattle.verdict.proofs.Listed.{conditions_every, most_listed, least_listed, conditions_sorted, variable_at_is, mark_at_is, number_at_is}
use Rattle.program.specs.Readings.{Valuation, body_variable, kept}
use Rattle.program.proofs.Tests.{cases, is_true, is_test}
use Rattle.program.specs.Variables.{is_founded, from_above, not_past}
use Rattle.program.specs.declared.Variable.{Variable}
use Rattle.program.proofs.Variables.{founded_kind, swaps_not, swaps_so, short_founded}
use Rattle.program.proofs.Monotone.{Moves, Onward, away_moves}

-- ---- tests

same_test : (a b : Bool) → (a ≡ true → T b) → (T b → a ≡ true) → a ≡ b
same_test true b f g = sym (is_true b (f refl))
same_test false true f g = g tt
same_test false false f g = refl

and_true : (a c : Bool) → a ≡ true → c ≡ true → (a && c) ≡ true
and_true a c p q = rw (p, q)

not_kept : (c d : Bool) → T (not d) → (c && d) ≡ false
not_kept true true t = absurd t
not_kept true false t = refl
not_kept false d t = refl

-- an unfounded set by other names
module _ (P : Program) (θ : Valuation) (dom dom' : ℕ → Bool) (bound bound' : Valuation) where
  same_over : ((v : ℕ) → dom v ≡ dom' v) → ((v : ℕ) → T (dom v) → bound v ≡ bound' v) → over dom bound θ ≡ over dom' bound' θ
  same_over d e = λ i v. at v i
    where
      at : (v : ℕ) → over dom bound θ v ≡ over dom' bound' θ v
      at v = rw (← d v) (cases (dom v) (λ c. (T c → bound v ≡ bound' v) → cond c (bound v) (θ v) ≡ cond c (bound' v) (θ v)) (λ t h. h tt) (λ n h. refl) (e v))

  same_unfounded : ((v : ℕ) → dom v ≡ dom' v) → ((v : ℕ) → T (dom v) → bound v ≡ bound' v) → Unfounded (system P) θ dom bound → Unfounded (system P) θ dom' bound'
  same_unfounded d e u = record {
    some = (u.some.0, rw (← d u.some.0) u.some.1);
    are = λ v t. u.are v (back v t);
    from_start = λ v t. rw (← e v (back v t)) (u.from_start v (back v t));
    before = λ v t. rw (← e v (back v t)) (u.before v (back v t));
    rules = λ r i t. rw (← same_over d e, ← e _ (back _ t)) (u.rules r i (back _ t));
  }
    where
      back : (v : ℕ) → T (dom' v) → T (dom v)
      back v t = rw (d v) t

-- the number shown for a variable is that of its entry
shown_number : (b : List ℕ) (m : Valuation) (n v : ℕ) → ((i : ℕ) → i < n → number_at b i ≡ m (variable_at b i)) → is_shown b n v ≡ true → shown_bound b n v ≡ m v
unfolding is_shown shown_bound any_below
shown_number b m zero v h e = let z : ◌≡◌ {A = ℕ} 0 1 = cc in let f : ⊥ = omega arith in absurd f
shown_number b m (suc n) v h e = go (eqb (variable_at b n) v) refl e (shown_number b m n v (λ i l. h i (omega arith)))
  where
    go : (c : Bool) → eqb (variable_at b n) v ≡ c → (any_below n (λ i. eqb (variable_at b i) v) || c) ≡ true
        → (any_below n (λ i. eqb (variable_at b i) v) ≡ true → shown_bound b n v ≡ m v) → cond c (number_at b n) (shown_bound b n v) ≡ m v
    go true q s later = h n (omega arith) ∙ ap m (eqb-true (variable_at b n) v q)
    go false q s later = later (or_left (any_below n (λ i. eqb (variable_at b i) v)) s)
      where
        or_left : (a : Bool) → (a || false) ≡ true → a ≡ true
        or_left true w = refl
        or_left false w = w

-- ---- the report

module _ {P : Program} (promised : Promises P) {θ m : Valuation} (meets : Meets P θ) (least : Least (system P) θ m) (rest : List ℕ) where
  abbrev es : List Entry
  es = bounds P θ m ++ conditions P θ m

  abbrev b : List ℕ
  b = bytes_in es ++ rest

  abbrev n : ℕ
  n = length (bounds P θ m)

  abbrev k : ℕ
  k = length (conditions P θ m)

  self : Model (system P) θ θ
  self = self_model meets.ranges meets.rules

  all : length es ≡ n + k
  all = both_length (bounds P θ m) (conditions P θ m)

  assigned_small : (v : ℕ) → nat_abs (θ v) < 32768
  assigned_small v = omega (arith, value_small promised meets.ranges v)

  model_small : (v : ℕ) → nat_abs (m v) < 32768
  model_small v = omega (arith, value_small promised least.model.within v)

  -- an entry of the list, as the bytes have it
  read_at_is : (i : ℕ) → i < n + k → (e : Entry) → entry_in es i ≡ e → nat_abs e.number < 32768
      → (variable_at b i ≡ e.variable) × (mark_at b i ≡ e.mark) × (number_at b i ≡ e.number)
  read_at_is i h e q small =
      let l : i < length es = omega (arith, all) in (
        variable_at_is es rest i l ∙ ap (λ (x : Entry). x.variable) q,
        mark_at_is es rest i l ∙ ap (λ (x : Entry). x.mark) q,
        number_at_is es rest i l (subst (λ (x : Entry). nat_abs x.number < 32768) (sym q) small) ∙ ap (λ (x : Entry). x.number) q,
      )

  -- ---- the set

  record BoundAt (i : ℕ) : Type 0 where
    among : T (shown P θ m (variable_at b i))
    marked : mark_at b i ≡ bound_mark (variable_in P.variables (variable_at b i))
    number : number_at b i ≡ m (variable_at b i)
    variable : variable_at b i ≡ (entry_in (bounds P θ m) i).variable

  bound_at : (i : ℕ) → i < n → BoundAt i
  bound_at i h = record {
    among = rw r.0 f.0;
    marked = r.1 ∙ f.1 ∙ ap (λ v. bound_mark (variable_in P.variables v)) (sym r.0);
    number = r.2 ∙ f.2 ∙ ap m (sym r.0);
    variable = r.0;
  }
    where
      e : Entry
      e = entry_in (bounds P θ m) i

      f : T (shown P θ m e.variable) × (e.mark ≡ bound_mark (variable_in P.variables e.variable)) × (e.number ≡ m e.variable)
      f = bounds_every P.variables (shown P θ m) m (length P.variables)
          (λ x. T (shown P θ m x.variable) × (x.mark ≡ bound_mark (variable_in P.variables x.variable)) × (x.number ≡ m x.variable))
          (λ v t. (t, refl, refl)) i h

      r : (variable_at b i ≡ e.variable) × (mark_at b i ≡ e.mark) × (number_at b i ≡ e.number)
      r = read_at_is i (omega arith) e (left_is (bounds P θ m) (conditions P θ m) i h) (rw f.2 (model_small e.variable))

  shown_is : (v : ℕ) → is_shown b n v ≡ shown P θ m v
  unfolding is_shown
  shown_is v = same_test (is_shown b n v) (shown P θ m v) into outof
    where
      into : is_shown b n v ≡ true → T (shown P θ m v)
      into q = let w = some_below n (λ i. eqb (variable_at b i) v) q in subst (λ x. T (shown P θ m x)) (eqb-true (variable_at b w.0) v w.2) (bound_at w.0 w.1).among

      outof : T (shown P θ m v) → is_shown b n v ≡ true
      outof t =
          let d = founded_declared P.variables v (short_founded (variable_in P.variables v) (θ v) (m v) t) in
          let l = bounds_listed P.variables (shown P θ m) m (length P.variables) v d t in
          below_some n (λ i. eqb (variable_at b i) v) l.at l.inside
          (eq-eqb (variable_at b l.at) v ((bound_at l.at l.inside).variable ∙ ap (λ (x : Entry). x.variable) l.is))

  bound_is : (v : ℕ) → T (is_shown b n v) → shown_bound b n v ≡ m v
  bound_is v t = shown_number b m n v (λ i h. (bound_at i h).number) (is_true (is_shown b n v) t)

  -- mark 0 is that of kind 1, mark 3 that of kind 2
  marked_by_kind : (i : ℕ) → i < n → let x = variable_in P.variables (variable_at b i) in ((mark_at b i ≡ 0) × (x.kind ≡ 1)) ⊎ ((mark_at b i ≡ 3) × (x.kind ≡ 2))
  marked_by_kind i h = go (founded_kind x (short_founded x (θ (variable_at b i)) (m (variable_at b i)) (bound_at i h).among))
    where
      x : Variable
      x = variable_in P.variables (variable_at b i)

      go : ((from_above x ≡ false) × (x.kind ≡ 1)) ⊎ ((from_above x ≡ true) × (x.kind ≡ 2)) → ((mark_at b i ≡ 0) × (x.kind ≡ 1)) ⊎ ((mark_at b i ≡ 3) × (x.kind ≡ 2))
      go (inl q) = inl ((bound_at i h).marked ∙ sym (swaps_not x bound bound_above q.0), q.1)
      go (inr q) = inr ((bound_at i h).marked ∙ sym (swaps_so x bound bound_above q.0), q.1)

  -- ---- the conditions

  record ConditionAt (i : ℕ) : Type 0 where
    marked : (mark_at b i ≡ 1) ⊎ (mark_at b i ≡ 2)
    number : number_at b i ≡ θ (variable_at b i)
    variable : variable_at b i ≡ (entry_in (conditions P θ m) (i - n)).variable
    mark : mark_at b i ≡ (entry_in (conditions P θ m) (i - n)).mark

  condition_at : (i : ℕ) → n ≤ i → i < n + k → ConditionAt i
  condition_at i l h = record {
    marked = rw r.1 f.1;
    number = r.2 ∙ f.0 ∙ ap θ (sym r.0);
    variable = r.0;
    mark = r.1;
  }
    where
      e : Entry
      e = entry_in (conditions P θ m) (i - n)

      f : (e.number ≡ θ e.variable) × ((e.mark ≡ 1) ⊎ (e.mark ≡ 2))
      f = conditions_every (asked P (shown P θ m) asks_most) (asked P (shown P θ m) asks_least) θ (length P.variables)
          (λ x. (x.number ≡ θ x.variable) × ((x.mark ≡ 1) ⊎ (x.mark ≡ 2))) (λ v t. (refl, inl refl)) (λ v t. (refl, inr refl)) (i - n) (omega arith)

      back : i ≡ n + (i - n)
      back = omega arith

      r : (variable_at b i ≡ e.variable) × (mark_at b i ≡ e.mark) × (number_at b i ≡ e.number)
      r = read_at_is i h e (ap (entry_in es) back ∙ right_is (bounds P θ m) (conditions P θ m) (i - n)) (rw f.0 (assigned_small e.variable))

  met_self : (i : ℕ) → n ≤ i → i < n + k → ConditionMet θ b i
  met_self i l h = record { met = go (condition_at i l h).marked }
    where
      x : ℕ
      x = variable_at b i

      equal : T (le_z (θ x) (θ x))
      equal = omega int

      go : (mark_at b i ≡ 1) ⊎ (mark_at b i ≡ 2) → T (select (mark_at b i) ((1 ⇒ le_z (θ x) (number_at b i)) ∷ (2 ⇒ le_z (number_at b i) (θ x)) ∷ []) false)
      go (inl q) = rw (q, (condition_at i l h).number) equal
      go (inr q) = rw (q, (condition_at i l h).number) equal

  -- a listed condition that is met
  module _ {θ' : Valuation} (all_met : ConditionsMet θ' b n k) where
    met_at : {e : Entry} → Listed e (conditions P θ m) → nat_abs e.number < 32768
        → (i : ℕ) × ConditionMet θ' b i × (variable_at b i ≡ e.variable) × (mark_at b i ≡ e.mark) × (number_at b i ≡ e.number)
    met_at {e} l small =
        let r = read_at_is (n + l.at) (omega (arith, l.inside)) e (right_is (bounds P θ m) (conditions P θ m) l.at ∙ l.is) small in
        (n + l.at, all_met (n + l.at) (omega arith) (omega (arith, l.inside)), r.0, r.1, r.2)

    most_met : (x : ℕ) → x < length P.variables → asked P (shown P θ m) asks_most x ≡ true → θ' x ≤ℤ θ x
    most_met x h t =
        let w = met_at (most_listed (asked P (shown P θ m) asks_most) (asked P (shown P θ m) asks_least) θ (length P.variables) x h (is_test t)) (assigned_small x) in
        le_z_yes (rw (w.3, w.2, w.4) at w.1.met)

    least_met : (x : ℕ) → x < length P.variables → asked P (shown P θ m) asks_least x ≡ true → θ x ≤ℤ θ' x
    least_met x h t =
        let w = met_at (least_listed (asked P (shown P θ m) asks_most) (asked P (shown P θ m) asks_least) θ (length P.variables) x h (is_test t)) (assigned_small x) in
        le_z_yes (rw (w.3, w.2, w.4) at w.1.met)

    -- a position of a rule that heads into the set asks
    asked_at_is : (asks : Direction → Bool → Bool) (i j : ℕ) → i < length P.rules → j < length (rule_in P.rules i).terms → T (shown P θ m (rule_in P.rules i).head)
        → asks (direction P.variables (rule_in P.rules i) j) (kept P.variables (rule_in P.rules i) j && shown P θ m (body_variable (rule_in P.rules i) j)) ≡ true
        → asked P (shown P θ m) asks (body_variable (rule_in P.rules i) j) ≡ true
    unfolding asked asked_by asked_at
    asked_at_is asks i j h l t q =
        below_some (length P.rules) (λ i. shown P θ m (rule_in P.rules i).head && asked_by P.variables (shown P θ m) asks (rule_in P.rules i) x) i h
        (and_true (shown P θ m (rule_in P.rules i).head) (asked_by P.variables (shown P θ m) asks (rule_in P.rules i) x)
        (is_true (shown P θ m (rule_in P.rules i).head) t)
        (below_some (length (rule_in P.rules i).terms) (λ j. at j && eqb (body_variable (rule_in P.rules i) j) x) j l (and_true (at j) (eqb x x) q (eq-eqb x x refl))))
      where
        x : ℕ
        x = body_variable (rule_in P.rules i) j

        at : ℕ → Bool
        at j = asks (direction P.variables (rule_in P.rules i) j) (kept P.variables (rule_in P.rules i) j && shown P θ m (body_variable (rule_in P.rules i) j))

    conditions_meet : Conditions (system P) θ (shown P θ m) θ'
    unfolding kept
    conditions_meet i h t v d (j, l, e, q) =
        subst (λ w. AskedOf (system P) θ (shown P θ m) θ' w d) e (go d (ap (λ w. away (variable_in P.variables w) (direction P.variables (rule_in P.rules i) j)) e ∙ q))
      where
        y : ℕ
        y = body_variable (rule_in P.rules i) j

        x : Variable
        x = variable_in P.variables y

        declared : y < length P.variables
        declared = ((promised.rules i h).body.terms j l).declared

        c : Bool
        c = kept P.variables (rule_in P.rules i) j && shown P θ m y

        -- in plain numbers, by the direction in the rule
        plain : (d : Direction) → direction P.variables (rule_in P.rules i) j ≡ d → c ≡ false → Moves d (θ' y) (θ y)
        plain Rising q u = most_met y declared (asked_at_is asks_most i j h l t (ap₂ asks_most q u))
        plain Falling q u = least_met y declared (asked_at_is asks_least i j h l t (ap₂ asks_least q u))
        plain Mixed q u =
            let a = most_met y declared (asked_at_is asks_most i j h l t (ap₂ asks_most q u)) in
            let b = least_met y declared (asked_at_is asks_least i j h l t (ap₂ asks_least q u)) in omega int

        -- in the variable's order, by the direction as seen from its starting end
        onward : c ≡ false → Onward (not_past x) (away x (direction P.variables (rule_in P.rules i) j)) (θ' y) (θ y)
        onward u = away_moves x (direction P.variables (rule_in P.rules i) j) (θ' y) (θ y) (plain (direction P.variables (rule_in P.rules i) j) refl u)

        -- a position that is not kept gives its condition, whatever the set
        unkept : (d : Direction) → away x (direction P.variables (rule_in P.rules i) j) ≡ d → is_rising d ≡ false → c ≡ false
        unkept d q f = ap (λ e. (is_rising e && is_founded x) && shown P θ m y) q ∙ ap (λ b. (b && is_founded x) && shown P θ m y) f

        go : (d : Direction) → away x (direction P.variables (rule_in P.rules i) j) ≡ d → AskedOf (system P) θ (shown P θ m) θ' y d
        go Rising q = λ u. record { le = subst (λ d. Onward (not_past x) d (θ' y) (θ y)) q (onward (not_kept (kept P.variables (rule_in P.rules i) j) (shown P θ m y) u)) }
        go Falling q = record { le = subst (λ d. Onward (not_past x) d (θ' y) (θ y)) q (onward (unkept Falling q refl)) }
        go Mixed q =
            let e = subst (λ d. Onward (not_past x) d (θ' y) (θ y)) q (onward (unkept Mixed q refl)) in
            (subst (λ a. AtOrBefore (system P) y (θ' y) a) e (at_refl y (θ' y)), subst (λ a. AtOrBefore (system P) y a (θ' y)) e (at_refl y (θ' y)))

  -- ---- the sentences

  pub report_shows : (v : ℕ) × T (shown P θ m v) → Shows P θ b n k
  report_shows s = record {
    inside = omega (arith, length-append (bytes_in es) rest, bytes_length es, all);
    bounds_marked = marked_by_kind;
    once = λ i j h l e. once_by_key (bounds P θ m) (bounds_sorted P.variables (shown P θ m) m (length P.variables)) i j h l
        (same_variable i j h l e) (bound_mark_is i h ∙ ap (λ v. bound_mark (variable_in P.variables v)) (same_variable i j h l e) ∙ sym (bound_mark_is j l));
    conditions_marked = λ i l h. (condition_at i l h).marked;
    conditions_once = λ i j l h l' h' e q. again i j l l' (once_by_key (conditions P θ m)
        (conditions_sorted (asked P (shown P θ m) asks_most) (asked P (shown P θ m) asks_least) θ (length P.variables)) (i - n) (j - n) (omega arith) (omega arith)
        (sym (condition_at i l h).variable ∙ e ∙ (condition_at j l' h').variable) (sym (condition_at i l h).mark ∙ q ∙ (condition_at j l' h').mark));
    is_unfounded =
        same_unfounded P θ (shown P θ m) (is_shown b n) m (shown_bound b n) (λ v. sym (shown_is v)) (λ v t. sym (bound_is v (rw (shown_is v) t)))
        (short_unfounded (laws promised) self least s.0 s.1);
    largest = λ dom bounds' u v t. let w = inside_short (laws promised) self least u v t in
        let i : T (is_shown b n v) = rw (shown_is v) w.0 in (i, rw (bound_is v i) w.1);
    conditions_true = met_self;
    keeps = λ θ' st c v t. rw (bound_is v t) (bounded (laws promised) self least st.least (conditions_meet c) v (rw (← shown_is v) t));
  }
    where
      bound_mark_is : (i : ℕ) → i < n → (entry_in (bounds P θ m) i).mark ≡ bound_mark (variable_in P.variables (entry_in (bounds P θ m) i).variable)
      bound_mark_is = bounds_every P.variables (shown P θ m) m (length P.variables) (λ e. e.mark ≡ bound_mark (variable_in P.variables e.variable)) (λ v t. refl)

      same_variable : (i j : ℕ) → i < n → j < n → variable_at b i ≡ variable_at b j → (entry_in (bounds P θ m) i).variable ≡ (entry_in (bounds P θ m) j).variable
      same_variable i j h l e = sym (bound_at i h).variable ∙ e ∙ (bound_at j l).variable

      again : (i j : ℕ) → n ≤ i → n ≤ j → i - n ≡ j - n → i ≡ j
      again i j l l' e = omega arith
