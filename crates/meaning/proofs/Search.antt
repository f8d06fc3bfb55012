-- A fixpoint that the search of `specs/Search.antt` reaches is the least model, and where it finds none there is none.
use Rattle.std.specs.Prelude.{Option, Some, None}
use Prim.Native.Nat.{ℕ, zero, suc, ◌+◌, ◌<◌, ◌≤◌, zero-le, suc-le-suc}
use mathlib.Core.Path.{◌≡◌, refl, sym, ◌∙◌, ap, subst}
use mathlib.Core.Logic.{◌⊎◌, inl, inr}
use mathlib.Core.Bool.{not, cond}
use mathlib.Core.List.{List, [], ◌∷◌}
use native.Mathlib.Decide.{ℕ_discrete}
use native.Mathlib.Omega.{arith}
use lib.IntN.{ℤ, pos, negsuc}
use lib.ListN.{length, get_or, set, length-set, get_or-eq_default}
use lib.Seq.{get_or-set_same, get_or-set_other}
use lib.Dec.{T, ltb, ltb→lt, nltb→le}
use Rattle.program.specs.Program.{Rule, Program, term_form, no_variable, variable_in, rule_in}
use Rattle.program.specs.Directions.{plain_direction, away, term_direction, direction}
use Rattle.program.specs.Evaluate.{sum_below, pick_to, all_hold, over_up, amount_of, evaluate}
use Rattle.program.proofs.Promises.{Promises}
use Rattle.meaning.specs.Founded.{GivenNoMore, Within, Model, Least}
use Rattle.meaning.specs.Reduct.{Reckoning, reckoned, reduct, system}
use Rattle.meaning.specs.Narrowing.{Narrows}
use Rattle.meaning.specs.Search.{Step, closed, raise, ask, first_unmet, Outcome, found, none, unfinished, raised, computed, act, iterate, search_in, search, starts, allows}
use Rattle.meaning.proofs.Theory.{Progress, progress_start, progress_raise, progress_done, progress_over}
use Rattle.meaning.proofs.Monotone.{laws, head_founded}
use Rattle.meaning.proofs.InRanges.{founded_declared, past_zero}
use Rattle.meaning.proofs.Narrowing.{reduct_narrows, narrows_founded, narrows_past, narrows_started, narrows_within, narrows_far}
use Rattle.meaning.proofs.Steps.{gap, gap_raised}
use Rattle.program.specs.Variables.{is_founded, swaps, start, far, not_past, no_more, started}
use Rattle.program.specs.Readings.{Valuation, kept, gives, valued}
use Rattle.program.specs.declared.Variable.{Variable}
use Rattle.program.proofs.Tests.{cases}
use Rattle.program.proofs.Variables.{past_total}
use Rattle.meaning.proofs.Laws.{Laws, at_refl, before_at}

-- unfolding this unfolds the search and what it reads of a program
unfoldable pub computes : Unit {0}
unfolding swaps start far not_past term_form plain_direction away term_direction direction sum_below pick_to all_hold over_up amount_of evaluate kept gives starts first_unmet iterate
computes = tt

-- ---- lists

starts_length : (θ : Valuation) (i : ℕ) (vs : List Variable) → length (starts θ i vs) ≡ length vs
unfolding starts
starts_length θ i [] = refl
starts_length θ i (x ∷ xs) = ap suc (starts_length θ (suc i) xs)

starts_at : (θ : Valuation) (i : ℕ) (vs : List Variable) (v : ℕ) → v < length vs
    → valued (starts θ i vs) v ≡ started (variable_in vs v) (θ (i + v))
unfolding starts
starts_at θ i [] v h = let f : ⊥ = omega arith in absurd f
starts_at θ i (x ∷ xs) zero h = let e : i ≡ i + 0 = omega arith in ap (λ n. started x (θ n)) e
starts_at θ i (x ∷ xs) (suc v) h =
    let e : suc i + v ≡ i + suc v = omega arith in
    starts_at θ (suc i) xs v (omega arith) ∙ ap (λ n. started (variable_in xs v) (θ n)) e

starts_is : (P : Program) {θ : Valuation} → Within (system P) θ → (v : ℕ)
    → valued (starts θ 0 P.variables) v ≡ started (variable_in P.variables v) (θ v)
starts_is P {θ} w v = cases (ltb v (length vs)) (λ b. valued (starts θ 0 vs) v ≡ started (variable_in vs v) (θ v))
    (λ t. let z : 0 + v ≡ v = omega arith in rw z at (starts_at θ 0 vs v (ltb→lt v (length vs) t)))
    (λ n. let h = nltb→le v (length vs) n in
    let k : length (starts θ 0 vs) ≤ v = omega (arith, starts_length θ 0 vs) in
    rw (get_or-eq_default vs no_variable h, get_or-eq_default (starts θ 0 vs) (pos 0) k) (sym (past_zero P w v h)))
  where
    vs : List Variable
    vs = P.variables

-- after a store
stored : (l : List ℤ) (h : ℕ) (a : ℤ) → h < length l → (v : ℕ) → (valued (set l h a) v ≡ valued l v) ⊎ ((h ≡ v) × (valued (set l h a) v ≡ a))
stored l h a k v = go (ℕ_discrete h v)
  where
    go : Dec (h ≡ v) → (valued (set l h a) v ≡ valued l v) ⊎ ((h ≡ v) × (valued (set l h a) v ≡ a))
    go (yes e) = inr (e, subst (λ w. get_or (set l h a) w (pos 0) ≡ a) e (get_or-set_same l h a (pos 0) k))
    go (no n) = inl (get_or-set_other l h v a (pos 0) (λ e. n (sym e)))

-- ---- the first rule that is not met

ask_closed : (x : Variable) (i : ℕ) (g : Option ℤ) (b : ℤ) (next : Step) → ask x i g b next ≡ closed → T (no_more x g b) × (next ≡ closed)
ask_closed x i None b next e = (tt, e)
ask_closed x i (Some a) b next e = cases (not_past x a b) (λ c. cond c next (raise i a) ≡ closed → T c × (next ≡ closed))
    (λ t q. (tt, q)) (λ n q. let z : ◌≡◌ {A = ℕ} 0 1 = cc in let f : ⊥ = omega arith in absurd f) e

ask_raise : (x : Variable) (i : ℕ) (g : Option ℤ) (b : ℤ) (next : Step) (k : ℕ) (a : ℤ) → ask x i g b next ≡ raise k a
    → ((k ≡ i) × (g ≡ Some a) × T (not (not_past x a b))) ⊎ (next ≡ raise k a)
ask_raise x i None b next k a e = inr e
ask_raise x i (Some y) b next k a e =
    cases (not_past x y b) (λ c. cond c next (raise i y) ≡ raise k a → ((k ≡ i) × (Some y ≡ Some a) × T (not (not_past x a b))) ⊎ (next ≡ raise k a))
    (λ t q. inr q) (λ n q. let s : y ≡ a = cc in inl (cc, cc, subst (λ z. T (not (not_past x z b))) s n)) e

module _ (R : Reckoning) (θ m : Valuation) where
  closed_from : (i : ℕ) (rs : List Rule) → first_unmet R θ m i rs ≡ closed → (j : ℕ) → j < length rs
      → T (no_more (R.variable (rule_in rs j).head) (R.gives (i + j) m θ) (m (rule_in rs j).head))
  unfolding first_unmet
  closed_from i [] e j h = let f : ⊥ = omega arith in absurd f
  closed_from i (r ∷ rs) e zero h =
      let z : i ≡ i + 0 = omega arith in
      rw z at (ask_closed (R.variable r.head) i (R.gives i m θ) (m r.head) (first_unmet R θ m (suc i) rs) e).0
  closed_from i (r ∷ rs) e (suc j) h =
      let z : suc i + j ≡ i + suc j = omega arith in
      rw z at (closed_from (suc i) rs (ask_closed (R.variable r.head) i (R.gives i m θ) (m r.head) (first_unmet R θ m (suc i) rs) e).1 j (omega arith))

  -- rule r, of number k, gives a, and that is more than its head has
  record Unmet (r : Rule) (k : ℕ) (a : ℤ) : Type 0 where
    value_is : R.gives k m θ ≡ Some a
    more : T (not (not_past (R.variable r.head) a (m r.head)))

  raise_from : (i : ℕ) (rs : List Rule) (k : ℕ) (a : ℤ) → first_unmet R θ m i rs ≡ raise k a → (j : ℕ) × (k ≡ i + j) × (j < length rs) × Unmet (rule_in rs j) k a
  unfolding first_unmet
  raise_from i [] k a e = let z : ◌≡◌ {A = ℕ} 0 1 = cc in let f : ⊥ = omega arith in absurd f
  raise_from i (r ∷ rs) k a e =
      go (ask_raise (R.variable r.head) i (R.gives i m θ) (m r.head) (first_unmet R θ m (suc i) rs) k a e) (raise_from (suc i) rs k a)
    where
      go : ((k ≡ i) × (R.gives i m θ ≡ Some a) × T (not (not_past (R.variable r.head) a (m r.head)))) ⊎ (first_unmet R θ m (suc i) rs ≡ raise k a)
          → (first_unmet R θ m (suc i) rs ≡ raise k a → (j : ℕ) × (k ≡ suc i + j) × (j < length rs) × Unmet (rule_in rs j) k a)
          → (j : ℕ) × (k ≡ i + j) × (j < length (r ∷ rs)) × Unmet (rule_in (r ∷ rs) j) k a
      go (inl u) f = (zero, omega (arith, u.0), suc-le-suc zero-le, record { value_is = rw u.0 u.1; more = u.2 })
      go (inr e) f = (suc (f e).0, omega (arith, (f e).1), suc-le-suc (f e).2, (f e).3)

  module _ (P : Program) where
    closed_met : first_unmet R θ m 0 P.rules ≡ closed → (j : ℕ) → j < length P.rules
        → GivenNoMore (reckoned P R) (rule_in P.rules j).head (R.gives j m θ) (m (rule_in P.rules j).head)
    closed_met e j h = let z : 0 + j ≡ j = omega arith in rw z at (closed_from 0 P.rules e j h)

    raise_unmet : (k : ℕ) (a : ℤ) → first_unmet R θ m 0 P.rules ≡ raise k a → (k < length P.rules) × Unmet (rule_in P.rules k) k a
    raise_unmet k a e =
        let n = raise_from 0 P.rules k a e in
        let z : n.0 ≡ k = omega (arith, n.1) in
        (omega (arith, n.2), subst (λ j. Unmet (rule_in P.rules j) k a) z n.3)

-- ---- the search

computed_is : (go : ℤ → Outcome) (a : ℤ) → go a ≡ computed go a
computed_is go (pos n) = refl
computed_is go (negsuc n) = refl

-- what an outcome says
abbrev pub Right : Program → Reckoning → Valuation → Outcome → Type 0
Right P R θ (found m) = Least (reckoned P R) θ (valued m)
Right P R θ none = (m : Valuation) → Model (reckoned P R) θ m → ⊥
Right P R θ unfinished = Unit {0}

-- there is a least model, or there is no model
abbrev pub Solvable : Program → Reckoning → Valuation → Type 0
Solvable P R θ = ((m : Valuation) × Least (reckoned P R) θ m) ⊎ ((m : Valuation) → Model (reckoned P R) θ m → ⊥)

module _ {P : Program} {R : Reckoning} (p : Promises P) (L : Laws (reckoned P R)) (N : Narrows P R) {θ : Valuation} (w : Within (reckoned P R) θ) where
  -- the values on the way
  record OnWay (m : List ℤ) : Type 0 where
    len : length m ≡ length P.variables
    progress : Progress (reckoned P R) θ (valued m)

  -- the starting ends
  on_way : OnWay (starts θ 0 P.variables)
  on_way = record {
    len = starts_length θ 0 P.variables;
    progress = progress_start w (valued (starts θ 0 P.variables)) (λ v. starts_is P (narrows_within N w) v ∙ sym (narrows_started N v (θ v)));
  }

  -- rule j gives a, which is more than its head has
  module _ {m : List ℤ} (o : OnWay m) (j : ℕ) (h : j < length P.rules) {a : ℤ} (u : Unmet R θ (valued m) (rule_in P.rules j) j a) where
    abbrev x : ℕ
    x = (rule_in P.rules j).head

    there : x < length P.variables
    there = founded_declared P.variables x (head_founded p j h)

    lifted : T (is_founded (R.variable x))
    lifted = rw (narrows_founded N x) (head_founded p j h)

    -- within its range it is raised
    raised_way : T (allows (R.variable x) a) → OnWay (set m x a)
    raised_way t = record {
      len = length-set m x a ∙ o.len;
      progress = progress_raise L w o.progress j h lifted a a u.value_is (at_refl x a) (before_at (record { lt = u.more })) (record { le = t })
          (valued (set m x a)) (stored m x a (omega (arith, there, o.len)));
    }

    raised_nearer : T (allows (R.variable x) a) → gap P.variables (set m x a) < gap P.variables m
    raised_nearer t =
        gap_raised P.variables m x a there (omega (arith, o.len)) (rw (narrows_past N x a (valued m x)) at u.more)
        (narrows_far N x (valued m x) a (o.progress.within.inside x) (past_total (R.variable x) (valued m x) a u.more) t)

    -- beyond it there is no model
    over_way : T (not (allows (R.variable x) a)) → (m' : Valuation) → Model (reckoned P R) θ m' → ⊥
    over_way n = progress_over L w o.progress j h a u.value_is (record { lt = n })

  act_right : (go : List ℤ → Outcome) → ((m : List ℤ) → OnWay m → Right P R θ (go m)) → (m : List ℤ) → OnWay m
      → (s : Step) → first_unmet R θ (valued m) zero P.rules ≡ s → Right P R θ (act P R go m s)
  act_right go ih m o closed e = progress_done o.progress (closed_met R θ (valued m) P e)
  act_right go ih m o (raise j a) e =
      let h = (rule_in P.rules j).head in
      let u = raise_unmet R θ (valued m) P j a e in
      subst (Right P R θ) (computed_is (λ z. raised go (allows (R.variable h) z) (set m h z)) a)
      (cases (allows (R.variable h) a) (λ c. Right P R θ (raised go c (set m h a))) (λ t. ih (set m h a) (raised_way o j u.0 u.1 t)) (over_way o j u.0 u.1))

  iterate_right : (k : ℕ) (m : List ℤ) → OnWay m → Right P R θ (iterate P R θ k m)
  unfolding iterate
  iterate_right zero m o = tt
  iterate_right (suc k) m o = act_right (iterate P R θ k) (iterate_right k) m o (first_unmet R θ (valued m) zero P.rules) refl

  pub searched_right : (k : ℕ) → Right P R θ (search_in k P R θ)
  searched_right k = iterate_right k (starts θ 0 P.variables) on_way

  -- ---- every reckoning has a least model or no model

  step_solved : (m : List ℤ) → OnWay m → ((m⁺ : List ℤ) → OnWay m⁺ → gap P.variables m⁺ < gap P.variables m → Solvable P R θ)
      → (s : Step) → first_unmet R θ (valued m) zero P.rules ≡ s → Solvable P R θ
  step_solved m o ih closed e = inl (valued m, progress_done o.progress (closed_met R θ (valued m) P e))
  step_solved m o ih (raise j a) e =
      let u = raise_unmet R θ (valued m) P j a e in
      cases (allows (R.variable (rule_in P.rules j).head) a) (λ c. Solvable P R θ)
      (λ t. ih (set m (rule_in P.rules j).head a) (raised_way o j u.0 u.1 t) (raised_nearer o j u.0 u.1 t)) (λ n. inr (over_way o j u.0 u.1 n))

  -- each raise brings the values nearer to their far ends
  solved_from : (n : ℕ) (m : List ℤ) → gap P.variables m < n → OnWay m → Solvable P R θ
  solved_from zero m l o = let f : ⊥ = omega arith in absurd f
  solved_from (suc n) m l o = step_solved m o (λ m⁺ o⁺ k. solved_from n m⁺ (omega arith) o⁺) (first_unmet R θ (valued m) zero P.rules) refl

  pub solvable_in : Solvable P R θ
  solvable_in = solved_from (suc (gap P.variables (starts θ 0 P.variables))) (starts θ 0 P.variables) (omega arith) on_way

-- ---- the reduct

module _ {P : Program} (p : Promises P) {θ : Valuation} (w : Within (system P) θ) where
  pub search_right : (k : ℕ) → Right P (reduct P) θ (search k P θ)
  search_right = searched_right p (laws p) (reduct_narrows P) w

  pub solvable : Solvable P (reduct P) θ
  solvable = solvable_in p (laws p) (reduct_narrows P) w
