-- What an open target says, and that the first aims are the targets drawn back.
use Prim.Native.Nat.{ℕ, ◌+◌, ◌*◌, ◌<◌, ◌≤◌}
use mathlib.Core.Path.{◌≡◌, refl, sym, ap, fun_ext, subst, ◌∙◌}
use mathlib.Core.Logic.{◌⊎◌, inl, inr}
use mathlib.Core.Bool.{Bool, true, false, not, cond, ◌&&◌, ◌||◌}
use mathlib.Core.List.{List}
use native.Mathlib.Omega.{arith}
use native.Mathlib.Nat.{mul-le-mul}
use lib.Dec.{T, ltb}
use borrow.Author.Tests.{ltb-true, ltb-false}
use lib.IntN.{ℤ, pos, neg_ℤ, nat_abs, ◌+ℤ◌, ◌-ℤ◌}
use lib.Signed.{◌≤ℤ◌}
use lib.ListN.{length}
use Rattle.format.specs.Limits.{max_number}
use Rattle.format.proofs.Int.{int, sum_is, neg_is, abs_is}
use Rattle.program.specs.Program.{Program, variable_in, variables_at}
use Rattle.program.specs.Reading.{AcceptedAs}
use Rattle.program.specs.Variables.{is_founded, from_above, swaps, far, not_past, ahead}
use Rattle.program.specs.Readings.{Valuation, valued}
use Rattle.program.specs.declared.Counts.{Counts}
use Rattle.program.specs.declared.Variable.{Variable}
use Rattle.program.proofs.Promises.{accepts_promises}
use Rattle.program.proofs.Tests.{cases, is_test, and_left, and_right}
use Rattle.program.proofs.Variables.{past_total}
use Rattle.reader.proofs.Published.{counts_of_is, variables_are}
use Rattle.reduct.specs.Filling.{Filled}
use Rattle.meaning.specs.Founded.{AtOrBefore, Within, Model}
use Rattle.meaning.specs.Reduct.{Reckoning, reckoned}
use Rattle.meaning.proofs.InRanges.{past_zero, value_small}
use Rattle.meaning.proofs.Laws.{at_refl, at_trans, from_start, to_far_is, within_ends}
use Rattle.meaning.proofs.Narrowing.{narrows_founded, narrows_past, narrows_within}
use Rattle.meaning.proofs.Theory.{Progress}
use Rattle.run.specs.Running.{Reckons}
use Rattle.steady.specs.Short.{ShortBy}
use Rattle.steady.specs.Strides.{stride_of}
use Rattle.steady.proofs.Ahead.{ahead_past}
use Rattle.steady.proofs.Machine.{stride_least}
use Rattle.targets.specs.Targets.{AllShort, From, Drawn}
use Rattle.targets.specs.Aims.{is_open, drawn_back, later_of, first_aim, first_aims}
use Rattle.targets.proofs.AimLaws.{open_after, standard_closed, closed_aim, past_aim}
use Rattle.targets.proofs.RuleLaws.{narrows_ahead}

-- ---- drawn back

module _ (x : Variable) where
  back_ahead : (s : ℕ) (t : ℤ) → ahead x t ≡ (ahead x (drawn_back x s t) +ℤ pos s)
  unfolding drawn_back ahead swaps
  back_ahead s t = cases (from_above x) (λ b. cond b (neg_ℤ t) t ≡ (cond b (neg_ℤ (cond b (t +ℤ pos s) (t -ℤ pos s))) (cond b (t +ℤ pos s) (t -ℤ pos s)) +ℤ pos s))
      (λ b. omega (int, neg_is t, neg_is (t +ℤ pos s), sum_is t (pos s), sum_is (neg_ℤ (t +ℤ pos s)) (pos s)))
      (λ b. omega (int, sum_is t (neg_ℤ (pos s)), neg_is (pos s), sum_is (t -ℤ pos s) (pos s)))

  back_before : (s : ℕ) (t : ℤ) → T (not_past x (drawn_back x s t) t)
  back_before s t = ahead_past x (drawn_back x s t) t (omega (int, back_ahead s t, sum_is (ahead x (drawn_back x s t)) (pos s)))

  -- small values are not far apart
  small_short : (n : ℕ) (a b : ℤ) → nat_abs a ≤ n → nat_abs b ≤ n → ShortBy (n + n) x a b
  unfolding ahead swaps
  small_short n a b h k = cases (from_above x) (λ t. cond t (neg_ℤ a) a ≤ℤ (cond t (neg_ℤ b) b +ℤ pos (n + n)))
      (λ t. omega (int, neg_is a, neg_is b, abs_is a, abs_is b, sum_is (neg_ℤ b) (pos (n + n)))) (λ t. omega (int, abs_is a, abs_is b, sum_is b (pos (n + n))))

  short_more : {n k : ℕ} → n ≤ k → (a b : ℤ) → ShortBy n x a b → ShortBy k x a b
  short_more {n} {k} l a b h = omega (int, h, sum_is (ahead x b) (pos n), sum_is (ahead x b) (pos k))

-- ---- an open target

module _ (cut : Bool) (x : Variable) (stop z t : ℤ) (o : is_open cut x stop z t ≡ true) where
  abbrev inside : Bool
  inside = not_past x t (far x) && (not cut || not_past x t stop)

  rest : T inside
  unfolding is_open
  rest = and_right (not (not_past x t z)) inside (and_right (is_founded x) (not (not_past x t z) && inside) (is_test o))

  pub open_far : T (not_past x t (far x))
  open_far = and_left (not_past x t (far x)) (not cut || not_past x t stop) rest

  pub open_stop : cut ≡ true → T (not_past x t stop)
  open_stop e = rw e at (and_right (not_past x t (far x)) (not cut || not_past x t stop) rest)

  pub open_on : T (not_past x z t)
  open_on = past_total x z t (open_after x cut stop z t o)

-- ---- the first aims of a run

-- of a variable: drawn back, which comes after what it has; or what it has
module _ (cut : Bool) (x : Variable) (s : ℕ) (stop z t : ℤ) (Q : ℤ → Type 0) where
  later_is : (T (not (not_past x (drawn_back x s t) z)) → Q (drawn_back x s t)) → Q z → Q (later_of x z (drawn_back x s t))
  unfolding later_of
  later_is f q = cases (not_past x (drawn_back x s t) z) (λ b. Q (cond b z (drawn_back x s t))) (λ b. q) f

  first_is : (is_open cut x stop z t ≡ true → T (not (not_past x (drawn_back x s t) z)) → Q (drawn_back x s t)) → Q z → Q (first_aim cut x s stop z t)
  unfolding first_aim
  first_is f q = go (is_open cut x stop z t) f
    where
      go : (b : Bool) → (b ≡ true → T (not (not_past x (drawn_back x s t) z)) → Q (drawn_back x s t)) → Q (cond b (later_of x z (drawn_back x s t)) z)
      go true f = later_is (f refl) q
      go false f = q

module _ {s : List ℕ} {P : Program} {R : Reckoning} {θ : Valuation} {offsets masks : List ℕ} {others stops : List ℤ} {cut : Bool}
    (k : Reckons s P R θ offsets masks others stops cut) where
  -- an open target lies in the range of the reckoning
  pub open_ends : (v : ℕ) (z t : ℤ) → is_open cut (variable_in P.variables v) (valued stops v) z t ≡ true → AtOrBefore (reckoned P R) v t (far (R.variable v))
  open_ends v z t o =
      let x = variable_in P.variables v in
      k.ends v t (record { to_far_is = open_far cut x (valued stops v) z t o; to_stop = open_stop cut x (valued stops v) z t o })

  module _ (strides m target : List ℤ) (p : Progress (reckoned P R) θ (valued m)) where
    abbrev aim : Valuation
    aim = first_aims P.variables cut strides stops m target

    -- the target of v drawn back
    abbrev back : ℕ → ℤ
    back v = drawn_back (variable_in P.variables v) (stride_of strides v) (valued target v)

    at_variable : (v : ℕ) (Q : ℤ → Type 0)
        → (is_open cut (variable_in P.variables v) (valued stops v) (valued m v) (valued target v) ≡ true → T (not (not_past (variable_in P.variables v) (back v) (valued m v))) → Q (back v))
        → Q (valued m v) → Q (aim v)
    at_variable v = first_is cut (variable_in P.variables v) (stride_of strides v) (valued stops v) (valued m v) (valued target v)

    first_after : (v : ℕ) → AtOrBefore (reckoned P R) v (valued m v) (aim v)
    first_after v =
        at_variable v (AtOrBefore (reckoned P R) v (valued m v))
        (λ o n. record {
          le = subst T (sym (narrows_past k.narrows v (valued m v) (back v))) (past_total (variable_in P.variables v) (valued m v) (back v) n);
        })
        (at_refl v (valued m v))

    first_last : (v : ℕ) → AtOrBefore (reckoned P R) v (aim v) (far (R.variable v))
    first_last v =
        let x = variable_in P.variables v in
        at_variable v (λ a. AtOrBefore (reckoned P R) v a (far (R.variable v)))
        (λ o n. at_trans (record { le = subst T (sym (narrows_past k.narrows v (back v) (valued target v))) (back_before x (stride_of strides v) (valued target v)) })
        (open_ends v (valued m v) (valued target v) o))
        (to_far_is p.within v)

    pub first_from : From (reckoned P R) θ (valued m) aim
    first_from = record {
      standard = λ v n.
          let x = variable_in P.variables v in
          let n' = subst (λ (b : Bool). T (not b)) (narrows_founded k.narrows v) n in
          sym (closed_aim x cut (valued stops v) (valued m v) (valued target v) _ (standard_closed x cut (valued stops v) (valued m v) (valued target v) n')) ∙ p.standard v n;
      within = within_ends (λ v. at_trans (from_start p.within v) (first_after v)) first_last;
      after = first_after;
    }

    first_drawn : Drawn (reckoned P R) (stride_of strides) (valued m) (valued target) aim
    first_drawn = record {
      drawn = λ v.
          at_variable v (λ a. (a ≡ valued m v) ⊎ (ahead (R.variable v) (valued target v) ≡ (ahead (R.variable v) a +ℤ pos (stride_of strides v))))
          (λ o n. inr (rw (narrows_ahead k.narrows v (valued target v), narrows_ahead k.narrows v (back v))
          (back_ahead (variable_in P.variables v) (stride_of strides v) (valued target v))))
          (inl refl);
    }

    -- a model is not far short of values in the ranges
    pub all_short : {A : Valuation} → From (reckoned P R) θ (valued m) A → (M : Valuation) → Model (reckoned P R) θ M
        → AllShort (reckoned P R) (stride_of strides) (max_number + max_number) M A
    all_short {A} f M h = record { by = λ v. short_more (R.variable v) (few v) (A v) (M v) (small_short (R.variable v) max_number (A v) (M v) (small f.within v) (small h.within v)) }
      where
        small : {N : Valuation} → Within (reckoned P R) N → (v : ℕ) → nat_abs (N v) ≤ max_number
        small w = value_small (accepts_promises k.accepts) (narrows_within k.narrows w)

        few : (v : ℕ) → max_number + max_number ≤ (max_number + max_number) * stride_of strides v
        few v =
            mul-le-mul {n₁ = max_number + max_number} {m₁ = 1} {n₂ = max_number + max_number} {m₂ = stride_of strides v} (omega arith) (stride_least (valued strides v))

    -- the code's list, which was filled over zeros, has them
    module _ {c : Counts} (r : AcceptedAs s c) (before aims : List ℤ) (zero : (v : ℕ) → valued before v ≡ pos 0)
        (f : Filled (first_aims (variables_at s c.variables) cut strides stops m target) c.variables before aims) where
      -- past the last variable all are zero
      past_is : (v : ℕ) → c.variables ≤ v → (valued aims v ≡ valued m v) × (valued m v ≡ aim v)
      past_is v l =
          let q : length P.variables ≤ v = omega (arith, (counts_of_is r k.accepts).variables_are) in
          (f.past v l ∙ zero v ∙ sym (past_zero P (narrows_within k.narrows p.within) v q), past_aim P.variables cut strides stops m target v q)

      first_is_aim : (v : ℕ) → valued aims v ≡ aim v
      first_is_aim v = go (ltb v c.variables) refl
        where
          go : (b : Bool) → ltb v c.variables ≡ b → valued aims v ≡ aim v
          go true e = f.below v (ltb-true v c.variables e) ∙ ap (λ (vs : List Variable). first_aims vs cut strides stops m target v) (sym (variables_are r k.accepts))
          go false e = let q = past_is v (ltb-false v c.variables e) in q.0 ∙ q.1

      pub aims_are : valued aims ≡ aim
      aims_are = fun_ext first_is_aim

      -- they are drawn back from any values that are the targets at the variables
      pub arrived_drawn : {A : Valuation} → ((v : ℕ) → v < c.variables → A v ≡ valued target v) → Drawn (reckoned P R) (stride_of strides) (valued m) A (valued aims)
      arrived_drawn {A} same = record { drawn = λ v. go v (ltb v c.variables) refl }
        where
          go : (v : ℕ) (b : Bool) → ltb v c.variables ≡ b
              → (valued aims v ≡ valued m v) ⊎ (ahead (R.variable v) (A v) ≡ (ahead (R.variable v) (valued aims v) +ℤ pos (stride_of strides v)))
          go v true e = rw (same v (ltb-true v c.variables e), first_is_aim v) (first_drawn.drawn v)
          go v false e = inl (past_is v (ltb-false v c.variables e)).0
