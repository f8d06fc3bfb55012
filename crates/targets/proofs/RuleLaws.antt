-- What a rule is estimated to give, stopped where lifts stop, is steady: by the law of `steady`, for the positions that the tables say are read in the model.
use Rattle.std.specs.Prelude.{Option, Some, None}
use Prim.Native.Nat.{ℕ, zero, suc, ◌*◌, ◌<◌, ◌≤◌}
use mathlib.Core.Path.{◌≡◌, refl, sym, ap, fun_ext, subst, ◌∙◌}
use mathlib.Core.Logic.{◌⊎◌, inl, inr}
use mathlib.Core.Bool.{Bool, true, false, not, cond}
use mathlib.Core.List.{List, [], ◌∷◌}
use native.Mathlib.Omega.{arith}
use lib.Dec.{T}
use lib.IntN.{ℤ, pos}
use lib.ListN.{length, get_or}
use Rattle.format.proofs.Int.{int, sum_is}
use Rattle.words.specs.Bit.{bit}
use Rattle.program.specs.Program.{Program, Rule, variable_in, rule_in, term_in}
use Rattle.program.specs.Variables.{is_founded, swaps, ahead, not_past, in_range, cut_off}
use Rattle.program.specs.Evaluate.{evaluate}
use Rattle.program.specs.Readings.{Valuation, valued, body_variable, kept}
use Rattle.program.specs.declared.Term.{Term}
use Rattle.program.specs.declared.Variable.{Variable}
use Rattle.program.proofs.Promises.{accepts_promises}
use Rattle.program.proofs.Tests.{cases}
use Rattle.program.proofs.Variables.{past_total}
use Rattle.bodies.specs.Readings.{reading_of}
use Rattle.meaning.specs.Reduct.{Reckoning, reckoned}
use Rattle.meaning.specs.Narrowing.{Narrows}
use Rattle.meaning.proofs.InRanges.{past_zero}
use Rattle.meaning.proofs.Narrowing.{narrows_founded, narrows_past, narrows_within}
use Rattle.run.specs.Running.{free_bit, stopped, KeptOrStandard, Reckons}
use Rattle.steady.specs.Estimate.{estimate}
use Rattle.steady.specs.Short.{ShortBy, Moving, Staying, Short}
use Rattle.steady.specs.Strides.{stride_of, stride_at}
use Rattle.steady.proofs.Ahead.{past_ahead}
use Rattle.steady.proofs.SteadyLaws.{steady}
use Rattle.targets.specs.Targets.{AllShort, From, GivesNear, Steady}
use Rattle.targets.specs.Aims.{estimated_by}

-- ---- a valuation in a list

-- the first n values
abbrev listed : Valuation → ℕ → List ℤ
listed M zero = []
listed M (suc n) = M zero ∷ listed (λ v. M (suc v)) n

listed_is : (n : ℕ) (M : Valuation) → ((v : ℕ) → n ≤ v → M v ≡ pos 0) → (v : ℕ) → valued (listed M n) v ≡ M v
listed_is zero M past v = sym (past v (omega arith))
listed_is (suc n) M past zero = refl
listed_is (suc n) M past (suc v) = listed_is n (λ u. M (suc u)) (λ u l. past (suc u) (omega arith)) v

-- ---- what stops is as steady

-- g is given at the aims, h at the values
abbrev NearBy : ℕ → Variable → Option ℤ → Option ℤ → Type 0
NearBy n x g h = (b : ℤ) → g ≡ Some b → (a : ℤ) × (h ≡ Some a) × ShortBy n x b a

value_is : {a b : ℤ} → ◌≡◌ {A = (Option ℤ)} (Some a) (Some b) → a ≡ b
value_is e = cc

module _ (n : ℕ) (x : Variable) (stop : ℤ) where
  same_near : (a : ℤ) → ShortBy n x a a
  same_near a = omega (int, sum_is (ahead x a) (pos n))

  -- the nearer of each and the stop
  cut_near : (b a : ℤ) → ShortBy n x b a → ShortBy n x (cond (not_past x b stop) b stop) (cond (not_past x a stop) a stop)
  cut_near b a s = cases (not_past x a stop) (λ t. ShortBy n x (cond (not_past x b stop) b stop) (cond t a stop)) (λ t. first) (λ t. second)
    where
      first : ShortBy n x (cond (not_past x b stop) b stop) a
      first = cases (not_past x b stop) (λ t. ShortBy n x (cond t b stop) a) (λ t. s)
          (λ t. let h = past_ahead x stop b (past_total x stop b t) in omega (int, h, s, sum_is (ahead x a) (pos n)))

      second : ShortBy n x (cond (not_past x b stop) b stop) stop
      second = cases (not_past x b stop) (λ t. ShortBy n x (cond t b stop) stop)
          (λ t. let h = past_ahead x b stop t in omega (int, h, sum_is (ahead x stop) (pos n))) (λ t. same_near stop)

  stopped_near : (cut : Bool) (mask : ℕ) (g h : Option ℤ) → NearBy n x g h → NearBy n x (stopped cut x stop mask g) (stopped cut x stop mask h)
  unfolding stopped cut_off
  stopped_near false mask g h k = k
  stopped_near true mask g h k = go (bit mask free_bit) g h k
    where
      at_stop : NearBy n x (Some stop) (Some stop)
      at_stop b e = (stop, refl, subst (λ (z : ℤ). ShortBy n x z stop) (value_is e) (same_near stop))

      go : (f : Bool) (g h : Option ℤ) → NearBy n x g h → NearBy n x (cond f (Some stop) (cut_off x stop g)) (cond f (Some stop) (cut_off x stop h))
      go true g h k b e = at_stop b e
      go false None h k b e = let z : ◌≡◌ {A = ℕ} 0 1 = cc in absurd (omega arith)
      go false (Some c) h k b e =
          let r = k c refl in
          let a = r.0 in
          (cond (not_past x a stop) a stop, ap (cut_off x stop) r.1, subst (λ (z : ℤ). ShortBy n x z (cond (not_past x a stop) a stop)) (value_is e) (cut_near c a r.2))

-- ---- one rule

-- position j is read in the first list, or in the second
module _ (mask : ℕ) (first second : List ℤ) (ts : List Term) (j : ℕ) where
  read_first : bit mask j ≡ true → reading_of mask first second ts j ≡ valued first (term_in ts j).variable
  unfolding reading_of
  read_first e = rw e

  read_second : bit mask j ≡ false → reading_of mask first second ts j ≡ valued second (term_in ts j).variable
  unfolding reading_of
  read_second e = rw e

-- a reckoning has the program's order
pub narrows_ahead : {P : Program} {R : Reckoning} → Narrows P R → (v : ℕ) (a : ℤ) → ahead (R.variable v) a ≡ ahead (variable_in P.variables v) a
unfolding ahead swaps
narrows_ahead n v a = rw (n.kind_is v)

module _ {s : List ℕ} {P : Program} {R : Reckoning} {θ : Valuation} {offsets masks : List ℕ} {others stops : List ℤ} {cut : Bool}
    (k : Reckons s P R θ offsets masks others stops cut) (strides m aims : List ℤ) (fm : From (reckoned P R) θ (valued m) (valued m))
    (fa : From (reckoned P R) θ (valued m) (valued aims)) (i : ℕ) (l : i < length P.rules) where
  abbrev vs : List Variable
  vs = P.variables

  abbrev rule : Rule
  rule = rule_in P.rules i

  abbrev mask : ℕ
  mask = get_or masks i 0

  abbrev read : List ℤ → ℕ → ℤ
  read xs = reading_of mask xs others rule.terms

  -- a value in a range of the reckoning lies in the declared one
  ranged : {M : Valuation} → From (reckoned P R) θ (valued m) M → (v : ℕ) → T (in_range (variable_in vs v) (M v))
  ranged {M} f v = k.narrows.inside v (M v) (f.within.inside v)

  standard : {M : Valuation} → From (reckoned P R) θ (valued m) M → (v : ℕ) → T (not (is_founded (variable_in vs v))) → M v ≡ θ v
  standard f v n = f.standard v (subst (λ (b : Bool). T (not b)) (sym (narrows_founded k.narrows v)) n)

  later : {M : Valuation} → From (reckoned P R) θ (valued m) M → (v : ℕ) → T (not_past (variable_in vs v) (valued m v) (M v))
  later {M} f v = subst T (narrows_past k.narrows v (valued m v) (M v)) (f.after v).le

  module _ (n : ℕ) (to : List ℤ) (ft : From (reckoned P R) θ (valued m) (valued to)) (near : AllShort (reckoned P R) (stride_of strides) n (valued to) (valued aims)) where
    near_by : (v : ℕ) → ShortBy (n * stride_of strides v) (variable_in vs v) (valued aims v) (valued to v)
    near_by v = rw (narrows_ahead k.narrows v (valued aims v), narrows_ahead k.narrows v (valued to v)) at (near.by v)

    short : Short vs rule (read m) (read aims) (read to) n (stride_at strides rule.terms)
    short j h = go (bit mask j) refl
      where
        x : ℕ
        x = body_variable rule j

        moving : bit mask j ≡ true → kept vs rule j ≡ true → Moving vs rule (read m) (read aims) (read to) (n * stride_at strides rule.terms j) j
        moving e q =
            let a = read_first mask m others rule.terms j e in
            let b = read_first mask aims others rule.terms j e in
            let c = read_first mask to others rule.terms j e in
            record {
              is_kept = q;
              at_in = rw a (ranged fm x);
              aim_in = rw b (ranged fa x);
              to_in = rw c (ranged ft x);
              aims = rw (a, b) (later fa x);
              goes = rw (a, c) (later ft x);
              short = rw (b, c) (near_by x);
            }

        fixed : bit mask j ≡ true → T (not (is_founded (variable_in vs x))) → Staying vs rule (read m) (read aims) (read to) j
        fixed e q =
            let a = read_first mask m others rule.terms j e in
            let b = read_first mask aims others rule.terms j e in
            let c = read_first mask to others rule.terms j e in
            record {
              at_in = rw a (ranged fm x);
              at_aim = a ∙ standard fm x q ∙ sym (standard fa x q) ∙ sym b;
              at_to = a ∙ standard fm x q ∙ sym (standard ft x q) ∙ sym c;
            }

        kept_or : bit mask j ≡ true → KeptOrStandard P i j → Moving vs rule (read m) (read aims) (read to) (n * stride_at strides rule.terms j) j ⊎ Staying vs rule (read m) (read aims) (read to) j
        kept_or e (inl q) = inl (moving e q)
        kept_or e (inr q) = inr (fixed e q)

        go : (b : Bool) → bit mask j ≡ b → Moving vs rule (read m) (read aims) (read to) (n * stride_at strides rule.terms j) j ⊎ Staying vs rule (read m) (read aims) (read to) j
        go true e = kept_or e (k.keeps i l j h e)
        go false e =
            let a = read_second mask m others rule.terms j e in
            inr (record {
              at_in = rw a (k.ranged.inside x);
              at_aim = a ∙ sym (read_second mask aims others rule.terms j e);
              at_to = a ∙ sym (read_second mask to others rule.terms j e);
            })

    -- what is found at the values is near to the estimate
    found_near : (b : ℤ) → estimated_by P mask cut strides stops others m aims i ≡ Some b → GivesNear (reckoned P R) (stride_of strides) θ (valued to) i n b
    found_near b e =
        let h = rule.head in
        let x = variable_in vs h in
        let own = stride_of strides h in
        let stride = stride_at strides rule.terms in
        let r = stopped_near (n * own) x (valued stops h) cut mask (estimate x own stride rule (read m) (read aims)) (evaluate rule (read to))
        (steady ((accepts_promises k.accepts).rules i l) own stride (read m) (read aims) (read to) n short) b e in
        record {
          given = r.0;
          gives_it = k.finds i l to (standard ft) ∙ r.1;
          near = rw (narrows_ahead k.narrows h b, narrows_ahead k.narrows h r.0) r.2;
        }

  pub rule_steady : (b : ℤ) → estimated_by P mask cut strides stops others m aims i ≡ Some b → Steady (reckoned P R) (stride_of strides) θ (valued m) (valued aims) i b
  rule_steady b e n M f near = subst (λ (N : Valuation). GivesNear (reckoned P R) (stride_of strides) θ N i n b) is (found_near n (listed M (length vs)) (rw (sym is) at f) (rw (sym is) at near) b e)
    where
      is : valued (listed M (length vs)) ≡ M
      is = fun_ext (listed_is (length vs) M (past_zero P (narrows_within k.narrows f.within)))
