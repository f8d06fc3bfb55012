-- Where the aims are the targets, every model is at or after them: by induction on how many strides a model is short of the targets drawn back.
use Prim.Native.Nat.{ℕ, zero, suc, ◌*◌}
use mathlib.Core.Path.{◌≡◌, subst, ◌∙◌}
use mathlib.Core.Logic.{◌⊎◌, inl, inr}
use mathlib.Core.Bool.{not}
use lib.Dec.{T, T_not}
use lib.IntN.{ℤ, pos, ◌+ℤ◌}
use Rattle.format.proofs.Int.{int, sum_is}
use Rattle.program.specs.Variables.{is_founded, far, ahead, in_range}
use Rattle.program.specs.Readings.{Valuation}
use Rattle.meaning.specs.Founded.{System, AtOrBefore, Model, Floor}
use Rattle.meaning.proofs.Laws.{at_trans, from_start, to_far_is, within_ends}
use Rattle.meaning.proofs.Theory.{Progress}
use Rattle.meaning.proofs.Steps.{Raised}
use Rattle.steady.specs.Short.{ShortBy}
use Rattle.steady.proofs.Ahead.{past_ahead, ahead_past}
use Rattle.targets.specs.Targets.{AllShort, From, Steady, Drawn, Justified}

module _ {𝒮 : System} {θ m : Valuation} (p : Progress 𝒮 θ m) where
  open 𝒮 use {variable, Rule, In, head, gives}

  pub model_from : {M : Valuation} → Model 𝒮 θ M → From 𝒮 θ m M
  model_from {M} k = record { standard = k.standard; within = k.within; after = p.floor.under M k }

  -- the first aims
  pub justified_start : {stride : ℕ → ℕ} {A : Valuation} → From 𝒮 θ m A → Justified 𝒮 stride θ m A A
  justified_start f = record { from = f; short = λ M k n s. s }

  -- ---- the aim of a head is lifted, where one of its rules gives as much

  module _ {stride : ℕ → ℕ} {A₀ A A⁺ : Valuation} (j : Justified 𝒮 stride θ m A₀ A) (r : Rule) (i : In r) (f : T (is_founded (variable (head r)))) (t b : ℤ)
      (steady : Steady 𝒮 stride θ m A r b)
      (enough : AtOrBefore 𝒮 (head r) t b) (on : AtOrBefore 𝒮 (head r) (A (head r)) t) (to : AtOrBefore 𝒮 (head r) t (far (variable (head r))))
      (is : Raised A A⁺ (head r) t) where
    lifted_from : From 𝒮 θ m A⁺
    lifted_from = record {
      standard = λ v n. same v n (is v);
      within = within_ends (λ v. at_trans (from_start p.within v) (after v (is v))) (λ v. last v (is v));
      after = λ v. after v (is v);
    }
      where
        same : (v : ℕ) → T (not (is_founded (variable v))) → (A⁺ v ≡ A v) ⊎ ((head r ≡ v) × (A⁺ v ≡ t)) → A⁺ v ≡ θ v
        same v n (inl q) = q ∙ j.from.standard v n
        same v n (inr q) = absurd (T_not (is_founded (variable v)) n (subst (λ w. T (is_founded (variable w))) q.0 f))

        after : (v : ℕ) → (A⁺ v ≡ A v) ⊎ ((head r ≡ v) × (A⁺ v ≡ t)) → AtOrBefore 𝒮 v (m v) (A⁺ v)
        after v (inl q) = rw q (j.from.after v)
        after v (inr q) = rw (q.1, ← q.0) (at_trans (j.from.after (head r)) on)

        last : (v : ℕ) → (A⁺ v ≡ A v) ⊎ ((head r ≡ v) × (A⁺ v ≡ t)) → AtOrBefore 𝒮 v (A⁺ v) (far (variable v))
        last v (inl q) = rw q (to_far_is j.from.within v)
        last v (inr q) = rw (q.1, ← q.0) to

    -- the head of a model has what the rule gives there
    head_short : (M : Valuation) → Model 𝒮 θ M → (n : ℕ) → AllShort 𝒮 stride n M A → ShortBy (n * stride (head r)) (variable (head r)) t (M (head r))
    head_short M k n s =
        let x = variable (head r) in
        let g = steady n M (model_from k) s in
        let has = past_ahead x g.given (M (head r)) (rw g.gives_it at (k.rules r i)) in
        omega (int, past_ahead x t b enough.le, g.near, has, sum_is (ahead x g.given) (pos (n * stride (head r))), sum_is (ahead x (M (head r))) (pos (n * stride (head r))))

    pub justified_lift : Justified 𝒮 stride θ m A₀ A⁺
    justified_lift = record { from = lifted_from; short = λ M k n s. record { by = λ v. at M k n (j.short M k n s) v (is v) } }
      where
        at : (M : Valuation) → Model 𝒮 θ M → (n : ℕ) → AllShort 𝒮 stride n M A → (v : ℕ) → (A⁺ v ≡ A v) ⊎ ((head r ≡ v) × (A⁺ v ≡ t))
            → ShortBy (n * stride v) (variable v) (A⁺ v) (M v)
        at M k n s v (inl q) = rw q (s.by v)
        at M k n s v (inr q) = rw (q.1, ← q.0) (head_short M k n s)

  -- ---- every aim is its target

  module _ {stride : ℕ → ℕ} {T' A₀ : Valuation} (d : Drawn 𝒮 stride m T' A₀) (j : Justified 𝒮 stride θ m A₀ T') (N : ℕ)
      (all : (M : Valuation) → Model 𝒮 θ M → AllShort 𝒮 stride N M A₀) where
    module _ (M : Valuation) (k : Model 𝒮 θ M) where
      -- short of the targets by so many strides, short of them drawn back by one less
      nearer : (n : ℕ) → AllShort 𝒮 stride (suc n) M A₀ → AllShort 𝒮 stride n M A₀
      nearer n s = record { by = λ v. at v (d.drawn v) }
        where
          at : (v : ℕ) → (A₀ v ≡ m v) ⊎ (ahead (variable v) (T' v) ≡ (ahead (variable v) (A₀ v) +ℤ pos (stride v))) → ShortBy (n * stride v) (variable v) (A₀ v) (M v)
          at v (inl q) =
              let x = variable v in
              rw q (omega (int, past_ahead x (m v) (M v) (p.floor.under M k v).le, sum_is (ahead x (M v)) (pos (n * stride v))))
          at v (inr q) =
              let x = variable v in
              let h = (j.short M k (suc n) s).by v in
              omega (
                int,
                q,
                h,
                sum_is (ahead x (A₀ v)) (pos (stride v)),
                sum_is (ahead x (M v)) (pos (suc n * stride v)),
                sum_is (ahead x (M v)) (pos (n * stride v)),
              )

      nearest : (n : ℕ) → AllShort 𝒮 stride n M A₀ → AllShort 𝒮 stride 0 M A₀
      nearest zero s = s
      nearest (suc n) s = nearest n (nearer n s)

      reached : (v : ℕ) → AtOrBefore 𝒮 v (T' v) (M v)
      reached v =
          let x = variable v in
          record { le = ahead_past x (T' v) (M v) (omega (int, (j.short M k 0 (nearest N (all M k))).by v, sum_is (ahead x (M v)) (pos (0 * stride v)))) }

    pub target_floor : Floor 𝒮 θ T'
    target_floor = record { under = reached }

    pub target_progress : Progress 𝒮 θ T'
    target_progress = record { standard = j.from.standard; within = j.from.within; floor = target_floor }

  -- ---- some values are reached, and others are their targets

  pub progress_mixed : {T' m⁺ : Valuation} → Progress 𝒮 θ T' → ((v : ℕ) → (m⁺ v ≡ m v) ⊎ (m⁺ v ≡ T' v)) → Progress 𝒮 θ m⁺
  progress_mixed {T'} {m⁺} q is = record {
    standard = λ v n. same v n (is v);
    within = record { inside = λ v. inside v (is v) };
    floor = record { under = λ M k v. under M k v (is v) };
  }
    where
      same : (v : ℕ) → T (not (is_founded (variable v))) → (m⁺ v ≡ m v) ⊎ (m⁺ v ≡ T' v) → m⁺ v ≡ θ v
      same v n (inl e) = e ∙ p.standard v n
      same v n (inr e) = e ∙ q.standard v n

      inside : (v : ℕ) → (m⁺ v ≡ m v) ⊎ (m⁺ v ≡ T' v) → T (in_range (variable v) (m⁺ v))
      inside v (inl e) = rw e (p.within.inside v)
      inside v (inr e) = rw e (q.within.inside v)

      under : (M : Valuation) → Model 𝒮 θ M → (v : ℕ) → (m⁺ v ≡ m v) ⊎ (m⁺ v ≡ T' v) → AtOrBefore 𝒮 v (m⁺ v) (M v)
      under M k v (inl e) = rw e (p.floor.under M k v)
      under M k v (inr e) = rw e (q.floor.under M k v)
