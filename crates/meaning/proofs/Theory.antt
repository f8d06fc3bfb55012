-- The theory, over any system with its laws: the steps by which the least model is found, the set of the variables that it leaves short
-- of an assignment as the largest unfounded set, and what that set's conditions say of other stable assignments.
use Rattle.std.specs.Prelude.{Option, Some, None}
use mathlib.Core.Path.{◌≡◌, refl, sym, subst, ◌∙◌}
use mathlib.Core.Logic.{◌⊎◌, inl, inr, ◌↔◌}
use mathlib.Core.Bool.{Bool, not, cond}
use Prim.Native.Nat.{ℕ}
use lib.IntN.{ℤ}
use lib.Dec.{T, not_T, T_not}
use Rattle.program.specs.declared.Direction.{Direction}
use Rattle.program.specs.declared.Direction.TheVariants.{Rising, Falling, Mixed}
use Rattle.meaning.specs.Founded.{System, AtOrBefore, Before, GivenNoMore, Within, Model, Floor, Least}
use Rattle.meaning.specs.Unfounded.{over, Unfounded, short, Conditions}
use Rattle.meaning.proofs.Laws.{NoMore, Less, Laws, at_refl, at_trans, at_antisym, before_at, from_start, to_far_is, within_ends}
use Rattle.meaning.proofs.Lesser.{lesser, lesser_left, lesser_right, lesser_of, lesser_given}
use Rattle.program.specs.Readings.{Valuation}
use Rattle.program.proofs.Tests.{cases, is_true, and_both}
use Rattle.program.specs.Variables.{is_founded, start, far, not_past, started}
use Rattle.program.proofs.Variables.{past_trans, started_in, short_founded, short_before}

-- what holds of the valuation on the way from the starting ends to the least model
pub record Progress (𝒮 : System) (θ m : Valuation) : Type 0 where
  pub standard : (v : ℕ) → T (not (is_founded (𝒮.variable v))) → m v ≡ θ v
  pub within : Within 𝒮 m
  pub floor : Floor 𝒮 θ m

-- m is at or before m' at the founded variables, and all three lie in the ranges
pub record Earlier (𝒮 : System) (θ m m' : Valuation) : Type 0 where
  pub assigned : Within 𝒮 θ
  pub earlier : Within 𝒮 m
  pub later : Within 𝒮 m'
  pub under : (x : ℕ) → T (is_founded (𝒮.variable x)) → AtOrBefore 𝒮 x (m x) (m' x)

module _ {𝒮 : System} where
  open 𝒮 use {variable, Rule, In, head, gives}

  -- on the way, and every rule met: the end
  pub progress_done : {θ m : Valuation} → Progress 𝒮 θ m → ((r : Rule) → In r → GivenNoMore 𝒮 (head r) (gives r m θ) (m (head r))) → Least 𝒮 θ m
  progress_done p met = record { model = record { standard = p.standard; within = p.within; rules = met }; floor = p.floor }

  -- an assignment that lies in its ranges and meets every rule is a model of its own reduct
  pub self_model : {θ : Valuation} → Within 𝒮 θ → ((r : Rule) → In r → GivenNoMore 𝒮 (head r) (gives r θ θ) (θ (head r))) → Model 𝒮 θ θ
  self_model w met = record { standard = λ v n. refl; within = w; rules = met }

  pub least_unique : {θ m m' : Valuation} → Least 𝒮 θ m → Least 𝒮 θ m' → (v : ℕ) → m v ≡ m' v
  least_unique {θ} {m} {m'} l k v = at_antisym (l.floor.under m' k.model v) (k.floor.under m l.model v)

  -- standard variables as assigned, founded ones at their starting ends
  pub progress_start : {θ : Valuation} → Within 𝒮 θ → (m : Valuation) → ((v : ℕ) → m v ≡ started (variable v) (θ v)) → Progress 𝒮 θ m
  progress_start {θ} wθ m is = record {
    standard = λ v n. is v ∙ cases (is_founded (variable v)) (λ b. T (not b) → cond b (start (variable v)) (θ v) ≡ θ v) (λ t f. absurd f) (λ t f. refl) n;
    within = record { inside = λ v. rw (is v) (started_in (variable v) (θ v) (wθ.inside v)) };
    floor = record {
      under = λ m' k v. rw (is v) (cases (is_founded (variable v)) (λ b. AtOrBefore 𝒮 v (cond b (start (variable v)) (θ v)) (m' v)) (λ t. from_start k.within v)
          (λ n. rw (k.standard v n) (at_refl v (θ v))));
    };
  }

module _ {𝒮 : System} (L : Laws 𝒮) where
  open 𝒮 use {variable, Rule, In, head, occurs, gives}

  -- what gives no more asks no more
  pub no_more : (v : ℕ) (b : ℤ) (g h : Option ℤ) → NoMore 𝒮 v g h → GivenNoMore 𝒮 v h b → GivenNoMore 𝒮 v g b
  no_more v b None h n t = tt
  no_more v b (Some a) None n t = absurd n
  no_more v b (Some a) (Some c) n t = past_trans (variable v) a c b n.le t

  -- a rule gives no more in an earlier valuation
  pub lift : {θ m m' : Valuation} → Earlier 𝒮 θ m m' → (r : Rule) → In r → NoMore 𝒮 (head r) (gives r m θ) (gives r m' θ)
  lift {θ} {m} {m'} w r i = L.mono r i m θ m' θ w.earlier w.assigned w.later w.assigned (λ x d o. at x d)
    where
      at : (x : ℕ) (d : Direction) → Less 𝒮 x d m θ m' θ
      at x Rising = cases (is_founded (variable x)) (λ b. AtOrBefore 𝒮 x (cond b (m x) (θ x)) (cond b (m' x) (θ x))) (w.under x) (λ t. at_refl x (θ x))
      at x Falling = at_refl x (θ x)
      at x Mixed = refl

  -- so it is met by what meets it there
  pub met_before : {θ m m' : Valuation} → Earlier 𝒮 θ m m' → (r : Rule) → In r → (b : ℤ) → GivenNoMore 𝒮 (head r) (gives r m' θ) b → GivenNoMore 𝒮 (head r) (gives r m θ) b
  met_before {θ} {m} {m'} w r i b = no_more (head r) b (gives r m θ) (gives r m' θ) (lift w r i)

  -- ---- the steps by which the least model is found

  module _ {θ : Valuation} (wθ : Within 𝒮 θ) {m : Valuation} (p : Progress 𝒮 θ m) (r : Rule) (i : In r) where
    -- what a rule gives on the way, its head has in every model
    pub under_given : (m' : Valuation) → Model 𝒮 θ m' → GivenNoMore 𝒮 (head r) (gives r m θ) (m' (head r))
    under_given m' k = met_before (record { assigned = wθ; earlier = p.within; later = k.within; under = λ x t. p.floor.under m' k x }) r i (m' (head r)) (k.rules r i)

    -- a head is raised to what one of its rules gives, or to less
    pub progress_raise : T (is_founded (variable (head r))) → (g a : ℤ) → gives r m θ ≡ Some g → AtOrBefore 𝒮 (head r) a g
        → AtOrBefore 𝒮 (head r) (m (head r)) a → AtOrBefore 𝒮 (head r) a (far (variable (head r)))
        → (m⁺ : Valuation) → ((v : ℕ) → (m⁺ v ≡ m v) ⊎ ((head r ≡ v) × (m⁺ v ≡ a))) → Progress 𝒮 θ m⁺
    progress_raise f g a e le lo hi m⁺ is = record {
      standard = λ v n. same v n (is v);
      within = within_ends (λ v. from v (is v)) (λ v. to v (is v));
      floor = record { under = λ m' k v. under m' k v (is v) };
    }
      where
        same : (v : ℕ) → T (not (is_founded (variable v))) → (m⁺ v ≡ m v) ⊎ ((head r ≡ v) × (m⁺ v ≡ a)) → m⁺ v ≡ θ v
        same v n (inl q) = q ∙ p.standard v n
        same v n (inr q) = absurd (T_not (is_founded (variable v)) n (subst (λ w. T (is_founded (variable w))) q.0 f))

        from : (v : ℕ) → (m⁺ v ≡ m v) ⊎ ((head r ≡ v) × (m⁺ v ≡ a)) → AtOrBefore 𝒮 v (start (variable v)) (m⁺ v)
        from v (inl q) = rw q (from_start p.within v)
        from v (inr q) = rw (q.1, ← q.0) (at_trans (from_start p.within (head r)) lo)

        to : (v : ℕ) → (m⁺ v ≡ m v) ⊎ ((head r ≡ v) × (m⁺ v ≡ a)) → AtOrBefore 𝒮 v (m⁺ v) (far (variable v))
        to v (inl q) = rw q (to_far_is p.within v)
        to v (inr q) = rw (q.1, ← q.0) hi

        under : (m' : Valuation) → Model 𝒮 θ m' → (v : ℕ) → (m⁺ v ≡ m v) ⊎ ((head r ≡ v) × (m⁺ v ≡ a)) → AtOrBefore 𝒮 v (m⁺ v) (m' v)
        under m' k v (inl q) = rw q (p.floor.under m' k v)
        under m' k v (inr q) = rw (q.1, ← q.0) (at_trans le (record { le = rw e at (under_given m' k) }))

    -- a rule that asks for more than its head's far end leaves no model
    pub progress_over : (g : ℤ) → gives r m θ ≡ Some g → Before 𝒮 (head r) (far (variable (head r))) g → (m' : Valuation) → Model 𝒮 θ m' → ⊥
    progress_over g e s m' k =
        let b : AtOrBefore 𝒮 (head r) g (m' (head r)) = record { le = rw e at (under_given m' k) } in
        T_not (not_past (variable (head r)) g (far (variable (head r)))) s.lt (at_trans b (to_far_is k.within (head r))).le

  -- ---- unfounded sets, and the least model

  module _ {θ : Valuation} (self : Model 𝒮 θ θ) where
    -- θ with the bounds of an unfounded set put in is a model
    module _ {dom : ℕ → Bool} {bound : Valuation} (U : Unfounded 𝒮 θ dom bound) where
      replaced_before : (v : ℕ) → AtOrBefore 𝒮 v (over dom bound θ v) (θ v)
      replaced_before v = cases (dom v) (λ b. AtOrBefore 𝒮 v (cond b (bound v) (θ v)) (θ v)) (λ t. before_at (U.before v t)) (λ t. at_refl v (θ v))

      replaced_within : Within 𝒮 (over dom bound θ)
      replaced_within = within_ends
          (λ v. cases (dom v) (λ b. AtOrBefore 𝒮 v (start (variable v)) (cond b (bound v) (θ v))) (U.from_start v) (λ t. from_start self.within v))
          (λ v. at_trans (replaced_before v) (to_far_is self.within v))

      replaced : Model 𝒮 θ (over dom bound θ)
      replaced = record {
        standard = λ v n. cases (dom v) (λ b. cond b (bound v) (θ v) ≡ θ v) (λ t. absurd (T_not (is_founded (variable v)) n (U.are v t))) (λ t. refl);
        within = replaced_within;
        rules = λ r i. cases (dom (head r)) (λ b. GivenNoMore 𝒮 (head r) (gives r (over dom bound θ) θ) (cond b (bound (head r)) (θ (head r)))) (U.rules r i)
            (λ t. met_before (record { assigned = self.within; earlier = replaced_within; later = self.within; under = λ x f. replaced_before x }) r i (θ (head r))
            (self.rules r i));
      }

    module _ {M : Valuation} (least : Least 𝒮 θ M) where
      -- every unfounded set lies in the set of the short variables, with no smaller bounds
      pub inside_short : {dom : ℕ → Bool} {bound : Valuation} → Unfounded 𝒮 θ dom bound → (v : ℕ) → T (dom v) → T (short 𝒮 θ M v) × AtOrBefore 𝒮 v (M v) (bound v)
      inside_short {dom} {bound} U v t = (and_both (is_founded (variable v)) (not (not_past (variable v) (θ v) (M v))) (U.are v t) fall, under)
        where
          under : AtOrBefore 𝒮 v (M v) (bound v)
          under = subst (λ b. AtOrBefore 𝒮 v (M v) (cond b (bound v) (θ v))) (is_true (dom v) t) (least.floor.under (over dom bound θ) (replaced U) v)

          fall : T (not (not_past (variable v) (θ v) (M v)))
          fall = not_T (not_past (variable v) (θ v) (M v)) (λ h. T_not (not_past (variable v) (θ v) (bound v)) (U.before v t).lt (at_trans (record { le = h }) under).le)

      above : (v : ℕ) → T (not (short 𝒮 θ M v)) → AtOrBefore 𝒮 v (θ v) (M v)
      above v n = cases (not_past (variable v) (θ v) (M v)) (λ b. AtOrBefore 𝒮 v (θ v) (M v)) (λ h. record { le = h })
          (λ h. subst (λ a. AtOrBefore 𝒮 v (θ v) a) (sym (least.model.standard v (unfounded h))) (at_refl v (θ v)))
        where
          unfounded : T (not (not_past (variable v) (θ v) (M v))) → T (not (is_founded (variable v)))
          unfounded h = not_T (is_founded (variable v)) (λ f. T_not (short 𝒮 θ M v) n (and_both (is_founded (variable v)) (not (not_past (variable v) (θ v) (M v))) f h))

      -- off the short variables θ and M agree
      mixed_before : (v : ℕ) → AtOrBefore 𝒮 v (over (short 𝒮 θ M) M θ v) (M v)
      mixed_before v = cases (short 𝒮 θ M v) (λ b. AtOrBefore 𝒮 v (cond b (M v) (θ v)) (M v)) (λ t. at_refl v (M v)) (above v)

      mixed_within : Within 𝒮 (over (short 𝒮 θ M) M θ)
      mixed_within = within_ends
          (λ v. cases (short 𝒮 θ M v) (λ b. AtOrBefore 𝒮 v (start (variable v)) (cond b (M v) (θ v))) (λ t. from_start least.model.within v) (λ t. from_start self.within v))
          (λ v. at_trans (mixed_before v) (to_far_is least.model.within v))

      -- the short variables, with what the least model gives them, are an unfounded set where there are any
      pub short_unfounded : (v : ℕ) → T (short 𝒮 θ M v) → Unfounded 𝒮 θ (short 𝒮 θ M) M
      short_unfounded v t = record {
        some = (v, t);
        are = λ w. short_founded (variable w) (θ w) (M w);
        from_start = λ w s. from_start least.model.within w;
        before = λ w s. record { lt = short_before (variable w) (θ w) (M w) s };
        rules = λ r i s. met_before (record { assigned = self.within; earlier = mixed_within; later = least.model.within; under = λ x f. mixed_before x }) r i
            (M (head r)) (least.model.rules r i);
      }

      pub unfounded_iff_short : ((dom : ℕ → Bool) × (bound : Valuation) × Unfounded 𝒮 θ dom bound) ↔ ((v : ℕ) × T (short 𝒮 θ M v))
      unfounded_iff_short = (λ u. (u.2.some.0, (inside_short u.2 u.2.some.0 u.2.some.1).0), λ s. (short 𝒮 θ M, M, short_unfounded s.0 s.1))

      -- θ is the least model of its own reduct exactly where no variable is short
      pub self_least_iff : Least 𝒮 θ θ ↔ ((v : ℕ) → T (not (short 𝒮 θ M v)))
      self_least_iff = (
        λ s v. not_T (short 𝒮 θ M v) (λ t. T_not (not_past (variable v) (θ v) (M v)) (short_before (variable v) (θ v) (M v) t) (s.floor.under M least.model v).le),
        λ n. record { model = self; floor = record { under = λ m' k v. at_trans (above v (n v)) (least.floor.under m' k v) } },
      )

      -- ---- what the conditions say of another assignment that is the least model of its own reduct

      module _ {θ' : Valuation} (stable : Least 𝒮 θ' θ') (meets : Conditions 𝒮 θ (short 𝒮 θ M) θ') where
        -- the lesser of θ' and M at the short variables, θ' elsewhere, is a model of the reduct of θ'
        abbrev τ : Valuation
        τ = over (short 𝒮 θ M) (lesser 𝒮 θ' M) θ'

        τ-before : (v : ℕ) → AtOrBefore 𝒮 v (τ v) (θ' v)
        τ-before v = cases (short 𝒮 θ M v) (λ b. AtOrBefore 𝒮 v (cond b (lesser 𝒮 θ' M v) (θ' v)) (θ' v)) (λ t. lesser_left 𝒮 θ' M v)
            (λ t. at_refl v (θ' v))

        τ-within : Within 𝒮 τ
        τ-within = within_ends
            (λ v. cases (short 𝒮 θ M v) (λ b. AtOrBefore 𝒮 v (start (variable v)) (cond b (lesser 𝒮 θ' M v) (θ' v)))
            (λ t. lesser_of 𝒮 θ' M v (start (variable v)) (from_start stable.model.within v) (from_start least.model.within v))
            (λ t. from_start stable.model.within v))
            (λ v. at_trans (τ-before v) (to_far_is stable.model.within v))

        τ-less : (r : Rule) → In r → T (short 𝒮 θ M (head r)) → (x : ℕ) (d : Direction) → occurs r x d → Less 𝒮 x d τ θ' M θ
        τ-less r i s x Rising o = cases (is_founded (variable x)) (λ b. AtOrBefore 𝒮 x (cond b (τ x) (θ' x)) (cond b (M x) (θ x)))
            (λ f. cases (short 𝒮 θ M x) (λ b. AtOrBefore 𝒮 x (cond b (lesser 𝒮 θ' M x) (θ' x)) (M x)) (λ t. lesser_right 𝒮 θ' M x)
            (λ n. at_trans (meets r i s x Rising o n) (above x n)))
            (λ n. meets r i s x Rising o (not_T (short 𝒮 θ M x) (λ t. T_not (is_founded (variable x)) n (short_founded (variable x) (θ x) (M x) t))))
        τ-less r i s x Falling o = meets r i s x Falling o
        τ-less r i s x Mixed o = at_antisym (meets r i s x Mixed o).0 (meets r i s x Mixed o).1

        τ-model : Model 𝒮 θ' τ
        τ-model = record {
          standard = λ v n. cases (short 𝒮 θ M v) (λ b. cond b (lesser 𝒮 θ' M v) (θ' v) ≡ θ' v)
              (λ t. absurd (T_not (is_founded (variable v)) n (short_founded (variable v) (θ v) (M v) t))) (λ t. refl);
          within = τ-within;
          rules = λ r i. cases (short 𝒮 θ M (head r)) (λ b. GivenNoMore 𝒮 (head r) (gives r τ θ') (cond b (lesser 𝒮 θ' M (head r)) (θ' (head r))))
              (λ s. lesser_given 𝒮 θ' M (head r) (gives r τ θ') (left r i) (right r i s)) (λ n. left r i);
        }
          where
            left : (r : Rule) → In r → GivenNoMore 𝒮 (head r) (gives r τ θ') (θ' (head r))
            left r i = met_before (record { assigned = stable.model.within; earlier = τ-within; later = stable.model.within; under = λ x f. τ-before x }) r i
                (θ' (head r)) (stable.model.rules r i)

            right : (r : Rule) → In r → T (short 𝒮 θ M (head r)) → GivenNoMore 𝒮 (head r) (gives r τ θ') (M (head r))
            right r i s = no_more (head r) (M (head r)) (gives r τ θ') (gives r M θ)
                (L.mono r i τ θ' M θ τ-within stable.model.within least.model.within self.within (τ-less r i s)) (least.model.rules r i)

        -- it is at or before the bounds in the set
        pub bounded : (v : ℕ) → T (short 𝒮 θ M v) → AtOrBefore 𝒮 v (θ' v) (M v)
        bounded v t =
            let b = stable.floor.under τ τ-model v in
            at_trans (subst (λ b. AtOrBefore 𝒮 v (θ' v) (cond b (lesser 𝒮 θ' M v) (θ' v))) (is_true (short 𝒮 θ M v) t) b) (lesser_right 𝒮 θ' M v)
