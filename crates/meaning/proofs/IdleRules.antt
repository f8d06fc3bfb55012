-- An idle rule says nothing of an assignment in its ranges: every valuation in the ranges meets it in the reduct. So leaving idle rules out leaves the models,
-- the least one, that there is none, and whether the assignment is stable. The conditions of a report may differ.
use Prim.Native.Nat.{ℕ, zero, suc, ◌<◌}
use mathlib.Core.Path.{◌≡◌, refl, subst}
use mathlib.Core.Logic.{◌⊎◌, inl, inr, ◌↔◌}
use mathlib.Core.Bool.{Bool, true, false, cond}
use mathlib.Core.List.{List, [], ◌∷◌}
use native.Mathlib.Omega.{arith}
use lib.Dec.{T}
use lib.ListN.{length}
use Rattle.program.specs.Program.{Program, Rule, variable_in, rule_in}
use Rattle.program.specs.Variables.{start, no_more}
use Rattle.program.specs.Readings.{Valuation, body_variable, kept, reading, gives}
use Rattle.program.specs.Evaluate.{evaluate}
use Rattle.program.specs.Idle.{Idle, is_idle}
use Rattle.program.specs.declared.Variable.{Variable}
use Rattle.program.proofs.Promises.{RulePromise, Promises}
use Rattle.program.proofs.Tests.{is_test}
use Rattle.program.proofs.Variables.{no_more_past, start_first}
use Rattle.program.proofs.IdleRules.{idle_reading, idle_told, idle_test}
use Rattle.meaning.specs.Founded.{GivenNoMore, Within, Model, Least}
use Rattle.meaning.specs.Reduct.{system}
use Rattle.meaning.specs.Stable.{Stable}
use Rattle.meaning.specs.LeftOut.{with_rules, Among, LeftOut, acting}
use Rattle.meaning.proofs.Monotone.{read_between}
use Rattle.meaning.proofs.SameModels.{least_over}

module _ {P : Program} (promises : Promises P) where
  -- for every assignment θ in its ranges an idle rule is met, in its reduct, by every valuation m in the ranges
  pub idle_met : {r : Rule} → RulePromise P.variables r → Idle P r → {m θ : Valuation} → Within (system P) m → Within (system P) θ
      → GivenNoMore (system P) r.head (gives P.variables r m θ) (m r.head)
  unfolding gives
  idle_met {r} p q {m} {θ} wm wθ =
      let x = variable_in P.variables r.head in
      no_more_past x (evaluate r (reading P.variables r m θ)) (start x) (m r.head) (start_first x (m r.head) (wm.inside r.head))
      (idle_reading promises p (idle_test promises p q) (reading P.variables r m θ)
      (λ i l. read_between P wm wθ (kept P.variables r i) (body_variable r i)))

  module _ {rs : List Rule} (left : LeftOut P rs) where
    -- what rule r asks of m
    abbrev pub Asked : Valuation → Valuation → Rule → Type 0
    Asked θ m r = T (no_more (variable_in P.variables r.head) (gives P.variables r m θ) (m r.head))

    pub all_left : (θ m : Valuation) → ((i : ℕ) → i < length P.rules → Asked θ m (rule_in P.rules i)) → (j : ℕ) → j < length rs → Asked θ m (rule_in rs j)
    all_left θ m h j l = let o = left.only j l in subst (Asked θ m) o.is (h o.number o.inside)

    pub all_back : {θ m : Valuation} → Within (system P) m → Within (system P) θ → ((j : ℕ) → j < length rs → Asked θ m (rule_in rs j))
        → (i : ℕ) → i < length P.rules → Asked θ m (rule_in P.rules i)
    all_back {θ} {m} wm wθ h i l = go (left.rest i l)
      where
        go : Idle P (rule_in P.rules i) ⊎ Among (rule_in P.rules i) rs → Asked θ m (rule_in P.rules i)
        go (inl q) = idle_met (promises.rules i l) q wm wθ
        go (inr o) = subst (Asked θ m) o.is (h o.number o.inside)

    module _ {θ : Valuation} (w : Within (system P) θ) where
      model_left : {m : Valuation} → Model (system P) θ m → Model (system (with_rules P rs)) θ m
      model_left {m} d = record { standard = d.standard; within = record { inside = d.within.inside }; rules = all_left θ m d.rules }

      model_back : {m : Valuation} → Model (system (with_rules P rs)) θ m → Model (system P) θ m
      model_back {m} d =
          let wm : Within (system P) m = record { inside = d.within.inside } in
          record { standard = d.standard; within = wm; rules = all_back wm w d.rules }

      -- so they have the same models, and the same least one
      pub models_left : (m : Valuation) → Model (system P) θ m ↔ Model (system (with_rules P rs)) θ m
      models_left m = (model_left, model_back)

      pub least_left : {m : Valuation} → Least (system P) θ m → Least (system (with_rules P rs)) θ m
      least_left = least_over P (with_rules P rs) refl models_left

      pub least_back : {m : Valuation} → Least (system (with_rules P rs)) θ m → Least (system P) θ m
      least_back = least_over (with_rules P rs) P refl (λ m. (model_back, model_left))

    -- and the stable assignments
    pub stable_left : {θ : Valuation} → Stable P θ → Stable (with_rules P rs) θ
    stable_left {θ} s =
        let w = s.meets.ranges in
        record {
          meets = record { ranges = record { inside = w.inside }; rules = all_left θ θ s.meets.rules; constraints = s.meets.constraints };
          least = least_left w s.least;
        }

    pub stable_back : {θ : Valuation} → Stable (with_rules P rs) θ → Stable P θ
    stable_back {θ} s =
        let w : Within (system P) θ = record { inside = s.meets.ranges.inside } in
        record { meets = record { ranges = w; rules = all_back w w s.meets.rules; constraints = s.meets.constraints }; least = least_back w s.least }

-- ---- all idle rules, by the test

among_more : {r s : Rule} {rs : List Rule} → Among r rs → Among r (s ∷ rs)
among_more a = record { number = suc a.number; inside = omega (arith, a.inside); is = a.is }

among_first : {r : Rule} {rs : List Rule} → Among r (r ∷ rs)
among_first = record { number = 0; inside = omega arith; is = refl }

module _ (vs : List Variable) where
  pub acting_only : (rs : List Rule) (j : ℕ) → j < length (acting vs rs) → Among (rule_in (acting vs rs) j) rs
  unfolding acting
  acting_only [] j l = absurd (omega arith)
  acting_only (r ∷ rs) j l = go (acting_only rs) (is_idle vs r) j l
    where
      go : ((j : ℕ) → j < length (acting vs rs) → Among (rule_in (acting vs rs) j) rs)
          → (b : Bool) (j : ℕ) → j < length (cond b (acting vs rs) (r ∷ acting vs rs)) → Among (rule_in (cond b (acting vs rs) (r ∷ acting vs rs)) j) (r ∷ rs)
      go later true j l = among_more (later j l)
      go later false zero l = among_first
      go later false (suc j) l = among_more (later j (omega arith))

  acting_rest : (rs : List Rule) (i : ℕ) → i < length rs → (is_idle vs (rule_in rs i) ≡ true) ⊎ Among (rule_in rs i) (acting vs rs)
  unfolding acting
  acting_rest [] i l = absurd (omega arith)
  acting_rest (r ∷ rs) zero l = go (is_idle vs r) refl
    where
      go : (b : Bool) → is_idle vs r ≡ b → (is_idle vs r ≡ true) ⊎ Among r (cond b (acting vs rs) (r ∷ acting vs rs))
      go true e = inl e
      go false e = inr among_first
  acting_rest (r ∷ rs) (suc i) l = go (is_idle vs r) (acting_rest rs i (omega arith))
    where
      go : (b : Bool) → (is_idle vs (rule_in rs i) ≡ true) ⊎ Among (rule_in rs i) (acting vs rs)
          → (is_idle vs (rule_in rs i) ≡ true) ⊎ Among (rule_in rs i) (cond b (acting vs rs) (r ∷ acting vs rs))
      go b (inl e) = inl e
      go true (inr a) = inr a
      go false (inr a) = inr (among_more a)

-- the rules that the test does not call idle are such rules
pub acting_left : {P : Program} → Promises P → LeftOut P (acting P.variables P.rules)
acting_left {P} promises = record { only = acting_only P.variables P.rules; rest = λ i l. go i l (acting_rest P.variables P.rules i l) }
  where
    go : (i : ℕ) → i < length P.rules → (is_idle P.variables (rule_in P.rules i) ≡ true) ⊎ Among (rule_in P.rules i) (acting P.variables P.rules)
        → Idle P (rule_in P.rules i) ⊎ Among (rule_in P.rules i) (acting P.variables P.rules)
    go i l (inl e) = inl (idle_told promises (promises.rules i l) (is_test e))
    go i l (inr a) = inr a
