-- Alike programs: the same models, least model and stable assignments, and the same report.
use Prim.Native.Nat.{ℕ, ◌<◌}
use mathlib.Core.Path.{◌≡◌, ap, ap₂, ◌∙◌}
use mathlib.Core.Logic.{◌↔◌}
use mathlib.Core.Bool.{Bool, ◌&&◌}
use mathlib.Core.List.{List}
use lib.Dec.{eqb}
use lib.ListN.{length}
use Rattle.program.specs.Program.{Program, Rule, rule_in}
use Rattle.program.specs.Readings.{Valuation, kept, gives}
use Rattle.program.specs.declared.Direction.{Direction}
use Rattle.program.specs.declared.Variable.{Variable}
use Rattle.meaning.specs.Founded.{GivenNoMore, Model}
use Rattle.meaning.specs.Reduct.{system}
use Rattle.meaning.specs.Stable.{ConstraintsMet, Meets, Stable}
use Rattle.meaning.proofs.SameModels.{within_over, least_over}
use Rattle.report.specs.Report.{ascending, conditions_of, asks_most, asks_least, asked_at, asked_by, asked, shown, bounds, conditions}
use Rattle.normal.proofs.Alike.{AlikeRule, AlikePrograms}
use Rattle.normal.proofs.AlikeValid.{alike_back, alike_over, keeps, same_positions, same_rules}

-- what rule i asks of m in the reduct of θ
abbrev Asks : Program → Valuation → Valuation → ℕ → Type 0
Asks P θ m i = let r = rule_in P.rules i in GivenNoMore (system P) r.head (gives P.variables r m θ) (m r.head)

-- ---- from the one to the other

module _ {P Q : Program} (a : AlikePrograms P Q) where
  pub rules-over : (θ m : Valuation) → ((i : ℕ) → i < length P.rules → Asks P θ m i) → (j : ℕ) → j < length Q.rules → Asks Q θ m j
  rules-over θ m h j l = let f = a.rules_back j l in rw (a.variables, f.2.head, f.2.given m θ) (h f.0 f.1)

  pub constraints-over : (θ : Valuation) → ConstraintsMet P θ → ConstraintsMet Q θ
  constraints-over θ h j l = let f = a.constraints_back j l in f.2.asks θ ∙ h f.0 f.1

  model-over : {θ m : Valuation} → Model (system P) θ m → Model (system Q) θ m
  model-over {θ} {m} d = record {
    standard = rw a.variables d.standard;
    within = within_over P Q a.variables d.within;
    rules = rules-over θ m d.rules;
  }

  pub meets-over : {θ : Valuation} → Meets P θ → Meets Q θ
  meets-over {θ} t = record {
    ranges = within_over P Q a.variables t.ranges;
    rules = rules-over θ θ t.rules;
    constraints = constraints-over θ t.constraints;
  }

-- ---- the meaning

pub models-alike : {P Q : Program} → AlikePrograms P Q → (θ m : Valuation) → Model (system P) θ m ↔ Model (system Q) θ m
models-alike a θ m = (model-over a, model-over (alike_back a))

stable-over : {P Q : Program} → AlikePrograms P Q → {θ : Valuation} → Stable P θ → Stable Q θ
stable-over {P} {Q} a {θ} t = record { meets = meets-over a t.meets; least = least_over P Q a.variables (models-alike a θ) t.least }

pub stable-alike : {P Q : Program} → AlikePrograms P Q → (θ : Valuation) → Stable P θ ↔ Stable Q θ
stable-alike a θ = (stable-over a, stable-over (alike_back a))

-- ---- the report

module _ (set : ℕ → Bool) (asks : Direction → Bool → Bool) (v : ℕ) where
  by_alike : {vs : List Variable} {r q : Rule} → AlikeRule vs r q → asked_by vs set asks q v ≡ asked_by vs set asks r v
  unfolding asked_by asked_at kept
  by_alike {vs} f = same_positions f (λ x d. asks d (keeps vs x d && set x) && eqb x v)

  asked-alike : {P Q : Program} → AlikePrograms P Q → asked Q set asks v ≡ asked P set asks v
  unfolding asked
  asked-alike {P} a =
      rw a.variables (same_rules a (λ r. set r.head && asked_by P.variables set asks r v) (λ r q f. ap₂ ◌&&◌ (ap set f.head) (by_alike f)))

module _ {P Q : Program} (a : AlikePrograms P Q) (θ m : Valuation) where
  pub bounds_alike : bounds Q θ m ≡ bounds P θ m
  bounds_alike = rw a.variables

  pub conditions-alike : conditions Q θ m ≡ conditions P θ m
  conditions-alike =
      rw a.variables
      (ap₂ (λ most least. ascending (conditions_of most least θ) (length P.variables))
      (λ i v. asked-alike (shown P θ m) asks_most v (alike_over a) i) (λ i v. asked-alike (shown P θ m) asks_least v (alike_over a) i))
