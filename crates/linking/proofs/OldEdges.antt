-- The rules of the plain part, as the code finds them there, are the first rules of the plain file: the same edges, mixed positions and offences.
use Prim.Native.Nat.{ℕ, ◌<◌}
use mathlib.Core.Path.{◌≡◌, sym, ap, ap₂, ◌∙◌}
use mathlib.Core.List.{List}
use mathlib.Core.Bool.{Bool, not, ◌||◌, ◌&&◌}
use native.Mathlib.Omega.{arith}
use lib.Dec.{eqb}
use lib.ListN.{length, take}
use Rattle.program.specs.Program.{Program, Rule, rule_in, term_in, variables_at}
use Rattle.program.specs.Directions.{is_mixed}
use Rattle.program.specs.Readings.{body_variable}
use Rattle.program.specs.declared.Counts.{Counts}
use Rattle.program.specs.declared.Direction.{Direction}
use Rattle.program.specs.declared.Variable.{Variable}
use Rattle.program.proofs.Conditions.{any_same}
use Rattle.sharing.specs.Sharing.{share_in}
use Rattle.edges.specs.Edges.{any_mixed, draws_at, draws_in, offends_at, offends_in}
use Rattle.validity.specs.Marks.{draws_by, offends_by, rule_at}
use Rattle.validity.proofs.RuleLaws.{rule_is}
use Rattle.nested.specs.Nested.{Nested, nested}
use Rattle.nested.specs.Flatten.{flatten}
use Rattle.nested.proofs.FlatProper.{more_rules}
use Rattle.nested.proofs.OldRules.{OldRule, old_rule}
use Rattle.linking.specs.Judging.{Settled}
use Rattle.linking.proofs.Settling.{nested_fine, plain_is}

-- ---- an old rule with the old variables, and with all

module _ {N : Nested} {i : ℕ} (o : OldRule N i) where
  abbrev r : Rule
  r = rule_in N.plain.rules i

  mixed_old : any_mixed (flatten N).variables r ≡ any_mixed N.plain.variables r
  unfolding any_mixed
  mixed_old = any_same (length r.terms) _ _ (λ j l. ap is_mixed (o.directions j))

  draws_old : (x y : ℕ) → draws_by (flatten N).variables r x y ≡ draws_by N.plain.variables r x y
  unfolding draws_in draws_at
  draws_old x y =
      ap₂ (λ (a b : Bool). not a && b) o.tests
      (any_same (length r.terms) _ _ (λ j l.
      ap₂ (λ (a : Bool) (d : Direction). eqb r.head x && (eqb (body_variable r j) y && (a || is_mixed d))) (o.keeps j) (o.directions j)))

  offends_old : (t : ℕ → ℕ → Bool) → offends_by t (flatten N).variables r ≡ offends_by t N.plain.variables r
  unfolding offends_in offends_at
  offends_old t =
      ap₂ (λ (a b : Bool). a && not b)
      (any_same (length r.terms) _ _ (λ j l. ap (λ (d : Direction). is_mixed d && share_in t r.head (term_in r.terms j).variable) (o.directions j)))
      o.tests

-- ---- as it stands in the plain part

module _ {s : List ℕ} {counts : Counts} {from variables : ℕ} {records : List ℕ} (k : Settled s counts from variables records) where
  abbrev N : Nested
  N = nested s k.fields

  pub old_many : length N.plain.rules ≡ counts.rules
  old_many = ap (λ (P : Program). length P.rules) (plain_is k) ∙ k.plain.counted.describes.rules_are

  module _ (i : ℕ) (l : i < counts.rules) where
    old : OldRule N i
    old = old_rule (nested_fine k) i (omega (arith, old_many))

    pub old_among : i < length (flatten N).rules
    old_among = omega (arith, old_many, more_rules N)

    -- whatever is asked of it
    old_as : (f : List Variable → Rule → Bool) → f (flatten N).variables (rule_in N.plain.rules i) ≡ f N.plain.variables (rule_in N.plain.rules i)
        → f (variables_at (take from s) counts.variables) (rule_at (take from s) counts.variables i) ≡ f (flatten N).variables (rule_in (flatten N).rules i)
    old_as f e =
        let c = k.plain.counted in
        let vs = ap (λ (P : Program). P.variables) (plain_is k) ∙ c.describes.variables_are in
        let rs = ap (λ (P : Program). rule_in P.rules i) (plain_is k) ∙ rule_is c i l in
        sym (ap (f (flatten N).variables) old.same ∙ e ∙ ap₂ f vs rs)

    pub old_mixed : any_mixed (variables_at (take from s) counts.variables) (rule_at (take from s) counts.variables i)
        ≡ any_mixed (flatten N).variables (rule_in (flatten N).rules i)
    old_mixed = old_as any_mixed (mixed_old old)

    pub old_draws : (x y : ℕ) → draws_by (variables_at (take from s) counts.variables) (rule_at (take from s) counts.variables i) x y
        ≡ draws_by (flatten N).variables (rule_in N.plain.rules i) x y
    old_draws x y = old_as (λ vs q. draws_by vs q x y) (draws_old old x y) ∙ ap (λ (q : Rule). draws_by (flatten N).variables q x y) old.same

    pub old_offence : (t : ℕ → ℕ → Bool) → offends_by t (variables_at (take from s) counts.variables) (rule_at (take from s) counts.variables i)
        ≡ offends_by t (flatten N).variables (rule_in (flatten N).rules i)
    old_offence t = old_as (offends_by t) (offends_old old t)
