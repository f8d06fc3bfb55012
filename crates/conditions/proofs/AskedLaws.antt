-- What the rules of an accepted file ask: each stands at its place, and is the program's.
use Prim.Native.Nat.{ℕ, ◌<◌}
use mathlib.Core.Path.{◌≡◌, sym, ap, ap₂, ◌∙◌}
use mathlib.Core.Bool.{Bool, false, ◌||◌, ◌&&◌}
use mathlib.Core.List.{List}
use native.Mathlib.Omega.{arith}
use lib.ListN.{length}
use Rattle.program.specs.Tables.{any_below}
use Rattle.program.specs.Fields.{value_at}
use Rattle.program.specs.Program.{Program, Rule, rule_of, rule_in, variables_at}
use Rattle.program.specs.Reading.{AcceptedAs, Accepts}
use Rattle.program.specs.declared.Counts.{Counts}
use Rattle.program.specs.declared.Variable.{Variable}
use Rattle.program.specs.declared.Direction.{Direction}
use Rattle.program.proofs.Conditions.{any_same}
use Rattle.reader.specs.Parts.{rule_place}
use Rattle.reader.proofs.Published.{counts_of_is, variables_are, rule_lies}
use Rattle.report.specs.Report.{asked_by, asked}
use Rattle.conditions.specs.Asking.{asked_into}

module _ (s : List ℕ) (k : Counts) (r : AcceptedAs s k) (set : ℕ → Bool) (asks : Direction → Bool → Bool) (P : Program) (x : Accepts s P) where
  -- what the rule in field i asks
  abbrev field_asks : ℕ → ℕ → Bool
  field_asks v i = asked_into (variables_at s k.variables) set (rule_of (value_at s (rule_place s P i))) asks v

  module _ (v : ℕ) where
    -- what the program's rule asks
    abbrev rule_asks : ℕ → Bool
    rule_asks i = set (rule_in P.rules i).head && asked_by P.variables set asks (rule_in P.rules i) v

    same_rule : (i : ℕ) → i < k.rules → field_asks v i ≡ rule_asks i
    unfolding asked_into
    same_rule i h =
        let m : i < length P.rules = omega (arith, (counts_of_is r x).rules_are) in
        ap₂ (λ (vs : List Variable) (q : Rule). set q.head && asked_by vs set asks q v) (sym (variables_are r x)) (sym (rule_lies x i m).is)

    pub asked_all : {i : ℕ} {none all : ℕ → Bool} → i ≡ k.rules → ((u : ℕ) → none u ≡ false)
        → ((u : ℕ) → all u ≡ (none u || any_below i (field_asks u))) → all v ≡ asked P set asks v
    unfolding asked
    asked_all e z h =
        h v ∙ ap₂ (λ (b : Bool) (n : ℕ). b || any_below n (field_asks v)) (z v) e
        ∙ any_same k.rules (field_asks v) rule_asks same_rule ∙ ap (λ (n : ℕ). any_below n rule_asks) (sym (counts_of_is r x).rules_are)
