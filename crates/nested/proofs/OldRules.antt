-- The rules of the file stand first in the plain program, and they alone can offend there: a node's rule has no mixed position.
use Prim.Native.Nat.{ℕ, ◌+◌, ◌-◌, ◌<◌, ◌≤◌}
use mathlib.Core.Path.{◌≡◌, refl, sym, ap, ◌∙◌, subst}
use mathlib.Core.Logic.{◌↔◌}
use mathlib.Core.Bool.{Bool, true, false}
use mathlib.Core.List.{◌++◌}
use native.Mathlib.Omega.{arith}
use lib.Dec.{ltb}
use lib.ListN.{length, length-append, get_or-append}
use lib.Seq.{get_or-append-add}
use borrow.Author.Tests.{ltb-true, ltb-false}
use Rattle.program.specs.Program.{Rule, rule, rule_in, no_rule}
use Rattle.program.specs.Refusals.{item_refusal}
use Rattle.program.specs.Components.{Offends}
use Rattle.program.specs.Directions.{direction}
use Rattle.program.specs.Readings.{kept}
use Rattle.program.specs.Idle.{Idle, is_idle}
use Rattle.program.proofs.Conditions.{never}
use Rattle.program.proofs.Forms.{read_as_itself}
use Rattle.program.proofs.Promises.{rule_promised}
use Rattle.program.proofs.IdleRules.{only_sizes_mixed}
use Rattle.nested.specs.Nested.{Nested}
use Rattle.nested.specs.Flatten.{added_variables, added_rules, flatten}
use Rattle.nested.proofs.FineNested.{FineNested}
use Rattle.nested.proofs.Alongs.{all_at}
use Rattle.nested.proofs.MoreVariables.{Declared, promised_declared, same_direction, same_kept, same_test, same_idle}
use Rattle.nested.proofs.TreeRules.{FineNode}
use Rattle.nested.proofs.FlatProper.{flatten_promises, fine_nodes}

-- a rule of the file, in the plain program
pub record OldRule (N : Nested) (i : ℕ) : Type 0 where
  pub same : rule_in (flatten N).rules i ≡ rule_in N.plain.rules i
  pub directions : (at : ℕ) → direction (flatten N).variables (rule_in N.plain.rules i) at ≡ direction N.plain.variables (rule_in N.plain.rules i) at
  pub keeps : (at : ℕ) → kept (flatten N).variables (rule_in N.plain.rules i) at ≡ kept N.plain.variables (rule_in N.plain.rules i) at
  pub tests : is_idle (flatten N).variables (rule_in N.plain.rules i) ≡ is_idle N.plain.variables (rule_in N.plain.rules i)
  pub idles : Idle (flatten N) (rule_in N.plain.rules i) ↔ Idle N.plain (rule_in N.plain.rules i)

-- the rule of this number is the file's own
same_rule : (N : Nested) (i : ℕ) → i < length N.plain.rules → rule_in (flatten N).rules i ≡ rule_in N.plain.rules i
unfolding flatten
same_rule N i h = get_or-append N.plain.rules (added_rules (length N.plain.variables) N.trees) no_rule i h

module _ {N : Nested} (f : FineNested N) where
  -- and names the file's own variables
  old_declared : (i : ℕ) → i < length N.plain.rules → Declared N.plain.variables (rule_in N.plain.rules i)
  old_declared i h =
      let vs = N.plain.variables in
      promised_declared (rule_promised vs _ (all_at (λ r. item_refusal vs (rule r) ≡ 0) no_rule N.plain.rules f.fine_rules i h))

  -- so it pushes, keeps and is idle there as in the file
  pub old_rule : (i : ℕ) → i < length N.plain.rules → OldRule N i
  unfolding flatten
  old_rule i h =
      let vs = N.plain.variables in
      let added = added_variables vs N.trees in
      let d = old_declared i h in
      record {
        same = same_rule N i h;
        directions = same_direction vs added d;
        keeps = same_kept vs added d;
        tests = same_test vs added d;
        idles = same_idle N.plain (flatten N) added refl d;
      }

  -- a rule after them is a node's
  added_node : (i : ℕ) → length N.plain.rules ≤ i → i < length (flatten N).rules → (rule_in (flatten N).rules i).form ≤ 3
  unfolding flatten
  added_node i h l =
      let vs = N.plain.variables in
      let rs = N.plain.rules in
      let added = added_rules (length vs) N.trees in
      let j = i - length rs in
      let e : i ≡ length rs + j = omega arith in
      let in-added : j < length added = omega (arith, length-append rs added) in
      let same = ap (λ (n : ℕ). rule_in (rs ++ added) n) e ∙ get_or-append-add rs added j no_rule in
      subst (λ (r : Rule). r.form ≤ 3) (sym same) (all_at (FineNode (vs ++ added_variables vs N.trees)) no_rule added (fine_nodes f) j in-added).form

  pub old_offends : {i : ℕ} → Offends (flatten N) i → i < length N.plain.rules
  old_offends {i} o = go (ltb i (length N.plain.rules)) refl
    where
      go : (t : Bool) → ltb i (length N.plain.rules) ≡ t → i < length N.plain.rules
      go true e = ltb-true i (length N.plain.rules) e
      go false e =
          let r = rule_in (flatten N).rules i in
          let form = added_node i (ltb-false i (length N.plain.rules) e) o.among in
          let read_as = read_as_itself r.form (λ q. omega arith) in
          absurd (never o.pushes (only_sizes_mixed ((flatten_promises f).rules i o.among) (λ q. omega arith) o.at o.inside))
