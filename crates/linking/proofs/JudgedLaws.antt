-- The rows after all edges are marked and closed say which variables of the plain file share a component, and so which old rule offends first.
use Rattle.std.specs.Prelude.{Option, Some, None}
use Prim.Native.Nat.{ℕ, ◌+◌, ◌<◌, ◌≤◌}
use mathlib.Core.Path.{◌≡◌, sym, ap, ap₂, ◌∙◌, subst}
use mathlib.Core.List.{List}
use mathlib.Core.Bool.{Bool, false, ◌||◌}
use native.Mathlib.Decide.{dec_lt}
use native.Mathlib.Omega.{arith}
use lib.ListN.{length, take}
use Rattle.format.specs.Limits.{max_variables}
use Rattle.walks.specs.Walk.{edges, AfterLast, Rounds}
use Rattle.program.specs.Tables.{any_below}
use Rattle.program.specs.Fields.{next_at, place}
use Rattle.program.specs.Program.{Program, rule_in, program, variables_at}
use Rattle.program.specs.Components as components
use Rattle.program.specs.Components.{edge, Offends}
use Rattle.program.specs.Reading.{RuleField}
use Rattle.program.specs.declared.Counts.{Counts}
use Rattle.program.specs.declared.Variable.{Variable}
use Rattle.program.proofs.Conditions.{never, none_below, any_same}
use Rattle.reach.specs.Rows.{row_has}
use Rattle.edges.specs.Edges.{Grown, any_mixed}
use Rattle.validity.specs.Marks.{draws_by, mixed_rule, edge_in, JudgedBy}
use Rattle.validity.proofs.ComponentLaws.{Tells, draws_positions, last_tells, test_offends, offends_test}
use Rattle.nested.specs.Nested.{trees, nested}
use Rattle.nested.specs.Flatten.{added_rules, flatten}
use Rattle.nested.specs.NestedReading.{NestedWhole}
use Rattle.nested.proofs.NestedReads.{whole_unique, rule_place_is, rule_found}
use Rattle.nested.proofs.OldRules.{old_offends}
use Rattle.nested.proofs.PassedFine.{standing}
use Rattle.plainpart.proofs.Prefix.{place_ascends, places_same}
use Rattle.linking.specs.Judging.{Settled, JudgesNested}
use Rattle.linking.specs.Drawing.{drawn_by, TreesMarked}
use Rattle.linking.proofs.Drawn.{drawn_append}
use Rattle.linking.proofs.Settling.{nested_fine, plain_promises, tree_stands, plain_many, variables_read, few}
use Rattle.linking.proofs.OldEdges.{old_many, old_among, old_mixed, old_draws, old_offence}

-- the edges of a program are those of its rules
edge_drawn : (P : Program) (x y : ℕ) → edge P x y ≡ drawn_by P.variables P.rules x y
unfolding edge drawn_by
edge_drawn P x y = any_same (length P.rules) _ _ (λ i l. draws_positions P (rule_in P.rules i) x y)

module _ {s : List ℕ} {counts : Counts} {from variables : ℕ} {records : List ℕ} (k : Settled s counts from variables records) where
  abbrev P : Program
  P = flatten (nested s k.fields)

  abbrev part : List ℕ
  part = take from s

  -- ---- the edges

  old_edges : (x y : ℕ) → drawn_by P.variables (program s k.fields).rules x y ≡ edge_in part counts x y
  unfolding drawn_by edge_in
  old_edges x y =
      ap (λ (n : ℕ). any_below n (λ i. draws_by P.variables (rule_in (program s k.fields).rules i) x y)) (old_many k)
      ∙ any_same counts.rules _ _ (λ i l. sym (old_draws k i l x y))

  new_edges : (x y : ℕ) → drawn_by P.variables (added_rules (length (program s k.fields).variables) (trees s k.fields)) x y
      ≡ drawn_by (variables_at records variables) (added_rules counts.variables (trees s k.fields)) x y
  new_edges x y = ap₂ (λ (vs : List Variable) (n : ℕ). drawn_by vs (added_rules n (trees s k.fields)) x y) (sym (variables_read k)) (plain_many k)

  edge_parts : (x y : ℕ) → edge P x y ≡ (edge_in part counts x y || drawn_by (variables_at records variables) (added_rules counts.variables (trees s k.fields)) x y)
  unfolding flatten
  edge_parts x y =
      edge_drawn P x y
      ∙ drawn_append P.variables (program s k.fields).rules (added_rules (length (program s k.fields).variables) (trees s k.fields)) x y
      ∙ ap₂ ◌||◌ (old_edges x y) (new_edges x y)

  -- no row has anything, then the edges of the old rules and those of the trees are marked
  marked : {t : ℕ → ℕ → Bool} {w w' : List ℕ} → ((a b : ℕ) → t a b ≡ false) → Grown t (row_has w) (edge_in part counts)
      → TreesMarked s counts.variables (variables_at records variables) w w' → (a b : ℕ) → a < max_variables → b < max_variables → row_has w' a b ≡ edge P a b
  marked z g m a b ha hb =
      (m.is k.fields k.whole).is a b ha hb
      ∙ ap (λ (x : Bool). x || drawn_by (variables_at records variables) (added_rules counts.variables (trees s k.fields)) a b)
      (g.is a b ha hb ∙ ap (λ (x : Bool). x || edge_in part counts a b) (z a b))
      ∙ sym (edge_parts a b)

  -- ---- the rules

  -- an offending rule is one of the file's
  among_old : {i : ℕ} → Offends P i → i < counts.rules
  among_old o = omega (arith, old_many k, old_offends (nested_fine k) o)

  -- no mixed position: the plain file is valid
  none_mixed : mixed_rule part counts ≡ false → components.Valid P
  unfolding mixed_rule any_mixed
  none_mixed e i o =
      let l = among_old o in
      let z = sym (old_mixed k i l) ∙ none_below counts.rules _ e i l in
      never o.pushes (none_below _ _ z o.at o.inside)

  -- where the rule stands in the nested file
  record Stood (i : ℕ) : Type 0 where
    field : ℕ
    before : field < k.fields
    is : RuleField s field i
    placed : place part (counts.variables + i) ≡ place s field

  stood : (i : ℕ) → i < counts.rules → Stood i
  stood i l =
      let o = standing k.fields k.whole.passed in
      let r = rule_found o i (omega (arith, old_many k)) in
      let e : r.0 ≡ counts.variables + i = omega (arith, rule_place_is o r.1 r.2, ap (λ (Q : Program). length Q.variables) o.means, plain_many k) in
      record { field = r.0; before = r.1; is = r.2; placed = ap (place part) (sym e) ∙ same_place r.0 (in_part r.0 r.1 r.2) }
    where
      -- in the plain part
      in_part : (j : ℕ) → j < k.fields → RuleField s j i → j < k.plain.fields
      in_part j h f = go (dec_lt j k.plain.fields)
        where
          go : Dec (j < k.plain.fields) → j < k.plain.fields
          go (yes b) = b
          go (no b) = absurd (omega (arith, f.tagged, (tree_stands k j (omega arith) h).1))

      same_place : (j : ℕ) → j < k.plain.fields → place part j ≡ place s j
      same_place j h =
          places_same s from k.plain.inside k.plain.fields
          (λ m b. subst (λ (at : ℕ). next_at s (place s m) ≤ at) k.plain.placed (place_ascends s m k.plain.fields b)) j (omega arith)

  -- ---- the answers

  module _ {t : ℕ → ℕ → Bool} (tells : Tells P t) where
    judged : (r : Option ℕ) → JudgedBy t part counts r → JudgesNested s k.fields r
    judged None h = λ i o. let l = among_old o in offends_test (plain_promises k) tells i o.among (sym (old_offence k i l t) ∙ h i l) o
    judged (Some at) f =
        let w = stood f.rule f.among in
        record {
          field = w.field;
          rule = f.rule;
          before = w.before;
          is = w.is;
          first = record {
            offends = test_offends (plain_promises k) tells f.rule (old_among k f.rule f.among) (sym (old_offence k f.rule f.among t) ∙ f.offends);
            first = λ j l o. let b : j < counts.rules = let m = f.among in omega arith in
                offends_test (plain_promises k) tells j o.among (sym (old_offence k j b t) ∙ f.first j l) o;
          };
          placed = f.placed ∙ w.placed;
        }

  -- whatever number of fields the file is said to have
  pub outcome_none : mixed_rule part counts ≡ false → (n : ℕ) → NestedWhole s n → JudgesNested s n None
  outcome_none e n v = subst (λ (m : ℕ). JudgesNested s m None) (whole_unique k.whole v) (none_mixed e)

  pub outcome : {t₀ t : ℕ → ℕ → Bool} {w w' : List ℕ} (r : Option ℕ) → ((a b : ℕ) → t₀ a b ≡ false) → Grown t₀ (row_has w) (edge_in part counts)
      → TreesMarked s counts.variables (variables_at records variables) w w' → Rounds (row_has w') t variables → JudgedBy t part counts r
      → (n : ℕ) → NestedWhole s n → JudgesNested s n r
  outcome {t = t} {w' = w'} r z g m h j n v =
      let last = subst (AfterLast (edge P) t) k.many (h.turn (edge P) (edges start)) in
      subst (λ (i : ℕ). JudgesNested s i r) (whole_unique k.whole v) (judged (last_tells (plain_promises k) last) r j)
    where
      start : (a b : ℕ) → a < variables → b < variables → row_has w' a b ≡ edge P a b
      start a b ha hb = let f = few k in marked z g m a b (omega arith) (omega arith)
