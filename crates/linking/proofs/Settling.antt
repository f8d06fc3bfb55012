-- A nested file whose fields pass, its plain part, and the fields of all variables of its plain file.
use Prim.Native.Nat.{ℕ, zero, suc, ◌+◌, ◌-◌, ◌<◌, ◌≤◌}
use mathlib.Core.Path.{◌≡◌, sym, ap, ◌∙◌, subst, subst₂}
use mathlib.Core.List.{List}
use native.Mathlib.Decide.{dec_lt}
use native.Mathlib.Omega.{arith}
use lib.ListN.{length, take}
use Rattle.format.specs.Limits.{max_variables}
use Rattle.program.specs.Fields.{tag_at, place}
use Rattle.program.specs.Program.{Program, program, variable_in, variables_at}
use Rattle.program.specs.Encode.{All}
use Rattle.program.specs.declared.Counts.{Counts}
use Rattle.program.specs.declared.Variable.{Variable}
use Rattle.program.proofs.Places.{passed_fine}
use Rattle.program.proofs.Promises.{Promises, VariablePromise}
use Rattle.validity.proofs.RuleLaws.{counted_variables}
use Rattle.nested.specs.Nested.{tree_tag, Nested, trees, nested}
use Rattle.nested.specs.Flatten.{added_rules, flatten}
use Rattle.nested.proofs.FineNested.{FineNested}
use Rattle.nested.proofs.FlatProper.{more_variables, flatten_promises, fine_nodes}
use Rattle.nested.proofs.TreeRules.{FineNode}
use Rattle.nested.proofs.PassedFine as nestedly
use Rattle.nested.proofs.PassedFine.{Standing, standing}
use Rattle.nested.proofs.TreeFields.{TreeField, same_program}
use Rattle.linking.specs.Judging.{Settled}
use Rattle.linking.specs.Drawing.{Recorded, FineRules}
use Rattle.linking.proofs.Records.{records_read}

-- fields of trees add nothing to the plain program
same_after : (s : List ℕ) (j d : ℕ) → ((i : ℕ) → j ≤ i → i < j + d → tag_at s (place s i) ≡ tree_tag) → program s (j + d) ≡ program s j
same_after s j zero h = let e : j + 0 ≡ j = omega arith in ap (program s) e
same_after s j (suc d) h =
    let e : j + suc d ≡ suc (j + d) = omega arith in
    ap (program s) e ∙ same_program s (j + d) (h (j + d) (omega arith) (omega arith)) ∙ same_after s j d (λ i l u. h i l (omega arith))

module _ {s : List ℕ} {counts : Counts} {from variables : ℕ} {records : List ℕ} (k : Settled s counts from variables records) where
  abbrev N : Nested
  N = nested s k.fields

  pub nested_fine : FineNested N
  nested_fine = nestedly.passed_fine k.whole.passed

  pub plain_promises : Promises (flatten N)
  plain_promises = flatten_promises nested_fine

  -- ---- the plain part, then trees

  -- the fields of the plain part
  abbrev plain : ℕ
  plain = k.plain.fields

  pub plain_before : plain ≤ k.fields
  plain_before = go (dec_lt k.fields plain)
    where
      go : Dec (k.fields < plain) → plain ≤ k.fields
      go (yes l) = absurd (omega (arith, k.plain.passed.stands k.fields l, k.whole.ended))
      go (no l) = omega arith

  -- where a field follows, it is a tree
  follows : plain < k.fields → tag_at s (place s plain) ≡ tree_tag
  follows l =
      let e = k.plain.placed in
      ap (tag_at s) e ∙ k.plain.tree (omega (arith, k.whole.passed.stands plain l))

  -- no tree stands among the fields of a plain file
  plain_least : (o : Standing s k.fields) → plain < k.fields → o.plain ≤ plain
  plain_least o l = go (dec_lt plain o.plain)
    where
      go : Dec (plain < o.plain) → o.plain ≤ plain
      go (yes h) = absurd (omega (arith, (passed_fine o.passed plain h).tag_most, follows l))
      go (no h) = omega arith

  pub tree_stands : (j : ℕ) → plain ≤ j → j < k.fields → TreeField s j × (tag_at s (place s j) ≡ tree_tag)
  tree_stands j h l =
      let o = standing k.fields k.whole.passed in
      let b = plain_least o (omega arith) in
      o.treed j (omega arith) l

  same_plain : program s k.fields ≡ program s plain
  same_plain =
      let e : k.fields ≡ plain + (k.fields - plain) = let b = plain_before in omega arith in
      ap (program s) e ∙ same_after s plain (k.fields - plain) (λ i h l. (tree_stands i h (omega arith)).1)

  pub plain_is : program s k.fields ≡ program (take from s) k.plain.counted.fields
  plain_is = same_plain ∙ sym k.plain.means

  pub plain_many : length (program s k.fields).variables ≡ counts.variables
  plain_many = ap (λ (P : Program). length P.variables) plain_is ∙ counted_variables k.plain.counted

  -- ---- the variables of the plain file

  pub variables_read : variables_at records variables ≡ (flatten N).variables
  variables_read = records_read records (flatten N).variables variables k.many k.records_are plain_promises.variables

  pub few : variables ≤ max_variables
  few = omega (arith, k.many, more_variables N, nested_fine.few_variables)

  promised : (x : ℕ) → x < variables → VariablePromise (variable_in (variables_at records variables) x)
  promised x h = subst (λ (vs : List Variable). VariablePromise (variable_in vs x)) (sym variables_read) (plain_promises.variables x (omega (arith, k.many)))

  pub recorded : Recorded records variables
  recorded = record { inside = k.inside; few = few; low_small = λ x h. (promised x h).low_small; high_small = λ x h. (promised x h).high_small }

  -- ---- the rules of the trees

  nodes_fine : All (FineNode (flatten N).variables) (added_rules (length (program s k.fields).variables) (trees s k.fields))
  unfolding flatten
  nodes_fine = fine_nodes nested_fine

  pub added_fine : FineRules records variables (added_rules counts.variables (trees s k.fields))
  added_fine = subst₂ (λ (vs : List Variable) (n : ℕ). All (FineNode vs) (added_rules n (trees s k.fields))) (sym variables_read) plain_many nodes_fine
