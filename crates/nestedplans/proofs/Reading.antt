-- A small nested file is read by tests that compute, and what flatten answers for it follows.
use Prim.Native.Nat.{ℕ, ◌<◌, ◌≤◌}
use mathlib.Core.Path.{◌≡◌, refl, ap, subst, subst₂}
use mathlib.Core.Logic.{inr}
use mathlib.Core.Bool.{Bool, true, false, not, ◌||◌}
use mathlib.Core.List.{List, ◌++◌}
use native.Mathlib.Omega.{arith}
use lib.Dec.{eqb, leb}
use lib.ListN.{length, drop}
use borrow.Author.Tests.{eqb-true, leb-false, not-false}
use Rattle.format.specs.Limits.{max_file}
use Rattle.format.specs.Numbers.{bytes_of}
use Rattle.trees.specs.Tree.{joined, total, leaves, inners, besides, several, tree_in}
use Rattle.program.specs.Tables.{any_below}
use Rattle.program.specs.Fields.{place}
use Rattle.program.specs.Program.{Program}
use Rattle.program.specs.Reading.{RuleField}
use Rattle.program.specs.Components.{Offends, Valid, FirstOffending}
use Rattle.program.specs.Encode.{encode}
use Rattle.program.proofs.Conditions.{never, neither, none_below}
use Rattle.program.proofs.Promises.{Promises}
use Rattle.program.proofs.Decide.{HeadsBelow, offends_test, offends_in_lem, offends_told, offends_tested}
use Rattle.normal.specs.Normalizes.{refusal, written}
use Rattle.nested.specs.Nested.{Nested, treed_of, trees, nested}
use Rattle.nested.specs.Flatten.{node_gives, value_of, inner_variables, along, inner_rules, root_variables, root_rules, flatten}
use Rattle.nested.specs.TreeRefusals.{tree_too_many, added_outside, rooted_refusal, nested_refusal}
use Rattle.nested.specs.NestedReading.{NestedPassed, NestedAccepts, bad_field, not_valid}
use Rattle.nested.specs.FlattenCall.{flat, FlattenCall, bad_file, no_room, turned_down, flattened}
use Rattle.nested.proofs.PassedFine.{passed_fine}
use Rattle.nested.proofs.FlatProper.{flatten_promises}
use Rattle.plans.proofs.Starred as plans
use Rattle.nestedplans.specs.Samples.{Written, Refused}

-- ---- the fields

-- one of the first k fields does not stand in the file or meets a refusal
unfoldable pub unfit : List ℕ → ℕ → Bool
unfit s k = any_below k (λ j. leb (length s) (place s j) || not (eqb (nested_refusal s j) 0))

passed_by : (s : List ℕ) (k : ℕ) → length s ≤ max_file → unfit s k ≡ false → NestedPassed s k
unfolding unfit
passed_by s k short fit = record {
  short = short;
  stands = λ j h. leb-false (length s) (place s j) (at j h).0;
  fine = λ j h. eqb-true (nested_refusal s j) 0 (not-false (eqb (nested_refusal s j) 0) (at j h).1);
}
  where
    at : (j : ℕ) → j < k → (leb (length s) (place s j) ≡ false) × (not (eqb (nested_refusal s j) 0) ≡ false)
    at j h = neither (leb (length s) (place s j)) (not (eqb (nested_refusal s j) 0)) (none_below k _ fit j h)

-- field k is the first that meets a refusal
pub refused_at : (s : List ℕ) (k : ℕ) {n at : ℕ} → length s ≤ max_file → unfit s k ≡ false → place s k < length s → nested_refusal s k ≡ n → 0 < n
    → place s k ≡ at → Refused s n at
refused_at s k {n} short fit h e r p b =
    subst₂ (λ (m l : ℕ). FlattenCall s b (refusal m l) b) e p (turned_down (bad_file (bad_field (passed_by s k short fit) h (omega arith))))

-- ---- validity of the plain program

module _ {P : Program} (promises : Promises P) where
  declared : HeadsBelow P (length P.variables)
  declared i h = (promises.rules i h).head_declared

  none_offends : (n : ℕ) → offends_in_lem P n ≡ false → (i : ℕ) → i < n → Offends P i → ⊥
  none_offends n e i h o = never (offends_tested promises _ declared i o) (none_below n _ e i h)

  valid_by : offends_in_lem P (length P.rules) ≡ false → Valid P
  valid_by e i o = none_offends _ e i o.among o

  first_by : (i : ℕ) → i < length P.rules → offends_test P (length P.variables) i ≡ true → offends_in_lem P i ≡ false → FirstOffending P i
  first_by i h t e = record { offends = offends_told promises _ declared i h t; first = none_offends i e }

module _ {s : List ℕ} {k : ℕ} (p : NestedPassed s k) where
  promised : Promises (flatten (nested s k))
  promised = flatten_promises (passed_fine p)

-- ---- the call

-- a file of k fields, none of which meets a refusal, and which is valid
pub accepted_by : (s : List ℕ) (k : ℕ) → length s ≤ max_file → unfit s k ≡ false → length s ≤ place s k
    → offends_in_lem (flatten (nested s k)) (length (flatten (nested s k)).rules) ≡ false → NestedAccepts s (nested s k)
accepted_by s k short fit ended none =
    let p = passed_by s k short fit in
    record { fields = k; whole = record { passed = p; ended = ended }; means = refl; valid = valid_by (promised p) none }

-- its plain file is o
pub written_by : {s o : List ℕ} {n : ℕ} {N : Nested} → NestedAccepts s N → flat N ≡ o → length o ≡ n → n ≤ max_file → Written s n o
written_by {s} {o} {n} {N} a e l h = record {
  told = l;
  call = λ b r. subst (λ (k : ℕ). FlattenCall s b (written k) (o ++ drop k b)) l
      (subst (λ (w : List ℕ). FlattenCall s b (written (length w)) (w ++ drop (length w) b)) e
      (flattened a (record { short = omega (arith, ap length e); fits = omega (arith, ap length e) })));
  roomless = λ b r. turned_down (no_room a (inr (omega (arith, ap length e))));
}

-- field j is rule i, the first that offends in the plain file
pub offending : (s : List ℕ) (k j i : ℕ) {at : ℕ} → length s ≤ max_file → unfit s k ≡ false → length s ≤ place s k → j < k → RuleField s j i
    → i < length (flatten (nested s k)).rules → offends_test (flatten (nested s k)) (length (flatten (nested s k)).variables) i ≡ true
    → offends_in_lem (flatten (nested s k)) i ≡ false → place s j ≡ at → Refused s 13 at
offending s k j i short fit ended h f l t e p b =
    let c = passed_by s k short fit in
    subst (λ (m : ℕ). FlattenCall s b (refusal 13 m) b) p (turned_down (bad_file
    (not_valid (record { passed = c; ended = ended }) h f (first_by (promised c) i l t e))))

-- unfolding this unfolds the reading of a nested file, its plain program and that one's file
trees_compute : Unit {0}
unfolding joined total leaves inners besides several tree_in treed_of trees node_gives value_of inner_variables along inner_rules root_variables root_rules flatten
trees_compute = tt

unfoldable pub computes : Unit {0}
unfolding plans.computes bytes_of encode trees_compute tree_too_many added_outside rooted_refusal nested_refusal unfit
computes = tt
