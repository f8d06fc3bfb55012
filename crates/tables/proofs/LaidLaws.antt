-- The tables of an accepted file have the place and the mask of each of its rules.
use Prim.Native.Nat.{ℕ, ◌<◌, ◌≤◌}
use mathlib.Core.Path.{◌≡◌, ap, ◌∙◌}
use mathlib.Core.List.{List}
use native.Mathlib.Omega.{arith}
use lib.ListN.{length, get_or, set, length-set}
use Rattle.format.specs.Limits.{max_rules}
use Rattle.program.specs.Reading.{AcceptedAs}
use Rattle.program.specs.declared.Counts.{Counts}
use Rattle.tables.specs.Entries.{RuleHere}
use Rattle.tables.specs.Laid.{OffsetsOf}
use Rattle.tables.proofs.TableLaws.{here}
use Rattle.reader.proofs.Published.{reads_accepts, limited}

-- each rule stands where the table says
module _ (s offsets : List ℕ) (k : Counts) (r : AcceptedAs s k) (l : OffsetsOf s offsets) where
  pub rules_few : k.rules ≤ max_rules
  rules_few = (limited r).few_rules

  pub rule_here : (i at : ℕ) → i < k.rules → at ≡ get_or offsets i 0 → RuleHere s k.variables at
  rule_here i at h e = let a = reads_accepts r in here r a.accepts i at h (e ∙ l a.meant a.accepts i (omega (arith, a.rules_are)))

-- ---- entries that are stored

pub length_stays : (xs : List ℕ) (i a : ℕ) {xs' : List ℕ} {n : ℕ} → xs' ≡ set xs i a → length xs ≡ n → length xs' ≡ n
length_stays xs i a e q = ap length e ∙ length-set xs i a ∙ q
