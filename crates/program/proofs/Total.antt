-- Reading a file always has an answer.
use Prim.Native.Nat.{ℕ, zero, suc, ◌+◌, ◌<◌, ◌≤◌}
use mathlib.Core.Path.{◌≡◌, refl}
use mathlib.Core.List.{List}
use mathlib.Core.Bool.{Bool, true, false}
use native.Mathlib.Omega.{arith}
use lib.ListN.{length}
use lib.Dec.{leb}
use borrow.Author.Tests.{leb-true, leb-false}
use Rattle.format.specs.Limits.{max_file}
use Rattle.program.specs.Fields.{place}
use Rattle.program.specs.Program.{Program, program}
use Rattle.program.specs.Refusals.{field_refusal}
use Rattle.program.specs.Components.{Offends, FirstOffending}
use Rattle.program.specs.Reading.{Answer, Passed, Whole, Reads, too_long, bad_field, not_valid, whole}
use Rattle.program.proofs.Conditions.{last_or}
use Rattle.program.proofs.Promises.{Promises, passed_promises}
use Rattle.program.proofs.Decide.{decide}
use Rattle.program.proofs.Places.{place_least, passed_none, passed_more, rule_at_is}

-- an answer, and that it is reading's
abbrev pub Answered : List ℕ → Type 0
Answered s = (a : Answer) × Reads s a

-- the first rule that offends, among the first n
pub data Search (P : Program) (n : ℕ) : Type 0 where
  first_is : {i : ℕ} → FirstOffending P i → Search P n
  no_rule_is : ((i : ℕ) → i < n → Offends P i → ⊥) → Search P n

module _ {P : Program} {n : ℕ} where
  search_one : ((i : ℕ) → i < n → Offends P i → ⊥) → Dec (Offends P n) → Search P (suc n)
  search_one clear (yes o) = first_is (record { offends = o; first = clear })
  search_one clear (no f) = no_rule_is (λ i h. last_or (λ j. Offends P j → ⊥) n i h (clear i) f)

  search_more : Dec (Offends P n) → Search P n → Search P (suc n)
  search_more d (first_is f) = first_is f
  search_more d (no_rule_is clear) = search_one clear d

search_rules : (P : Program) (n : ℕ) → ((i : ℕ) → i < n → Dec (Offends P i)) → Search P n
search_rules P zero decides = no_rule_is (λ i h o. omega arith)
search_rules P (suc n) decides = search_more (decides n (omega arith)) (search_rules P n (λ i h. decides i (omega arith)))

pub searched : {P : Program} → Promises P → Search P (length P.rules)
searched {P} p = search_rules P _ (decide p)

module _ (s : List ℕ) where
  at_end : {k : ℕ} → Whole s k → Search (program s k) (length (program s k).rules) → Answered s
  at_end w (first_is f) =
      let r = rule_at_is w.passed f.offends.among in
      (_, not_valid w r.before r.field f)
  at_end w (no_rule_is clear) = (_, whole w (λ i o. clear i o.among o))

  ended : {k : ℕ} → Passed s k → length s ≤ place s k → Answered s
  ended {k} p h = at_end (record { passed = p; ended = h }) (searched (passed_promises p))

  -- enough turns are left: a field takes a byte at least
  from : (turns k : ℕ) → length s ≤ k + turns → Passed s k → Answered s
  from zero k h p = ended p (omega (arith, place_least s k))
  from (suc turns) k h p = go (from turns (k + 1) (omega arith)) (leb (length s) (place s k)) refl (field_refusal s k) refl
    where
      go : (Passed s (k + 1) → Answered s) → (t : Bool) → leb (length s) (place s k) ≡ t → (n : ℕ) → field_refusal s k ≡ n → Answered s
      go later true e n f = ended p (leb-true (length s) (place s k) e)
      go later false e zero f = later (passed_more p (leb-false (length s) (place s k) e) f)
      go later false e (suc n) f = (_, bad_field p (leb-false (length s) (place s k) e) (omega arith))

  pub reads_total : Answered s
  reads_total = go (leb (length s) max_file) refl
    where
      go : (t : Bool) → leb (length s) max_file ≡ t → Answered s
      go true e = from (length s) 0 (omega arith) (passed_none s (leb-true (length s) max_file e))
      go false e = (_, too_long (leb-false (length s) max_file e))
