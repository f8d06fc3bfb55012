-- Two accepted files, of which the second leaves idle rules of the first out: for every assignment and every lent report the check gives both the same answer,
-- but for the number of an unmet rule and the count of the conditions.
use Prim.Native.Nat.{ℕ}
use mathlib.Core.Path.{refl, sym, subst}
use mathlib.Core.List.{List}
use lib.ListN.{length}
use Rattle.program.specs.Program.{Program, Rule}
use Rattle.program.specs.Reading.{Accepts}
use Rattle.program.specs.Encode.{Bytes}
use Rattle.program.proofs.Promises.{accepts_promises}
use Rattle.meaning.specs.Founded.{Within}
use Rattle.meaning.specs.Reduct.{system}
use Rattle.meaning.specs.Stable.{assigned, RuleMet}
use Rattle.meaning.specs.Calls.{Called, lengths}
use Rattle.meaning.specs.LeftOut.{with_rules, LeftOut, struck}
use Rattle.meaning.proofs.IdleRules.{all_left, all_back, least_left, stable_left, acting_left}
use Rattle.meaning.proofs.IdleFiles.{struck_accepted}
use Rattle.meaning.proofs.SameModels.{meant, refused_over, called_over, outside_over}
use Rattle.verdict.specs.Checks.{Answer, rule, FirstUnmet, Judged, outside, rule_unmet, constraint_unmet, some_shown, is_stable}
use Rattle.verdict.specs.Checks.{check_bytes, Checks, turned_down, judged}
use Rattle.verdict.specs.LeftOut.{Alike, same, rules, sets}
use Rattle.verdict.proofs.Determined.{checks_unique}
use Rattle.verdict.proofs.Unmet.{called_judged, rule_judged}

module _ {s s' : List ℕ} {P : Program} {rs : List Rule} (x : Accepts s P) (y : Accepts s' (with_rules P rs)) (left : LeftOut P rs) (a b : List ℕ) where
  abbrev Begins : Program → Type 0
  Begins = Called (lengths check_bytes a b) s

  -- an answer of the second file's check is the one that is given
  given : {r r' : Answer} {b₁ b₂ : List ℕ} → Checks s' a b r b₁ → Checks s' a b r' b₂ → Alike r r'
  given {r} p q = subst (Alike r) (checks_unique p q).0 same

  -- a rule that is not met is not idle: not every rule of the second file is met
  rule_alike : {i : ℕ} {r' : Answer} {b₂ : List ℕ} → Within (system P) (assigned a) → FirstUnmet (RuleMet P (assigned a)) (length P.rules) i
      → Begins P → Checks s' a b r' b₂ → Alike (rule i) r'
  rule_alike {i} w f c q =
      let j = (rule_judged (record { inside = w.inside }) (λ met. f.unmet (all_back (accepts_promises x) left w w met i f.among))
      (called_judged (called_over x y refl check_bytes a b c) q)).0 in
      subst (Alike (rule i)) (sym j.1) rules

  judged_alike : {r r' : Answer} {b₁ b₂ : List ℕ} → Begins P → Judged P (assigned a) b r b₁ → Checks s' a b r' b₂ → Alike r r'
  judged_alike c (outside o) q = given (judged (called_over x y refl check_bytes a b c) (outside (outside_over P (with_rules P rs) refl o))) q
  judged_alike c (rule_unmet w f) q = rule_alike w f c q
  judged_alike c (constraint_unmet w met f) q =
      given (judged (called_over x y refl check_bytes a b c) (constraint_unmet (record { inside = w.inside })
      (all_left (accepts_promises x) left (assigned a) (assigned a) met) (record { among = f.among; unmet = f.unmet; first = f.first }))) q
  judged_alike {r} c (some_shown {m} t l n) q =
      subst (Alike r)
      (checks_unique (judged (called_over x y refl check_bytes a b c) (some_shown
      (record { ranges = record { inside = t.ranges.inside }; rules = all_left (accepts_promises x) left (assigned a) (assigned a) t.rules; constraints = t.constraints })
      (least_left (accepts_promises x) left t.ranges l) n)) q).0
      sets
  judged_alike c (is_stable t) q = given (judged (called_over x y refl check_bytes a b c) (is_stable (stable_left (accepts_promises x) left t))) q

  pub checks_alike : {r r' : Answer} {b₁ b₂ : List ℕ} → Checks s a b r b₁ → Checks s' a b r' b₂ → Alike r r'
  checks_alike (turned_down p) q = given (turned_down (refused_over x y refl check_bytes a b p)) q
  checks_alike {r} {r'} {b₁} (judged c j) q =
      meant (λ R. Begins R → Judged R (assigned a) b r b₁ → Alike r r') x c.accepts (λ d k. judged_alike d k q) c j

-- a file, and the file of its program without its idle rules
pub struck_alike : {s a b : List ℕ} {P : Program} → Bytes s → Accepts s P → {r r' : Answer} {b₁ b₂ : List ℕ}
    → Checks s a b r b₁ → Checks (struck P) a b r' b₂ → Alike r r'
struck_alike {a = a} {b} h x = checks_alike x (struck_accepted h x) (acting_left (accepts_promises x)) a b
