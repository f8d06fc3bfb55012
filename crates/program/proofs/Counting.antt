-- One field more of a kind.
use Prim.Native.Nat.{ℕ, suc, ◌+◌, ◌≤◌}
use mathlib.Core.Path.{◌≡◌, sym, ◌∙◌}
use mathlib.Core.List.{List}
use native.Mathlib.Numerals.{add-one}
use borrow.Author.Tests.{ne_eqb}
use Rattle.program.specs.Fields.{tag_at, place}
use Rattle.program.specs.Reading.{counted}
use Rattle.program.specs.declared.Counts.{Counts}
use Rattle.program.proofs.Places as places
use Rattle.program.proofs.Places.{variables_to, rules_to, constraints_to, length_snoc}

module _ (tag : ℕ) (k : Counts) where
  pub one_variable : tag ≡ 1 → record { variables = k.variables + 1; rules = k.rules; constraints = k.constraints } ≡ counted tag k
  unfolding counted
  one_variable h = rw h

  pub one_rule : tag ≡ 2 → record { variables = k.variables; rules = k.rules + 1; constraints = k.constraints } ≡ counted tag k
  unfolding counted
  one_rule h = rw h

  pub one_constraint : tag ≡ 3 → record { variables = k.variables; rules = k.rules; constraints = k.constraints + 1 } ≡ counted tag k
  unfolding counted
  one_constraint h = rw h

  pub one_unknown : (tag ≡ 1 → ⊥) → (tag ≡ 2 → ⊥) → (tag ≡ 3 → ⊥) → k ≡ counted tag k
  unfolding counted
  one_unknown a b c = simp (ne_eqb tag 1 a, ne_eqb tag 2 b, ne_eqb tag 3 c)

-- the counts of the first k fields
abbrev pub counts_to : List ℕ → ℕ → Counts
counts_to s k = record { variables = variables_to s k; rules = rules_to s k; constraints = constraints_to s k }

-- one field more is one more of its kind
pub counts_more : (s : List ℕ) (k : ℕ) → 1 ≤ tag_at s (place s k) → tag_at s (place s k) ≤ 3 → counted (tag_at s (place s k)) (counts_to s k) ≡ counts_to s (suc k)
counts_more s k h l = go (places.tag_of (tag_at s (place s k)) h l)
  where
    go : places.Tag (tag_at s (place s k)) → counted (tag_at s (place s k)) (counts_to s k) ≡ counts_to s (suc k)
    go (places.one e) = sym (one_variable _ (counts_to s k) e) ∙ rw (places.one_variable s k e, length_snoc, add-one)
    go (places.two e) = sym (one_rule _ (counts_to s k) e) ∙ rw (places.one_rule s k e, length_snoc, add-one)
    go (places.three e) = sym (one_constraint _ (counts_to s k) e) ∙ rw (places.one_constraint s k e, length_snoc, add-one)
