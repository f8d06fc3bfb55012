-- The text that the program `flatten` writes: it is always there and determined, a refusal's line is never taken for a file, and how the call's
-- answer becomes the text.
use Prim.Native.Nat.{ℕ, ◌≤◌, ◌<◌}
use mathlib.Core.Path.{◌≡◌, refl, ap}
use mathlib.Core.Logic.{inl, inr}
use mathlib.Core.Bool.{Bool, true, false}
use mathlib.Core.List.{List, ◌++◌}
use native.Mathlib.Omega.{arith}
use lib.Dec.{leb}
use lib.ListN.{length, get_or, take, drop}
use borrow.Author.Tests.{leb-true, leb-false}
use Rattle.format.specs.Limits.{max_file}
use Rattle.normal.specs.Normalizes.{written}
use Rattle.normal.specs.Normalizes as normalize
use Rattle.nested.specs.Nested.{Nested}
use Rattle.nested.specs.Flatten.{flatten}
use Rattle.nested.specs.NestedReading.{NestedAccepts}
use Rattle.nested.specs.FlattenCall.{flat, FlattenRefuses, bad_file, no_room, FlattenCall, flattened}
use Rattle.nested.specs.FlattenCall as call
use Rattle.nested.proofs.NestedReads.{nested_accepts_unique, same_refusal, refused_or_accepted, NestedRead, refused, accepted, nested_read}
use Rattle.verdict.specs.Checks.{refusal}
use Rattle.text.specs.Output.{Appends}
use Rattle.entries.specs.Text.{answer_line, first_most}
use Rattle.renewing.proofs.RenewLaws.{file_first, lent_length, lent_back, lent_text}
use Rattle.unnesting.specs.Unnests.{Unnests, turned_down, too_large, unnested, Unnested}

-- ---- one text for every input

module _ {s : List ℕ} where
  one_size : {N M : Nested} → NestedAccepts s N → NestedAccepts s M → length (flat N) ≤ max_file → max_file < length (flat M) → ⊥
  one_size a c h l = omega (arith, ap (λ (K : Nested). length (flat K)) (nested_accepts_unique a c))

  pub unnests_unique : {t u : List ℕ} → Unnests s t → Unnests s u → t ≡ u
  unnests_unique (turned_down p) (turned_down q) =
      let e = same_refusal p q in cc
  unnests_unique (turned_down p) (too_large a h) = absurd (refused_or_accepted p a)
  unnests_unique (turned_down p) (unnested a h) = absurd (refused_or_accepted p a)
  unnests_unique (too_large a h) (turned_down q) = absurd (refused_or_accepted q a)
  unnests_unique (too_large a h) (too_large c l) = refl
  unnests_unique (too_large a h) (unnested c l) = absurd (one_size c a l h)
  unnests_unique (unnested a h) (turned_down q) = absurd (refused_or_accepted q a)
  unnests_unique (unnested a h) (too_large c l) = absurd (one_size a c h l)
  unnests_unique (unnested a h) (unnested c l) = ap flat (nested_accepts_unique a c)

pub unnests_total : (s : List ℕ) → (t : List ℕ) × Unnests s t
unnests_total s = go (nested_read s)
  where
    by_size : {N : Nested} → NestedAccepts s N → (x : Bool) → leb (length (flat N)) max_file ≡ x → (t : List ℕ) × Unnests s t
    by_size {N} a true e = (_, unnested a (leb-true (length (flat N)) max_file e))
    by_size {N} a false e = (_, too_large a (leb-false (length (flat N)) max_file e))

    go : NestedRead s → (t : List ℕ) × Unnests s t
    go (refused r) = (_, turned_down r)
    go (accepted {N = N} a) = by_size a (leb (length (flat N)) max_file) refl

-- an input whose text is a refusal's line is turned down so, whatever buffer is lent, and any other text is a plain file
pub told_apart : {s t : List ℕ} → Unnests s t → 3 < get_or t 0 0
    → (n : ℕ) × (at : ℕ) × ((b : List ℕ) → FlattenRefuses s b n at) × (t ≡ answer_line (refusal n at))
told_apart (turned_down p) h = (_, _, λ b. bad_file p, refl)
told_apart (too_large a l) h = (_, _, λ b. no_room a (inl l), refl)
told_apart (unnested {N = N} a l) h = let f : ⊥ = omega (arith, file_first (flatten N)) in absurd f

-- ---- the call's answer

-- max_file bytes of the output b are lent; they come back as `part`
module _ (s b : List ℕ) (h : max_file ≤ length b) where
  lent_refused : {n at : ℕ} → FlattenRefuses s (take max_file b) n at → Unnests s (answer_line (refusal n at))
  lent_refused (bad_file r) = turned_down r
  lent_refused (no_room a (inl l)) = too_large a l
  lent_refused (no_room a (inr l)) = too_large a (omega (arith, lent_length max_file b h))

  pub unnested_refused : {n at : ℕ} {part : List ℕ} {k : ℕ} {b' : List ℕ} → FlattenCall s (take max_file b) (normalize.refusal n at) part
      → Appends (answer_line (refusal n at)) 0 k (part ++ drop max_file b) b' → k ≤ first_most → Unnested s b k b'
  unnested_refused (call.turned_down r) w l =
      record { text = _; unnests = lent_refused r; holds = lent_back max_file b h refl w; inside = omega arith }

  pub unnested_written : {n : ℕ} {part : List ℕ} → FlattenCall s (take max_file b) (written n) part → Unnested s b n (part ++ drop max_file b)
  unnested_written (flattened {N = N} a r) =
      record { text = flat N; unnests = unnested a r.short; holds = lent_text max_file b h (flat N) r.short; inside = omega (arith, r.short) }
