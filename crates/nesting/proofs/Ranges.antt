-- The ranges of added variables in the tables, and refusal 19.
use Prim.Native.Nat.{ℕ}
use mathlib.Core.Path.{◌≡◌, refl, sym, ap₂, subst, ◌∙◌}
use mathlib.Core.Bool.{Bool, true, false, ◌||◌}
use mathlib.Core.List.{List, ◌∷◌}
use lib.IntN.{ℤ}
use lib.Dec.{T}
use lib.Signed.{◌≤ℤ◌, ◌<ℤ◌, lt_z, lt_z_yes}
use lib.ListN.{length}
use Rattle.format.specs.Limits.{max_number}
use Rattle.format.proofs.Int.{int}
use Rattle.format.specs.Numbers.{beyond}
use Rattle.program.specs.Tables.{any_below}
use Rattle.program.specs.Program.{variable, variable_in}
use Rattle.program.specs.Refusals.{outside_range}
use Rattle.program.specs.declared.Variable.{Variable}
use Rattle.nested.proofs.Lists.{Each, none, and}
use Rattle.flat.specs.Flat.{ranged}
use Rattle.flat.proofs.LeafTests.{any_first}
use Rattle.spans.specs.Spans.{any_beyond}

either : (p q r s : Bool) → ((p || q) || (r || s)) ≡ ((p || r) || (q || s))
either true q r s = refl
either false true true s = refl
either false true false true = refl
either false true false false = refl
either false false true s = refl
either false false false s = refl

abbrev outside : List Variable → ℕ → Bool
outside xs i = outside_range (variable (variable_in xs i))

no_more : (a b : ℤ) → a ≤ℤ b → lt_z b a ≡ false
no_more a b h = go (lt_z b a) refl
  where
    go : (t : Bool) → lt_z b a ≡ t → t ≡ false
    go true e = absurd (let l : b <ℤ a = lt_z_yes (subst T (sym e) tt) in omega int)
    go false e = refl

own : (p q r : Bool) → r ≡ false → (p || q || r) ≡ (p || q)
own true q r e = refl
own false true r e = refl
own false false r e = e

pub ranged_outside : (kind : ℕ) {as' bs : List ℤ} → Each ◌≤ℤ◌ as' bs
    → any_below (length (ranged kind as' bs)) (λ i. outside_range (variable (variable_in (ranged kind as' bs) i))) ≡ (any_beyond as' || any_beyond bs)
unfolding ranged any_below any_beyond outside_range
ranged_outside kind none = refl
ranged_outside kind (and {x = a} {y = b} {xs = xs} {ys = ys} h rest) =
    any_first (length (ranged kind xs ys)) (outside (record { kind = kind; low = a; high = b } ∷ ranged kind xs ys))
    ∙ ap₂ (λ (p q : Bool). p || q) (own (beyond max_number a) (beyond max_number b) (lt_z b a) (no_more a b h)) (ranged_outside kind rest)
    ∙ either (beyond max_number a) (beyond max_number b) (any_beyond xs) (any_beyond ys)
