-- Small files with lent ranges, from the input's bytes to the text; and wrong texts, which the one text of an input rules out.
use Prim.Native.Nat.{ℕ}
use mathlib.Core.Path.{◌≡◌, refl, ap}
use mathlib.Core.List.{List, [], ◌∷◌, ◌++◌}
use native.Mathlib.Omega.{arith}
use lib.Dec.{lit≤}
use lib.ListN.{get_or}
use Rattle.program.specs.Program.{variables_at}
use Rattle.program.specs.Variables.{swaps}
use Rattle.boundplans.specs.Samples.{range, all, ends}
use Rattle.boundplans.proofs.Samples.{samples}
use Rattle.text.specs.Decimal.{digits, decimal}
use Rattle.entries.specs.Text.{word, answer_line, entry_line}
use Rattle.framing.specs.Framing.{misframed}
use Rattle.listing.specs.Lists.{blank, bound_line, bound_lines, Lists, bad_frame, told}
use Rattle.listing.proofs.ListLaws.{tells_bounds, lists_unique}

-- s standard in 0..10 and lent 2..7; a and b in 0..10; a from s, b from 10 - s
abbrev input : ℕ → List ℕ
input kind = 0x00 ∷ 0x2E ∷ ends kind ++ range 2 7 (all (all []))

pub most_listed : Lists (input 1) (word "most 1 7\nmost 2 8\n")
unfolding digits decimal entry_line bound_line bound_lines misframed variables_at swaps
most_listed = told tt (tells_bounds 3 refl (samples.ends_below.call blank (lit≤ tt)))

pub least_listed : Lists (input 2) (word "least 1 2\nleast 2 3\n")
unfolding digits decimal entry_line bound_line bound_lines misframed variables_at swaps
least_listed = told tt (tells_bounds 3 refl (samples.ends_above.call blank (lit≤ tt)))

pub empty_listed : Lists (0x00 ∷ 0x00 ∷ []) []
unfolding bound_lines misframed
empty_listed = told tt (tells_bounds 0 refl (samples.empty.call blank (lit≤ tt)))

-- `most` for a variable founded from above
pub not_most : Lists (input 2) (word "most 1 2\nmost 2 3\n") → ⊥
not_most q = let e : ◌≡◌ {A = ℕ} 0x6D 0x6C = ap (λ (l : List ℕ). get_or l 0 0) (lists_unique q least_listed) in omega arith

-- a line for a standard variable
pub not_standard : Lists (input 1) (word "most 0 2\nmost 1 7\nmost 2 8\n") → ⊥
not_standard q = let e : ◌≡◌ {A = ℕ} 0x30 0x31 = ap (λ (l : List ℕ). get_or l 5 0) (lists_unique q most_listed) in omega arith

-- the place before the number
pub not_place_first : Lists (0x00 ∷ []) (word "refused 0 16\n") → ⊥
unfolding digits decimal answer_line misframed
not_place_first q = let e : ◌≡◌ {A = ℕ} 48 49 = ap (λ (l : List ℕ). get_or l 8 0) (lists_unique q (bad_frame tt)) in omega arith
