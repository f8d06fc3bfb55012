-- Document 01, "The printing program": what its example prints, computed; and a wrong line, which the one text of an input rules out.
use Prim.Native.Nat.{ℕ}
use mathlib.Core.Path.{◌≡◌, ap}
use mathlib.Core.List.{List, [], ◌∷◌, ◌++◌}
use native.Mathlib.Omega.{arith}
use lib.Dec.{lit≤}
use lib.ListN.{get_or}
use Rattle.plans.specs.Starred.{small, printed}
use Rattle.plans.proofs.StarredChecks.{starred_checks}
use Rattle.text.specs.Decimal.{digits, decimal}
use Rattle.entries.specs.Text.{word, answer_line, entry_line, entry_lines}
use Rattle.framing.specs.Framing.{misframed}
use Rattle.printing.specs.Prints.{blank, Prints, bad_frame, checked}
use Rattle.printing.proofs.PrintLaws.{prints_unique}

pub example_prints : Prints (0x00 ∷ 0x39 ∷ printed ++ small 0 (small 1 (small 1 []))) (word "unfounded 2 1\nmost 1 0\nmost 2 0\nwhen 0 <= 0\n")
unfolding digits decimal answer_line entry_line entry_lines misframed
example_prints = checked tt (starred_checks.printed_shown blank (lit≤ tt))

-- the input `00` is refused as `refused 16 0`: one that puts the place before the number prints `refused 0 16`
pub not_place_first : Prints (0x00 ∷ []) (word "refused 0 16\n") → ⊥
unfolding digits decimal answer_line entry_lines misframed
not_place_first q = let e : ◌≡◌ {A = ℕ} 48 49 = ap (λ (l : List ℕ). get_or l 8 0) (prints_unique q (bad_frame tt)) in omega arith
