-- By the mark: each has its words, and an entry of no known mark has no line.
use mathlib.Core.Path.{◌≡◌, ap}
use Prim.Native.Nat.{ℕ, ◌+◌, ◌≤◌, ◌<◌}
use mathlib.Core.List.{List}
use native.Mathlib.Omega.{arith}
use lib.IntN.{ℤ, nat_abs}
use mir.Syntax.{w64}
use mir.Val.{SFits, to_z, of_z}
use mir.Facts.{to_z-of_z}
use Rattle.text.specs.Output.{Appends}
use Rattle.entries.specs.Text.{word, entry_line, entry_most}
use Rattle.text.proofs.OutputLaws.{appends_as, appends_none}
use Rattle.entries.proofs.TextLaws.{entry_with, most_line, at_most_line, at_least_line, least_line, no_line, entry_done}
use borrow.Author.Rules.{rules}
use Rattle.entries.proofs.put_marked.Goals as goal

-- a line that was written
done : (v mark : ℕ) (z : ℤ) (x y : List ℕ) {at k : ℕ} {b d : List ℕ} → v < 256 → nat_abs z ≤ 32768 → SFits w64 z → entry_with x v y z ≡ entry_line v mark z
    → Appends (entry_with x v y (to_z w64 (of_z w64 z))) at k b d → Appends (entry_line v mark z) at k b d × (k ≤ at + entry_most)
done v mark z x y h l s e w = entry_done v mark z h l e (appends_as (ap (λ (u : ℤ). entry_with x v y u) (to_z-of_z s)) w)

pub returns-in-0 : goal.returns-in-0
returns-in-0 c = let e = done c.args.v c.args.mark c.args.z (word "most ") (word " ") (omega (arith, c.ranges.v)) c.requires.1 c.ranges.z (most_line _ _ _ c.in-0.is) c.put_line.ensures in record { appends = e.0; upper_bound = e.1 }

pub returns-in-1 : goal.returns-in-1
returns-in-1 c = let e = done c.args.v c.args.mark c.args.z (word "when ") (word " <= ") (omega (arith, c.ranges.v)) c.requires.1 c.ranges.z (at_most_line _ _ _ c.in-1.is) c.put_line-in-1.ensures in record { appends = e.0; upper_bound = e.1 }

pub returns-in-2 : goal.returns-in-2
returns-in-2 c = let e = done c.args.v c.args.mark c.args.z (word "when ") (word " >= ") (omega (arith, c.ranges.v)) c.requires.1 c.ranges.z (at_least_line _ _ _ c.in-2.is) c.put_line-in-2.ensures in record { appends = e.0; upper_bound = e.1 }

pub returns-in-3 : goal.returns-in-3
returns-in-3 c = let e = done c.args.v c.args.mark c.args.z (word "least ") (word " ") (omega (arith, c.ranges.v)) c.requires.1 c.ranges.z (least_line _ _ _ c.in-3.is) c.put_line-in-3.ensures in record { appends = e.0; upper_bound = e.1 }

pub returns-in_default : goal.returns-in_default
returns-in_default c = record { appends = appends_as (no_line _ _ _ c.in_default.in_default-own.rest.0.0.0.1 c.in_default.in_default-own.rest.0.0.1 c.in_default.in_default-own.rest.0.1 c.in_default.in_default-own.rest.1) (appends_none _ _); upper_bound = search rules }
