-- Too many sweeps do not pay.
use mathlib.Core.Bool.{true≢false}
use mathlib.Core.Path.{sym}
use Rattle.ascent.proofs.sweeping.pays.Goals as goal

pub returns-then-done-ge-MOST : goal.returns-then-done-ge-MOST
returns-then-done-ge-MOST c = λ e. absurd (true≢false (sym e))
