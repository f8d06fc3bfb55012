-- Invariant: the terms from the given one on and before i pass the test and are new, and their variables are noted.
use mathlib.Core.Path.{◌≡◌}
use mathlib.Core.Bool.{true}
use Prim.Native.Nat.{ℕ}
use lib.ListN.{length}
use Rattle.words.specs.Bit.{word_count}
use Rattle.program.specs.Program.{terms_of}
use Rattle.faultless.specs.Faultless.{New, Noted}
use Rattle.faultless.proofs.TermLaws.{Between}
use Rattle.faultless.proofs.terms.each_from.Given as goal

abbrev pub invariant-loop-i : goal.invariant-loop-i
invariant-loop-i g l = (length l.seen ≡ word_count) × Noted l.seen (terms_of l.body) l.i
    × Between (λ (j : ℕ). New l.variables (terms_of l.body) j × goal.F-post g l.passes j true) l.from l.i
