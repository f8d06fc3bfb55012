-- Values on the way: the rules stand in the tables.
use Prim.Native.Nat.{ℕ, ◌*◌, ◌<◌, ◌≤◌}
use mathlib.Core.Path.{◌≡◌, sym, subst}
use mathlib.Core.Bool.{Bool}
use mathlib.Core.List.{List}
use native.Mathlib.Omega.{arith}
use lib.IntN.{ℤ}
use Rattle.program.specs.Reading.{AcceptedAs}
use Rattle.program.specs.declared.Counts.{Counts}
use Rattle.reader.proofs.Published.{counts_of_is}
use Rattle.tables.specs.Tabled.{row_words}
use Rattle.run.specs.Running.{SomeWay}
use Rattle.sequence.specs.Standing.{RulesStand}

pub way_stand : {s offsets masks : List ℕ} {others stops : List ℤ} {cut : Bool} {m : List ℤ} → SomeWay s offsets masks others stops cut m → (k : Counts) → AcceptedAs s k
    → RulesStand s offsets k.rules
way_stand w k a i l =
    let q = w.way.basis.reckons in
    record { program = w.program; rule = i; here = q.stands i (subst (λ (n : ℕ). i < n) (sym (counts_of_is a q.accepts).rules_are) l) }

-- a table of k rows has those of the first n variables
pub rows_in : (k : ℕ) {n words : ℕ} → n ≤ k → words ≡ k * row_words → row_words * n ≤ words
rows_in k h e = omega arith
