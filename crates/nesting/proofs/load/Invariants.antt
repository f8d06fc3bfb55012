-- Invariant: the ends of the ranges of the variables before this one are entered.
use Prim.Native.Nat.{◌-◌, ◌≤◌}
use Rattle.program.specs.Program.{variables_at}
use Rattle.nesting.proofs.Loading.{LoadedTo}
use Rattle.nesting.proofs.load.Given as goal

abbrev pub invariant-loop-x : goal.invariant-loop-x
invariant-loop-x l = LoadedTo (variables_at l.plain l.n) l.lows l.highs l.x × (l.x ≤ l.n)
