use Prim.Native.Nat.{◌-◌, ◌≤◌}
use Rattle.noderules.proofs.Terms.{TermsPut}
use Rattle.noderules.proofs.put_terms.Given as goal

abbrev pub invariant-loop-i : goal.invariant-loop-i
invariant-loop-i l = TermsPut l.s l.initial.place l.initial.next l.number l.initial.out l.at l.i l.out l.place l.next l.end × (l.i ≤ l.i-end)
