-- A decided rule asks nothing; the head of another gets its stop on its own side.
use Prim.Native.Nat.{ℕ}
use mathlib.Core.Path.{◌≡◌, sym, ap, ◌∙◌}
use lib.IntN.{ℤ, pos}
use lib.ListN.{get_or}
use mir.Syntax.{w64}
use mir.Val.{to_z, of_z}
use Rattle.run.specs.Running.{head_of}
use Rattle.run.proofs.RunLaws.{head_lies, here_head, head_field, head_variable}
use Rattle.ends.proofs.FreeLaws.{freed_past, freed_raised}
use borrow.Author.Rules.{rules}
use Rattle.ends.proofs.free.free_rule.Goals as goal

pub returns-then-not-is_undecided : goal.returns-then-not-is_undecided
returns-then-not-is_undecided c = record { sides_len_2 = c.requires.sides_len; freed = λ P i h t z f. freed_past h f (sym (c.is_undecided.ensures P i h) ∙ c.if-not-is_undecided.true) }

pub head_at-head-requires : goal.head_at-head-requires
head_at-head-requires c = head_lies c.requires.some_rule.here

pub variable-x-requires : goal.variable-x-requires
variable-x-requires c = head_field c.requires.some_rule.here c.head_at-head.ensures

pub returns : goal.returns
returns c = let v : ℤ = get_or c.args.stops.now c.wide.result (pos 0) in
    let z : to_z w64 (of_z w64 v) ≡ v = search rules in
    record {
      sides_len_2 = c.write.ensures.sides_len;
      freed = λ P i h t o f.
          let e : c.wide.result ≡ head_of P i = c.wide.ensures.0 ∙ here_head h c.head_at-head.ensures in
          freed_raised h f (t P h.accepts) (sym (c.is_undecided.ensures P i h) ∙ c.if-not-is_undecided.false) c.requires.sides_len (here_head h c.head_at-head.ensures)
          (head_variable h c.head_at-head.ensures c.variable-x.ensures) c.is_from_above.ensures
          (z ∙ ap (λ (x : ℕ). get_or c.args.stops.now x (pos 0)) e ∙ o P h.accepts (head_of P i)) c.write.ensures.sides_after;
    }
