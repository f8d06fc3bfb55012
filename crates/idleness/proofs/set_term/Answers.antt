-- The value for the term's kind, at the term's variable.
-- the ends of the variable, as they were handed on
use Prim.Native.Nat.{ℕ}
use mathlib.Core.Path.{◌≡◌, ap, ap₂, ◌∙◌}
use mir.Syntax.{w64}
use mir.Val.{to_z, of_z}
use lib.ListN.{set}
use Rattle.program.specs.Idle.{demanding}
use Rattle.positions.specs.Kinds.{direction_of}
use borrow.Author.Rules.{rules}
use Rattle.idleness.proofs.set_term.Goals as goal

pub returns : goal.returns
returns c = let e = (let it : (to_z w64 (of_z w64 c.args.x.low) ≡ c.args.x.low) × (to_z w64 (of_z w64 c.args.x.high) ≡ c.args.x.high) = (search rules, search rules) in it) in
    let z : to_z w64 (of_z w64 c.demanding_by-most.result) ≡ c.demanding_by-most.result = search rules in
    ap₂ (set c.args.values.now) c.wide-v.ensures.0
    (z ∙ simp (e.0, e.1) at c.demanding_by-most.ensures ∙ ap (λ (n : ℕ). demanding c.args.h (direction_of n) c.args.x.low c.args.x.high) c.kind_of-kind.ensures)
