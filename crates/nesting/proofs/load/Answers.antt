-- Invariant: the ends of the ranges of the variables before this one are entered.
use Prim.Native.Nat.{◌*◌}
use mathlib.Core.Path.{◌≡◌, sym}
use native.Mathlib.Omega.{arith}
use mir.Syntax.{w64}
use mir.Val.{to_z, of_z}
use lib.Seq.{length-take-le}
use borrow.Author.Rules.{rules}
use Rattle.nesting.proofs.Loading.{loaded_none, loaded_more, loaded_all}
use Rattle.nesting.proofs.load.Goals as goal

pub loop-x-init : goal.loop-x-init
loop-x-init c = (loaded_none _ c.requires.tables.0, omega arith)

pub overflow_cast-x : goal.overflow_cast-x
overflow_cast-x c = omega (arith, c.requires.declares.few)

pub variable-v-requires : goal.variable-v-requires
variable-v-requires c = omega (arith, c.requires.declares.inside)

pub loop-x-preserved : goal.loop-x-preserved
loop-x-preserved c = let e = (let it : (to_z w64 (of_z w64 c.variable-v.result.low) ≡ c.variable-v.result.low) × (to_z w64 (of_z w64 c.variable-v.result.high) ≡ c.variable-v.result.high) = (search rules, search rules) in it) in
    (loaded_more _ _ _ c.requires.declares (omega arith) c.loop-x.invariant.0 (c.variable-v.ensures c.args.n (omega arith)) e.0 e.1, omega arith)

pub overflow_mul-n : goal.overflow_mul-n
overflow_mul-n c = omega (arith, c.requires.declares.few)

pub slice_bounds-put-end : goal.slice_bounds-put-end
slice_bounds-put-end c = sym (length-take-le _ _ c.requires.declares.inside)

pub put-requires : goal.put-requires
put-requires c = omega (arith, length-take-le (8 * c.args.n) c.args.plain.now c.requires.declares.inside, c.requires.tables.1, c.requires.declares.few)

pub returns : goal.returns
returns c = loaded_all _ _ c.requires.declares (omega arith) c.loop-x.invariant.0 c.requires.tables.1 c.put.ensures.1
