-- Invariant: the first v values are written, and all bytes after them are as they were.
use mathlib.Core.Path.{◌≡◌, refl, ap, ◌∙◌}
use Prim.Native.Nat.{◌+◌, ◌*◌, ◌/◌, ◌%◌, ◌<◌}
use native.Mathlib.Omega.{arith}
use borrow.Author.Rules.{rules}
use mir.Syntax.{w64, w16}
use mir.Val.{to_z, of_z}
use lib.IntN.{ℤ, pos, nat_abs}
use lib.ListN.{take, get_or, set, length-set}
use lib.Seq.{lt-length-set, length-take-le, get_or-take}
use Rattle.least.proofs.WritingLaws.{written_none, written_more, written_done}
use Rattle.program.specs.Readings.{valued}
use Rattle.least.proofs.writing.write_values.Goals as goal

pub loop-v-init : goal.loop-v-init
loop-v-init c = (refl, written_none _ _)

pub high_byte-high-requires : goal.high_byte-high-requires
high_byte-high-requires c = let b : ℤ = get_or (take c.args.n c.args.values.now) c.loop-v.v (pos 0) in
    let h : c.loop-v.v < c.args.n = omega (arith, length-take-le c.args.n c.args.values.now) in
    let e : to_z w64 (of_z w64 b) ≡ b = search rules in
    omega (arith, ap nat_abs e, ap nat_abs (get_or-take c.args.n c.args.values.now c.loop-v.v (pos 0) h), c.requires.by_index c.loop-v.v h)

pub low_byte-low-requires : goal.low_byte-low-requires
low_byte-low-requires c = let b : ℤ = get_or (take c.args.n c.args.values.now) c.loop-v.v (pos 0) in
    let h : c.loop-v.v < c.args.n = omega (arith, length-take-le c.args.n c.args.values.now) in
    let e : to_z w64 (of_z w64 b) ≡ b = search rules in
    omega (arith, ap nat_abs e, ap nat_abs (get_or-take c.args.n c.args.values.now c.loop-v.v (pos 0) h), c.requires.by_index c.loop-v.v h)

pub bounds-buffer-v-in-loop-v : goal.bounds-buffer-v-in-loop-v
bounds-buffer-v-in-loop-v c = lt-length-set c.loop-v.buffer (2 * c.loop-v.v) c.high_byte-high.result (omega (arith, length-take-le c.args.n c.args.values.now))

pub loop-v-preserved : goal.loop-v-preserved
loop-v-preserved c = let b : ℤ = get_or (take c.args.n c.args.values.now) c.loop-v.v (pos 0) in
    let h : c.loop-v.v < c.args.n = omega (arith, length-take-le c.args.n c.args.values.now) in
    let r : to_z w64 (of_z w64 b) ≡ b = search rules in
    let e = r ∙ get_or-take c.args.n c.args.values.now c.loop-v.v (pos 0) h in (
      length-set (set c.loop-v.buffer (2 * c.loop-v.v) c.high_byte-high.result) (2 * c.loop-v.v + 1) c.low_byte-low.result ∙ length-set c.loop-v.buffer (2 * c.loop-v.v) c.high_byte-high.result ∙ c.loop-v.invariant.0,
      written_more (valued c.args.values.now) c.args.buffer.now c.loop-v.v (omega arith) c.loop-v.invariant.1
          (c.high_byte-high.ensures ∙ ap (λ (z : ℤ). of_z w16 z / 256) e) (c.low_byte-low.ensures ∙ ap (λ (z : ℤ). of_z w16 z % 256) e),
    )

pub returns : goal.returns
returns c = written_done _ _ (omega (arith, length-take-le c.args.n c.args.values.now)) c.loop-v.invariant.1
