-- One way or the other, by where the variable is founded from.
use mathlib.Core.Path.{◌≡◌, sym, ap, ap₂, ◌∙◌, subst}
use mathlib.Core.Bool.{true, false, not}
use Prim.Native.Nat.{◌≤◌}
use lib.Dec.{T}
use lib.Signed.{◌≤ℤ◌}
use lib.IntN.{ℤ, pos, nat_abs, ◌+ℤ◌, ◌-ℤ◌}
use mir.Syntax.{w64}
use mir.Val.{SFits, to_z, of_z}
use mir.Facts.{to_z-of_z}
use Rattle.format.proofs.Int.{int, abs_is}
use Rattle.format.specs.Limits.{max_number}
use Rattle.program.specs.Variables.{from_above, not_past}
use Rattle.program.specs.declared.Variable.{Variable}
use Rattle.steady.proofs.Machine.{own_size}
use Rattle.targets.specs.Aims.{later_of, drawn_back}
use Rattle.targets.proofs.AimLaws.{above_fits, below_fits, back_above, back_below}
use borrow.Author.Rules.{rules}
use Rattle.targets.proofs.aims.draw.Goals as goal

module _
    (x : Variable) (value target stride : ℤ) (target_fits : SFits w64 target) (stride_fits : SFits w64 stride)
    (asked : (nat_abs value ≤ max_number) × (pos 1 ≤ℤ stride) × (nat_abs stride ≤ max_number) × T (not (not_past x target value))) where
  -- a stride is its own size
  size : stride ≡ pos (nat_abs stride)
  size = own_size stride asked.1

  one : 1 ≤ nat_abs stride
  one = omega (int, asked.1, abs_is stride)

  module _ (e : from_above x ≡ true) where
    above : SFits w64 (target +ℤ stride)
    above = subst (λ (k : ℤ). SFits w64 (target +ℤ k)) (sym size) (above_fits x value target _ asked.3 asked.0 one asked.2 target_fits e)

    above_is : to_z w64 (of_z w64 (to_z w64 (of_z w64 target) +ℤ to_z w64 (of_z w64 stride))) ≡ drawn_back x (nat_abs stride) target
    above_is =
        rw (to_z-of_z target_fits, to_z-of_z stride_fits)
        (to_z-of_z above ∙ ap (λ (k : ℤ). target +ℤ k) size ∙ back_above x e (nat_abs stride) target)

  module _ (e : from_above x ≡ false) where
    below : SFits w64 (target -ℤ stride)
    below = subst (λ (k : ℤ). SFits w64 (target -ℤ k)) (sym size) (below_fits x value target _ asked.3 asked.0 one asked.2 target_fits e)

    below_is : to_z w64 (of_z w64 (to_z w64 (of_z w64 target) -ℤ to_z w64 (of_z w64 stride))) ≡ drawn_back x (nat_abs stride) target
    below_is =
        rw (to_z-of_z target_fits, to_z-of_z stride_fits)
        (to_z-of_z below ∙ ap (λ (k : ℤ). target -ℤ k) size ∙ back_below x e (nat_abs stride) target)

pub overflow_add-target : goal.overflow_add-target
overflow_add-target c = rw (to_z-of_z c.ranges.target, to_z-of_z c.ranges.stride) (above c.args.x c.args.value c.args.target c.args.stride c.ranges.target c.ranges.stride c.requires (sym c.is_from_above.ensures ∙ c.if-is_from_above.true))

pub returns-then-is_from_above : goal.returns-then-is_from_above
returns-then-is_from_above c = let z : to_z w64 (of_z w64 c.later.result) ≡ c.later.result = search rules in
    z ∙ c.later.ensures ∙ ap₂ (later_of c.args.x) (to_z-of_z c.ranges.value) (above_is c.args.x c.args.value c.args.target c.args.stride c.ranges.target c.ranges.stride c.requires (sym c.is_from_above.ensures ∙ c.if-is_from_above.true))

pub overflow_sub-target : goal.overflow_sub-target
overflow_sub-target c = rw (to_z-of_z c.ranges.target, to_z-of_z c.ranges.stride) (below c.args.x c.args.value c.args.target c.args.stride c.ranges.target c.ranges.stride c.requires (sym c.is_from_above.ensures ∙ c.if-is_from_above.false))

pub returns : goal.returns
returns c = let z : to_z w64 (of_z w64 c.later-2.result) ≡ c.later-2.result = search rules in
    z ∙ c.later-2.ensures ∙ ap₂ (later_of c.args.x) (to_z-of_z c.ranges.value) (below_is c.args.x c.args.value c.args.target c.args.stride c.ranges.target c.ranges.stride c.requires (sym c.is_from_above.ensures ∙ c.if-is_from_above.false))
