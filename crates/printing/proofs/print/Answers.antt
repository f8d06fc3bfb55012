-- A misframed input has the text of refusal 16; any other that of what the check answers.
-- the framing, as the test tells it
use mathlib.Core.Path.{◌≡◌, ap}
use mathlib.Core.Bool.{false}
use Prim.Native.Nat.{ℕ, ◌+◌, ◌≤◌}
use native.Mathlib.Omega.{arith}
use lib.ListN.{length}
use Rattle.entries.specs.Text.{answer_line}
use Rattle.framing.specs.Framing.{announced, misframed}
use Rattle.framing.proofs.FramingLaws.{framed}
use Rattle.printing.specs.Prints.{max_input}
use Rattle.printing.proofs.PrintLaws.{printed_refusal, printed_told}
use Rattle.printing.proofs.print.Goals as goal

pub returns-then-is_misframed : goal.returns-then-is_misframed
unfolding answer_line
returns-then-is_misframed c = printed_refusal _ (cc) c.put_two.ensures.appends c.put_two.ensures.upper_bound

pub unsigned_at-end-requires : goal.unsigned_at-end-requires
unsigned_at-end-requires c = omega (arith, ((let it : (2 ≤ length c.args.input.now) × (2 + announced c.args.input.now ≤ length c.args.input.now) = framed max_input _ ((let it : misframed max_input c.args.input.now ≡ false = cc in it)) in it)).0)

pub slice_bounds-print_checked-end : goal.slice_bounds-print_checked-end
slice_bounds-print_checked-end c = omega (arith, ((let it : (2 ≤ length c.args.input.now) × (2 + announced c.args.input.now ≤ length c.args.input.now) = framed max_input _ ((let it : misframed max_input c.args.input.now ≡ false = cc in it)) in it)).1, c.unsigned_at-end.ensures.0)

pub slice_bounds-print_checked-count-2 : goal.slice_bounds-print_checked-count-2
slice_bounds-print_checked-count-2 c = omega (arith, ((let it : (2 ≤ length c.args.input.now) × (2 + announced c.args.input.now ≤ length c.args.input.now) = framed max_input _ ((let it : misframed max_input c.args.input.now ≡ false = cc in it)) in it)).1, c.unsigned_at-end.ensures.0)

pub slice_bounds-print_checked-start-2 : goal.slice_bounds-print_checked-start-2
slice_bounds-print_checked-start-2 c = omega (arith, ((let it : (2 ≤ length c.args.input.now) × (2 + announced c.args.input.now ≤ length c.args.input.now) = framed max_input _ ((let it : misframed max_input c.args.input.now ≡ false = cc in it)) in it)).1, c.unsigned_at-end.ensures.0)

pub returns : goal.returns
returns c = printed_told _ _ ((let it : misframed max_input c.args.input.now ≡ false = cc in it))
    (ap (λ (n : ℕ). 2 + n) c.unsigned_at-end.ensures.0) c.print_checked.ensures
