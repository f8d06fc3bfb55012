-- A misframed input has the text of refusal 16; any other that of what the call answers.
-- the framing, as the test tells it
use mathlib.Core.Path.{◌≡◌, ap}
use mathlib.Core.Bool.{false}
use Prim.Native.Nat.{ℕ, ◌+◌, ◌≤◌}
use native.Mathlib.Omega.{arith}
use lib.ListN.{length}
use Rattle.entries.specs.Text.{answer_line}
use Rattle.framing.specs.Framing.{announced, misframed}
use Rattle.framing.proofs.FramingLaws.{framed}
use Rattle.listing.specs.Lists.{max_input}
use Rattle.listing.proofs.ListLaws.{listed_refusal, listed_told}
use Rattle.listing.proofs.list.Goals as goal

pub returns-then-is_misframed : goal.returns-then-is_misframed
unfolding answer_line
returns-then-is_misframed c = listed_refusal _ (cc) c.put_two.ensures.appends c.put_two.ensures.upper_bound

pub unsigned_at-end-requires : goal.unsigned_at-end-requires
unsigned_at-end-requires c = omega (arith, ((let it : (2 ≤ length c.args.input.now) × (2 + announced c.args.input.now ≤ length c.args.input.now) = framed max_input _ ((let it : misframed max_input c.args.input.now ≡ false = cc in it)) in it)).0)

pub slice_bounds-list_called-end : goal.slice_bounds-list_called-end
slice_bounds-list_called-end c = omega (arith, ((let it : (2 ≤ length c.args.input.now) × (2 + announced c.args.input.now ≤ length c.args.input.now) = framed max_input _ ((let it : misframed max_input c.args.input.now ≡ false = cc in it)) in it)).1, c.unsigned_at-end.ensures.0)

pub slice_bounds-list_called-count-2 : goal.slice_bounds-list_called-count-2
slice_bounds-list_called-count-2 c = omega (arith, ((let it : (2 ≤ length c.args.input.now) × (2 + announced c.args.input.now ≤ length c.args.input.now) = framed max_input _ ((let it : misframed max_input c.args.input.now ≡ false = cc in it)) in it)).1, c.unsigned_at-end.ensures.0)

pub slice_bounds-list_called-start-2 : goal.slice_bounds-list_called-start-2
slice_bounds-list_called-start-2 c = omega (arith, ((let it : (2 ≤ length c.args.input.now) × (2 + announced c.args.input.now ≤ length c.args.input.now) = framed max_input _ ((let it : misframed max_input c.args.input.now ≡ false = cc in it)) in it)).1, c.unsigned_at-end.ensures.0)

pub returns : goal.returns
returns c = listed_told _ _ ((let it : misframed max_input c.args.input.now ≡ false = cc in it))
    (ap (λ (n : ℕ). 2 + n) c.unsigned_at-end.ensures.0) c.list_called.ensures
