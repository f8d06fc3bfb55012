-- What a rule is estimated to give on the way from present values to aims: position i of its body is at `at i` and has the aim `aim i`, and goes there in strides of
-- `stride i` steps, the head in strides of `own`. The estimate is steady: values that fall short of the aims by n strides take at most n strides of the head off it
-- (law `estimate_steady`).
use Rattle.std.specs.Prelude.{ℕ, zero, suc, ◌+◌, ◌-◌, ◌*◌, ◌/◌, Bool, cond, not, ◌&&◌, List, [], ◌∷◌, eqb, ltb, ℤ, pos, nat_abs, ◌+ℤ◌, ◌-ℤ◌, ◌*ℤ◌, length, Option}
use Rattle.std.specs.Int.Signed.{le_z}
use Rattle.program.specs.Tables.{◌⇒◌, select, any_below}
use Rattle.program.specs.Program.{Rule, term_form, divisor_of, term_in}
use Rattle.program.specs.Variables.{swaps}
use Rattle.program.specs.Evaluate.{sum_below, all_hold, only_if, over_up, amount_of}
use Rattle.program.specs.declared.Term.{Term}
use Rattle.program.specs.declared.Variable.{Variable}

-- the steps from one value to another
unfoldable pub distance : ℤ → ℤ → ℕ
distance a b = nat_abs (b -ℤ a)

-- the steps from position i to its aim; a position moves where they are not 0
abbrev pub apart : (ℕ → ℤ) → (ℕ → ℤ) → ℕ → ℕ
apart at aim i = distance (at i) (aim i)

-- a, so many steps on in the order of x
unfoldable pub further : Variable → ℤ → ℤ → ℤ
further x a steps = swaps x (a +ℤ steps) (a -ℤ steps)

-- ---- sums

-- a position that moves takes as weight the size of its number, but no more than its strides go into the room left; one that stays takes none
unfoldable pub weight : ℕ → ℤ → ℕ → ℕ → ℕ
weight room number stride steps = cond (eqb steps 0) 0 (cond (ltb (nat_abs number) (room / stride)) (nat_abs number) (room / stride))

-- the room left by the first n positions, by their numbers, strides and steps: it falls by each weight taken times the stride
unfoldable pub room_below : ℕ → (ℕ → ℤ) → (ℕ → ℕ) → (ℕ → ℕ) → ℕ → ℕ
room_below room number stride steps zero = room
room_below room number stride steps (suc n) = let left = room_below room number stride steps n in left - weight left (number n) (stride n) (steps n) * stride n

-- the weight of position i
abbrev pub weight_at : ℕ → (ℕ → ℤ) → (ℕ → ℕ) → (ℕ → ℕ) → ℕ → ℕ
weight_at room number stride steps i = weight (room_below room number stride steps i) (number i) (stride i) (steps i)

-- how far the first n positions lift the sum: each by its weight times its steps
unfoldable pub rise_below : ℕ → (ℕ → ℤ) → (ℕ → ℕ) → (ℕ → ℕ) → ℕ → ℕ
rise_below room number stride steps zero = 0
rise_below room number stride steps (suc n) = rise_below room number stride steps n + weight_at room number stride steps n * steps n

abbrev pub number_at : List Term → ℕ → ℤ
number_at ts i = (term_in ts i).number

-- the room of a sum is its divisor times the head's stride
unfoldable pub rise : ℕ → (ℕ → ℕ) → ℤ → List Term → (ℕ → ℤ) → (ℕ → ℤ) → ℕ
rise own stride d ts at aim = rise_below (nat_abs d * own) (number_at ts) stride (apart at aim) (length ts)

-- ---- products

-- one factor lifts a product by its own steps where the other is at least 1: the first where it moves, else the second
unfoldable pub factor_rise : (ℕ → ℤ) → (ℕ → ℤ) → ℕ
factor_rise at aim =
    cond (not (eqb (apart at aim 0) 0) && le_z (pos 1) (at 1)) (apart at aim 0)
    (cond (le_z (pos 1) (at 0)) (apart at aim 1) 0)

-- ---- forms other than sums

-- a plain position that moves has a longer stride than the head
abbrev pub outruns : ℕ → (ℕ → ℕ) → List Term → (ℕ → ℕ) → ℕ → Bool
outruns own stride ts steps i = eqb (term_in ts i).op 0 && (not (eqb (steps i) 0) && ltb own (stride i))

-- the aims where none has; else the present values
unfoldable pub held : ℕ → (ℕ → ℕ) → List Term → (ℕ → ℤ) → (ℕ → ℤ) → ℕ → ℤ
held own stride ts at aim = cond (any_below (length ts) (outruns own stride ts (apart at aim))) at aim

-- of a product it is the amount at the present values, moved by the rise in the order of the head x; of every other form the amount at the aims
unfoldable pub moved_as : ℕ → Variable → ℤ → ℤ → List Term → (ℕ → ℤ) → (ℕ → ℤ) → ℤ
moved_as form x c d ts at aim = select form ((4 ⇒ further x (c +ℤ (at 0 *ℤ at 1)) (pos (factor_rise at aim))) ∷ []) (amount_of form c d ts aim)

-- ---- the estimate

-- of a sum it is the sum at the present values, moved by the rise in the order of the head x
unfoldable pub estimated_as : ℕ → Variable → ℕ → (ℕ → ℕ) → ℤ → ℤ → List Term → (ℕ → ℤ) → (ℕ → ℤ) → ℤ
estimated_as form x own stride c d ts at aim =
    select form
    ((1 ⇒ over_up d (further x (c +ℤ sum_below (λ i. (term_in ts i).number *ℤ at i) (length ts)) (pos (rise own stride d ts at aim)))) ∷ [])
    (moved_as form x c d ts at (held own stride ts at aim))

abbrev pub estimated : Variable → ℕ → (ℕ → ℕ) → Rule → (ℕ → ℤ) → (ℕ → ℤ) → ℤ
estimated x own stride r at aim = estimated_as (term_form r.form) x own stride r.c (divisor_of r) r.terms at aim

-- where every literal holds at the present values; else nothing
unfoldable pub estimate : Variable → ℕ → (ℕ → ℕ) → Rule → (ℕ → ℤ) → (ℕ → ℤ) → Option ℤ
estimate x own stride r at aim = only_if (all_hold r.terms at (length r.terms)) (estimated x own stride r at aim)
