-- Document 01, "The rule file" and "Reduct and least model": what a variable's record says of its values. A founded variable is lifted from
-- its starting end towards its far end; of two values, the one nearer to the starting end comes first in the variable's order. Document 02,
-- wish 3: "The variable's record carries its starting end everywhere."
use Rattle.std.specs.Prelude.{Bool, true, not, cond, ◌&&◌, ◌||◌, eqb, ℤ, neg_ℤ, Option, Some, None}
use Rattle.std.specs.Int.Signed.{le_z}
use Rattle.program.specs.declared.Variable.{Variable}

-- "0 standard, 1 founded"; document 02, wish 3: "Kind 2 .. is founded from above"
abbrev pub is_founded : Variable → Bool
is_founded x = eqb x.kind 1 || eqb x.kind 2

abbrev pub from_above : Variable → Bool
from_above x = eqb x.kind 2

-- Document 02, wish 3: "For such variables low and high, above and below, more and less swap": the first of two, or the second where x is founded
-- from above. Ends, order, directions, sizes and marks swap by this and by nothing else
unfoldable pub swaps : {A : Type 0} → Variable → A → A → A
swaps x a b = cond (from_above x) b a

-- the starting end and the far end of its range
unfoldable pub start : Variable → ℤ
start x = swaps x x.low x.high

unfoldable pub far : Variable → ℤ
far x = swaps x x.high x.low

-- a is at or before b in the variable's order
unfoldable pub not_past : Variable → ℤ → ℤ → Bool
not_past x a b = swaps x (le_z a b) (le_z b a)

-- a value as a number that grows along the variable's order: document 000's x' for x, "θ(x) = -θ(x')". It serves laws alone
unfoldable pub ahead : Variable → ℤ → ℤ
ahead x a = swaps x a (neg_ℤ a)

-- a value lies in the variable's range
abbrev pub in_range : Variable → ℤ → Bool
in_range x a = le_z x.low a && le_z a x.high

-- "A rule is met when it gives no more than its head has; one that gives nothing never gives more.": x is the head, and has b
abbrev pub no_more : Variable → Option ℤ → ℤ → Bool
no_more x None b = true
no_more x (Some a) b = not_past x a b

-- Document 02, wish 7: "A lift stops at the far end of the head's range": what is given to the head x, no further than b
unfoldable pub cut_off : Variable → ℤ → Option ℤ → Option ℤ
cut_off x b None = None
cut_off x b (Some a) = Some (cond (not_past x a b) a b)

-- where the least model's values begin: founded variables at their starting ends, standard ones as assigned
abbrev pub started : Variable → ℤ → ℤ
started x a = cond (is_founded x) (start x) a

-- a founded variable, assigned a, is short of it at m
abbrev pub short : Variable → ℤ → ℤ → Bool
short x a m = is_founded x && not (not_past x a m)
