-- There is no room where sets or bytes are missing; else each variable gets its byte.
use native.Mathlib.Omega.{arith}
use Rattle.sharing.specs.Sharing.{named, no_room}
use Rattle.sharing.proofs.components.Goals as goal

pub returns-then-variables-gt-MAX_VARIABLES : goal.returns-then-variables-gt-MAX_VARIABLES
returns-then-variables-gt-MAX_VARIABLES c = no_room (λ l h. omega (arith, l.few))

pub returns-then-sets-variables : goal.returns-then-sets-variables
returns-then-sets-variables c = no_room (λ l h. omega (arith, l.room))

pub returns-then-buffer-variables : goal.returns-then-buffer-variables
returns-then-buffer-variables c = no_room (λ l h. omega arith)

pub returns : goal.returns
returns c = named (record { few = omega arith; room = omega arith }) (omega arith) c.name_each.ensures
