-- The declared variables are entered, then the trees are taken in.
use mathlib.Core.Path.{sym}
use native.Mathlib.Omega.{arith}
use lib.Seq.{length-take-le}
use Rattle.nesting.proofs.Surveys.{plain_declares}
use Rattle.nesting.proofs.survey.Goals as goal

pub slice_bounds-load-end : goal.slice_bounds-load-end
slice_bounds-load-end c = sym (length-take-le _ _ c.requires.plain_counted.inside)

pub load-requires : goal.load-requires
load-requires c = record { declares = plain_declares c.requires.plain_counted (λ i. omega (arith, c.type_inv.file i)); tables = c.requires.tables }
