-- What a constraint asks, form by form, by its header and the body that is handed on.
use Prim.Native.Nat.{ℕ}
use mathlib.Core.Path.{◌≡◌, refl}
use mathlib.Core.List.{List}
use mathlib.Core.Bool.{Bool, true, false, cond}
use lib.IntN.{ℤ, pos, ◌+ℤ◌}
use lib.Signed.{le_z}
use lib.ListN.{length}
use Rattle.words.specs.Bit.{bit}
use Rattle.program.specs.Tables.{any_below}
use Rattle.program.specs.Program.{term_in, terms_of, constraint_of, constraint_body}
use Rattle.program.specs.Evaluate.{sum_below, holds, satisfied}
use Rattle.program.specs.Evaluable.{Coefficients, Satisfiable}
use Rattle.program.specs.Readings.{valued}
use Rattle.program.specs.declared.Term.{Term}
use Rattle.parts.specs.Values.{Handed}
use Rattle.bodies.specs.Readings.{reading_of, weighted}

either : (t : Bool) (a : ℤ) → cond t a a ≡ a
either true a = refl
either false a = refl

-- a body is read in one valuation where both are that one
reading_one : (kept : ℕ) (vs : List ℤ) (ts : List Term) → reading_of kept vs vs ts ≡ (λ j. valued vs (term_in ts j).variable)
unfolding reading_of
reading_one kept vs ts = λ k j. either (bit kept j) (valued vs (term_in ts j).variable) k

module _ (v : List ℕ) {b : List ℕ} (y : Handed (constraint_body v) b) where
  pub handed_weights : (constraint_of v).form ≡ 1 → Satisfiable (constraint_of v) → Coefficients (terms_of b)
  handed_weights h e = rw y.is (e.weights h)

  module _ (kept : ℕ) (vs : List ℤ) where
    pub asks_sum : {c : ℤ} → (constraint_of v).form ≡ 1 → c ≡ (constraint_of v).c
        → le_z (c +ℤ sum_below (weighted (terms_of b) (reading_of kept vs vs (terms_of b))) (length (terms_of b))) (pos 0)
        ≡ satisfied (constraint_of v) (λ j. valued vs (term_in (constraint_of v).terms j).variable)
    unfolding satisfied
    asks_sum h q = rw (q, y.is, reading_one kept vs (terms_of (constraint_body v)), h)

    pub asks_literal : (constraint_of v).form ≡ 2
        → any_below (length (terms_of b)) (λ i. holds (term_in (terms_of b) i) (reading_of kept vs vs (terms_of b) i))
        ≡ satisfied (constraint_of v) (λ j. valued vs (term_in (constraint_of v).terms j).variable)
    unfolding satisfied
    asks_literal h = rw (y.is, reading_one kept vs (terms_of (constraint_body v)), h)
