-- The refusals of a field's value.
use Rattle.std.specs.Prelude.{ℕ, List, [], ◌∷◌, Bool, true, ◌||◌, length}
use Rattle.program.specs.Tables.{◌when◌, first_of}
use Rattle.program.specs.Program.{item_of}
use Rattle.program.specs.Refusals.{any_term, wrong_length, wrong_term, outside_term, undeclared_term, wrong_count_of, repeated_term, negative_term, item_refusal}
use Rattle.faults.specs.declared.Faults.{Faults}
use Rattle.program.specs.declared.Variable.{Variable}
use Rattle.program.specs.declared.Term.{Term}

-- the refusals from 6 on of a field with this tag
unfoldable pub length_refusal : List Variable → ℕ → List ℕ → ℕ
length_refusal vs tag v = first_of ((6 when wrong_length tag v) ∷ (item_refusal vs (item_of tag v) when true) ∷ [])

-- the number of the first that is wrong: with what stands before a body, with a term of the body, or with their number
abbrev pub in_order : List Variable → ℕ → List Term → Faults → Bool → ℕ
in_order vs form ts own count =
    first_of
    ((7 when own.form || any_term ts (wrong_term form))
    ∷ (8 when own.range || any_term ts (outside_term form))
    ∷ (9 when own.variable || any_term ts (λ i t. undeclared_term vs t))
    ∷ (10 when count || wrong_count_of form (length ts))
    ∷ (11 when own.repeated || any_term ts (λ i t. repeated_term ts i))
    ∷ (12 when own.negative || any_term ts (λ i t. negative_term vs form t))
    ∷ [])
