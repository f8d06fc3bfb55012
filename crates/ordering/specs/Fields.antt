-- Fields of rules and constraints, with their terms in order, each at its place.
use Rattle.std.specs.Prelude.{ℕ, ◌+◌, ◌*◌, ◌<◌, ◌≤◌, ◌≡◌, List, [], ◌∷◌, length, get_or, take, drop}
use Rattle.program.specs.Tables.{◌⇒◌, select}
use Rattle.program.specs.Fields.{tag_at, length_at, value_at, next_at, place}
use Rattle.program.specs.Program.{Program, divisor_terms, term_form}
use Rattle.normal.specs.Ordered.{staying}
use Rattle.ordering.specs.Bodies.{Orderable, OrderedBytes}

-- where the terms that are ordered begin in a value: after the header, and a rule's divisor or carried variable
unfoldable pub ordered_from : ℕ → ℕ → ℕ
ordered_from tag form = select tag ((2 ⇒ (4 + 4 * (divisor_terms form + staying (term_form form)))) ∷ (3 ⇒ 3) ∷ []) 0

abbrev pub start_of : ℕ → List ℕ → ℕ
start_of tag v = ordered_from tag (get_or v 0 0)

-- a field that can be ordered stands here
pub record FieldHere (s : List ℕ) (at : ℕ) : Type 0 where
  pub inside : next_at s at ≤ length s
  pub tag_least : 2 ≤ tag_at s at
  pub tag_most : tag_at s at ≤ 3
  pub headed : start_of (tag_at s at) (value_at s at) ≤ length (value_at s at)
  pub body : Orderable (drop (start_of (tag_at s at) (value_at s at)) (value_at s at))

-- the field of t is that of s with its terms in order
pub record OrderedField (s t : List ℕ) (at : ℕ) : Type 0 where
  pub tag : tag_at t at ≡ tag_at s at
  pub size : length_at t at ≡ length_at s at
  pub start : take (start_of (tag_at s at) (value_at s at)) (value_at t at) ≡ take (start_of (tag_at s at) (value_at s at)) (value_at s at)
  pub terms : OrderedBytes (drop (start_of (tag_at s at) (value_at s at)) (value_at s at)) (drop (start_of (tag_at s at) (value_at s at)) (value_at t at))

-- the field at a place of s is put in order in the text t: t' is the text then, as before up to the field and as s from the next place r on
pub record FieldOrdered (s t t' : List ℕ) (at r : ℕ) : Type 0 where
  pub next : r ≡ next_at s at
  pub length_is : length t' ≡ length t
  pub before : take at t' ≡ take at t
  pub after : drop r t' ≡ drop r s
  pub ordered : OrderedField s t' at

-- t is the file s with the terms of its rules and constraints in order; `places` has the places of their n fields, in the file's order
pub record OrderedFile (s : List ℕ) (P : Program) (t places : List ℕ) (n : ℕ) : Type 0 where
  pub counted : n ≡ length P.rules + length P.constraints
  pub length_is : length t ≡ length s
  pub variables : take (8 * length P.variables) t ≡ take (8 * length P.variables) s
  pub placed : (i : ℕ) → i < n → get_or places i 0 ≡ place s (length P.variables + i)
  pub ordered : (i : ℕ) → i < n → OrderedField s t (place s (length P.variables + i))
