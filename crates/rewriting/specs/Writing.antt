-- A normal form, put together: the variables as they stand in the file, then fields of a text in which the terms are in order.
use Rattle.std.specs.Prelude.{ℕ, ◌+◌, ◌<◌, ◌≤◌, ◌≡◌, List, ◌++◌, length, get_or, take, drop}
use Rattle.format.specs.Limits.{max_rules, max_constraints}
use Rattle.program.specs.Program.{Program, Rule, Constraint, rule_in, constraint_in}
use Rattle.program.specs.Encode.{each, rule_bytes, constraint_bytes, encode}
use Rattle.normal.specs.Ordered.{OrderedRule, OrderedConstraint}
use Rattle.normal.specs.Normal.{Normal}
use Rattle.sorting.specs.Stretches.{stretch}
use Rattle.sorting.specs.Sorts.{Sorts, AllInside}
use Rattle.sorting.specs.declared.stretches.Piece.TheVariants.{Field}

-- the most fields after the variables
abbrev pub max_fields : ℕ
max_fields = max_rules + max_constraints

-- b with the bytes w put in from `at` on
abbrev pub put_at : List ℕ → ℕ → List ℕ → List ℕ
put_at b at w = take at b ++ (w ++ drop (at + length w) b)

-- the bytes of the fields of t at the first n places
abbrev pub fields_at : List ℕ → List ℕ → ℕ → List ℕ
fields_at t places n = each (stretch Field t) (take n places)

-- they lie in the text, and there is room for them in b from `at` on
pub record Room (t places : List ℕ) (n : ℕ) (b : List ℕ) (at : ℕ) : Type 0 where
  pub places_are : n ≤ length places
  pub inside : AllInside Field t (take n places)
  pub fits : at + length (fields_at t places n) ≤ length b

-- ---- the fields of a program's rules and constraints, with their terms in order

-- the places that f reads have these fields, rules first
pub record FieldsOf (P : Program) (f : ℕ → List ℕ) (places : List ℕ) : Type 0 where
  pub counted : length places ≡ length P.rules + length P.constraints
  pub rules : (i : ℕ) → i < length P.rules → (q : Rule) × OrderedRule (rule_in P.rules i) q × (f (get_or places i 0) ≡ rule_bytes q)
  pub constraints : (i : ℕ) → i < length P.constraints
      → (l : Constraint) × OrderedConstraint (constraint_in P.constraints i) l × (f (get_or places (length P.rules + i) 0) ≡ constraint_bytes l)

-- the fields stand in the text t, and those at the first n places are they, sorted and without repeats
pub record Prepared (P : Program) (t places : List ℕ) (n : ℕ) : Type 0 where
  pub fields : List ℕ
  pub are : FieldsOf P (stretch Field t) fields
  pub sorts : Sorts (stretch Field t) fields (take n places)
  pub inside : AllInside Field t (take n places)
  pub few : n ≤ length places

-- of a file that means P: its normal form stands in b', from the first byte on, and has n bytes
pub record Rewritten (P : Program) (b : List ℕ) (n : ℕ) (b' : List ℕ) : Type 0 where
  pub program : Program
  pub normal : Normal P program
  pub length_is : n ≡ length (encode program)
  pub bytes : b' ≡ encode program ++ drop n b

-- the fields at the first i places have been put in: b has become b', and they end at `end`
pub record PutSoFar (t places b : List ℕ) (at i : ℕ) (b' : List ℕ) (end : ℕ) : Type 0 where
  pub ends : end ≡ at + length (fields_at t places i)
  pub bytes : b' ≡ put_at b at (fields_at t places i)
