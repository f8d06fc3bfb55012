-- What the fields of a file in order mean: its rules and constraints, each with its terms in order.
use Prim.Native.Nat.{ℕ, ◌+◌, ◌*◌, ◌<◌, ◌≤◌}
use mathlib.Core.Path.{◌≡◌, refl, sym, ap, ◌∙◌}
use mathlib.Core.Bool.{Bool, true, false, cond}
use mathlib.Core.List.{List}
use native.Mathlib.Omega.{arith}
use lib.Dec.{eqb}
use lib.ListN.{length, get_or, take, drop}
use Rattle.program.specs.Fields.{tag_at, length_at, value_at, next_at, place}
use Rattle.program.specs.Program.{Program, rule_in, constraint_in, rule_of, constraint_of, terms_of}
use Rattle.program.specs.Refusals.{body_form}
use Rattle.program.specs.Reading.{Accepts}
use Rattle.program.specs.Encode.{Bytes, field_bytes, rule_bytes, constraint_bytes}
use Rattle.program.proofs.Places.{value_length}
use Rattle.program.proofs.Encoding.{value_bytes, rule_written, constraint_written}
use Rattle.program.proofs.RoundTrip.{field_stretch}
use Rattle.reader.specs.Parts.{rule_place, constraint_place}
use Rattle.reader.proofs.Published.{rule_lies, constraint_lies}
use Rattle.normal.specs.Ordered.{staying, OrderedRule, OrderedConstraint}
use Rattle.ordering.specs.Bodies.{OrderedBytes}
use Rattle.ordering.specs.Fields.{OrderedField, OrderedFile}
use Rattle.ordering.proofs.TermLaws.{terms_take, terms_after}
use Rattle.ordering.proofs.FieldLaws.{from_constraint, from_rule, same_part, same_byte_before}
use Rattle.ordering.proofs.ValueLaws.{divisors, stays, rule_sizes, constraint_sizes}

-- ---- values

-- the value w of a rule is v with its terms in order
rule_ordered : (v w : List ℕ) → take (4 + 4 * (divisors v + stays v)) w ≡ take (4 + 4 * (divisors v + stays v)) v
    → OrderedBytes (drop (4 + 4 * (divisors v + stays v)) v) (drop (4 + 4 * (divisors v + stays v)) w) → OrderedRule (rule_of v) (rule_of w)
rule_ordered v w e o =
    let d = divisors v in
    let y = stays v in
    let byte = same_byte_before v w (4 + 4 * (d + y)) e in
    let part = same_part v w (4 + 4 * (d + y)) e in
    let form = byte 0 (omega arith) in
    record {
      form = form;
      head = byte 1 (omega arith);
      c = rw (byte 2 (omega arith), byte 3 (omega arith));
      divisor = rw form (ap terms_of (part 4 (4 * d) (omega arith)));
      terms = rw form (record {
        first = rw (← terms_take y (drop (4 + 4 * d) w), ← terms_take y (drop (4 + 4 * d) v)) (ap terms_of (part (4 + 4 * d) (4 * y) (omega arith)));
        others = rw (terms_after 4 v d y, terms_after 4 w d y) at o.listing;
      });
    }

-- no term of a constraint stays
none_stays : (form : ℕ) → staying (body_form form) ≡ 0
unfolding staying
none_stays form = go (eqb form 1) (eqb form 2)
  where
    go : (a b : Bool) → staying (cond a 1 (cond b 6 0)) ≡ 0
    go true b = refl
    go false true = refl
    go false false = refl

constraint_ordered : (v w : List ℕ) → take 3 w ≡ take 3 v → OrderedBytes (drop 3 v) (drop 3 w) → OrderedConstraint (constraint_of v) (constraint_of w)
constraint_ordered v w e o =
    let byte = same_byte_before v w 3 e in
    record {
      form = byte 0 (omega arith);
      c = rw (byte 1 (omega arith), byte 2 (omega arith));
      terms = record { first = rw (none_stays (get_or v 0 0)); others = rw (none_stays (get_or v 0 0)) o.listing };
    }

-- ---- fields

-- constraint i is field length rules + i of those after the variables
constraint_number : (s : List ℕ) (P : Program) (i : ℕ) → rule_place s P (length P.rules + i) ≡ constraint_place s P i
constraint_number s P i =
    let e : length P.variables + (length P.rules + i) ≡ length P.variables + length P.rules + i = omega arith in ap (place s) e

-- a field of t ends where that of s does
module _ {s t : List ℕ} (l : length t ≡ length s) (at : ℕ) (f : OrderedField s t at) (h : next_at s at ≤ length s) where
  ends : next_at t at ≤ length t
  ends = omega (arith, f.size)

  ends_within : at + (3 + length_at t at) ≤ length t
  ends_within = omega (arith, ends)

  same_size : length (value_at t at) ≡ length (value_at s at)
  same_size = value_length t at ends ∙ f.size ∙ sym (value_length s at h)

  field_written : Bytes t → {tag : ℕ} → tag_at s at ≡ tag → take (3 + length_at t at) (drop at t) ≡ field_bytes tag (value_at t at)
  field_written b e = field_stretch t at b ends ∙ ap (λ (tag : ℕ). field_bytes tag (value_at t at)) (f.tag ∙ e)

-- of an accepted file s that means P, and t with its rules and constraints in order
module _ {s : List ℕ} {P : Program} {t places : List ℕ} {n : ℕ} (a : Accepts s P) (o : OrderedFile s P t places n) (i : ℕ) where
  module _ (h : i < length P.rules) where
    abbrev rule_at : ℕ
    rule_at = rule_place s P i

    rule_field : OrderedField s t rule_at
    rule_field = o.ordered i (omega (arith, o.counted))

    pub rule_meant : OrderedRule (rule_in P.rules i) (rule_of (value_at t (rule_place s P i)))
    rule_meant =
        let e = from_rule _ (get_or (value_at s rule_at) 0 0) (rule_sizes a i h).tagged in
        rw (rule_lies a i h).is (rule_ordered (value_at s rule_at) (value_at t rule_at) (rw (← e) at rule_field.start) (rw (← e) at rule_field.terms))

    pub rule_ends : rule_place s P i + (3 + length_at t (rule_place s P i)) ≤ length t
    rule_ends = ends_within o.length_is rule_at rule_field (rule_lies a i h).inside

    module _ (b : Bytes t) where
      pub rule_value_is : field_bytes 2 (value_at t (rule_place s P i)) ≡ rule_bytes (rule_of (value_at t (rule_place s P i)))
      rule_value_is =
          let z = (rule_sizes a i h).sized in
          sym (rule_written (value_at t rule_at) (value_bytes t rule_at b) z.terms (same_size o.length_is rule_at rule_field (rule_lies a i h).inside ∙ z.length_is))

      pub field_rule : take (3 + length_at t (rule_place s P i)) (drop (rule_place s P i) t) ≡ rule_bytes (rule_of (value_at t (rule_place s P i)))
      field_rule = field_written o.length_is rule_at rule_field (rule_lies a i h).inside b (rule_sizes a i h).tagged ∙ rule_value_is

  module _ (h : i < length P.constraints) where
    abbrev constraint_at : ℕ
    constraint_at = constraint_place s P i

    constraint_field : OrderedField s t constraint_at
    constraint_field = rw (constraint_number s P i) at (o.ordered (length P.rules + i) (omega (arith, o.counted)))

    pub constraint_meant : OrderedConstraint (constraint_in P.constraints i) (constraint_of (value_at t (constraint_place s P i)))
    constraint_meant =
        let e = from_constraint _ (get_or (value_at s constraint_at) 0 0) (constraint_sizes a i h).tagged in
        rw (constraint_lies a i h).is
        (constraint_ordered (value_at s constraint_at) (value_at t constraint_at) (rw (← e) at constraint_field.start) (rw (← e) at constraint_field.terms))

    pub constraint_ends : constraint_place s P i + (3 + length_at t (constraint_place s P i)) ≤ length t
    constraint_ends = ends_within o.length_is constraint_at constraint_field (constraint_lies a i h).inside

    module _ (b : Bytes t) where
      pub constraint_value_is : field_bytes 3 (value_at t (constraint_place s P i)) ≡ constraint_bytes (constraint_of (value_at t (constraint_place s P i)))
      constraint_value_is =
          let z = (constraint_sizes a i h).sized in
          sym (constraint_written (value_at t constraint_at) (value_bytes t constraint_at b) z.terms
          (same_size o.length_is constraint_at constraint_field (constraint_lies a i h).inside ∙ z.length_is))

      pub field_constraint : take (3 + length_at t (constraint_place s P i)) (drop (constraint_place s P i) t) ≡ constraint_bytes (constraint_of (value_at t (constraint_place s P i)))
      field_constraint = field_written o.length_is constraint_at constraint_field (constraint_lies a i h).inside b (constraint_sizes a i h).tagged ∙ constraint_value_is
