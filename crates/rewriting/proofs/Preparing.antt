-- The fields of the ordered text, at the places that the sort leaves.
use Prim.Native.Nat.{ℕ, ◌+◌, ◌-◌, ◌<◌, ◌≤◌}
use mathlib.Core.Path.{◌≡◌, sym, ap, ◌∙◌, subst}
use mathlib.Core.List.{List, ◌++◌, append-nil}
use native.Mathlib.Nat.{add_assoc, zero-add}
use native.Mathlib.Decide.{dec_lt}
use native.Mathlib.Omega.{arith}
use lib.ListN.{length, get_or, take, drop, length-append}
use lib.Seq.{get_or-take, length-take-le, take-append-le, drop-length}
use Rattle.program.specs.Fields.{place, value_at}
use Rattle.program.specs.Program.{Program, rule_of, constraint_of}
use Rattle.program.specs.Reading.{Accepts, Reads, accepted}
use Rattle.program.proofs.Unique.{reads_accepts}
use Rattle.program.specs.Encode.{Bytes}
use Rattle.normal.proofs.Listings.{among_at}
use Rattle.reader.specs.Parts.{rule_place, constraint_place}
use Rattle.reader.proofs.Published.{limited}
use Rattle.sorting.specs.Stretches.{stretch, Inside}
use Rattle.sorting.specs.Sorts.{Sorts, AllInside}
use Rattle.sorting.specs.declared.stretches.Piece.TheVariants.{Field}
use Rattle.ordering.specs.Fields.{OrderedFile}
use Rattle.ordering.proofs.Meant.{rule_meant, rule_ends, field_rule, constraint_meant, constraint_ends, field_constraint}
use Rattle.rewriting.specs.Writing.{max_fields, FieldsOf, Prepared, put_at}

module _ {s : List ℕ} {P : Program} {t places : List ℕ} {n : ℕ} (a : Accepts s P) (o : OrderedFile s P t places n) (few : n ≤ length places) where
  abbrev fields : List ℕ
  fields = take n places

  at_field : (i : ℕ) → i < n → get_or fields i 0 ≡ rule_place s P i
  at_field i h = get_or-take n places i 0 h ∙ o.placed i h

  at_constraint : (i : ℕ) → i < length P.constraints → get_or fields (length P.rules + i) 0 ≡ constraint_place s P i
  at_constraint i h =
      at_field (length P.rules + i) (omega (arith, o.counted))
      ∙ ap (place s) (sym (add_assoc (length P.variables) (length P.rules) i))

  pub fields_inside : AllInside Field t fields
  fields_inside = record { each = λ x m. let i = among_at 0 x fields m in subst (Inside Field t) i.2 (inside i.0 (omega (arith, i.1, length-take-le n places few))) }
    where
      inside : (i : ℕ) → i < n → Inside Field t (get_or fields i 0)
      inside i h = go (dec_lt i (length P.rules))
        where
          go : Dec (i < length P.rules) → Inside Field t (get_or fields i 0)
          go (yes l) = rw (at_field i h) (record { ends = rule_ends a o i l })
          go (no k) =
              let j = i - length P.rules in
              let e : length P.rules + j ≡ i = omega arith in
              let l : j < length P.constraints = omega (arith, o.counted) in
              subst (λ m. Inside Field t (get_or fields m 0)) e (rw (at_constraint j l) (record { ends = constraint_ends a o j l }))

  module _ (b : Bytes t) where
    pub fields_are : FieldsOf P (stretch Field t) fields
    unfolding stretch
    fields_are = record {
      counted = length-take-le n places few ∙ o.counted;
      rules = λ i h. (rule_of (value_at t (rule_place s P i)), rule_meant a o i h, rw (at_field i (omega (arith, o.counted))) (field_rule a o i h b));
      constraints = λ i h. (constraint_of (value_at t (constraint_place s P i)), constraint_meant a o i h, rw (at_constraint i h) (field_constraint a o i h b));
    }

    -- the sort leaves `part` of them, r places at its front
    pub prepared : (part : List ℕ) (r : ℕ) → length part ≡ n → r ≤ n → Sorts (stretch Field t) fields (take r part) → Prepared P t (part ++ drop n places) r
    prepared part r e h x =
        let q : take r (part ++ drop n places) ≡ take r part = take-append-le r part (drop n places) (omega arith) in
        record {
          fields = fields;
          are = fields_are;
          sorts = subst (Sorts (stretch Field t) fields) (sym q) x;
          inside = record { each = λ z m. fields_inside.each z (x.from z (rw q at m)) };
          few = omega (arith, length-append part (drop n places));
        }

-- a text that takes the whole file in
pub copied : (s t t' : List ℕ) → length t ≡ length s → t' ≡ put_at t 0 s → t' ≡ s
copied s t t' e d = d ∙ ap (λ (r : List ℕ). s ++ r) (ap (λ (k : ℕ). drop k t) (zero-add (length s) ∙ sym e) ∙ drop-length t) ∙ append-nil s

-- an accepted file has no more fields than there is room for
pub fields_few : {s t places : List ℕ} {n v r k : ℕ} → Reads s (accepted v r k) → ((P : Program) → Accepts s P → OrderedFile s P t places n) → n ≤ max_fields
fields_few x o =
    let y = reads_accepts x in
    let l = limited x in
    omega (arith, (o y.meant y.accepts).counted, y.rules_are, y.constraints_are, l.few_rules, l.few_constraints)
