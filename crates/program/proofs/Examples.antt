-- Document 01's small examples, shown of the specification; and wrong readers that it rules out.
use Prim.Native.Nat.{ℕ}
use mathlib.Core.Path.{◌≡◌, refl, sym, ap, ◌∙◌}
use mathlib.Core.List.{List, [], ◌∷◌}
use lib.Dec.{lit<, lit≤}
use native.Mathlib.Omega.{arith}
use Rattle.format.specs.Numbers.{beyond}
use Rattle.walks.specs.Walk.{closed}
use Rattle.program.specs.Tables.{any_below}
use Rattle.program.specs.Fields.{place, tag_before}
use Rattle.program.specs.Program.{program, divisor_terms, term_form, terms_of}
use Rattle.program.specs.Refusals.{cut_short, unknown_tag, tag_below, one_too_many, not_terms, wrong_length, literal_position, wrong_op, must_be_zero, wrong_term, unknown_form}
use Rattle.program.specs.Refusals.{wrong_divisor, wrong_constraint, wrong_form, outside_term, outside_divisor, outside_range, undeclared_term, wrong_head, undeclared}
use Rattle.program.specs.Refusals.{wrong_count_of, wrong_divisors, wrong_count, repeated_term, variable_twice, negative_term, negative_product, item_refusal, value_refusal}
use Rattle.program.specs.Refusals.{field_refusal}
use Rattle.program.specs.Directions.{plain_direction, away, term_direction, direction}
use Rattle.program.specs.Variables.{swaps, start, not_past}
use Rattle.program.specs.Evaluate.{sum_below, pick_to, all_hold, over_up, amount_of, evaluate}
use Rattle.program.specs.Readings.{kept}
use Rattle.program.specs.Idle.{furthest, nearest, demanding, most_at, most, is_idle}
use Rattle.program.specs.Components.{draws, edge}
use Rattle.program.specs.Reading.{Answer, accepted, refused, Reads, bad_field}
use Rattle.program.proofs.Places.{passed_none, passed_more}
use Rattle.program.proofs.Unique.{reads_unique}
use Rattle.program.proofs.Decide.{share_test, offends_at_lem, offends_test, unfit, whole_by, accepted_by, refused_by}

-- unfolding this unfolds the specification
fields_compute : Unit {0}
unfolding beyond any_below place tag_before program divisor_terms term_form terms_of cut_short unknown_tag tag_below one_too_many not_terms wrong_length value_refusal field_refusal
fields_compute = tt

terms_compute : Unit {0}
unfolding literal_position wrong_op must_be_zero wrong_term wrong_divisor outside_term outside_divisor undeclared_term repeated_term negative_term
terms_compute = tt

items_compute : Unit {0}
unfolding unknown_form wrong_constraint wrong_form outside_range wrong_head undeclared wrong_count_of wrong_divisors wrong_count variable_twice negative_product item_refusal
items_compute = tt

gives_compute : Unit {0}
unfolding sum_below pick_to all_hold over_up amount_of evaluate swaps start not_past furthest nearest demanding most_at most is_idle
gives_compute = tt

valid_computes : Unit {0}
unfolding plain_direction away term_direction direction kept draws edge closed share_test offends_at_lem offends_test unfit
valid_computes = tt

unfoldable pub computes : Unit {0}
unfolding fields_compute terms_compute items_compute gives_compute valid_computes
computes = tt

abbrev pub variable : ℕ → List ℕ → List ℕ
variable kind rest = 0x01 ∷ 0x00 ∷ 0x05 ∷ kind ∷ 0x00 ∷ 0x00 ∷ 0x00 ∷ 0x01 ∷ rest

pub empty : Reads [] (accepted 0 0 0)
unfolding computes
empty = accepted_by (whole_by [] 0 (lit≤ tt) refl (lit≤ tt)) refl

pub row_2 : Reads (0x01 ∷ 0x00 ∷ 0x05 ∷ 0x01 ∷ []) (refused 2 0)
unfolding computes
row_2 = bad_field {k = 0} (passed_none _ (lit≤ tt)) (lit< tt) (lit< tt)

pub row_3 : Reads (0x09 ∷ 0x00 ∷ 0x00 ∷ []) (refused 3 0)
unfolding computes
row_3 = bad_field {k = 0} (passed_none _ (lit≤ tt)) (lit< tt) (lit< tt)

-- one byte is a field cut short, whatever its tag
pub cut_header : Reads (0x09 ∷ []) (refused 2 0)
unfolding computes
cut_header = bad_field {k = 0} (passed_none _ (lit≤ tt)) (lit< tt) (lit< tt)

pub row_4 : Reads (0x03 ∷ 0x00 ∷ 0x03 ∷ 0x01 ∷ 0x00 ∷ 0x00 ∷ 0x01 ∷ 0x00 ∷ 0x05 ∷ 0x00 ∷ 0x00 ∷ 0x00 ∷ 0x00 ∷ 0x01 ∷ []) (refused 4 6)
unfolding computes
row_4 = bad_field {k = 1} (passed_more (passed_none _ (lit≤ tt)) (lit< tt) refl) (lit< tt) (lit< tt)

pub row_6 : Reads (0x01 ∷ 0x00 ∷ 0x04 ∷ 0x00 ∷ 0x00 ∷ 0x00 ∷ 0x00 ∷ []) (refused 6 0)
unfolding computes
row_6 = bad_field {k = 0} (passed_none _ (lit≤ tt)) (lit< tt) (lit< tt)

pub row_7 : Reads (0x01 ∷ 0x00 ∷ 0x05 ∷ 0x03 ∷ 0x00 ∷ 0x00 ∷ 0x00 ∷ 0x01 ∷ []) (refused 7 0)
unfolding computes
row_7 = bad_field {k = 0} (passed_none _ (lit≤ tt)) (lit< tt) (lit< tt)

-- document 02, wish 3: "Kind 2, which refusal 7 now lets pass"
pub row_7_kind_2 : Reads (variable 2 []) (accepted 1 0 0)
unfolding computes
row_7_kind_2 = accepted_by (whole_by (variable 2 []) 1 (lit≤ tt) refl (lit≤ tt)) refl

pub row_8 : Reads (0x01 ∷ 0x00 ∷ 0x05 ∷ 0x00 ∷ 0x00 ∷ 0x01 ∷ 0x00 ∷ 0x00 ∷ []) (refused 8 0)
unfolding computes
row_8 = bad_field {k = 0} (passed_none _ (lit≤ tt)) (lit< tt) (lit< tt)

pub row_9 : Reads (0x02 ∷ 0x00 ∷ 0x04 ∷ 0x01 ∷ 0x00 ∷ 0x00 ∷ 0x00 ∷ []) (refused 9 0)
unfolding computes
row_9 = bad_field {k = 0} (passed_none _ (lit≤ tt)) (lit< tt) (lit< tt)

pub row_10 : Reads (0x03 ∷ 0x00 ∷ 0x03 ∷ 0x02 ∷ 0x00 ∷ 0x00 ∷ []) (refused 10 0)
unfolding computes
row_10 = bad_field {k = 0} (passed_none _ (lit≤ tt)) (lit< tt) (lit< tt)

-- a ≥ 2·b - b
abbrev repeated : List ℕ
repeated = variable 1 (variable 1 (2 ∷ 0 ∷ 12 ∷ 1 ∷ 0 ∷ 0 ∷ 0 ∷ 1 ∷ 0 ∷ 0 ∷ 2 ∷ 1 ∷ 0 ∷ 255 ∷ 255 ∷ []))

pub row_11 : Reads repeated (refused 11 16)
unfolding computes
row_11 = bad_field {k = 2} (passed_more (passed_more (passed_none _ (lit≤ tt)) (lit< tt) refl) (lit< tt) refl) (lit< tt) (lit< tt)

-- a ≥ b × d, b from -1
pub row_12 : Reads (variable 1 (1 ∷ 0 ∷ 5 ∷ 1 ∷ 255 ∷ 255 ∷ 0 ∷ 1 ∷ variable 1 (2 ∷ 0 ∷ 12 ∷ 4 ∷ 0 ∷ 0 ∷ 0 ∷ 1 ∷ 0 ∷ 0 ∷ 0 ∷ 2 ∷ 0 ∷ 0 ∷ 0 ∷ []))) (refused 12 24)
unfolding computes
row_12 = bad_field {k = 3} (passed_more (passed_more (passed_more (passed_none _ (lit≤ tt)) (lit< tt) refl) (lit< tt) refl) (lit< tt) refl) (lit< tt) (lit< tt)

-- a ≥ |b|, b ≥ 2a - 6, a in 0..1, b in low..10
abbrev sized : ℕ → ℕ → List ℕ
sized high low = variable 1 (1 ∷ 0 ∷ 5 ∷ 1 ∷ high ∷ low ∷ 0 ∷ 10 ∷ 2 ∷ 0 ∷ 8 ∷ 5 ∷ 0 ∷ 0 ∷ 0 ∷ 1 ∷ 0 ∷ 0 ∷ 0 ∷ 2 ∷ 0 ∷ 8 ∷ 1 ∷ 1 ∷ 255 ∷ 250 ∷ 0 ∷ 0 ∷ 0 ∷ 2 ∷ [])

pub row_13 : Reads (sized 255 246) (refused 13 16)
unfolding computes
row_13 = refused_by (whole_by (sized 255 246) 4 (lit≤ tt) refl (lit≤ tt)) 0 (lit< tt) refl refl

-- the same rules in the other order: the second one offends
abbrev other_order : List ℕ
other_order = variable 1 (1 ∷ 0 ∷ 5 ∷ 1 ∷ 255 ∷ 246 ∷ 0 ∷ 10 ∷ 2 ∷ 0 ∷ 8 ∷ 1 ∷ 1 ∷ 255 ∷ 250 ∷ 0 ∷ 0 ∷ 0 ∷ 2 ∷ 2 ∷ 0 ∷ 8 ∷ 5 ∷ 0 ∷ 0 ∷ 0 ∷ 1 ∷ 0 ∷ 0 ∷ 0 ∷ [])

pub row_13_last : Reads other_order (refused 13 27)
unfolding computes
row_13_last = refused_by (whole_by other_order 4 (lit≤ tt) refl (lit≤ tt)) 1 (lit< tt) refl refl

-- the same rules with b from 0: nothing is mixed
pub row_13_from_zero : Reads (sized 0 0) (accepted 2 2 0)
unfolding computes
row_13_from_zero = accepted_by (whole_by (sized 0 0) 4 (lit≤ tt) refl (lit≤ tt)) refl

-- a ≥ b × d, all in 0..1
abbrev product : List ℕ
product = variable 1 (variable 1 (variable 1 (2 ∷ 0 ∷ 12 ∷ 4 ∷ 0 ∷ 0 ∷ 0 ∷ 1 ∷ 0 ∷ 0 ∷ 0 ∷ 2 ∷ 0 ∷ 0 ∷ 0 ∷ [])))

pub row_12_from_zero : Reads product (accepted 3 1 0)
unfolding computes
row_12_from_zero = accepted_by (whole_by product 4 (lit≤ tt) refl (lit≤ tt)) refl

-- a ≥ k·b
abbrev scaled : ℕ → List ℕ
scaled k = variable 1 (variable 1 (2 ∷ 0 ∷ 8 ∷ 1 ∷ 0 ∷ 0 ∷ 0 ∷ 1 ∷ 0 ∷ 0 ∷ k ∷ []))

pub row_8_coefficient : Reads (scaled 0) (refused 8 16)
unfolding computes
row_8_coefficient = bad_field {k = 2} (passed_more (passed_more (passed_none _ (lit≤ tt)) (lit< tt) refl) (lit< tt) refl) (lit< tt) (lit< tt)

-- coefficient 1, of the last declared variable
pub row_8_from_one : Reads (scaled 1) (accepted 2 1 0)
unfolding computes
row_8_from_one = accepted_by (whole_by (scaled 1) 3 (lit≤ tt) refl (lit≤ tt)) refl

-- a ≥ b, where a is the last variable
abbrev undeclared_next : List ℕ
undeclared_next = variable 1 (2 ∷ 0 ∷ 8 ∷ 1 ∷ 0 ∷ 0 ∷ 0 ∷ 1 ∷ 0 ∷ 0 ∷ 1 ∷ [])

pub row_9_next : Reads undeclared_next (refused 9 8)
unfolding computes
row_9_next = bad_field {k = 1} (passed_more (passed_none _ (lit≤ tt)) (lit< tt) refl) (lit< tt) (lit< tt)

-- a ≥ |a|, a in -10..10
abbrev own_size : List ℕ
own_size = 1 ∷ 0 ∷ 5 ∷ 1 ∷ 255 ∷ 246 ∷ 0 ∷ 10 ∷ 2 ∷ 0 ∷ 8 ∷ 5 ∷ 0 ∷ 0 ∷ 0 ∷ 0 ∷ 0 ∷ 0 ∷ 0 ∷ []

pub row_13_own : Reads own_size (refused 13 8)
unfolding computes
row_13_own = refused_by (whole_by own_size 2 (lit≤ tt) refl (lit≤ tt)) 0 (lit< tt) refl refl

-- ---- a reader whose every answer is the specification's

-- a wrong answer, beside the specification's
pub accepted_not : (a b c n at : ℕ) → accepted a b c ≡ refused n at → ⊥
accepted_not a b c n at e = let z : ◌≡◌ {A = ℕ} 0 1 = cc in omega arith

abbrev pub place_of : Answer → ℕ
place_of (accepted a b c) = 0
place_of (refused n at) = at

module _ (read : List ℕ → Answer) (right : (s : List ℕ) → Reads s (read s)) where
  pub answers : (s : List ℕ) {r r' : Answer} → Reads s r → read s ≡ r' → r ≡ r'
  answers s h e = reads_unique h (right s) ∙ e

  -- it turns some file down and accepts some file
  pub not_refusing : (n at : ℕ) → read [] ≡ refused n at → ⊥
  not_refusing n at e = accepted_not 0 0 0 n at (answers [] empty e)

  pub not_accepting : (a b c : ℕ) → read (0x09 ∷ []) ≡ accepted a b c → ⊥
  not_accepting a b c e = accepted_not a b c 2 0 (sym (answers _ cut_header e))

  -- it takes a variable founded from above, and no variable of kind 3
  pub not_kind_3 : (a b c : ℕ) → read (variable 3 []) ≡ accepted a b c → ⊥
  not_kind_3 a b c e = accepted_not a b c 7 0 (sym (answers _ row_7 e))

  pub not_kind_2_refused : (n at : ℕ) → read (variable 2 []) ≡ refused n at → ⊥
  not_kind_2_refused n at e = accepted_not 1 0 0 n at (answers _ row_7_kind_2 e)

  -- it compares a variable with that at the first position of the body: one that leaves this position out accepts `a ≥ 2·b - b`
  pub not_first_position_left_out : (a b c : ℕ) → read repeated ≡ accepted a b c → ⊥
  not_first_position_left_out a b c e = accepted_not a b c 11 16 (sym (answers _ row_11 e))

  -- it looks at the first rule and at the last one: one that passes either over accepts row 13's file, or that with its rules in the other order
  pub not_first_rule_passed_over : (a b c : ℕ) → read (sized 255 246) ≡ accepted a b c → ⊥
  not_first_rule_passed_over a b c e = accepted_not a b c 13 16 (sym (answers _ row_13 e))

  pub not_last_rule_passed_over : (a b c : ℕ) → read other_order ≡ accepted a b c → ⊥
  not_last_rule_passed_over a b c e = accepted_not a b c 13 27 (sym (answers _ row_13_last e))

  -- it gives the place of that rule's tag, at 16, and not that of its value
  pub not_place_of_the_value : read (sized 255 246) ≡ refused 13 19 → ⊥
  not_place_of_the_value e = let q = ap place_of (answers _ row_13 e) in omega arith

  -- it takes two fields of one tag, here at 0 and 8, and a field that ends with the file, here at 27
  pub not_equal_tags : read (sized 0 0) ≡ refused 4 8 → ⊥
  not_equal_tags e = accepted_not 2 2 0 4 8 (answers _ row_13_from_zero e)

  pub not_field_at_the_end : read (sized 0 0) ≡ refused 2 27 → ⊥
  not_field_at_the_end e = accepted_not 2 2 0 2 27 (answers _ row_13_from_zero e)

  -- the size of a variable from 0 on is not mixed
  pub not_mixed_from_zero : read (sized 0 0) ≡ refused 13 16 → ⊥
  not_mixed_from_zero e = accepted_not 2 2 0 13 16 (answers _ row_13_from_zero e)

  -- it takes a product of variables from 0 on
  pub not_12_at_zero : (at : ℕ) → read product ≡ refused 12 at → ⊥
  not_12_at_zero at e = accepted_not 3 1 0 12 at (answers _ row_12_from_zero e)

  -- it takes no coefficient 0
  pub not_coefficient_zero : (a b c : ℕ) → read (scaled 0) ≡ accepted a b c → ⊥
  not_coefficient_zero a b c e = accepted_not a b c 8 16 (sym (answers _ row_8_coefficient e))

  -- of two variables it takes 1; of one variable it does not take 1, in a body, and of none not 0, as a head
  pub not_last_variable_refused : (at : ℕ) → read (scaled 1) ≡ refused 9 at → ⊥
  not_last_variable_refused at e = accepted_not 2 1 0 9 at (answers _ row_8_from_one e)

  pub not_next_variable : (a b c : ℕ) → read undeclared_next ≡ accepted a b c → ⊥
  not_next_variable a b c e = accepted_not a b c 9 8 (sym (answers _ row_9_next e))

  pub not_next_head : (a b c : ℕ) → read (0x02 ∷ 0x00 ∷ 0x04 ∷ 0x01 ∷ 0x00 ∷ 0x00 ∷ 0x00 ∷ []) ≡ accepted a b c → ⊥
  not_next_head a b c e = accepted_not a b c 9 0 (sym (answers _ row_9 e))

  -- it takes the head itself for a variable of its component: one that looks at the other variables alone accepts `a ≥ |a|`
  pub not_own_size : (a b c : ℕ) → read own_size ≡ accepted a b c → ⊥
  not_own_size a b c e = accepted_not a b c 13 8 (sym (answers _ row_13_own e))
