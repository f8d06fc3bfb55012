-- The fields of a file one after the other.
use Rattle.std.specs.Prelude.{Result, Ok, Err}
use Prim.Native.Nat.{ℕ, ◌+◌, ◌*◌, ◌-◌, ◌<◌, ◌≤◌}
use mathlib.Core.Path.{◌≡◌, refl, sym, ap, ◌∙◌, subst}
use mathlib.Core.List.{List}
use mathlib.Core.Bool.{Bool, true, false, cond}
use lib.Dec.{leb, lit<, lit≤}
use lib.ListN.{length, take, drop}
use native.Mathlib.Nat.{add-sub_cancel_left}
use native.Mathlib.Numerals.{add-one}
use native.Mathlib.Omega.{arith}
use borrow.Author.Tests.{leb-true, leb-false}
use Rattle.format.specs.Limits.{max_file, max_variables, max_rules, max_constraints}
use Rattle.program.specs.Fields.{tag_at, length_at, value_at, next_at, place, tag_before}
use Rattle.program.specs.Program.{Program, program}
use Rattle.program.specs.Refusals.{cut_short, value_refusal, field_refusal}
use Rattle.program.specs.Reading.{Passed, bad_field, too_long, number_of, counted}
use Rattle.program.specs.declared.Counts.{Counts}
use Rattle.program.specs.declared.Refusal.{Refusal}
use Rattle.program.specs.declared.Refusal.TheVariants.{FileTooLong, CutShort, UnknownTag, TagBelow, OneTooMany, WrongLength, WrongForm, OutsideRange}
use Rattle.program.specs.declared.Refusal.TheVariants.{Undeclared, WrongCount, VariableTwice, NegativeProduct, NotValid}
use Rattle.program.proofs.Places.{passed_none, passed_more, passed_inside, passed_fine, place_next, before_next, not_cut, variables_stand, counts, variables_length}
use Rattle.program.proofs.Counting.{counts_to, counts_more}
use Rattle.program.proofs.ReadDemanded.{field_most}
use Rattle.fields.specs.Standing.{field_at}
use Rattle.fields.specs.Scanning.{Describes, Counted, Stopped, Scans}
use Rattle.faults.specs.Faults.{checked_number}
use Rattle.fields.specs.declared.cursor.Cursor.{Cursor}
use Rattle.fields.specs.declared.cursor.Field.{Field}
use Rattle.fields.specs.declared.cursor.Field.TheVariants as field
use Rattle.program.specs.declared.Rejection.{Rejection}

-- ---- what stands at a place, from the code's answer

-- a whole field stands there
pub record Stands (s : List ℕ) (at tag start len next : ℕ) : Type 0 where
  pub more : at < length s
  pub uncut : cut_short s at ≡ false
  pub tag_is : tag ≡ tag_at s at
  pub start_is : start ≡ at + 3
  pub len_is : len ≡ length_at s at
  pub next_is : next ≡ at + 3 + len
  pub fits : at + 3 + len ≤ length s

module _ (s : List ℕ) (at : ℕ) where
  abbrev standing : Bool → Bool → Field
  standing a b = cond a field.End (cond b field.Short (field.Whole (tag_at s at) (at + 3) (length_at s at) (record { at = next_at s at })))

  pub field_ended : field.End ≡ field_at s at → length s ≤ at
  unfolding field_at
  field_ended e = go (leb (length s) at) (cut_short s at) refl refl e
    where
      go : (a b : Bool) → leb (length s) at ≡ a → cut_short s at ≡ b → field.End ≡ standing a b → length s ≤ at
      go true b p q e = leb-true (length s) at p
      go false true p q e = absurd (let z : ◌≡◌ {A = ℕ} 0 1 = cc in omega arith)
      go false false p q e = absurd (let z : ◌≡◌ {A = ℕ} 0 1 = cc in omega arith)

  pub field_cut : field.Short ≡ field_at s at → (at < length s) × (cut_short s at ≡ true)
  unfolding field_at
  field_cut e = go (leb (length s) at) (cut_short s at) refl refl e
    where
      go : (a b : Bool) → leb (length s) at ≡ a → cut_short s at ≡ b → field.Short ≡ standing a b → (at < length s) × (cut_short s at ≡ true)
      go true b p q e = absurd (let z : ◌≡◌ {A = ℕ} 0 1 = cc in omega arith)
      go false true p q e = (leb-false (length s) at p, q)
      go false false p q e = absurd (let z : ◌≡◌ {A = ℕ} 0 1 = cc in omega arith)

  module _ (tag start len : ℕ) (next : Cursor) where
    pub field_stands : field.Whole tag start len next ≡ field_at s at → Stands s at tag start len next.at
    unfolding field_at
    field_stands e = go (leb (length s) at) (cut_short s at) refl refl e
      where
        go : (a b : Bool) → leb (length s) at ≡ a → cut_short s at ≡ b → field.Whole tag start len next ≡ standing a b → Stands s at tag start len next.at
        go true b p q e = absurd (let z : ◌≡◌ {A = ℕ} 0 1 = cc in omega arith)
        go false true p q e = absurd (let z : ◌≡◌ {A = ℕ} 0 1 = cc in omega arith)
        go false false p q e =
            let l : len ≡ length_at s at = cc in
            let n : next.at ≡ next_at s at = cc in
            let w = not_cut s at q in
            record {
              more = leb-false (length s) at p;
              uncut = q;
              tag_is = cc;
              start_is = cc;
              len_is = l;
              next_is = omega arith;
              fits = omega arith;
            }

-- what the `else` knows: neither ended nor whole
pub not_whole : (f : Field) → (f ≡ field.End → ⊥) → ((tag start len : ℕ) (next : Cursor) → f ≡ field.Whole tag start len next → ⊥) → f ≡ field.Short
not_whole (field.Whole tag start len next) g h = absurd (h tag start len next refl)
not_whole field.Short g h = refl
not_whole field.End g h = absurd (g refl)

-- ---- the fields read so far

pub record Reached (s : List ℕ) (at before : ℕ) (k : Counts) : Type 0 where
  pub fields : ℕ
  pub passed : Passed s fields
  pub placed : at ≡ place s fields
  pub tagged : before ≡ tag_before s fields
  pub describes : Describes s k (program s fields)
  pub declared : 8 * k.variables ≤ length s
  pub inside : at ≤ length s
  pub few_variables : k.variables ≤ max_variables
  pub few_rules : k.rules ≤ max_rules
  pub few_constraints : k.constraints ≤ max_constraints

-- so many fields passed, counted and placed
module _ (s : List ℕ) (n at before : ℕ) (k : Counts) where
  pub reach : Passed s n → at ≡ place s n → before ≡ tag_before s n → k ≡ counts_to s n → Reached s at before k
  reach p a b c =
      let v = variables_stand n p in
      let w = counts p in
      let i = passed_inside n p in
      rw c
      record {
        fields = n;
        passed = p;
        placed = a;
        tagged = b;
        describes = record { variables_are = v.are; rules_are = refl; constraints_are = refl };
        declared = v.inside;
        inside = omega arith;
        few_variables = w.few_variables;
        few_rules = w.few_rules;
        few_constraints = w.few_constraints;
      }

-- the counts are those of the fields read
pub counts_are : {s : List ℕ} {k : Counts} {P : Program} → Describes s k P
    → k ≡ record { variables = length P.variables; rules = length P.rules; constraints = length P.constraints }
counts_are {s} {k} {P} d =
    let v : length P.variables ≡ k.variables = ap length d.variables_are ∙ variables_length s k.variables in
    λ i. record { variables = sym v i; rules = sym d.rules_are i; constraints = sym d.constraints_are i }

module _ (s : List ℕ) where
  pub scan_long : max_file < length s → Stopped s 1 0
  scan_long h = record { reads = too_long h; early = lit≤ tt }

  pub scan_start : length s ≤ max_file → Reached s 0 0 (record { variables = 0; rules = 0; constraints = 0 })
  unfolding place tag_before program
  scan_start h = reach s 0 0 0 _ (passed_none s h) refl refl refl

-- the part from `start` on, `len` long, is the field's value
part_value : (s : List ℕ) (at tag start len next : ℕ) → Stands s at tag start len next → take (start + len - start) (drop start s) ≡ value_at s at
part_value s at tag start len next w = rw (add-sub_cancel_left start len, w.len_is, w.start_is)

-- Each refusal has a number above 0
pub number_positive : (why : Refusal) → 0 < number_of why
number_positive FileTooLong = lit< tt
number_positive CutShort = lit< tt
number_positive UnknownTag = lit< tt
number_positive TagBelow = lit< tt
number_positive OneTooMany = lit< tt
number_positive WrongLength = lit< tt
number_positive WrongForm = lit< tt
number_positive OutsideRange = lit< tt
number_positive Undeclared = lit< tt
number_positive WrongCount = lit< tt
number_positive VariableTwice = lit< tt
number_positive NegativeProduct = lit< tt
number_positive NotValid = lit< tt

module _ (s : List ℕ) (at before : ℕ) (k : Counts) (r : Reached s at before k) where
  -- the refusal of the next field
  cut_refusal : cut_short s at ≡ true → field_refusal s r.fields ≡ 2
  unfolding field_refusal
  cut_refusal e = let c : cut_short s (place s r.fields) ≡ true = rw r.placed at e in simp c

  next_refusal : cut_short s at ≡ false → field_refusal s r.fields ≡ value_refusal (program s r.fields) before (tag_at s at) (value_at s at)
  unfolding field_refusal
  next_refusal e = let c : cut_short s (place s r.fields) ≡ false = rw r.placed at e in rw (r.placed, r.tagged) (simp c (last _))
    where
      last : (n : ℕ) → n ≡ n
      last n = refl

  refuse : (n : ℕ) → at < length s → field_refusal s r.fields ≡ n → 0 < n → Stopped s n at
  refuse n h e z = record {
    reads = rw (← e, r.placed) (bad_field {k = r.fields} r.passed (let q = r.placed in omega arith) (omega arith));
    early = rw e at (field_most s r.fields);
  }

  pub scan_ended : field.End ≡ field_at s at → Counted s k
  scan_ended e =
      let h = field_ended s at e in
      record { fields = r.fields; whole = record { passed = r.passed; ended = let q = r.placed in omega arith }; describes = r.describes }

  pub scan_cut : field.Short ≡ field_at s at → Stopped s 2 at
  scan_cut e = let c = field_cut s at e in refuse 2 c.0 (cut_refusal c.1) (lit< tt)

  module _ (tag start len next : ℕ) (w : Stands s at tag start len next) (checked : Result (Unit {0}) Refusal)
      (a : (P : Program) → Describes s k P → checked_number checked ≡ value_refusal P before tag (take (start + len - start) (drop start s))) where
    answer_is : field_refusal s r.fields ≡ checked_number checked
    answer_is =
        next_refusal w.uncut
        ∙ sym (rw (part_value s at tag start len next w, w.tag_is) at (a (program s r.fields) r.describes))

    pub scan_bad : (why : Refusal) → checked ≡ Err why → Stopped s (number_of why) at
    scan_bad why e = refuse (number_of why) w.more (answer_is ∙ ap checked_number e) (number_positive why)

    pub scan_more : (k' : Counts) → checked ≡ (Ok tt) → k' ≡ counted tag k → Reached s next tag k'
    scan_more k' e q =
        let z : field_refusal s r.fields ≡ 0 = answer_is ∙ ap checked_number e in
        let p = passed_more r.passed (let h = w.more in let l = r.placed in omega arith) z in
        let f = passed_fine p r.fields (omega arith) in
        let t : tag ≡ tag_at s (place s r.fields) = w.tag_is ∙ ap (tag_at s) r.placed in
        reach s (r.fields + 1) next tag k' p
        (w.next_is ∙ ap (λ (n : ℕ). at + 3 + n) w.len_is ∙ ap (next_at s) r.placed ∙ sym (place_next s r.fields))
        (t ∙ sym (before_next s r.fields))
        (q ∙ rw (t, counts_are r.describes) (counts_more s r.fields f.tag_least f.tag_most) ∙ ap (counts_to s) (sym (add-one r.fields)))

-- ---- what scanning a file answers

module _ (s : List ℕ) (r : Result Counts Rejection) (scans : Scans s r) where
  pub scanned_whole : (k : Counts) → r ≡ Ok k → Counted s k
  scanned_whole k e = subst (Scans s) e scans

  pub scanned_stopped : (why : Refusal) (at : ℕ) → r ≡ Err (record { why = why; at = at }) → Stopped s (number_of why) at
  scanned_stopped why at e = subst (Scans s) e scans
