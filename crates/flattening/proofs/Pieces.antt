-- The plain file, put together of four pieces.
use Prim.Native.Nat.{ℕ, ◌+◌, ◌-◌, ◌*◌, ◌≤◌}
use mathlib.Core.Path.{◌≡◌, refl, sym, ap, ap₂, ◌∙◌}
use mathlib.Core.List.{List, ◌++◌, append_assoc}
use native.Mathlib.Omega.{arith}
use lib.ListN.{length, take, drop, length-append, take-append-drop}
use lib.Seq.{length-take-le, take_at, drop_at}
use Rattle.program.specs.Fields.{place}
use Rattle.program.specs.Program.{Program, program}
use Rattle.program.specs.Encode.{each, variable_bytes, rule_bytes, constraint_bytes, encode, Bytes}
use Rattle.program.specs.declared.Counts.{Counts}
use Rattle.program.proofs.Encoding.{bytes_take}
use Rattle.program.proofs.RoundTrip.{each_append}
use Rattle.rewriting.proofs.Forms.{variables_size}
use Rattle.nested.specs.Nested.{Nested, trees, nested}
use Rattle.nested.specs.Flatten.{added_rules, flatten}
use Rattle.nested.specs.FlattenCall.{flat}
use Rattle.nested.proofs.NestedReads.{whole_unique}
use Rattle.noderules.specs.NodeRules.{PutIn}
use Rattle.noderules.proofs.Putting.{puts_same, puts_more}
use Rattle.nesting.proofs.Surveys.{part_encoded}
use Rattle.linking.proofs.Settling.{plain_is, plain_many}
use Rattle.flattening.specs.Writing.{TreesPut, TreesFit, FlatWritten, Sized}
use Rattle.flattening.proofs.RulesEnd.{rules_end}

-- the middle of three, and the last
middle : (xs ys zs rest : List ℕ) → take (length xs + length ys - length xs) (drop (length xs) ((xs ++ (ys ++ zs)) ++ rest)) ≡ ys
middle xs ys zs rest =
    let e : (xs ++ (ys ++ zs)) ++ rest ≡ xs ++ (ys ++ (zs ++ rest)) = append_assoc xs (ys ++ zs) rest ∙ ap (λ r. xs ++ r) (append_assoc ys zs rest) in
    ap (λ r. take (length xs + length ys - length xs) (drop (length xs) r)) e
    ∙ ap (take (length xs + length ys - length xs)) (drop_at xs (ys ++ (zs ++ rest)) (length xs) refl)
    ∙ take_at ys (zs ++ rest) (length xs + length ys - length xs) (omega arith)

last : (xs ys zs rest : List ℕ) → take (length xs + length ys + length zs - (length xs + length ys)) (drop (length xs + length ys) ((xs ++ (ys ++ zs)) ++ rest)) ≡ zs
last xs ys zs rest =
    let e : (xs ++ (ys ++ zs)) ++ rest ≡ (xs ++ ys) ++ (zs ++ rest) =
    ap (λ r. r ++ rest) (sym (append_assoc xs ys zs)) ∙ append_assoc (xs ++ ys) zs rest in
    ap (λ r. take (length xs + length ys + length zs - (length xs + length ys)) (drop (length xs + length ys) r)) e
    ∙ ap (take (length xs + length ys + length zs - (length xs + length ys))) (drop_at (xs ++ ys) (zs ++ rest) (length xs + length ys) (length-append xs ys))
    ∙ take_at zs rest (length xs + length ys + length zs - (length xs + length ys)) (omega arith)

module _ {s : List ℕ} {counts : Counts} {from variables bytes : ℕ} {records : List ℕ} (z : Sized s counts from variables bytes records) (b : Bytes s) where
  abbrev K : ℕ
  K = z.settled.fields

  abbrev N : Nested
  N = nested s K

  abbrev P : Program
  P = program s K

  abbrev n : ℕ
  n = counts.variables

  -- the fields of the declared variables, of the old rules, of the rules of the trees, and of the constraints
  abbrev W : List ℕ
  W = each variable_bytes P.variables

  abbrev B : List ℕ
  B = each rule_bytes P.rules

  abbrev C : List ℕ
  C = each rule_bytes (added_rules n (trees s K))

  abbrev D : List ℕ
  D = each constraint_bytes P.constraints

  -- the fields of all variables of the plain file
  abbrev A : List ℕ
  A = each variable_bytes (flatten N).variables

  abbrev end : ℕ
  end = place (take from s) (n + counts.rules)

  same : program s z.settled.plain.fields ≡ P
  same = sym (plain_is z.settled ∙ z.settled.plain.means)

  part_is : take from s ≡ W ++ (B ++ D)
  unfolding encode
  part_is = part_encoded z.settled.plain b ∙ ap encode same

  whole_is : s ≡ (W ++ (B ++ D)) ++ drop from s
  whole_is = sym (take-append-drop from s) ∙ ap (λ r. r ++ drop from s) part_is

  first_is : 8 * n ≡ length W
  first_is = ap (λ (m : ℕ). 8 * m) (sym (plain_many z.settled)) ∙ sym (variables_size P.variables)

  end_is : end ≡ length W + length B
  end_is =
      rules_end z.settled.plain.counted (bytes_take from s b)
      ∙ ap₂ (λ (x y : ℕ). x + y) first_is (ap (λ Q. length (each rule_bytes Q.rules)) (sym (plain_is z.settled)))

  from_is : from ≡ length W + length B + length D
  from_is =
      sym (length-take-le from s z.settled.plain.inside)
      ∙ ap length part_is
      ∙ omega (arith, length-append W (B ++ D), length-append B D)

  module _ (r : ℕ) (is : r ≡ place (take from s) (n + counts.rules)) where
    pub old_rules : take (r - 8 * n) (drop (8 * n) s) ≡ B
    old_rules = rw (first_is, is ∙ end_is) (ap (λ t. take (length W + length B - length W) (drop (length W) t)) whole_is ∙ middle W B D (drop from s))

    pub old_constraints : take (from - r) (drop r s) ≡ D
    old_constraints =
        ap (λ (m : ℕ). take (m - r) (drop r s)) from_is
        ∙ ap (λ (m : ℕ). take (length W + length B + length D - m) (drop m s)) (is ∙ end_is)
        ∙ ap (λ t. take (length W + length B + length D - (length W + length B)) (drop (length W + length B) t)) whole_is
        ∙ last W B D (drop from s)

    pub ends_inside : (8 * n ≤ r) × (r ≤ from) × (from ≤ length s)
    ends_inside = (omega (arith, first_is, is, end_is), omega (arith, is, end_is, from_is), z.settled.plain.inside)

  -- ---- the four pieces are the plain file

  flat_is : ((A ++ B) ++ C) ++ D ≡ flat N
  unfolding encode flatten
  flat_is =
      let rules : B ++ C ≡ each rule_bytes (P.rules ++ added_rules (length P.variables) (trees s K)) =
      ap (λ (m : ℕ). B ++ each rule_bytes (added_rules m (trees s K))) (sym (plain_many z.settled))
      ∙ sym (each_append rule_bytes P.rules (added_rules (length P.variables) (trees s K))) in
      append_assoc (A ++ B) C D ∙ append_assoc A B (C ++ D) ∙ ap (λ r. A ++ r) (sym (append_assoc B C D) ∙ ap (λ r. r ++ D) rules)

  size_is : bytes ≡ length A + length B + length C + length D
  size_is = z.size ∙ ap length (sym flat_is) ∙ omega (arith, length-append ((A ++ B) ++ C) D, length-append (A ++ B) C, length-append A B)

  pub trees_fit : (buffer : List ℕ) (at : ℕ) → at ≡ length A + length B → bytes ≤ length buffer → TreesFit s n buffer at
  trees_fit buffer at e h = record {
    fits = λ k w. omega (arith, size_is, ap (λ (j : ℕ). length (each rule_bytes (added_rules n (trees s j)))) (whole_unique w z.settled.whole));
  }

  pub size_room : length A + length B + length C + length D ≤ bytes
  size_room = omega (arith, size_is)

  module _ (buffer b₁ b₂ b₃ b₄ : List ℕ) (e₁ e₂ e₃ e₄ : ℕ) (room : bytes ≤ length buffer) (first : PutIn A buffer 0 e₁ b₁) (second : PutIn B b₁ e₁ e₂ b₂)
      (third : TreesPut s n b₂ e₂ e₃ b₃) (fourth : PutIn D b₃ e₃ e₄ b₄) where
    all : PutIn (flat N) buffer 0 e₄ b₄
    all =
        let size = size_is in
        let two = puts_more first (omega arith) second in
        let three = puts_more two (omega (arith, length-append A B)) (third.is K z.settled.whole) in
        puts_same (flat N) flat_is (puts_more three (omega (arith, length-append A B, length-append (A ++ B) C)) fourth)

    ends : e₄ ≡ length (flat N)
    ends = omega (arith, all.ends)

    pub flat_written : FlatWritten s buffer e₄ b₄
    flat_written = record {
      length_is = λ k w. ends ∙ ap (λ (j : ℕ). length (flat (nested s j))) (whole_unique z.settled.whole w);
      bytes = λ k w.
          all.bytes
          ∙ ap (λ (m : ℕ). flat N ++ drop m buffer) (sym all.ends)
          ∙ ap (λ (j : ℕ). flat (nested s j) ++ drop e₄ buffer) (whole_unique z.settled.whole w);
    }
