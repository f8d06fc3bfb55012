-- The lines of an entry, of a report and of an answer.
use Rattle.std.specs.Prelude.{Result}
use Prim.Native.Nat.{ℕ, ◌+◌, ◌*◌, ◌≤◌, ◌<◌}
use mathlib.Core.Path.{◌≡◌, refl, sym, ap, ◌∙◌, subst}
use mathlib.Core.Bool.{Bool, true, false, cond}
use mathlib.Core.List.{List, [], ◌∷◌, ◌++◌, append-nil}
use native.Mathlib.Numerals.{add-one}
use native.Mathlib.Omega.{arith}
use lib.Dec.{eqb}
use borrow.Author.Tests.{ne_eqb}
use lib.IntN.{ℤ, nat_abs}
use lib.ListN.{length, length-append}
use Rattle.verdict.specs.Checks.{Answer, answer_of}
use Rattle.meaning.specs.declared.Denied.{Denied}
use Rattle.verdict.specs.declared.Verdict.{Verdict}
use Rattle.verdict.specs.Demands.{variable_at, mark_at, number_at}
use Rattle.text.specs.Decimal.{decimal, number}
use Rattle.text.specs.Output.{Appends}
use Rattle.entries.specs.Text.{word, line, answer_line, entry_line, entry_lines, entries_of, text_of, first_most, entry_most}
use Rattle.text.proofs.DecimalLaws.{decimal_short, number_short}
use Rattle.text.proofs.OutputLaws.{appends_as, appends_none, appends_both}

-- ---- an entry's line, by its mark

abbrev pub entry_with : List ℕ → ℕ → List ℕ → ℤ → List ℕ
entry_with first v second z = line (first ++ decimal v ++ second ++ number z)

module _ (v mark : ℕ) (z : ℤ) where
  pub most_line : mark ≡ 0 → entry_with (word "most ") v (word " ") z ≡ entry_line v mark z
  unfolding entry_line
  most_line e = rw e refl

  pub at_most_line : mark ≡ 1 → entry_with (word "when ") v (word " <= ") z ≡ entry_line v mark z
  unfolding entry_line
  at_most_line e = rw e refl

  pub at_least_line : mark ≡ 2 → entry_with (word "when ") v (word " >= ") z ≡ entry_line v mark z
  unfolding entry_line
  at_least_line e = rw e refl

  pub least_line : mark ≡ 3 → entry_with (word "least ") v (word " ") z ≡ entry_line v mark z
  unfolding entry_line
  least_line e = rw e refl

  pub no_line : (mark ≡ 0 → ⊥) → (mark ≡ 1 → ⊥) → (mark ≡ 2 → ⊥) → (mark ≡ 3 → ⊥) → [] ≡ entry_line v mark z
  unfolding entry_line
  no_line h k l n = simp (ne_eqb mark 0 h, ne_eqb mark 1 k, ne_eqb mark 2 l, ne_eqb mark 3 n)

-- ---- how long it is

with-length : (x : List ℕ) (v : ℕ) (y : List ℕ) (z : ℤ) → v < 256 → nat_abs z ≤ 32768 → length (entry_with x v y z) ≤ length x + length y + 10
with-length x v y z h k =
    omega (
      arith,
      length-append (x ++ decimal v ++ y ++ number z) (0x0A ∷ []),
      length-append (x ++ decimal v ++ y) (number z),
      length-append (x ++ decimal v) y,
      length-append x (decimal v),
      decimal_short 2 v (omega arith),
      number_short z k,
    )

pub entry_short : (v mark : ℕ) (z : ℤ) → v < 256 → nat_abs z ≤ 32768 → length (entry_line v mark z) ≤ entry_most
unfolding entry_line
entry_short v mark z h k = go (eqb mark 0) (eqb mark 1) (eqb mark 2) (eqb mark 3)
  where
    go : (p q r s : Bool) → length
        (cond p (entry_with (word "most ") v (word " ") z)
        (cond q (entry_with (word "when ") v (word " <= ") z)
        (cond r (entry_with (word "when ") v (word " >= ") z) (cond s (entry_with (word "least ") v (word " ") z) [])))) ≤ entry_most
    go true q r s = omega (arith, with-length (word "most ") v (word " ") z h k)
    go false true r s = omega (arith, with-length (word "when ") v (word " <= ") z h k)
    go false false true s = omega (arith, with-length (word "when ") v (word " >= ") z h k)
    go false false false true = omega (arith, with-length (word "least ") v (word " ") z h k)
    go false false false false = omega arith

-- an entry's line is written
pub entry_done : (v mark : ℕ) (z : ℤ) → v < 256 → nat_abs z ≤ 32768 → {x : List ℕ} {at k : ℕ} {c d : List ℕ} → x ≡ entry_line v mark z → Appends x at k c d
    → Appends (entry_line v mark z) at k c d × (k ≤ at + entry_most)
entry_done v mark z h l e w = let u = appends_as e w in (u, omega (arith, u.next, entry_short v mark z h l))

-- ---- the lines of a report

pub entries_none : (b : List ℕ) (at : ℕ) (c : List ℕ) → Appends (entry_lines b 0) at at c c
unfolding entry_lines
entries_none b at c = appends_none at c

pub entries_more : (b : List ℕ) (i : ℕ) {at j k : ℕ} {c d e : List ℕ} → Appends (entry_lines b i) at j c d
    → Appends (entry_line (variable_at b i) (mark_at b i) (number_at b i)) j k d e → Appends (entry_lines b (i + 1)) at k c e
unfolding entry_lines
entries_more b i u w = appends_as (sym (ap (entry_lines b) (add-one i))) (appends_both u w)

-- ---- an answer

-- an answer without entries
pub no-entries : (r : Answer) (b : List ℕ) {k : ℕ} {c d : List ℕ} → entries_of r ≡ 0 → Appends (answer_line r) 0 k c d → Appends (text_of r b) 0 k c d
unfolding entry_lines
no-entries r b e w = appends_as (sym (ap (λ (n : ℕ). answer_line r ++ entry_lines b n) e ∙ append-nil (answer_line r))) w

-- the text of an answer with the report b is written, and short
abbrev pub Answered : Answer → List ℕ → ℕ → List ℕ → List ℕ → Type 0
Answered r b k c c' = Appends (text_of r b) 0 k c c' × (k ≤ first_most + entry_most * entries_of r)

-- as a test told which answer it is
module _ {d e : Result Verdict Denied} (told : d ≡ e) (b : List ℕ) {k : ℕ} {c c' : List ℕ} where
  pub answered : Answered (answer_of e) b k c c' → Answered (answer_of d) b k c c'
  answered w = subst (λ (x : Result Verdict Denied). Answered (answer_of x) b k c c') (sym told) w

  pub answered_alone : entries_of (answer_of e) ≡ 0 → Appends (answer_line (answer_of e)) 0 k c c' → k ≤ first_most → Answered (answer_of d) b k c c'
  answered_alone none w h = answered (no-entries (answer_of e) b none w, omega arith)
