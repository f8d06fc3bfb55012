-- The report, from what the code wrote: the bounds, and the conditions into the part after them.
use Prim.Native.Nat.{ℕ, ◌+◌, ◌-◌, ◌*◌, ◌≤◌}
use mathlib.Core.Path.{◌≡◌, sym, ap, ap₂, subst, ◌∙◌}
use mathlib.Core.List.{List, [], ◌++◌, append_assoc, append-nil}
use native.Mathlib.Omega.{arith}
use borrow.Rule.Slice.PartMut.{mid_of, put_mid}
use lib.ListN.{length, take, drop, length-drop, drop_of_length-le}
use lib.Seq.{take-append_seam, drop-append_seam, take_all, drop-drop}
use Rattle.report.specs.Report.{Entry, bytes_in}
use Rattle.report.proofs.Entries.{bytes_append, bytes_length}

module _ (bs cs : List Entry) (b : List ℕ) (n k : ℕ) (bn : length bs ≡ n) (ck : length cs ≡ k) (room : 4 * (n + k) ≤ length b) where
  size : length (bytes_in bs) ≡ 4 * n
  size = bytes_length bs ∙ ap (λ (j : ℕ). 4 * j) bn

  module _ (b₁ b₂ : List ℕ) (w : b₁ ≡ bytes_in bs ++ drop (4 * n) b) (v : b₂ ≡ bytes_in cs ++ drop (4 * k) (mid_of (4 * n) (length b₁ - 4 * n) b₁)) where
    front : take (4 * n) b₁ ≡ bytes_in bs
    front = ap (take (4 * n)) w ∙ subst (λ (j : ℕ). take j (bytes_in bs ++ drop (4 * n) b) ≡ bytes_in bs) size (take-append_seam (bytes_in bs) (drop (4 * n) b))

    back : drop (4 * n) b₁ ≡ drop (4 * n) b
    back = ap (drop (4 * n)) w ∙ subst (λ (j : ℕ). drop j (bytes_in bs ++ drop (4 * n) b) ≡ drop (4 * n) b) size (drop-append_seam (bytes_in bs) (drop (4 * n) b))

    rest : length (drop (4 * n) b₁) ≡ length b₁ - 4 * n
    rest = length-drop (4 * n) b₁

    middle : mid_of (4 * n) (length b₁ - 4 * n) b₁ ≡ drop (4 * n) b
    middle = take_all (length b₁ - 4 * n) (drop (4 * n) b₁) (omega (arith, rest)) ∙ back

    none : drop (length b₁ - 4 * n) (drop (4 * n) b₁) ≡ []
    none = drop_of_length-le (drop (4 * n) b₁) {i = length b₁ - 4 * n} (omega (arith, rest))

    pub report_bytes_is : put_mid (4 * n) (length b₁ - 4 * n) b₁ b₂ ≡ bytes_in (bs ++ cs) ++ drop (4 * (n + k)) b
    report_bytes_is =
        let e : 4 * n + 4 * k ≡ 4 * (n + k) = omega arith in
        ap₂ ◌++◌ front (ap₂ ◌++◌ (v ∙ ap (λ (l : List ℕ). bytes_in cs ++ drop (4 * k) l) middle) none ∙ append-nil (bytes_in cs ++ drop (4 * k) (drop (4 * n) b)))
        ∙ sym (append_assoc (bytes_in bs) (bytes_in cs) (drop (4 * k) (drop (4 * n) b)))
        ∙ ap₂ ◌++◌ (sym (bytes_append bs cs)) (drop-drop (4 * k) (4 * n) b ∙ ap (λ (j : ℕ). drop j b) e)
