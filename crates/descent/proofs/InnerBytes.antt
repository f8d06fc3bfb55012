-- The two bytes of an inner node, tested: its form, then its child count.
use Prim.Native.Nat.{ℕ, ◌<◌, ◌≤◌}
use mathlib.Core.Path.{◌≡◌}
use mathlib.Core.Bool.{true, false, and-false}
use borrow.Author.Tests.{le-leb, lt-leb}
use Rattle.trees.specs.Tree.{inner_bytes, max_children}

module _ (form n : ℕ) where
  pub inner_known : 1 ≤ form → form ≤ 3 → 1 ≤ n → n ≤ max_children → true ≡ inner_bytes form n
  inner_known a b c d = simp (le-leb 1 form a, le-leb form 3 b, le-leb 1 n c, le-leb n 16 d)

  pub form_below : form < 1 → false ≡ inner_bytes form n
  form_below h = simp (lt-leb 1 form h)

  pub form_above : 3 < form → false ≡ inner_bytes form n
  form_above h = simp (lt-leb form 3 h, and-false)

  pub count_below : n < 1 → false ≡ inner_bytes form n
  count_below h = simp (lt-leb 1 n h, and-false)

  pub count_above : max_children < n → false ≡ inner_bytes form n
  count_above h = simp (lt-leb n 16 h, and-false)
