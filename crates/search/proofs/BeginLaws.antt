-- The sets before the first round, from what is marked and copied; and the answers.
use Prim.Native.Nat.{ℕ, ◌+◌, ◌*◌, ◌/◌, ◌%◌, ◌<◌, ◌≤◌}
use mathlib.Core.Path.{◌≡◌, refl, ap, ◌∙◌, subst}
use mathlib.Core.Logic.{inl}
use mathlib.Core.Bool.{Bool, false}
use mathlib.Core.List.{List}
use native.Mathlib.Omega.{arith}
use lib.ListN.{length}
use Rattle.format.specs.Limits.{max_variables}
use Rattle.words.specs.Bit.{word_bits, word_count, bit}
use Rattle.program.specs.Program.{program}
use Rattle.program.specs.Components.{edge}
use Rattle.program.specs.declared.Counts.{Counts}
use Rattle.fields.specs.Scanning.{Counted, Stopped}
use Rattle.reach.specs.Rows.{row_has}
use Rattle.edges.specs.Edges.{Grown}
use Rattle.validity.specs.Marks.{edge_in}
use Rattle.validity.proofs.RuleLaws.{counted_variables, variables_few}
use Rattle.validity.proofs.ComponentLaws.{marked_edges}
use Rattle.search.specs.BeginCall.{AtEdges, bad_field, bad_call, BeginCall, turned_down, starts, refusal, begun}
use Rattle.search.specs.Copying.{Copied}

-- ---- a file whose fields passed

module _ {s : List ℕ} {k : Counts} (c : Counted s k) where
  -- the marked rows, copied, are the sets before the first round
  at_edges : {t₀ : ℕ → ℕ → Bool} {rows w w' : List ℕ} → ((a b : ℕ) → t₀ a b ≡ false) → Grown t₀ (row_has rows) (edge_in s k)
      → Copied rows w w' (word_count * k.variables) → AtEdges (program s c.fields) w w'
  unfolding row_has
  at_edges {rows = rows} {w' = w'} z g d = record {
    long = d.long;
    is = λ x y hx hy. is x y (rw (counted_variables c) at hx) hy;
    rest = λ i l. d.rest i (rw (counted_variables c) at l);
  }
    where
      is : (x y : ℕ) → x < k.variables → y < max_variables → row_has w' x y ≡ edge (program s c.fields) x y
      is x y hx hy =
          let f = variables_few c in
          ap (λ (v : ℕ). bit v (y % word_bits)) (d.first (word_count * x + y / word_bits) (omega arith)) ∙ marked_edges c z g x y (omega arith) hy

  pub drawn : {t₀ : ℕ → ℕ → Bool} {rows w w' : List ℕ} → ((a b : ℕ) → t₀ a b ≡ false) → Grown t₀ (row_has rows) (edge_in s k)
      → word_count * k.variables ≤ length w → Copied rows w w' (word_count * k.variables) → BeginCall s w (begun k.variables) w'
  drawn {w = w} {w' = w'} z g l d =
      let n = counted_variables c in
      subst (λ (m : ℕ). BeginCall s w (begun m) w') n (starts c.whole ((λ at h. absurd (omega (arith, n, h.0))), tt) (at_edges z g d))

  pub no_room : {w : List ℕ} → length w < word_count * k.variables → BeginCall s w (refusal 15 0) w
  no_room l = turned_down (bad_call c.whole (inl (refl, (rw (counted_variables c) l, refl))))

-- ---- a file whose fields did not

pub stopped : {s : List ℕ} {n at : ℕ} (w : List ℕ) → Stopped s n at → BeginCall s w (refusal n at) w
stopped w t = turned_down (bad_field t.reads t.early)
