-- The lines of bounds; that the text for an input is always there and determined; and how the call's answer becomes the text.
use Prim.Native.Nat.{ℕ, ◌+◌, ◌-◌, ◌*◌, ◌/◌, ◌≤◌}
use mathlib.Core.Path.{◌≡◌, refl, sym, ap, ap₂, ◌∙◌, subst}
use mathlib.Core.Bool.{Bool, true, false}
use mathlib.Core.List.{List, [], ◌++◌}
use native.Mathlib.Numerals.{add-one}
use native.Mathlib.Omega.{arith}
use lib.Dec.{T_not}
use lib.IntN.{ℤ}
use lib.ListN.{length, take, drop}
use lib.Seq.{take_all, take_at}
use borrow.Author.Tests.{ne_eqb}
use Rattle.format.specs.Limits.{max_variables}
use Rattle.program.specs.Program.{Program, variable_in, variables_at}
use Rattle.program.specs.Variables.{swaps}
use Rattle.program.specs.declared.Variable.{Variable}
use Rattle.program.proofs.Unique.{accepts_reads, accepts_unique}
use Rattle.reader.proofs.Published.{program_limited, variables_are}
use Rattle.meaning.specs.Calls.{Called}
use Rattle.meaning.specs.Stable.{assigned}
use Rattle.verdict.specs.Checks.{refusal}
use Rattle.lent.specs.BoundsCall.{BoundsCall, within_bounds, turned}
use Rattle.lent.specs.BoundsCall as bounds
use Rattle.lent.proofs.Calls.{called_long, bounds_call_unique, bounds_call_total}
use Rattle.text.specs.Output.{Holds, Appends}
use Rattle.text.proofs.OutputLaws.{holds_none, appends_as, appends_none, appends_both}
use Rattle.entries.specs.Text.{answer_line, entry_line, first_most, entry_most}
use Rattle.framing.specs.Framing.{announced, file_in, rest_in, misframed}
use Rattle.framing.proofs.FramingLaws.{is_bad, is_right, file_part, rest_part}
use Rattle.listing.specs.Lists.{max_input, blank, bound_line, bound_lines, Tells, turned_down, listed, Lists, bad_frame, told, room, Told, Listed}

-- ---- the line of a variable, by its kind

module _ (x : Variable) (v : ℕ) (z : ℤ) where
  pub most_listed : x.kind ≡ 1 → entry_line v 0 z ≡ bound_line x v z
  unfolding bound_line swaps
  most_listed e = rw e refl

  pub least_listed : x.kind ≡ 2 → entry_line v 3 z ≡ bound_line x v z
  unfolding bound_line swaps
  least_listed e = rw e refl

  pub none_listed : (x.kind ≡ 1 → ⊥) → (x.kind ≡ 2 → ⊥) → [] ≡ bound_line x v z
  unfolding bound_line
  none_listed h k = simp (ne_eqb x.kind 1 h, ne_eqb x.kind 2 k)

-- ---- one after the other

pub bounds_none : (vs : List Variable) (b : List ℕ) (at : ℕ) (c : List ℕ) → Appends (bound_lines vs b 0) at at c c
unfolding bound_lines
bounds_none vs b at c = appends_none at c

pub bounds_more : (vs : List Variable) (b : List ℕ) (n : ℕ) {at j k : ℕ} {c d e : List ℕ} → Appends (bound_lines vs b n) at j c d
    → Appends (bound_line (variable_in vs n) n (assigned b n)) j k d e → Appends (bound_lines vs b (n + 1)) at k c e
unfolding bound_lines
bounds_more vs b n u w = appends_as (sym (ap (bound_lines vs b) (add-one n))) (appends_both u w)

-- ---- one text for an input

tells_unique : {f g t u : List ℕ} → Tells f g t → Tells f g u → t ≡ u
tells_unique (turned_down c) (turned_down d) = let e = (bounds_call_unique c d).0 in cc
tells_unique (turned_down c) (listed a d) = let e = (bounds_call_unique c d).0 in let z : ◌≡◌ {A = ℕ} 0 1 = cc in absurd (omega arith)
tells_unique (listed a c) (turned_down d) = let e = (bounds_call_unique c d).0 in let z : ◌≡◌ {A = ℕ} 0 1 = cc in absurd (omega arith)
tells_unique (listed a c) (listed e d) =
    ap₂ (λ (P : Program) (b : List ℕ). bound_lines P.variables b (length P.variables)) (accepts_unique a e) (bounds_call_unique c d).1

pub lists_unique : {s t u : List ℕ} → Lists s t → Lists s u → t ≡ u
lists_unique (bad_frame p) (bad_frame q) = refl
lists_unique {s} (bad_frame p) (told q c) = absurd (T_not (misframed max_input s) q p)
lists_unique {s} (told p c) (bad_frame q) = absurd (T_not (misframed max_input s) p q)
lists_unique (told p c) (told q d) = tells_unique c d

tells_total : (f g : List ℕ) → (t : List ℕ) × Tells f g t
tells_total f g = go (bounds_call_total f g blank).2
  where
    go : {r : bounds.Answer} {b : List ℕ} → BoundsCall f g blank r b → (t : List ℕ) × Tells f g t
    go (bounds.turned_down r) = (_, turned_down (bounds.turned_down r))
    go (within_bounds c m) = (_, listed c.accepts (within_bounds c m))

pub lists_total : (s : List ℕ) → (t : List ℕ) × Lists s t
lists_total s = go (misframed max_input s) refl
  where
    go : (b : Bool) → misframed max_input s ≡ b → (t : List ℕ) × Lists s t
    go true e = (_, bad_frame (is_bad max_input s e))
    go false e = (_, told (is_right max_input s e) (tells_total (file_in s) (rest_in s)).1)

-- ---- what the call leaves

-- as many variables as the ranges have, since it is not turned down
variables_of : (g b : List ℕ) {f : List ℕ} {P : Program} {n : ℕ} → n ≡ length g / 4 → Called (turned g b) f P → length P.variables ≡ n
variables_of g b q c = omega (arith, called_long g b c)

pub bounded_fits : {f g b b' : List ℕ} {n : ℕ} → n ≡ length g / 4 → BoundsCall f g b bounds.bounded b' → (n ≤ max_variables) × (8 * n ≤ length f)
bounded_fits {g = g} {b} q (within_bounds c m) =
    let e = variables_of g b q c in
    let l = program_limited c.accepts in
    (omega (arith, l.few_variables), omega (arith, l.inside))

whole : {t : List ℕ} {n : ℕ} {b b' : List ℕ} → Appends t 0 n b b' → Holds t n b b'
whole {b = b} w = w.holds [] b (holds_none b)

pub told_refusal : {f g b₁ : List ℕ} {n at k : ℕ} {b b' : List ℕ} → BoundsCall f g blank (bounds.refusal n at) b₁ → Appends (answer_line (refusal n at)) 0 k b b'
    → k ≤ first_most → Told f g b k b'
told_refusal c w h = record { text = _; tells = turned_down c; holds = whole w; short = omega arith }

-- the variables are those that stand in the file
pub tells_bounds : {f g b : List ℕ} (n : ℕ) → n ≡ length g / 4 → BoundsCall f g blank bounds.bounded b → Tells f g (bound_lines (variables_at f n) b n)
tells_bounds {f} {g} {b} n q (within_bounds {P = P} c m) =
    let e = variables_of g blank q c in
    let vs : P.variables ≡ variables_at f n = variables_are (accepts_reads c.accepts) c.accepts ∙ ap (variables_at f) e in
    subst (Tells f g) (ap₂ (λ (x : List Variable) (i : ℕ). bound_lines x b i) vs e) (listed c.accepts (within_bounds c m))

pub told_bounds : {f g b₁ : List ℕ} {n k : ℕ} {b b' : List ℕ} → n ≡ length g / 4 → BoundsCall f g blank bounds.bounded b₁
    → Appends (bound_lines (variables_at f n) b₁ n) 0 k b b' → k ≤ entry_most * n → Told f g b k b'
told_bounds {n = n} q c w h = record { text = _; tells = tells_bounds n q c; holds = whole w; short = omega (arith, (bounded_fits q c).0) }

pub listed_refusal : (s : List ℕ) {n : ℕ} {b b' : List ℕ} → misframed max_input s ≡ true → Appends (answer_line (refusal 16 0)) 0 n b b' → n ≤ first_most → Listed s b n b'
listed_refusal s e w h = record { text = _; lists = bad_frame (is_bad max_input s e); holds = whole w; short = omega arith }

-- the file and the ranges are parts of the input
pub listed_told : (s : List ℕ) (end : ℕ) {n : ℕ} {b b' : List ℕ} → misframed max_input s ≡ false → end ≡ 2 + announced s
    → Told (take (end - 2) (drop 2 s)) (take (length s - end) (drop end s)) b n b' → Listed s b n b'
listed_told s end e q t = record {
  text = _;
  lists = told (is_right max_input s e)
      (subst (λ (y : List ℕ). Tells (file_in s) y t.text) (rest_part s end q)
      (subst (λ (x : List ℕ). Tells x (take (length s - end) (drop end s)) t.text) (file_part s end q) t.tells));
  holds = t.holds;
  short = t.short;
}

-- an output with room for the longest text then starts with the text
pub room_enough : {s b : List ℕ} {n : ℕ} {b' t : List ℕ} → Listed s b n b' → Lists s t → room ≤ length b → take n b' ≡ t
room_enough {s} {b} {n} {b'} {t} p q h =
    let e = lists_unique p.lists q in
    let k = p.holds.counted in
    let f : take (length b) p.text ≡ p.text = take_all (length b) p.text (omega (arith, p.short)) in
    ap (take n) (p.holds.bytes ∙ ap (λ (l : List ℕ). l ++ drop n b) f) ∙ take_at p.text (drop n b) n (sym k) ∙ e
