-- The call begin has one answer for every file and all lent words, and leaves the words in one way; the first demand of it.
use Prim.Native.Nat.{ℕ, ◌+◌, ◌*◌, ◌/◌, ◌%◌, ◌<◌, ◌≤◌}
use mathlib.Core.Path.{◌≡◌, refl, sym, ap, ◌∙◌, subst}
use mathlib.Core.Logic.{◌⊎◌, inl, inr}
use mathlib.Core.Bool.{Bool, false, cond}
use mathlib.Core.List.{List}
use native.Mathlib.Decide.{dec_lt}
use native.Mathlib.Omega.{arith}
use lib.Dec.{ltb}
use lib.ListN.{length}
use borrow.Author.Tests.{lt-ltb, le-ltb}
use Rattle.format.specs.Limits.{max_variables}
use Rattle.words.specs.Bit.{word_bits, word_count, bit}
use Rattle.words.proofs.WordBits.{WordsIn}
use Rattle.program.specs.Program.{Program, program}
use Rattle.program.specs.Components.{edge}
use Rattle.program.specs.Reading.{Reads, refused, Whole, too_long, not_valid, whole}
use Rattle.program.specs.Reading as reading
use Rattle.program.proofs.Unique.{reads_unique, whole_unique, bad_or_whole}
use Rattle.program.proofs.Total.{reads_total}
use Rattle.program.proofs.ReadDemanded.{field_most}
use Rattle.meaning.specs.Calls.{FirstGiven, NoneGiven}
use Rattle.meaning.proofs.Denials.{Every, Fixed, Told, first_unique, first_or_none, first_told, under_fixed, room_told, room}
use Rattle.reach.specs.Rows.{row_has}
use Rattle.reach.proofs.RowsDetermined.{same_word, same_rows, none_past, rows_of, rows_length_is, rows_words, rows_are}
use Rattle.search.specs.BeginCall.{Answer, refusal, begun, AtEdges, short, TurnedDown, bad_field, bad_call, BeginCall, turned_down, starts}
use Rattle.search.specs.BeginDemands.{BeginDemands}

-- ---- a file: a refusal from 1 to 12, or all its fields passed

pub refused_or_whole : {s : List ℕ} {n at k : ℕ} → Reads s (refused n at) → n ≤ 12 → Whole s k → ⊥
refused_or_whole (too_long h) l w = omega (arith, w.passed.short)
refused_or_whole (reading.bad_field p h r) l w = bad_or_whole (record { passed = p; stands = h; refusal = r }) w
refused_or_whole (not_valid w h f x) l v = omega arith

-- which of the two
abbrev Fields : List ℕ → Type 0
Fields s = ((n : ℕ) × (at : ℕ) × (Reads s (refused n at) × (n ≤ 12))) ⊎ ((k : ℕ) × Whole s k)

fields_told : {s : List ℕ} {a : reading.Answer} → Reads s a → Fields s
fields_told (too_long h) = inl (1, 0, (too_long h, omega arith))
fields_told {s} (reading.bad_field {k = j} p h r) = inl (_, _, (reading.bad_field p h r, field_most s j))
fields_told (not_valid w h f x) = inr (_, w)
fields_told (whole w x) = inr (_, w)

-- ---- the answer

module _ (w : List ℕ) (P : Program) where
  short_fixed : Every Fixed (short w P)
  short_fixed = (under_fixed 15 _, tt)

  short_told : Every Told (short w P)
  short_told = (room_told word_count w P, tt)

  -- a call that is not turned down is lent a set for each variable
  long_enough : NoneGiven (short w P) → word_count * length P.variables ≤ length w
  long_enough p = room word_count w P p.0

module _ {s w : List ℕ} where
  turned_unique : {n at m q : ℕ} → TurnedDown s w n at → TurnedDown s w m q → refusal n at ≡ refusal m q
  turned_unique (bad_field r l) (bad_field t h) = let e = reads_unique r t in cc
  turned_unique (bad_field r l) (bad_call v g) = absurd (refused_or_whole r l v)
  turned_unique (bad_call v f) (bad_field r l) = absurd (refused_or_whole r l v)
  turned_unique {n} {at} {m} {q} (bad_call {k = k} u f) (bad_call v g) =
      let P = program s k in
      let e = first_unique (short w P) (short_fixed w P) n at m q f (subst (λ j. FirstGiven (short w (program s j)) m q) (whole_unique v u) g) in
      cc

  turned_or_starts : {n at k : ℕ} → TurnedDown s w n at → Whole s k → NoneGiven (short w (program s k)) → ⊥
  turned_or_starts (bad_field r l) v p = refused_or_whole r l v
  turned_or_starts {n} {at} {k} (bad_call u f) v p =
      first_or_none (short w (program s k)) n at (subst (λ j. FirstGiven (short w (program s j)) n at) (whole_unique u v) f) p

  pub begins_answer : {r r₂ : Answer} {w' w'' : List ℕ} → BeginCall s w r w' → BeginCall s w r₂ w'' → r ≡ r₂
  begins_answer (turned_down p) (turned_down q) = turned_unique p q
  begins_answer (turned_down p) (starts v g a) = absurd (turned_or_starts p v g)
  begins_answer (starts v g a) (turned_down p) = absurd (turned_or_starts p v g)
  begins_answer (starts u f a) (starts v g b) = ap (λ j. begun (length (program s j).variables)) (whole_unique u v)

-- ---- the words

same_edges : {P : Program} {w w' w'' : List ℕ} → WordsIn w' → WordsIn w'' → AtEdges P w w' → AtEdges P w w'' → w' ≡ w''
unfolding row_has
same_edges {P} {w} {w'} {w''} x y a b = same_rows x y (a.long ∙ sym b.long) (λ i j hj. go i j hj (dec_lt i (length P.variables)))
  where
    go : (i j : ℕ) → j < max_variables → Dec (i < length P.variables) → row_has w' i j ≡ row_has w'' i j
    go i j hj (yes h) = a.is i j h hj ∙ sym (b.is i j h hj)
    go i j hj (no f) =
        let at = word_count * i + j / word_bits in
        ap (λ (v : ℕ). bit v (j % word_bits)) (a.rest at (omega arith) ∙ sym (b.rest at (omega arith)))

pub begins_unique : {s w w' w'' : List ℕ} {r r₂ : Answer} → WordsIn w' → WordsIn w'' → BeginCall s w r w' → BeginCall s w r₂ w'' → (r ≡ r₂) × (w' ≡ w'')
begins_unique x y c d = (begins_answer c d, words x y c d)
  where
    words : {s w w' w'' : List ℕ} {r r₂ : Answer} → WordsIn w' → WordsIn w'' → BeginCall s w r w' → BeginCall s w r₂ w'' → w' ≡ w''
    words x y (turned_down p) (turned_down q) = refl
    words x y (turned_down p) (starts v g a) = absurd (turned_or_starts p v g)
    words x y (starts v g a) (turned_down p) = absurd (turned_or_starts p v g)
    words {s} {w} {w'' = w''} x y (starts u f a) (starts v g b) = same_edges x y a (subst (λ j. AtEdges (program s j) w w'') (whole_unique v u) b)

-- words that hold the edges
module _ (P : Program) {w : List ℕ} (x : WordsIn w) (room : word_count * length P.variables ≤ length w) where
  first : ℕ → ℕ → Bool
  first i j = cond (ltb i (length P.variables)) (edge P i j) (row_has w i j)

  none : (i j : ℕ) → j < max_variables → length w ≤ word_count * i + j / word_bits → first i j ≡ false
  unfolding first
  none i j hj past = rw (le-ltb i (length P.variables) (omega arith)) (none_past w i j past)

  pub edges_written : (w' : List ℕ) × WordsIn w' × AtEdges P w w'
  unfolding first
  edges_written =
      let y = rows_words first (length w) in
      let are = rows_are first (length w) none in (
        rows_of first (length w),
        y,
        record {
          long = rows_length_is first (length w);
          is = λ i j h hj. are i j hj ∙ rw (lt-ltb i (length P.variables) h);
          rest = λ i h. same_word y x i (λ j hj. are (i / word_count) j hj ∙ rw (le-ltb (i / word_count) (length P.variables) (omega arith)));
        },
      )

pub begins_total : (s : List ℕ) {w : List ℕ} → WordsIn w → (r : Answer) × (w' : List ℕ) × WordsIn w' × BeginCall s w r w'
begins_total s {w} x = go (fields_told (reads_total s).1)
  where
    called : {k : ℕ} → Whole s k → ((n : ℕ) × (p : ℕ) × FirstGiven (short w (program s k)) n p) ⊎ NoneGiven (short w (program s k))
        → (r : Answer) × (w' : List ℕ) × WordsIn w' × BeginCall s w r w'
    called v (inl g) = (_, w, x, turned_down (bad_call v g.2))
    called {k} v (inr p) = let a = edges_written (program s k) x (long_enough w (program s k) p) in (_, a.0, a.1, starts v p a.2)

    go : Fields s → (r : Answer) × (w' : List ℕ) × WordsIn w' × BeginCall s w r w'
    go (inl r) = (_, w, x, turned_down (bad_field r.2.0 r.2.1))
    go (inr v) = let P = program s v.0 in called v.1 (first_told (short w P) (short_told w P))

-- ---- the demands

refused_as : {s w w' : List ℕ} {n at : ℕ} → BeginCall s w (refusal n at) w' → TurnedDown s w n at × (w' ≡ w)
refused_as (turned_down p) = (p, refl)

pub begin_demands : {s w w' : List ℕ} {r : Answer} → BeginCall s w r w' → BeginDemands s w r w'
begin_demands {s} {w} {w'} {r} c = record {
  turned_down = λ n at. (λ e. (down e).0, λ p. begins_answer c (turned_down p));
  untouched = λ n at e. (down e).1;
}
  where
    down : {n at : ℕ} → r ≡ refusal n at → TurnedDown s w n at × (w' ≡ w)
    down e = refused_as (subst (λ x. BeginCall s w x w') e c)

-- 13 is no refusal of this call
pub not_13 : {s w w' : List ℕ} {at : ℕ} → BeginCall s w (refusal 13 at) w' → ⊥
not_13 {s} {w} (turned_down t) = go t refl
  where
    go : {n at : ℕ} → TurnedDown s w n at → n ≡ 13 → ⊥
    go (bad_field r l) e = omega arith
    go (bad_call v (inl g)) e = omega (arith, g.0)
    go (bad_call v (inr g)) e = g.1
