-- Fields of variables, put in from the last to the first.
use Prim.Native.Nat.{ℕ, zero, suc, ◌+◌, ◌*◌, ◌<◌}
use mathlib.Core.Path.{◌≡◌, refl, sym, ap, ap₂, ◌∙◌}
use mathlib.Core.List.{List, [], ◌∷◌, ◌++◌}
use native.Mathlib.Omega.{arith}
use lib.IntN.{ℤ, pos}
use lib.ListN.{length, get_or, take, drop, length-append}
use lib.Seq.{length-take-le, take-take, take_at, drop_at, take-add, take-append-add}
use Rattle.format.specs.Limits.{max_variables}
use Rattle.format.specs.Numbers.{bytes_of}
use Rattle.program.specs.Program.{variable_in}
use Rattle.program.specs.Encode.{each, variable_bytes}
use Rattle.program.specs.declared.Variable.{Variable}
use Rattle.program.proofs.RoundTrip.{each_append}
use Rattle.rewriting.specs.Writing.{put_at}
use Rattle.rewriting.proofs.Puts.{put_length}
use Rattle.flat.specs.Flat.{ranged}
use Rattle.spans.specs.Spans.{records_length}

-- those of xs from number n on, and what stood there before it
pub record Fielded (records : List ℕ) (n : ℕ) (xs : List Variable) (records' : List ℕ) : Type 0 where
  pub many : length records' ≡ records_length
  pub before : take (8 * n) records' ≡ take (8 * n) records
  pub fields : take (8 * length xs) (drop (8 * n) records') ≡ each variable_bytes xs

pub fielded_none : (records : List ℕ) (n : ℕ) → length records ≡ records_length → Fielded records n [] records
fielded_none records n h = record { many = h; before = refl; fields = refl }

variable_size : (x : Variable) → length (variable_bytes x) ≡ 8
unfolding bytes_of
variable_size x = refl

module _ {records : List ℕ} {xs : List Variable} {records' : List ℕ} (n : ℕ) (x : Variable) (h : n < max_variables) (k : Fielded records (n + 1) xs records') where
  abbrev w : List ℕ
  w = variable_bytes x

  front : length (take (8 * n) records') ≡ 8 * n
  front = length-take-le (8 * n) records' (omega (arith, k.many))

  pub fielded_more : Fielded records n (x ∷ xs) (put_at records' (8 * n) w)
  fielded_more =
      let size = variable_size x in
      let e : 8 * length (x ∷ xs) ≡ length w + 8 * length xs = omega arith in
      let d : 8 * n + length w ≡ 8 * (n + 1) = omega arith in
      record {
        many = put_length records' (8 * n) w (omega (arith, k.many)) ∙ k.many;
        before =
            take_at (take (8 * n) records') _ (8 * n) front
            ∙ sym (take-take (8 * n) (8 * (n + 1)) records' (omega arith))
            ∙ ap (take (8 * n)) k.before
            ∙ take-take (8 * n) (8 * (n + 1)) records (omega arith);
        fields =
            ap (take (8 * length (x ∷ xs))) (drop_at (take (8 * n) records') (w ++ drop (8 * n + length w) records') (8 * n) front)
            ∙ ap₂ (λ (a b : ℕ). take a (w ++ drop b records')) e d
            ∙ take-append-add w (drop (8 * (n + 1)) records') (8 * length xs)
            ∙ ap (λ (r : List ℕ). w ++ r) k.fields;
      }

-- after those of vs
pub fielded_all : {records : List ℕ} {n : ℕ} {xs : List Variable} {records' : List ℕ} (vs : List Variable) → length vs ≡ n
    → take (8 * length vs) records ≡ each variable_bytes vs → Fielded records n xs records' → take (8 * length (vs ++ xs)) records' ≡ each variable_bytes (vs ++ xs)
fielded_all {records} {n} {xs} {records'} vs e f k =
    let d : 8 * length (vs ++ xs) ≡ 8 * n + 8 * length xs = omega (arith, length-append vs xs) in
    ap (λ (m : ℕ). take m records') d
    ∙ take-add (8 * n) (8 * length xs) records'
    ∙ ap₂ (λ (a b : List ℕ). a ++ b) (k.before ∙ ap (λ (m : ℕ). take (8 * m) records) (sym e) ∙ f) k.fields
    ∙ sym (each_append variable_bytes vs xs)

-- ---- variables of one kind

module _ (kind : ℕ) where
  pub ranged_length : (lows highs : List ℤ) → length lows ≡ length highs → length (ranged kind lows highs) ≡ length lows
  unfolding ranged
  ranged_length [] highs e = refl
  ranged_length (low ∷ lows) [] e = sym e
  ranged_length (low ∷ lows) (high ∷ highs) e = ap suc (ranged_length lows highs (omega arith))

  pub ranged_at : (lows highs : List ℤ) → length lows ≡ length highs → (i : ℕ) → i < length lows
      → ((variable_in (ranged kind lows highs) i).low ≡ get_or lows i (pos 0)) × ((variable_in (ranged kind lows highs) i).high ≡ get_or highs i (pos 0))
  unfolding ranged
  ranged_at [] highs e i h = let f : ⊥ = omega arith in absurd f
  ranged_at (low ∷ lows) [] e i h = let f : ⊥ = omega arith in absurd f
  ranged_at (low ∷ lows) (high ∷ highs) e zero h = (refl, refl)
  ranged_at (low ∷ lows) (high ∷ highs) e (suc i) h = ranged_at lows highs (omega arith) i (omega arith)
