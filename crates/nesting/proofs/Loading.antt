-- The declared variables, entered in the tables one after the other.
use Prim.Native.Nat.{ℕ, ◌+◌, ◌*◌, ◌<◌, ◌≤◌}
use mathlib.Core.Path.{◌≡◌, sym, ap, subst, ◌∙◌}
use mathlib.Core.List.{List}
use native.Mathlib.Omega.{arith}
use native.Mathlib.Decide.{ℕ_discrete}
use lib.IntN.{ℤ, pos, nat_abs}
use lib.ListN.{length, set, take, drop, length-set}
use lib.Seq.{length-take-le, take-append_seam, get_or-set_same, get_or-set_other}
use Rattle.format.specs.Limits.{max_variables, max_number}
use Rattle.program.specs.Program.{variable_in, variables_at}
use Rattle.program.specs.Readings.{valued}
use Rattle.program.specs.Evaluable.{Small}
use Rattle.program.specs.declared.Variable.{Variable}
use Rattle.program.proofs.Places.{variables_length}
use Rattle.rewriting.specs.Writing.{put_at}
use Rattle.rewriting.proofs.Puts.{put_length}
use Rattle.spans.specs.Spans.{records_length, Tables, Tabled}
use Rattle.nesting.specs.Surveying.{Declares}

-- one end of the first i ranges
pub record Entered (f : ℕ → ℤ) (table : List ℤ) (i : ℕ) : Type 0 where
  pub many : length table ≡ max_variables
  pub small : Small table
  pub are : (x : ℕ) → x < i → valued table x ≡ f x

pub entered_more : {f : ℕ → ℤ} {table : List ℤ} {i : ℕ} (a : ℤ) → Entered f table i → i < max_variables → nat_abs a ≤ max_number → a ≡ f i → Entered f (set table i a) (i + 1)
entered_more {f} {table} {i} a e h l q = record {
  many = length-set table i a ∙ e.many;
  small = λ v. go_small v (ℕ_discrete v i);
  are = λ x b. go_are x b (ℕ_discrete x i);
}
  where
    same : (x : ℕ) → x ≡ i → valued (set table i a) x ≡ a
    same x d = ap (valued (set table i a)) d ∙ get_or-set_same table i a (pos 0) (omega (arith, e.many))

    go_small : (v : ℕ) → Dec (v ≡ i) → nat_abs (valued (set table i a) v) ≤ max_number
    go_small v (yes d) = subst (λ z. nat_abs z ≤ max_number) (sym (same v d)) l
    go_small v (no d) = subst (λ z. nat_abs z ≤ max_number) (sym (get_or-set_other table i v a (pos 0) d)) (e.small v)

    go_are : (x : ℕ) → x < i + 1 → Dec (x ≡ i) → valued (set table i a) x ≡ f x
    go_are x b (yes d) = same x d ∙ q ∙ ap f (sym d)
    go_are x b (no d) = get_or-set_other table i x a (pos 0) d ∙ e.are x (omega arith)

-- both ends
pub record LoadedTo (vs : List Variable) (lows highs : List ℤ) (i : ℕ) : Type 0 where
  pub lows_to : Entered (λ x. (variable_in vs x).low) lows i
  pub highs_to : Entered (λ x. (variable_in vs x).high) highs i

pub loaded_none : (vs : List Variable) {lows highs : List ℤ} → Tables lows highs → LoadedTo vs lows highs 0
loaded_none vs t = record {
  lows_to = record { many = t.lows_many; small = t.lows_small; are = λ x h. absurd (omega arith) };
  highs_to = record { many = t.highs_many; small = t.highs_small; are = λ x h. absurd (omega arith) };
}

pub loaded_more : {s : List ℕ} {n : ℕ} {lows highs : List ℤ} {i : ℕ} (a b : ℤ) (x : Variable) → Declares s n → i < n → LoadedTo (variables_at s n) lows highs i
    → x ≡ variable_in (variables_at s n) i → a ≡ x.low → b ≡ x.high → LoadedTo (variables_at s n) (set lows i a) (set highs i b) (i + 1)
loaded_more {s} {n} {i = i} a b x d h l e p q =
    let y = p ∙ ap (λ z. z.low) e in
    let w = q ∙ ap (λ z. z.high) e in
    let f = d.few in
    record {
      lows_to = entered_more a l.lows_to (omega arith) (subst (λ z. nat_abs z ≤ max_number) (sym y) (d.low_small i h)) y;
      highs_to = entered_more b l.highs_to (omega arith) (subst (λ z. nat_abs z ≤ max_number) (sym w) (d.high_small i h)) w;
    }

pub loaded_all : {s : List ℕ} {n i : ℕ} {lows highs : List ℤ} (records records' : List ℕ) → Declares s n → i ≡ n → LoadedTo (variables_at s n) lows highs i
    → length records ≡ records_length
    → records' ≡ put_at records 0 (take (8 * n) s) → Tabled (variables_at s n) records' lows highs
loaded_all {s} {n} {i} {lows} {highs} records records' d q l m e =
    let vs = variables_at s n in
    let many = variables_length s n in
    let w = take (8 * n) s in
    let wide : length w ≡ 8 * n = length-take-le (8 * n) s d.inside in
    let few = d.few in
    record {
      tables = record { lows_many = l.lows_to.many; highs_many = l.highs_to.many; lows_small = l.lows_to.small; highs_small = l.highs_to.small };
      records_many = ap length e ∙ put_length records 0 w (omega arith) ∙ m;
      few = omega (arith, many);
      fields =
          let size : 8 * length vs ≡ length w = omega (arith, many) in
          ap (take (8 * length vs)) e ∙ ap (λ (k : ℕ). take k (put_at records 0 w)) size ∙ take-append_seam w (drop (0 + length w) records) ∙ d.bytes;
      lows_are = λ x h. l.lows_to.are x (omega (arith, many));
      highs_are = λ x h. l.highs_to.are x (omega (arith, many));
    }
