-- What is asked by one position more, and by one rule more.
use Prim.Native.Nat.{ℕ, ◌+◌}
use mathlib.Core.Path.{◌≡◌, sym, ap, ap₂, ◌∙◌}
use mathlib.Core.Bool.{Bool, true, false, ◌||◌, ◌&&◌, or-false, or_assoc}
use mathlib.Core.List.{List}
use lib.Dec.{eqb}
use lib.ListN.{length}
use Rattle.words.specs.Bit.{has}
use Rattle.program.specs.Tables.{any_below}
use Rattle.program.specs.Program.{Rule, rule_of}
use Rattle.program.specs.Directions.{direction}
use Rattle.program.specs.Readings.{body_variable, kept}
use Rattle.program.specs.declared.Variable.{Variable}
use Rattle.program.specs.declared.Direction.{Direction}
use Rattle.program.proofs.Conditions.{any_none, any_next}
use Rattle.positions.specs.Positions.{PositionIs}
use Rattle.positions.specs.declared.Position.{Position}
use Rattle.report.specs.Report.{asks_most, asks_least, asked_at, asked_by}
use Rattle.conditions.specs.Asking.{Asking, AsksMore, asked_into}
use Rattle.conditions.specs.declared.asking.Asked.{Asked}

-- the head that was read is that of the field's rule
pub head_of : {v w : List ℕ} {h : ℕ} → v ≡ w → h ≡ (rule_of v).head → h ≡ (rule_of w).head
head_of e q = q ∙ ap (λ (v : List ℕ). (rule_of v).head) e

module _ (vs : List Variable) (set : ℕ → Bool) (r : Rule) where
  -- one position
  pub position_asks : (j : ℕ) {p : Position} {old new : Asked} {inside most least : Bool}
      → PositionIs vs r j p → inside ≡ set p.variable
      → most ≡ asks_most p.direction (p.kept && inside) → least ≡ asks_least p.direction (p.kept && inside)
      → ((v : ℕ) → has new.most.words v ≡ (has old.most.words v || (most && eqb p.variable v)))
      → ((v : ℕ) → has new.least.words v ≡ (has old.least.words v || (least && eqb p.variable v)))
      → AsksMore old new (λ asks. asked_at vs set asks r j)
  unfolding asked_at
  position_asks j {p} {old} {new} {inside} is i m l f g = record {
    most = λ v. f v ∙ ap (λ (b : Bool). has old.most.words v || b) (ap₂ ◌&&◌ (m ∙ same asks_most) (ap (λ (x : ℕ). eqb x v) is.variable_is));
    least = λ v. g v ∙ ap (λ (b : Bool). has old.least.words v || b)
        (ap₂ ◌&&◌ (l ∙ same asks_least) (ap (λ (x : ℕ). eqb x v) is.variable_is));
  }
    where
      same : (asks : Direction → Bool → Bool) → asks p.direction (p.kept && inside) ≡ asks (direction vs r j) (kept vs r j && set (body_variable r j))
      same asks = ap₂ asks is.direction_is (ap₂ ◌&&◌ is.kept_is (i ∙ ap set is.variable_is))

  -- all positions
  pub rule_asks_is : {i : ℕ} {old new : Asked} → i ≡ length r.terms → AsksMore old new (λ asks v. any_below i (λ j. asked_at vs set asks r j v))
      → AsksMore old new (λ asks. asked_by vs set asks r)
  unfolding asked_by
  rule_asks_is e g = rw e at g

  -- a rule whose head is in the set, and one whose head is not
  pub into_asks : {old new : Asked} {b : Bool} → b ≡ set r.head → b ≡ true → AsksMore old new (λ asks. asked_by vs set asks r) → AsksMore old new (asked_into vs set r)
  unfolding asked_into
  into_asks {old} e t g = record {
    most = λ v. g.most v ∙ ap (λ (c : Bool). has old.most.words v || (c && asked_by vs set asks_most r v)) (sym t ∙ e);
    least = λ v. g.least v ∙ ap (λ (c : Bool). has old.least.words v || (c && asked_by vs set asks_least r v)) (sym t ∙ e);
  }

  pub outside_asks : (old : Asked) {b : Bool} → b ≡ set r.head → b ≡ false → AsksMore old old (asked_into vs set r)
  unfolding asked_into
  outside_asks old e f = record {
    most = λ v. sym (or-false (has old.most.words v)) ∙ ap (λ (c : Bool). has old.most.words v || (c && asked_by vs set asks_most r v)) (sym f ∙ e);
    least = λ v. sym (or-false (has old.least.words v)) ∙ ap (λ (c : Bool). has old.least.words v || (c && asked_by vs set asks_least r v)) (sym f ∙ e);
  }

-- one after the other
module _ (p : ℕ → Asking) where
  pub grown_none : (old : Asked) → AsksMore old old (λ asks v. any_below 0 (λ i. p i asks v))
  grown_none old = record { most = none (has old.most.words) asks_most; least = none (has old.least.words) asks_least }
    where
      none : (h : ℕ → Bool) (asks : Direction → Bool → Bool) (v : ℕ) → h v ≡ (h v || any_below 0 (λ i. p i asks v))
      none h asks v = sym (ap (λ (b : Bool). h v || b) (sym (any_none (λ i. p i asks v))) ∙ or-false (h v))

  pub grown_more : (n : ℕ) {old all new : Asked} → AsksMore old all (λ asks v. any_below n (λ i. p i asks v)) → AsksMore all new (p n)
      → AsksMore old new (λ asks v. any_below (n + 1) (λ i. p i asks v))
  grown_more n {old} g h =
      record { most = λ v. more (has old.most.words) asks_most v (g.most v) (h.most v); least = λ v. more (has old.least.words) asks_least v (g.least v) (h.least v) }
    where
      more : (o : ℕ → Bool) (asks : Direction → Bool → Bool) (v : ℕ) {a b : Bool} → a ≡ (o v || any_below n (λ i. p i asks v)) → b ≡ (a || p n asks v)
          → b ≡ (o v || any_below (n + 1) (λ i. p i asks v))
      more o asks v e f =
          f ∙ ap (λ (b : Bool). b || p n asks v) e ∙ or_assoc (o v) (any_below n (λ i. p i asks v)) (p n asks v)
          ∙ ap (λ (b : Bool). o v || b) (sym (any_next n (λ i. p i asks v)))
