-- The waiting set, and the rule that leaves it.
use Rattle.std.specs.Prelude.{Option, Some, None}
use Prim.Native.Nat.{ℕ, ◌*◌, ◌<◌}
use mathlib.Core.Path.{◌≡◌, sym, ap, ◌∙◌, subst}
use mathlib.Core.Bool.{Bool, true, false, not, ◌&&◌, true≢false}
use mathlib.Core.List.{List}
use native.Mathlib.Decide.{ℕ_discrete}
use native.Mathlib.Omega.{arith}
use lib.Dec.{eqb}
use lib.IntN.{ℤ}
use lib.ListN.{length, get_or}
use borrow.Author.Tests.{ne_eqb}
use Rattle.format.specs.Limits.{max_rules}
use Rattle.words.specs.Bit.{word_bits, has, size_below, LeastFrom, NoneIn}
use Rattle.sets.proofs.Counts.{count_drop}
use Rattle.program.specs.Program.{Program}
use Rattle.program.specs.Reading.{Accepts}
use Rattle.reader.proofs.Published.{accepts_unique, program_limited}
use Rattle.run.specs.Running.{SomeRule, MetOutside, RuleMetIn, Exceeds, Demanded, Inside, Dropped, Taken, Empty, Takes, Ready, Lifting, Raising}
use Rattle.meaning.specs.Reduct.{Reckoning}
use Rattle.tables.specs.Tabled.{row_words}
use Rattle.program.specs.Readings.{Valuation}

-- ---- answers that are known

module _ (old new : ℕ → Bool) {r : Option ℕ} (h : Takes old new r) where
  pub takes_at : {i : ℕ} → r ≡ Some i → Taken old new i
  takes_at e = rw e at h

  pub takes_none : r ≡ None → Empty old new
  takes_none e = rw e at h

module _ (P : Program) (R : Reckoning) (θ m : Valuation) (i : ℕ) {d : Option ℤ} (h : Demanded P R θ m i d) where
  pub demands_more : {a : ℤ} → d ≡ Some a → Exceeds P R θ m i a
  demands_more e = rw e at h

  pub demands_enough : d ≡ None → RuleMetIn P R θ m i
  demands_enough e = rw e at h

-- ---- the set

-- a file has one program
pub among_any : {s offsets waiting : List ℕ} {P : Program} → Ready s offsets waiting → Accepts s P → (i : ℕ) → i < max_rules → has waiting i ≡ true → i < length P.rules
among_any {waiting = waiting} r a i l e =
    let h = r.rules i l e in
    subst (λ (Q : Program). i < length Q.rules) (accepts_unique (r.stands i h).accepts a) h

-- the search of the words is that of the rules
pub lowest_taken : {old new : ℕ → Bool} {i n : ℕ} → n ≡ row_words → LeastFrom old 0 (word_bits * n) i → ((j : ℕ) → new j ≡ (not (eqb j i) && old j)) → Taken old new i
lowest_taken e f d = record { lowest = record { above = f.above; below = omega (arith, f.below); member = f.member; first = f.first }; dropped = record { is = d } }

pub none_taken : {old : ℕ → Bool} {n : ℕ} → n ≡ row_words → NoneIn old 0 (word_bits * n) → Empty old old
none_taken e f = record { none = λ i l h. f i l (omega arith); inside = λ j h. h }

-- nothing waits: every rule is met
pub none_waiting : {s : List ℕ} (P : Program) (R : Reckoning) (θ m : Valuation) {old new : ℕ → Bool} → Accepts s P → MetOutside P R θ m old → Empty old new
    → (i : ℕ) → i < length P.rules → RuleMetIn P R θ m i
none_waiting P R θ m a o n i l = o i l (n.none i (omega arith) (omega (arith, (program_limited a).few_rules)))

-- a rule leaves the set
module _ {old new : ℕ → Bool} {i : ℕ} (d : Dropped old new i) where
  pub dropped_inside : Inside new old
  dropped_inside j e = go (eqb j i) (sym (d.is j) ∙ e)
    where
      go : (b : Bool) → (not b && old j) ≡ true → old j ≡ true
      go true q = absurd (true≢false (sym q))
      go false q = q

  module _ (P : Program) (R : Reckoning) (θ m : Valuation) (o : MetOutside P R θ m old) where
    other : (j : ℕ) → j < length P.rules → new j ≡ false → (j ≡ i → ⊥) → RuleMetIn P R θ m j
    other j l e n = o j l (sym (d.is j ∙ ap (λ (b : Bool). not b && old j) (ne_eqb j i n)) ∙ e)

    pub dropped_met : RuleMetIn P R θ m i → MetOutside P R θ m new
    dropped_met h j l e = go (ℕ_discrete j i)
      where
        go : Dec (j ≡ i) → RuleMetIn P R θ m j
        go (yes q) = rw q h
        go (no n) = other j l e n

    pub dropped_lifting : {a : ℤ} → i < length P.rules → Exceeds P R θ m i a → Lifting P R θ m new i a
    dropped_lifting l x = record { among = l; exceeds = x; outside = other }

-- the lowest of the set leaves it
module _ {old new : ℕ → Bool} {i : ℕ} (k : Taken old new i) where
  pub taken_less : size_below new max_rules < size_below old max_rules
  taken_less = count_drop new old i max_rules k.lowest.below k.lowest.member k.dropped.is

  pub taken_raise : (P : Program) (R : Reckoning) (θ m : Valuation) → MetOutside P R θ m old → {a : ℤ} → i < length P.rules → Exceeds P R θ m i a → Raising P R θ m new i a
  taken_raise P R θ m o l x = record {
    lifting = dropped_lifting k.dropped P R θ m o l x;
    below = λ j h. o j (omega arith) (k.lowest.first j (omega arith) h);
  }

  -- a rule of the set stands in the tables
  module _ {s offsets waiting : List ℕ} (r : Ready s offsets waiting) (n : Inside old (has waiting)) where
    own : i < length r.program.rules
    own = r.rules i k.lowest.below (n i k.lowest.member)

    pub taken_stands : SomeRule s (get_or offsets i 0)
    taken_stands = record { program = r.program; rule = i; here = r.stands i own }

    -- so it is a rule of every program that the file means
    pub taken_rule : {P : Program} → Accepts s P → i < length P.rules
    taken_rule a = among_any r a i k.lowest.below (n i k.lowest.member)
