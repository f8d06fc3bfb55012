-- The tables of a run, one rule more at a time.
use Prim.Native.Nat.{ℕ, ◌+◌, ◌*◌, ◌<◌, ◌≤◌}
use mathlib.Core.Path.{◌≡◌, refl, sym, ap, ap₂, ◌∙◌, subst}
use mathlib.Core.Bool.{Bool, true, false, ◌||◌, ◌&&◌}
use mathlib.Core.List.{List}
use native.Mathlib.Decide.{ℕ_discrete, dec_lt}
use native.Mathlib.Omega.{arith}
use lib.Dec.{eqb, ltb}
use lib.ListN.{length, get_or, set}
use lib.Seq.{get_or-set_same, get_or-set_other}
use borrow.Author.Tests.{eq-eqb, ne_eqb, lt-ltb, le-ltb}
use Rattle.format.specs.Limits.{max_file, max_rules, max_terms}
use Rattle.words.specs.Bit.{has}
use Rattle.program.specs.Fields.{value_at, next_at}
use Rattle.program.specs.Program.{Program, Rule, rule_of, rule_in, variables_at}
use Rattle.program.specs.Reading.{Reads, accepted, whole, Accepts}
use Rattle.reader.specs.Parts.{rule_place}
use Rattle.reader.proofs.Published.{counts_of_is, variables_are, rule_lies, next_rule}
use Rattle.reduct.specs.Masks.{Mask}
use Rattle.tables.specs.Tabled.{read_at, Entered, MaskOf, ReadersAre}
use Rattle.tables.specs.Entries.{RuleHere, EntryMade}
use Rattle.tables.specs.Laid.{RuleAt, FirstPlaced, Placed}
use Rattle.program.specs.Readings.{kept}
use Rattle.parts.specs.Values.{Standing}
use Rattle.program.specs.declared.Variable.{Variable}

-- a place in a file that is accepted
pub short_place : {s : List ℕ} {v m c at : ℕ} → Reads s (accepted v m c) → RuleHere s v at → at ≤ max_file
short_place (whole w x) h = omega (arith, w.passed.short, h.inside)

module _ {s : List ℕ} {v m c : ℕ} (r : Reads s (accepted v m c)) {P : Program} (a : Accepts s P) where
  -- rule i stands at its place
  pub here : (i at : ℕ) → i < m → at ≡ rule_place s P i → RuleHere s v at
  here i at h e =
      let z = counts_of_is r a in
      let l = rule_lies a i (omega (arith, z.rules_are)) in
      rw e (record { inside = l.inside; standing = subst (λ (n : ℕ). Standing s n (value_at s (rule_place s P i))) z.variables_are l.standing; few = l.evaluable.few })

  module _ (i at next : ℕ) (os os' ms ms' : List ℕ) (h : i < m) (e : at ≡ rule_place s P i) (lo : i < length os) (lm : i < length ms)
      (n : EntryMade s v at i next os os' ms ms') (t : FirstPlaced s P i os ms) where
    within : i < length P.rules
    within = omega (arith, (counts_of_is r a).rules_are)

    rule_here : rule_of (value_at s at) ≡ rule_in P.rules i
    rule_here = ap (λ (n : ℕ). rule_of (value_at s n)) e ∙ sym (rule_lies a i within).is

    -- the rule's mask is of its kept positions
    mask_here : MaskOf P (rule_in P.rules i) n.mask
    mask_here =
        subst (λ (q : Rule). MaskOf P q n.mask) rule_here
        (λ j l. n.mask_is.below j l ∙ ap (λ (vs : List Variable). kept vs (rule_of (value_at s at)) j) (sym (variables_are r a)))

    pub placed_more : FirstPlaced s P (i + 1) os' ms'
    placed_more j l = rw (n.placed, n.masked) (go (ℕ_discrete j i))
      where
        go : Dec (j ≡ i) → RuleAt s P j (get_or (set os i at) j 0) (get_or (set ms i n.mask) j 0)
        go (yes q) =
            rw (q, get_or-set_same os i at 0 lo, get_or-set_same ms i n.mask 0 lm)
            (record { accepts = a; among = within; placed = e; masked = mask_here })
        go (no g) = rw (get_or-set_other os i j at 0 g, get_or-set_other ms i j n.mask 0 g) (t j (omega arith))

    -- the next field is the next rule
    pub next_place : next ≡ rule_place s P (i + 1)
    next_place = n.next_is ∙ ap (next_at s) e ∙ sym (next_rule s P i)

  -- all rules are entered
  module _ {i : ℕ} (q : i ≡ m) where
    every : i ≡ length P.rules
    every = omega (arith, (counts_of_is r a).rules_are)

    pub placed_all : {os ms : List ℕ} → FirstPlaced s P i os ms → Placed s P os ms
    placed_all t = record { accepts = a; stands = rw every at t }

-- ---- one rule, from the value of its field

module _ {s : List ℕ} {n at : ℕ} (h : RuleHere s n at) {v : List ℕ} (q : v ≡ value_at s at) where
  pub standing_here : Standing s n v
  standing_here = rw q h.standing

  pub few_here : length (rule_of v).terms ≤ max_terms
  few_here = rw q h.few

  pub entry_made : (i next mask : ℕ) (os ms : List ℕ) {place : ℕ} → place ≡ at → next ≡ next_at s at → Mask (kept (variables_at s n) (rule_of v)) (length (rule_of v).terms) mask
      → EntryMade s n at i next os (set os i place) ms (set ms i mask)
  entry_made i next mask os ms p e m = record { next_is = e; placed = ap (set os i) p; mask = mask; masked = refl; mask_is = rw q at m }

-- ---- the readers

-- nothing is entered yet
pub readers_none : (P : Program) (ms rs : List ℕ) → ((n : ℕ) → has rs n ≡ false) → ReadersAre P 0 ms rs
readers_none P ms rs e x i l m =
    e (max_rules * x + i) ∙ ap (λ (t : Bool). t && read_at (rule_in P.rules i) (get_or ms i 0) x) (sym (le-ltb i 0 (omega arith)))

-- one rule more, which stands at this place
pub readers_more : {s : List ℕ} (P : Program) (i at mask : ℕ) (ms rs rs' : List ℕ) {v : List ℕ} → Accepts s P → i < length P.rules → at ≡ rule_place s P i → mask ≡ get_or ms i 0 → v ≡ value_at s at
    → Entered rs rs' i (read_at (rule_of v) mask) → ReadersAre P i ms rs → ReadersAre P (i + 1) ms rs'
readers_more {s} P i at mask ms rs rs' {v} a h e u q n t x j l m = n x j l m ∙ go (ℕ_discrete j i)
  where
    reads : ℕ → Bool
    reads k = read_at (rule_in P.rules k) (get_or ms k 0) x

    rule_here : rule_of v ≡ rule_in P.rules i
    rule_here = ap rule_of (q ∙ ap (value_at s) e) ∙ sym (rule_lies a i h).is

    or_false : (b : Bool) → (b || false) ≡ b
    or_false true = refl
    or_false false = refl

    same : Dec (j < i) → (j ≡ i → ⊥) → ltb j i ≡ ltb j (i + 1)
    same (yes p) g = lt-ltb j i p ∙ sym (lt-ltb j (i + 1) (omega arith))
    same (no f) g = le-ltb j i (omega arith) ∙ sym (le-ltb j (i + 1) (omega arith))

    go : Dec (j ≡ i) → (has rs (max_rules * x + j) || (eqb j i && read_at (rule_of v) mask x)) ≡ (ltb j (i + 1) && reads j)
    go (yes p) =
        ap₂ ◌||◌ (t x j l m ∙ ap (λ (b : Bool). b && reads j) (le-ltb j i (omega arith)))
        (ap₂ ◌&&◌ (eq-eqb j i p) (ap₂ (λ (r : Rule) (w : ℕ). read_at r w x) rule_here u))
        ∙ sym (ap₂ (λ (b : Bool) (k : ℕ). b && reads k) (lt-ltb j (i + 1) (omega arith)) p)
    go (no g) =
        ap₂ ◌||◌ (t x j l m) (ap (λ (b : Bool). b && read_at (rule_of v) mask x) (ne_eqb j i g))
        ∙ or_false _ ∙ ap (λ (b : Bool). b && reads j) (same (dec_lt j i) g)

pub readers_all : (P : Program) {i : ℕ} (ms rs : List ℕ) → i ≡ length P.rules → ReadersAre P i ms rs → ReadersAre P (length P.rules) ms rs
readers_all P ms rs e t = rw e at t
