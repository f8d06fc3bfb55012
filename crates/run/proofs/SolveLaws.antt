-- A run: the readers of a raised head, and what a raise keeps.
use Rattle.std.specs.Prelude.{Option, Some, None}
use Prim.Native.Nat.{ℕ, ◌+◌, ◌*◌, ◌-◌, ◌/◌, ◌%◌, ◌<◌, ◌≤◌}
use mathlib.Core.Path.{◌≡◌, refl, sym, ap, ap₂, ◌∙◌, subst}
use mathlib.Core.Logic.{inl}
use mathlib.Core.Bool.{Bool, true, false, not, ◌||◌, true≢false}
use mathlib.Core.List.{List}
use native.Mathlib.Nat.{add-sub_cancel_left, zero-add}
use native.Mathlib.Decide.{ℕ_discrete, dec_lt}
use native.Mathlib.Omega.{arith}
use lib.Dec.{T, ltb}
use lib.IntN.{ℤ}
use lib.ListN.{length, get_or, take, drop, get_or-eq_default}
use lib.Seq.{get_or-drop, get_or-take}
use lib.Bits.{bit_or, or_zero_r}
use borrow.Author.Tests.{ltb-true, lt-ltb}
use Rattle.format.specs.Limits.{max_variables, max_rules}
use Rattle.words.specs.Bit.{word_bits, bit, has}
use Rattle.words.proofs.Bits.{bit_or_lem}
use Rattle.words.proofs.Joins.{Taken}
use Rattle.program.specs.Program.{Program, variable_in, variables_at, rule_in, rule_of}
use Rattle.program.specs.Fields.{value_at}
use Rattle.program.specs.Variables.{far, not_past}
use Rattle.program.specs.Readings.{Valuation, valued}
use Rattle.program.specs.Evaluable.{Small}
use Rattle.program.specs.declared.Variable.{Variable}
use Rattle.program.proofs.Conditions.{neither, both}
use Rattle.program.proofs.Promises.{accepts_promises}
use Rattle.program.proofs.Variables.{past_refl, no_more_past}
use Rattle.reader.proofs.Published.{program_limited}
use Rattle.meaning.specs.Founded.{AtOrBefore, GivenNoMore, Within, Model, Least}
use Rattle.meaning.specs.Reduct.{Reckoning, reckoned, reduct, system}
use Rattle.meaning.proofs.InRanges.{within_small}
use Rattle.meaning.proofs.Monotone.{laws}
use Rattle.meaning.proofs.Narrowing.{reduct_narrows}
use Rattle.meaning.proofs.Steps.{Raised, gap}
use Rattle.tables.specs.Tabled.{row_words, read_at, ReadersAre}
use Rattle.tables.specs.Laid.{Placed}
use Rattle.run.specs.Running.{head_of, RuleMetIn, RuleStands, SomeRule, AsAssigned, Reckons, Basis, Underway, MetOutside, Among, Inside, Ready, Lifting, Raising, Stepped, RaisedTo, Lifted, Running}
use Rattle.run.proofs.RunLaws.{at_stands, found_reduct, here_head, head_field, head_variable, reckons_unread}
use Rattle.run.proofs.RaiseLaws.{way_small, way_assigned, way_done, way_stands, head_few, way_over, way_raised, way_stored, way_on, way_risen, way_nearer}

-- ---- rows

-- the bits of a row are those of its variable
row-bit : (readers : List ℕ) (x i : ℕ) → i < max_rules → has (take row_words (drop (row_words * x) readers)) i ≡ has readers (max_rules * x + i)
unfolding has
row-bit readers x i l =
    ap₂ bit (get_or-take row_words (drop (row_words * x) readers) (i / word_bits) 0 (omega arith) ∙ get_or-drop (row_words * x) readers (i / word_bits) 0
    ∙ ap (λ (k : ℕ). get_or readers k 0) word) in_word
  where
    word : row_words * x + i / word_bits ≡ (max_rules * x + i) / word_bits
    word = omega arith

    in_word : i % word_bits ≡ (max_rules * x + i) % word_bits
    in_word = omega arith

pub joined_row : (readers : List ℕ) (x start : ℕ) (new old : ℕ → Bool) → start ≡ row_words * x
    → ((i : ℕ) → new i ≡ (old i || has (take (start + row_words - start) (drop start readers)) i))
    → (i : ℕ) → i < max_rules → new i ≡ (old i || has readers (max_rules * x + i))
joined_row readers x start new old e h i l =
    h i ∙ ap (λ (b : Bool). old i || b) (rw (add-sub_cancel_left start row_words, e) (row-bit readers x i l))

-- the part of a row up to the list's end
pub joined_rest : (vs us ws : List ℕ) (start t : ℕ) → length us ≤ start + t → Taken vs us ws 0 start t → (i : ℕ) → has ws i ≡ (has vs i || has us (word_bits * start + i))
unfolding has
joined_rest vs us ws start t all s i =
    ap (λ (w : ℕ). bit w (i % word_bits)) (joined (i / word_bits) (dec_lt (i / word_bits) t))
    ∙ bit_or_lem (get_or vs (i / word_bits) 0) (get_or us (start + i / word_bits) 0) (i % word_bits)
    ∙ ap₂ (λ (k j : ℕ). bit (get_or vs (i / word_bits) 0) (i % word_bits) || bit (get_or us k 0) j) word in_word
  where
    joined : (m : ℕ) → Dec (m < t) → get_or ws m 0 ≡ bit_or (get_or vs m 0) (get_or us (start + m) 0)
    joined m (yes l) = simp zero-add at (s.within m l)
    joined m (no f) = s.above m (omega arith) ∙ sym (ap (bit_or (get_or vs m 0)) (get_or-eq_default us 0 (omega arith)) ∙ or_zero_r (get_or vs m 0))

    word : start + i / word_bits ≡ (word_bits * start + i) / word_bits
    word = omega arith

    in_word : i % word_bits ≡ (word_bits * start + i) % word_bits
    in_word = omega arith

-- it is the row of x
pub rest_row : (readers : List ℕ) (x start : ℕ) (new old : ℕ → Bool) → start ≡ row_words * x → ((i : ℕ) → new i ≡ (old i || has readers (word_bits * start + i)))
    → (i : ℕ) → i < max_rules → new i ≡ (old i || has readers (max_rules * x + i))
rest_row readers x start new old e h i l = h i ∙ ap (λ (n : ℕ). old i || has readers n) place
  where
    place : word_bits * start + i ≡ max_rules * x + i
    place = omega arith

-- ---- what a raise answers

module _ (y : Variable) (readers : List ℕ) (h : ℕ) (a : ℤ) (m m⁺ : List ℤ) (w w⁺ : List ℕ) {t : Bool} (l : Lifted y readers h a m m⁺ w w⁺ t) where
  pub lifted : t ≡ true → T (not_past y a (far y)) × RaisedTo readers h a m m⁺ w w⁺
  lifted e = rw e at l

  pub not_lifted : t ≡ false → T (not (not_past y a (far y)))
  not_lifted e = (rw e at l).0

-- ---- the reduct

-- the tables of an accepted file, for the reduct of an assignment in its ranges
pub reduct_basis : {s offsets masks : List ℕ} {P : Program} → Placed s P offsets masks → (θ stops : List ℤ) → Within (system P) (valued θ)
    → Basis s P (reduct P) (valued θ) offsets masks θ stops false
reduct_basis {P = P} t θ stops w = record {
  reckons = record {
    accepts = t.accepts;
    stands = λ i h. at_stands (t.stands i h);
    narrows = reduct_narrows P;
    finds = λ i h m e. found_reduct (t.stands i h) stops m θ;
    keeps = λ i h j l b. inl (sym ((t.stands i h).masked j l) ∙ b);
    ranged = w;
    ends = λ v b n. record { le = n.to_far_is };
  };
  laws = laws (accepts_promises t.accepts);
  assigned = w;
  small = within_small (accepts_promises t.accepts) θ w;
  inside = λ i h m b e q. record { le = q };
}

-- ---- the start

module _ {s : List ℕ} {P : Program} {R : Reckoning} {θ : Valuation} {offsets masks : List ℕ} {others stops : List ℤ} {cut : Bool} where
  -- every rule waits
  pub run_start : {m : List ℤ} → Underway s P R θ offsets masks others stops cut m → (readers : List ℕ) → ReadersAre P (length P.rules) masks readers
      → (waiting : List ℕ) → ((i : ℕ) → i < max_rules → has waiting i ≡ ltb i (length P.rules)) → Running s P R θ offsets masks readers others stops cut m waiting
  run_start k readers r waiting all = record {
    task = record { basis = k.basis; readers_are = r };
    progress = k.progress;
    outside = λ i l e. absurd (true≢false (sym (all i (omega (arith, (program_limited k.basis.reckons.accepts).few_rules)) ∙ lt-ltb i (length P.rules) l) ∙ e));
    rules = λ i l e. ltb-true i (length P.rules) (sym (all i l) ∙ e);
  }

-- ---- a run

module _ {s : List ℕ} {P : Program} {R : Reckoning} {θ : Valuation} {offsets masks readers : List ℕ} {others stops : List ℤ} {cut : Bool} {m : List ℤ} {waiting : List ℕ}
    (k : Running s P R θ offsets masks readers others stops cut m waiting) where
  abbrev reckons : Reckons s P R θ offsets masks others stops cut
  reckons = k.task.basis.reckons

  way : Underway s P R θ offsets masks others stops cut m
  way = record { basis = k.task.basis; progress = k.progress }

  pub run_ready : Ready s offsets waiting
  run_ready = record { program = P; stands = reckons.stands; rules = k.rules }

  pub run_assigned : AsAssigned P θ m
  run_assigned = way_assigned way

  pub run_small : Small m × Small others
  run_small = way_small way

  pub run_done : ((i : ℕ) → i < length P.rules → RuleMetIn P R θ (valued m) i) → Least (reckoned P R) θ (valued m)
  run_done = way_done way

  -- what a step answers, for the reckoning of the run
  module _ (w : List ℕ) {r : Option (ℕ × ℤ)}
      (f : (Q : Program) (S : Reckoning) (ρ : Valuation) → Reckons s Q S ρ offsets masks others stops cut → AsAssigned Q ρ m → MetOutside Q S ρ (valued m) (has waiting)
      → Stepped Q S ρ (valued m) (has w) r) where
    pub run_raising : {i : ℕ} {a : ℤ} → r ≡ Some (i, a) → Raising P R θ (valued m) (has w) i a
    run_raising e = rw e at (f P R θ reckons (way_assigned way) k.outside)

    pub run_stepped : {i : ℕ} {a : ℤ} → r ≡ Some (i, a) → Lifting P R θ (valued m) (has w) i a
    run_stepped e = (run_raising e).lifting

    pub run_ended : r ≡ None → (i : ℕ) → i < length P.rules → RuleMetIn P R θ (valued m) i
    run_ended e = rw e at (f P R θ reckons (way_assigned way) k.outside)

  -- a variable is raised on the way, and its readers join a set
  module _ (v : ℕ) (few : v < max_variables) (b : ℤ) (w : List ℕ) {m⁺ : List ℤ} {w⁺ : List ℕ} (r : RaisedTo readers v b m m⁺ w w⁺)
      (way⁺ : Underway s P R θ offsets masks others stops cut m⁺) (is : Raised (valued m) (valued m⁺) v b) where
    -- a rule that stays outside gives what it gave
    pub joined_same : (j : ℕ) → j < length P.rules → has w⁺ j ≡ false → (has w j ≡ false) × (R.gives j (valued m⁺) θ ≡ R.gives j (valued m) θ)
    joined_same j l e = (none.0, reckons_unread reckons m m⁺ (way_assigned way) (way_assigned way⁺) v b is j l unread)
      where
        rule_few : j < max_rules
        rule_few = omega (arith, (program_limited reckons.accepts).few_rules)

        none : (has w j ≡ false) × (has readers (max_rules * v + j) ≡ false)
        none = neither (has w j) (has readers (max_rules * v + j)) (sym (r.waiting_is j rule_few) ∙ e)

        unread : read_at (rule_in P.rules j) (get_or masks j 0) v ≡ false
        unread = rw (lt-ltb j (length P.rules) l) at (sym (k.task.readers_are v j few rule_few) ∙ none.1)

    -- and is met if it was, where no value has fallen back
    pub joined_met : ((u : ℕ) → AtOrBefore (reckoned P R) u (valued m u) (valued m⁺ u)) → (j : ℕ) → j < length P.rules → has w⁺ j ≡ false
        → RuleMetIn P R θ (valued m) j → RuleMetIn P R θ (valued m⁺) j
    joined_met risen j l e h =
        subst (λ g. GivenNoMore (reckoned P R) (head_of P j) g (valued m⁺ (head_of P j))) (sym (joined_same j l e).1)
        (no_more_past (R.variable (head_of P j)) (R.gives j (valued m) θ) (valued m (head_of P j)) (valued m⁺ (head_of P j)) (risen (head_of P j)).le h)

    pub joined_rules : Inside (has w) (has waiting) → Among P (has w⁺)
    joined_rules sub j l e = go (has w j) refl (sym (r.waiting_is j l) ∙ e)
      where
        go : (b : Bool) → has w j ≡ b → (b || has readers (max_rules * v + j)) ≡ true → j < length P.rules
        go true q h = k.rules j l (sub j q)
        go false q h =
            ltb-true j (length P.rules)
            (both (ltb j (length P.rules)) (read_at (rule_in P.rules j) (get_or masks j 0) v) (sym (k.task.readers_are v j few l) ∙ h)).0

  -- a rule exceeds its head
  module _ (w : List ℕ) {i : ℕ} {a : ℤ} (x : Lifting P R θ (valued m) (has w) i a) where
    here : RuleStands s P i (get_or offsets i 0)
    here = way_stands way x.among x.exceeds

    pub run_rule : SomeRule s (get_or offsets i 0)
    run_rule = record { program = P; rule = i; here = here }

    few : head_of P i < max_variables
    few = head_few way x.among x.exceeds

    -- the head's variable
    abbrev head_in : Variable
    head_in = variable_in P.variables (head_of P i)

    -- within its range: the run goes on
    module _ (sub : Inside (has w) (has waiting)) (full : length m ≡ max_variables) (t : T (not_past head_in a (far head_in)))
        {m⁺ : List ℤ} {w⁺ : List ℕ} (r : RaisedTo readers (head_of P i) a m m⁺ w w⁺) where
      way⁺ : Underway s P R θ offsets masks others stops cut m⁺
      way⁺ = way_on way x.among x.exceeds full t r.model_is

      is : Raised (valued m) (valued m⁺) (head_of P i) a
      is = way_raised way x.among x.exceeds full t r.model_is

      outside : MetOutside P R θ (valued m⁺) (has w⁺)
      outside j l e = go (ℕ_discrete j i)
        where
          same : (has w j ≡ false) × (R.gives j (valued m⁺) θ ≡ R.gives j (valued m) θ)
          same = joined_same (head_of P i) few a w r way⁺ is j l e

          go : Dec (j ≡ i) → RuleMetIn P R θ (valued m⁺) j
          go (yes q) =
              let g : R.gives i (valued m⁺) θ ≡ Some a = subst (λ (n : ℕ). R.gives n (valued m⁺) θ ≡ R.gives n (valued m) θ) q same.1 ∙ x.exceeds.gives_it in
              subst (λ (n : ℕ). RuleMetIn P R θ (valued m⁺) n) (sym q)
              (subst (λ b. GivenNoMore (reckoned P R) (head_of P i) b (valued m⁺ (head_of P i))) (sym g)
              (rw (way_stored way x.among x.exceeds full t r.model_is) (past_refl (R.variable (head_of P i)) a)))
          go (no n) = joined_met (head_of P i) few a w r way⁺ is (way_risen way x.among x.exceeds full t r.model_is) j l e (x.outside j l same.0 n)

      pub run_on : Running s P R θ offsets masks readers others stops cut m⁺ w⁺
      run_on = record { task = k.task; progress = way⁺.progress; outside = outside; rules = joined_rules (head_of P i) few a w r way⁺ is sub }

    -- the same, of the code's head h with its variable y, and value b
    module _ {h : ℕ} (e : h ≡ (rule_of (value_at s (get_or offsets i 0))).head) where
      pub run_field : 8 * h + 8 ≤ length s
      run_field = head_field here e

      module _ {y : Variable} (v : (n : ℕ) → h < n → y ≡ variable_in (variables_at s n) h) {b : ℤ} (q : b ≡ a) (m⁺ : List ℤ) (w⁺ : List ℕ) (t : Bool)
          (l : Lifted y readers h b m m⁺ w w⁺ t) where
        as_head : Lifted head_in readers (head_of P i) a m m⁺ w w⁺ t
        as_head = rw (head_variable here e v, here_head here e, q) at l

        pub no_lift : t ≡ false → (m' : Valuation) → Model (reckoned P R) θ m' → ⊥
        no_lift f = way_over way x.among x.exceeds (not_lifted head_in readers (head_of P i) a m m⁺ w w⁺ as_head f)

        module _ (f : t ≡ true) (sub : Inside (has w) (has waiting)) (full : length m ≡ max_variables) where
          pub lift_on : Running s P R θ offsets masks readers others stops cut m⁺ w⁺
          lift_on = let r = lifted head_in readers (head_of P i) a m m⁺ w w⁺ as_head f in run_on sub full r.0 r.1

          pub lift_nearer : gap (variables_at s max_variables) m⁺ < gap (variables_at s max_variables) m
          lift_nearer = let r = lifted head_in readers (head_of P i) a m m⁺ w w⁺ as_head f in way_nearer way x.among x.exceeds full r.0 r.1.model_is
