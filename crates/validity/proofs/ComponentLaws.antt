-- Components, and what rows say of them.
use Rattle.std.specs.Prelude.{Option, Some, None}
use Prim.Native.Nat.{ℕ, zero, suc, ◌+◌, ◌-◌, ◌*◌, ◌/◌, ◌%◌, ◌<◌, ◌≤◌}
use mathlib.Core.Path.{◌≡◌, refl, sym, ap, ap₂, ◌∙◌, subst}
use mathlib.Core.Logic.{◌↔◌, ◌⊎◌, inl, inr}
use mathlib.Core.List.{List}
use mathlib.Core.Bool.{Bool, true, false, not, ◌||◌, ◌&&◌, or-true}
use native.Mathlib.Omega.{arith}
use lib.ListN.{length, get_or, replicate}
use lib.Dec.{eqb}
use lib.IntN.{pos}
use borrow.Author.Tests.{eqb-true, eqb-false, eq-eqb, not-true}
use Rattle.format.specs.Limits.{max_variables}
use Rattle.words.specs.Bit.{word_bits, word_count, bit, NoneIn}
use Rattle.reach.specs.Rows.{row_has}
use Rattle.reach.specs.Closing.{Closed}
use Rattle.walks.specs.Walk as walk
use Rattle.walks.specs.Walk.{Walk, AfterLast, Rounds}
use Rattle.words.proofs.Bits.{bit_zero}
use Rattle.walks.proofs.Walks.{StopsBelow, before_walk, walk_before}
use Rattle.program.specs.Tables.{any_below}
use Rattle.program.specs.Program.{Rule, Program, program, term_form, rule_in, term_in}
use Rattle.program.specs.Directions.{direction, is_mixed}
use Rattle.program.specs.Readings.{body_variable, kept}
use Rattle.program.specs.Idle.{is_idle}
use Rattle.program.specs.Evaluable.{Small}
use Rattle.program.specs.Components as components
use Rattle.program.specs.Components.{draws, edge, Share, Offends}
use Rattle.program.specs.Reading.{Whole}
use Rattle.program.specs.declared.Counts.{Counts}
use Rattle.program.proofs.Conditions.{never, both, some_below, below_some, any_same}
use Rattle.program.proofs.Promises.{RulePromise, Promises, passed_promises}
use Rattle.program.proofs.Unique.{whole_unique}
use Rattle.program.proofs.IdleRules.{promised_acts, promised_not_idle, only_sizes_mixed}
use Rattle.program.proofs.Places.{variables_length}
use Rattle.fields.specs.Scanning.{Counted}
use Rattle.validity.specs.Judging.{Judges}
use Rattle.sharing.specs.Sharing.{share_in}
use Rattle.sharing.proofs.Firsts.{SharesIn, shares_told, shares_tested}
use Rattle.edges.specs.Edges.{Grown, any_mixed, draws_at, draws_in, offends_at, offends_in}
use Rattle.validity.specs.Marks.{draws_by, offends_by, acts_on, acting_variable, edge_in, offends_rule, JudgedBy}
use Rattle.validity.proofs.RuleLaws.{counted_variables, variables_few, rule_stands, rule_is, rule_promise}
use Rattle.program.specs.declared.Variable.{Variable}

-- ---- tests below a number

any_never : (n : ℕ) → any_below n (λ i. false) ≡ false
unfolding any_below
any_never zero = refl
any_never (suc n) = rw (any_never n)

pub and_any : (b : Bool) (n : ℕ) (p : ℕ → Bool) → (b && any_below n p) ≡ any_below n (λ i. b && p i)
and_any true n p = refl
and_any false n p = sym (any_never n)

-- ---- edges

pub draws_positions : (P : Program) (r : Rule) (x y : ℕ) → draws P r x y ≡ draws_by P.variables r x y
unfolding draws draws_in draws_at
draws_positions P r x y = ap (λ (b : Bool). not (is_idle P.variables r) && b) (and_any (eqb r.head x) (length r.terms) _)

-- edges land on declared variables
pub edges_below : {P : Program} → Promises P → (x y : ℕ) → edge P x y ≡ true → y < length P.variables
unfolding edge draws
edges_below {P} p x y e =
    let i = some_below (length P.rules) _ e in
    let r = rule_in P.rules i.0 in
    let d = both (eqb r.head x) _ (both (not (is_idle P.variables r)) _ i.2).1 in
    let j = some_below (length r.terms) _ d.1 in
    let v = both (eqb (term_in r.terms j.0).variable y) _ j.2 in
    let q : (term_in r.terms j.0).variable ≡ y = eqb-true _ y v.0 in
    rw q at ((p.rules i.0 i.1).body.terms j.0 j.1).declared

-- an array of one value, read with that value past its end
everywhere : {A : Type 0} (a : A) (m i : ℕ) → get_or (replicate m a) i a ≡ a
everywhere a zero i = refl
everywhere a (suc m) zero = refl
everywhere a (suc m) (suc i) = everywhere a m i

-- rows with nothing in them

pub rows_none : (m a b : ℕ) → row_has (replicate m 0) a b ≡ false
unfolding row_has
rows_none m a b = ap (λ (w : ℕ). bit w (b % word_bits)) (everywhere 0 m (word_count * a + b / word_bits)) ∙ bit_zero (b % word_bits)

-- values of 0
pub values_none : (m : ℕ) → Small (replicate m (pos 0))
values_none m v = rw (everywhere (pos 0) m v) (omega arith)

-- ---- a program that meets no refusal

-- rows tell of each mixed position of a rule that is not idle whether its variable shares the head's component
pub record Tells (P : Program) (t : ℕ → ℕ → Bool) : Type 0 where
  pub is : (i : ℕ) → i < length P.rules → is_idle P.variables (rule_in P.rules i) ≡ false
      → (j : ℕ) → j < length (rule_in P.rules i).terms → is_mixed (direction P.variables (rule_in P.rules i) j) ≡ true
      → (share_in t (rule_in P.rules i).head (body_variable (rule_in P.rules i) j) ≡ true)
      ↔ Share P (rule_in P.rules i).head (body_variable (rule_in P.rules i) j)

-- only sizes have mixed positions, and a size has one position
pub mixed_first : {vs : List Variable} {r : Rule} → RulePromise vs r → (j : ℕ) → j < length r.terms → is_mixed (direction vs r j) ≡ true → j ≡ 0
mixed_first {r = r} p j h m = go (eqb (term_form r.form) 5) refl
  where
    go : (b : Bool) → eqb (term_form r.form) 5 ≡ b → j ≡ 0
    go true e = omega (arith, p.body.count.size_one (eqb-true _ 5 e))
    go false e = absurd (never m (only_sizes_mixed p (eqb-false _ 5 e) j h))

module _ {P : Program} (promises : Promises P) where
  -- every stop between is a variable
  pub promised_stops : StopsBelow (edge P) (length P.variables)
  promised_stops i m j p q = edges_below promises i m p

  -- the sets after the last round say which variables share a component
  module _ {t : ℕ → ℕ → Bool} (last : AfterLast (edge P) t (length P.variables)) where
    pub promised_share : (x y : ℕ) → x < length P.variables → y < length P.variables → (share_in t x y ≡ true) ↔ Share P x y
    promised_share x y hx hy = (λ e. told (shares_told t x y e), λ c. shares_tested t x y (tested c))
      where
        told : SharesIn t x y → Share P x y
        told (inl e) = inl e
        told (inr r) = inr (before_walk last x y hx hy r.0, before_walk last y x hy hx r.1)

        tested : Share P x y → SharesIn t x y
        tested (inl e) = inl e
        tested (inr r) = inr (walk_before last promised_stops x y hx hy r.0.1, walk_before last promised_stops y x hy hx r.1.1)

    pub last_tells : Tells P t
    last_tells = record {
      is = λ i l acts j h m. let p = promises.rules i l in promised_share _ _ p.head_declared (p.body.terms j h).declared;
    }

  -- a rule that is not idle draws an edge to the variable of each mixed position
  mixed_edge : (i : ℕ) → i < length P.rules → is_idle P.variables (rule_in P.rules i) ≡ false
      → (j : ℕ) → j < length (rule_in P.rules i).terms → is_mixed (direction P.variables (rule_in P.rules i) j) ≡ true
      → edge P (rule_in P.rules i).head (body_variable (rule_in P.rules i) j) ≡ true
  unfolding edge draws
  mixed_edge i l acts j h m =
      let r = rule_in P.rules i in
      below_some (length P.rules) _ i l
      (ap₂ ◌&&◌ (ap not acts)
      (ap₂ ◌&&◌ (eq-eqb r.head r.head refl)
      (below_some (length r.terms) _ j h
      (ap₂ ◌&&◌ (eq-eqb (body_variable r j) (body_variable r j) refl) (ap (λ (b : Bool). kept P.variables r j || b) m ∙ or-true (kept P.variables r j))))))

  -- edges of which the rows that meet p are closed, those of the variables of mixed positions among them
  module _ {r t : ℕ → ℕ → Bool} {p : ℕ → Bool} (few : length P.variables ≤ max_variables)
      (drawn : (a b : ℕ) → a < max_variables → b < max_variables → r a b ≡ edge P a b) (c : Closed r t (length P.variables) p) where
    abbrev n : ℕ
    n = length P.variables

    -- walks over the rows and over the edges are the same
    over_edges : {k a j : ℕ} → k < n → a < n → j < n → Walk r k a j → Walk (edge P) k a j
    over_edges {j = j} hk ha hj (walk.edge {i = a} h) = walk.edge (sym (drawn a j (omega arith) (omega arith)) ∙ h)
    over_edges hk ha hj (walk.step {i = a} {m = m} h l w) =
        walk.step (sym (drawn a m (omega arith) (omega arith)) ∙ h) l (over_edges hk (omega arith) hj w)

    over_rows : {k a j : ℕ} → a < n → Walk (edge P) k a j → Walk r (n - 1) a j
    over_rows ha (walk.edge {i = a} {j = j} h) = let hj = edges_below promises a j h in walk.edge (drawn a j (omega arith) (omega arith) ∙ h)
    over_rows ha (walk.step {i = a} {m = m} h l w) =
        let hm = edges_below promises a m h in
        walk.step (drawn a m (omega arith) (omega arith) ∙ h) (omega arith) (over_rows hm w)

    -- an edge is in its row
    there : (x y : ℕ) → x < n → y < n → edge P x y ≡ true → t x y ≡ true
    there x y hx hy e = go (p x) refl
      where
        go : (b : Bool) → p x ≡ b → t x y ≡ true
        go true q = c.whole x y q hy (0, omega arith, walk.edge (drawn x y (omega arith) (omega arith) ∙ e))
        go false q = c.others x y q (omega arith) ∙ drawn x y (omega arith) (omega arith) ∙ e

    edge_share : (x y : ℕ) → x < n → y < n → edge P x y ≡ true → p y ≡ true → (share_in t x y ≡ true) ↔ Share P x y
    edge_share x y hx hy e q = (λ s. told (shares_told t x y s), λ s. shares_tested t x y (tested s))
      where
        told : SharesIn t x y → Share P x y
        told (inl i) = inl i
        told (inr i) =
            let w = c.sound y x q (omega arith) i.1 in
            inr ((0, walk.edge e), (w.0, over_edges w.1 hy hx w.2))

        tested : Share P x y → SharesIn t x y
        tested (inl i) = inl i
        tested (inr i) = inr (there x y hx hy e, c.whole y x q hx (n - 1, omega arith, over_rows hy i.1.1))

    pub closed_tells : ((i : ℕ) → i < length P.rules → is_idle P.variables (rule_in P.rules i) ≡ false
        → (j : ℕ) → j < length (rule_in P.rules i).terms → is_mixed (direction P.variables (rule_in P.rules i) j) ≡ true
        → p (body_variable (rule_in P.rules i) j) ≡ true) → Tells P t
    closed_tells all = record {
      is = λ i l acts j h m. let o = promises.rules i l in
          edge_share _ _ o.head_declared (o.body.terms j h).declared (mixed_edge i l acts j h m) (all i l acts j h m);
    }

  -- rows that tell so much say which rules offend
  module _ {t : ℕ → ℕ → Bool} (tells : Tells P t) (i : ℕ) (l : i < length P.rules) where
    pub test_offends : offends_by t P.variables (rule_in P.rules i) ≡ true → Offends P i
    unfolding offends_in offends_at
    test_offends e =
        let g = both _ (not (is_idle P.variables (rule_in P.rules i))) e in
        let acts = not-true _ g.1 in
        let j = some_below _ _ g.0 in
        let d = both _ _ j.2 in
        record {
          among = l;
          not_idle = promised_acts promises i l acts;
          at = j.0;
          inside = j.1;
          pushes = d.0;
          shares = (tells.is i l acts j.0 j.1 d.0).0 d.1;
        }

    pub offends_test : offends_by t P.variables (rule_in P.rules i) ≡ false → Offends P i → ⊥
    unfolding offends_in offends_at
    offends_test e o =
        let acts = promised_not_idle promises i l o.not_idle in
        let s = (tells.is i l acts o.at o.inside o.pushes).1 o.shares in
        never (ap₂ ◌&&◌ (below_some _ _ o.at o.inside (ap₂ ◌&&◌ o.pushes s)) (ap not acts)) e

-- ---- a file whose fields passed

module _ {s : List ℕ} {n : ℕ} (w : Whole s n) where
  pub stops_declared : StopsBelow (edge (program s n)) (length (program s n).variables)
  stops_declared = promised_stops (passed_promises w.passed)

  pub shared : {t : ℕ → ℕ → Bool} → AfterLast (edge (program s n)) t (length (program s n).variables) → (x y : ℕ) → x < length (program s n).variables
      → y < length (program s n).variables → (share_in t x y ≡ true) ↔ Share (program s n) x y
  shared last = promised_share (passed_promises w.passed) last

-- with its counts

module _ {s : List ℕ} {k : Counts} (c : Counted s k) where
  abbrev P : Program
  P = program s c.fields

  pub edge_is : (x y : ℕ) → edge P x y ≡ edge_in s k x y
  unfolding edge edge_in
  edge_is x y =
      ap (λ (n : ℕ). any_below n (λ i. draws P (rule_in P.rules i) x y)) c.describes.rules_are
      ∙ any_same k.rules _ _ (λ i l. draws_positions P (rule_in P.rules i) x y
      ∙ ap₂ (λ (vs : List Variable) (r : Rule). draws_by vs r x y) c.describes.variables_are (rule_is c i l))

  -- the variables of mixed positions of rules that are not idle
  acting_is : (v : ℕ) → any_below (length P.rules) (λ i. acts_on P.variables (rule_in P.rules i) v) ≡ acting_variable s k v
  unfolding acting_variable
  acting_is v =
      ap (λ (n : ℕ). any_below n (λ i. acts_on P.variables (rule_in P.rules i) v)) c.describes.rules_are
      ∙ any_same k.rules _ _ (λ i l. ap₂ (λ (vs : List Variable) (r : Rule). acts_on vs r v) c.describes.variables_are (rule_is c i l))

  pub acting_in : (i : ℕ) → i < length P.rules → is_idle P.variables (rule_in P.rules i) ≡ false
      → (j : ℕ) → j < length (rule_in P.rules i).terms → is_mixed (direction P.variables (rule_in P.rules i) j) ≡ true
      → acting_variable s k (body_variable (rule_in P.rules i) j) ≡ true
  unfolding any_mixed
  acting_in i l acts j h m =
      let r = rule_in P.rules i in
      let z = mixed_first ((passed_promises c.whole.passed).rules i l) j h m in
      sym (acting_is (body_variable r j))
      ∙ below_some (length P.rules) _ i l
      (ap₂ ◌&&◌ (ap₂ ◌&&◌ (below_some (length r.terms) _ j h m) (ap not acts)) (eq-eqb _ _ (ap (body_variable r) z)))

  -- are variables of the file
  pub acting_declared : (v : ℕ) → acting_variable s k v ≡ true → v < k.variables
  unfolding acting_variable any_mixed
  acting_declared v e =
      let i = some_below k.rules _ e in
      let a = both _ _ i.2 in
      let j = some_below _ _ (both _ _ a.0).0 in
      let n = variables_length s k.variables in
      omega (arith, eqb-true v _ a.1, ((rule_promise c i.0 i.1).body.terms 0 (omega (arith, j.1))).declared, n)

  file_few : length P.variables ≤ max_variables
  file_few = omega (arith, counted_variables c, variables_few c)

  -- every rule with a mixed position is idle: the file is valid
  pub none_acting : ((v : ℕ) → v < max_variables → acting_variable s k v ≡ false) → components.Valid P
  none_acting none i o =
      let e = acting_in i o.among (promised_not_idle (passed_promises c.whole.passed) i o.among o.not_idle) o.at o.inside o.pushes in
      never e (none _ (omega (arith, acting_declared _ e, variables_few c)))

  -- rows that tell what is asked: a rule offends where the test says so
  module _ {t : ℕ → ℕ → Bool} (tells : Tells P t) where
    module _ (i : ℕ) (l : i < k.rules) where
      among : i < length P.rules
      among = rw c.describes.rules_are l

      row_test : offends_rule t s k i ≡ offends_by t P.variables (rule_in P.rules i)
      row_test = sym (ap₂ (offends_by t) c.describes.variables_are (rule_is c i l))

      pub row_offends : offends_rule t s k i ≡ true → Offends P i
      row_offends e = test_offends (passed_promises c.whole.passed) tells i among (sym row_test ∙ e)

      pub offends_row : offends_rule t s k i ≡ false → Offends P i → ⊥
      offends_row e = offends_test (passed_promises c.whole.passed) tells i among (sym row_test ∙ e)

    outcome_is_by : (r : Option ℕ) → JudgedBy t s k r → Judges s c.fields r
    outcome_is_by None h = λ i o. let l : i < k.rules = rw c.describes.rules_are at o.among in offends_row i l (h i l) o
    outcome_is_by (Some at) f =
        let r = rule_stands c f.rule f.among in
        record {
          field = k.variables + f.rule;
          rule = f.rule;
          before = r.before;
          is = r.field;
          first = record {
            offends = row_offends f.rule f.among f.offends;
            first = λ j l. offends_row j (let m = f.among in omega arith) (f.first j l);
          };
          placed = f.placed;
        }

  -- the answers, whatever number of fields the file is said to have
  pub outcome_is_idle : {p : ℕ → Bool} → ((v : ℕ) → p v ≡ acting_variable s k v) → NoneIn p 0 max_variables → (n : ℕ) → Whole s n → Judges s n None
  outcome_is_idle acting none n w =
      subst (λ (n : ℕ). Judges s n None) (whole_unique c.whole w) (none_acting (λ v h. sym (acting v) ∙ none v (omega arith) h))

  -- no row has anything, then the edges are marked
  pub marked_edges : {t₀ t : ℕ → ℕ → Bool} → ((a b : ℕ) → t₀ a b ≡ false) → Grown t₀ t (edge_in s k) → (a b : ℕ) → a < max_variables → b < max_variables
      → t a b ≡ edge P a b
  marked_edges z g a b ha hb = g.is a b ha hb ∙ ap (λ (x : Bool). x || edge_in s k a b) (z a b) ∙ sym (edge_is a b)

  -- then all rows are closed, or those of the variables of mixed positions
  module _ {t₀ t₁ t : ℕ → ℕ → Bool} {p : ℕ → Bool} (z : (a b : ℕ) → t₀ a b ≡ false) (g : Grown t₀ t₁ (edge_in s k))
      (acting : (v : ℕ) → p v ≡ acting_variable s k v) where
    rows_tell : Rounds t₁ t (length P.variables) ⊎ Closed t₁ t (length P.variables) p → Tells P t
    rows_tell (inl h) = last_tells (passed_promises c.whole.passed) (h.turn (edge P) (walk.edges start))
      where
        start : (a b : ℕ) → a < length P.variables → b < length P.variables → t₁ a b ≡ edge P a b
        start a b ha hb = let f = file_few in marked_edges z g a b (omega arith) (omega arith)
    rows_tell (inr h) =
        closed_tells (passed_promises c.whole.passed) file_few (marked_edges z g) h (λ i l acts j h m. acting _ ∙ acting_in i l acts j h m)

    pub outcome_is : (r : Option ℕ) → Rounds t₁ t k.variables ⊎ Closed t₁ t k.variables p → JudgedBy t s k r → (n : ℕ) → Whole s n → Judges s n r
    outcome_is r h j n w =
        let many = subst (λ (m : ℕ). Rounds t₁ t m ⊎ Closed t₁ t m p) (sym (counted_variables c)) h in
        subst (λ (n : ℕ). Judges s n r) (whole_unique c.whole w) (outcome_is_by (rows_tell many) r j)
