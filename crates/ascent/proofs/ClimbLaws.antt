-- Values that stand on two sides, on the way: what a raise keeps, one rule after the other, and where a run ends.
use Rattle.std.specs.Prelude.{Result, Ok, Err}
use Prim.Native.Nat.{ℕ, ◌+◌, ◌<◌, ◌≤◌}
use mathlib.Core.Path.{◌≡◌, refl, sym, ap, ◌∙◌, subst}
use mathlib.Core.Logic.{◌⊎◌, inl, inr}
use mathlib.Core.Bool.{Bool, true, false, not}
use mathlib.Core.List.{List}
use native.Mathlib.Decide.{ℕ_discrete, dec_lt}
use native.Mathlib.Omega.{arith}
use lib.Dec.{T, T_not}
use lib.IntN.{ℤ, nat_abs}
use lib.ListN.{length, set}
use Rattle.format.specs.Limits.{max_number}
use Rattle.program.specs.Fields.{value_at, next_at}
use Rattle.program.specs.Program.{Program, rule_of, variable_in, variables_at}
use Rattle.program.specs.Reading.{AcceptedAs, Accepts}
use Rattle.program.specs.Readings.{Valuation, valued}
use Rattle.program.specs.Evaluable.{Small}
use Rattle.program.specs.Variables.{is_founded, from_above, far, not_past}
use Rattle.program.specs.declared.Counts.{Counts}
use Rattle.program.specs.declared.Variable.{Variable}
use Rattle.program.proofs.Promises.{Promises, accepts_promises}
use Rattle.program.proofs.Variables.{past_trans, far_last}
use Rattle.reader.specs.Parts.{rule_place}
use Rattle.reader.proofs.Published.{accepts_unique, reads_accepts, counts_of_is, program_limited, next_rule, variables_are}
use Rattle.meaning.specs.Founded.{Model, Least}
use Rattle.meaning.specs.Narrowing.{Narrows}
use Rattle.meaning.specs.Reduct.{Reckoning, reckoned}
use Rattle.meaning.proofs.InRanges.{value_small}
use Rattle.meaning.proofs.Laws.{at_refl, before_at}
use Rattle.meaning.proofs.Monotone.{head_founded}
use Rattle.meaning.proofs.Narrowing.{narrows_founded, narrows_past, narrows_within}
use Rattle.meaning.proofs.Steps.{Raised}
use Rattle.meaning.proofs.Theory.{Progress, under_given, progress_raise, progress_done}
use Rattle.sided.specs.Sides.{sides_length, side_place, on_side}
use Rattle.sided.specs.Reached.{own_side, risen}
use Rattle.run.specs.Running.{head_of, RuleMetIn, Exceeds, RuleStands, SomeRule, EndsWith}
use Rattle.run.proofs.RunLaws.{head_lies, here_head, head_variable}
use Rattle.ascent.specs.Ascending.{FoundOn, AllReadOn, Climbing, SomeClimbing, RaisedSide, FirstMore, NoneMore, NextIs, SweptUp, SweepUpIs, ArrivedBelow}
use Rattle.ascent.specs.declared.sweeping.Next.{Next}
use Rattle.ascent.specs.declared.sweeping.Next.TheVariants as next
use Rattle.ascent.proofs.PlaceLaws.{not_other, side_of_lem, set_same, set_other, place_few}
use Rattle.ascent.proofs.LookLaws.{own_above, read_full}
use Rattle.run.specs.declared.NoModel.{NoModel}

-- ---- what stands on the two sides

-- both values of a variable are small where those reached and those beside them are
one_small : (vs : List Variable) (sides : List ℤ) (b : Bool) (v : ℕ) → nat_abs (risen vs sides v) ≤ max_number
    → nat_abs (on_side sides (not (own_side (variable_in vs v))) v) ≤ max_number → nat_abs (on_side sides b v) ≤ max_number
unfolding risen
one_small vs sides b v = go (own_side (variable_in vs v)) b
  where
    go : (f b : Bool) → nat_abs (on_side sides f v) ≤ max_number → nat_abs (on_side sides (not f) v) ≤ max_number → nat_abs (on_side sides b v) ≤ max_number
    go true true p q = p
    go true false p q = q
    go false true p q = q
    go false false p q = p

-- one variable is set on its side
module _ (vs : List Variable) (sides : List ℤ) (h : ℕ) (a : ℤ) (l : side_place (own_side (variable_in vs h)) h < length sides) where
  abbrev after : List ℤ
  after = set sides (side_place (own_side (variable_in vs h)) h) a

  set_risen : Raised (risen vs sides) (risen vs after) h a
  unfolding risen
  set_risen v = go (ℕ_discrete v h)
    where
      go : Dec (v ≡ h) → (risen vs after v ≡ risen vs sides v) ⊎ ((h ≡ v) × (risen vs after v ≡ a))
      go (yes q) = inr (sym q, ap (risen vs after) q ∙ set_same sides (own_side (variable_in vs h)) h a l)
      go (no n) = inl (set_other sides (own_side (variable_in vs h)) h a (own_side (variable_in vs v)) v (λ e f. n e))

  set_beside : (v : ℕ) → on_side after (not (own_side (variable_in vs v))) v ≡ on_side sides (not (own_side (variable_in vs v))) v
  set_beside v = set_other sides (own_side (variable_in vs h)) h a (not (own_side (variable_in vs v))) v
      (λ e f. not_other (own_side (variable_in vs h)) (subst (λ (w : ℕ). not (own_side (variable_in vs w)) ≡ own_side (variable_in vs h)) e f))

-- ---- values on the way

module _ {P : Program} {R : Reckoning} {θ others : Valuation} {stops : List ℤ} {full : Bool} {sides : List ℤ} (k : Climbing P R θ others stops full sides) where
  abbrev m : Valuation
  m = risen P.variables sides

  pub climbing_read : AllReadOn P R θ stops full sides
  climbing_read i l = record {
    order = narrows_past k.scales.narrows (head_of P i);
    found = go (k.scales.free i) refl;
    short = λ f. k.scales.short f m k.progress (head_of P i);
  }
    where
      go : (b : Bool) → k.scales.free i ≡ b → FoundOn P R θ stops full sides i
      go true e = let f = k.scales.freely i l e in let a = k.arrived i l e in inr (f.0, a, f.1 m a)
      go false e = inl (k.scales.finds i l e sides k.sided k.progress)

  -- every rule is met: the end
  pub climbing_least : ((i : ℕ) → i < length P.rules → RuleMetIn P R θ m i) → Least (reckoned P R) θ m
  climbing_least h = progress_done {𝒮 = reckoned P R} k.progress h

module _ {s : List ℕ} {P : Program} (a : Accepts s P) {R : Reckoning} {θ others : Valuation} {stops : List ℤ} {full : Bool} {sides : List ℤ}
    (k : Climbing P R θ others stops full sides) where
  promises : Promises P
  promises = accepts_promises a

  narrows : Narrows P R
  narrows = k.scales.narrows

  pub climbing_small : Small sides
  climbing_small p =
      let q = side_of_lem p in
      let v = q.0 in
      rw q.2 (one_small P.variables sides q.1 v (value_small promises (narrows_within narrows k.progress.within) v)
      (rw (k.sided.other v) (k.scales.small v)))

  -- the side of a head
  head_side : (i : ℕ) → i < length P.rules → from_above (variable_in P.variables (head_of P i)) ≡ own_side (variable_in P.variables (head_of P i))
  head_side i l = own_above (variable_in P.variables (head_of P i)) (head_founded promises i l)

  -- every head has its stop: the end
  pub arrived_least : full ≡ true → ArrivedBelow P.variables (length P.variables) stops sides → Least (reckoned P R) θ (risen P.variables sides)
  unfolding risen
  arrived_least t h = climbing_least k
      (λ i l. read_full (climbing_read k i l) t
      (ap (λ (b : Bool). on_side sides b (head_of P i)) (sym (head_side i l)) ∙ h (head_of P i) (promises.rules i l).head_declared (head_founded promises i l)))

  -- a rule exceeds its head
  module _ {j : ℕ} (l : j < length P.rules) {b : ℤ} (x : Exceeds P R θ (risen P.variables sides) j b) where
    abbrev head_in : Variable
    head_in = variable_in P.variables (head_of P j)

    -- its order is that of the reckoning's variable
    same_order : (c d : ℤ) → not_past (R.variable (head_of P j)) c d ≡ not_past head_in c d
    same_order c d = narrows_past narrows (head_of P j) c d

    -- beyond its declared range: no model
    pub climbing_over : T (not (not_past head_in b (far head_in))) → (m : Valuation) → Model (reckoned P R) θ m → ⊥
    climbing_over t m n =
        let h = head_of P j in
        let u : T (not_past (R.variable h) b (m h)) = rw x.gives_it at (under_given k.scales.laws k.scales.assigned k.progress j l m n) in
        T_not (not_past head_in b (far head_in)) t
        (past_trans head_in b (m h) (far head_in) (subst T (same_order b (m h)) u) (far_last head_in (m h) (narrows.inside h (m h) (n.within.inside h))))

    module _ (long : length sides ≡ sides_length) (t : T (not_past head_in b (far head_in))) where
      abbrev raised : List ℤ
      raised = set sides (side_place (own_side head_in) (head_of P j)) b

      place_inside_sides : side_place (own_side head_in) (head_of P j) < length sides
      place_inside_sides =
          place_few (own_side head_in) (head_of P j) (promises.rules j l).head_declared (omega (arith, (program_limited a).few_variables, long))

      raised_risen : Raised (risen P.variables sides) (risen P.variables raised) (head_of P j) b
      raised_risen = set_risen P.variables sides (head_of P j) b place_inside_sides

      founded : T (is_founded (R.variable (head_of P j)))
      founded = subst T (sym (narrows_founded narrows (head_of P j))) (head_founded promises j l)

      raised_progress : Progress (reckoned P R) θ (risen P.variables raised)
      raised_progress =
          progress_raise k.scales.laws k.scales.assigned k.progress j l founded b b x.gives_it (at_refl (head_of P j) b) (before_at x.more)
          (k.scales.inside j l (risen P.variables sides) b x.gives_it t) (risen P.variables raised) raised_risen

      -- with `full` it has not passed its stop, so that it had not that stop before
      not_at_stop : full ≡ true → risen P.variables raised (head_of P j) ≡ b → risen P.variables sides (head_of P j) ≡ valued stops (head_of P j) → ⊥
      not_at_stop f new old =
          let h = head_of P j in
          T_not (not_past head_in b (valued stops h))
          (subst (λ (c : ℤ). T (not (not_past head_in b c))) old (subst (λ (z : Bool). T (not z)) (same_order b (risen P.variables sides h)) x.more.lt))
          (subst (λ (c : ℤ). T (not_past head_in c (valued stops h))) new (k.scales.short f (risen P.variables raised) raised_progress h))

      raised_arrived : (i : ℕ) → i < length P.rules → k.scales.free i ≡ true → risen P.variables raised (head_of P i) ≡ valued stops (head_of P i)
      raised_arrived i u e = go (raised_risen (head_of P i))
        where
          go : (risen P.variables raised (head_of P i) ≡ risen P.variables sides (head_of P i)) ⊎ ((head_of P j ≡ head_of P i) × (risen P.variables raised (head_of P i) ≡ b))
              → risen P.variables raised (head_of P i) ≡ valued stops (head_of P i)
          go (inl q) = q ∙ k.arrived i u e
          go (inr q) = absurd (not_at_stop (k.scales.freely i u e).0 (ap (risen P.variables raised) q.0 ∙ q.1)
              (subst (λ (v : ℕ). risen P.variables sides v ≡ valued stops v) (sym q.0) (k.arrived i u e)))

      raised_set : Climbing P R θ others stops full raised
      raised_set = record {
        scales = k.scales;
        sided = record {
          other = λ v. set_beside P.variables sides (head_of P j) b place_inside_sides v ∙ k.sided.other v;
          standard = λ v n. raised_progress.standard v (subst (λ (z : Bool). T (not z)) (sym (narrows_founded narrows v)) n);
        };
        progress = raised_progress;
        arrived = raised_arrived;
      }

      pub raised_climbing : {sides⁺ : List ℤ} → sides⁺ ≡ set sides (side_place (from_above head_in) (head_of P j)) b → Climbing P R θ others stops full sides⁺
      raised_climbing e = rw (e ∙ ap (λ (c : Bool). set sides (side_place c (head_of P j)) b) (head_side j l)) raised_set

-- ---- one rule, which stands at a place: the code's head x, with its variable y and the side c

module _ {s : List ℕ} {P : Program} {i at : ℕ} (h : RuleStands s P i at) {x : ℕ} {y : Variable} (ex : x ≡ (rule_of (value_at s at)).head)
    (ey : (n : ℕ) → x < n → y ≡ variable_in (variables_at s n) x) (a : ℤ) (sides : List ℤ) where
  abbrev head_at : Variable
  head_at = variable_in P.variables (head_of P i)

  as_head : y ≡ head_at
  as_head = head_variable h ex ey

  pub not_raised : T (not (not_past y a (far y))) → T (not (not_past head_at a (far head_at)))
  not_raised t = rw as_head at t

  pub is_raised : T (not_past y a (far y)) → T (not_past head_at a (far head_at))
  is_raised t = rw as_head at t

  pub raised_place : {c : Bool} {sides⁺ : List ℤ} → c ≡ from_above y → sides⁺ ≡ set sides (side_place c x) a → sides⁺ ≡ set sides (side_place (from_above head_at) (head_of P i)) a
  raised_place e q = rw (e, as_head, here_head h ex) at q

-- ---- the rules in file order

module _ {s : List ℕ} {k : Counts} (r : AcceptedAs s k) {i at : ℕ} (l : i < k.rules) (e : (P : Program) → Accepts s P → at ≡ rule_place s P i) where
  pub rule_stands : {P : Program} → Accepts s P → RuleStands s P i at
  rule_stands a = record { accepts = a; among = omega (arith, (counts_of_is r a).rules_are); placed = e _ a }

  pub some_stands : SomeRule s at
  some_stands = let a = reads_accepts r in record { program = a.meant; rule = i; here = rule_stands a.accepts }

  pub place_inside : next_at s at ≤ length s
  place_inside = (head_lies some_stands.here).0

  pub place_next : {to : ℕ} → to ≡ next_at s at → (P : Program) → Accepts s P → to ≡ rule_place s P (i + 1)
  place_next q P a = q ∙ ap (next_at s) (e P a) ∙ sym (next_rule s P i)

-- ---- one after the other

pub one_more : (Q : ℕ → Type 0) {i k : ℕ} → ((j : ℕ) → i ≤ j → j < k → Q j) → Q k → (j : ℕ) → i ≤ j → j < k + 1 → Q j
one_more Q {i} {k} f h j a b = go (dec_lt j k)
  where
    go : Dec (j < k) → Q j
    go (yes c) = f j a c
    go (no n) = let q : j ≡ k = omega arith in rw q h

-- one variable more has its stop, or is standard: the code's x
pub arrived_more : (vs : List Variable) (stops sides : List ℤ) {v : ℕ} → ArrivedBelow vs v stops sides → {x : Variable} {c : Bool} {a b : ℤ} → x ≡ variable_in vs v
    → c ≡ from_above x → a ≡ on_side sides c v → b ≡ valued stops v → (T (is_founded x) → a ≡ b) → ArrivedBelow vs (v + 1) stops sides
arrived_more vs stops sides {v} f {x} {c} {a} {b} p q e g t w l =
    one_more (λ (u : ℕ). T (is_founded (variable_in vs u)) → on_side sides (from_above (variable_in vs u)) u ≡ valued stops u) {i = 0} {k = v} (λ j y z. f j z) here w (omega arith) l
  where
    here : T (is_founded (variable_in vs v)) → on_side sides (from_above (variable_in vs v)) v ≡ valued stops v
    here n = ap (λ (d : Bool). on_side sides d v) (sym (q ∙ ap from_above p)) ∙ sym e ∙ t (rw p n) ∙ g

-- ---- answers that are known

module _ (s : List ℕ) (P : Program) (R : Reckoning) (θ m : Valuation) (i : ℕ) {r : Next} (h : NextIs s P R θ m i r) where
  pub next_first : {j at : ℕ} {a : ℤ} → r ≡ next.More j at a → FirstMore s P R θ m i j at a
  next_first e = rw e at h

  pub next_none : {at : ℕ} → r ≡ next.Nothing at → NoneMore s P R θ m i at
  next_none e = rw e at h

module _ (x : Variable) (h : ℕ) (a : ℤ) (sides sides⁺ : List ℤ) {t : Bool} (o : RaisedSide x h a sides sides⁺ t) where
  pub side_raised : t ≡ true → T (not_past x a (far x)) × (sides⁺ ≡ set sides (side_place (from_above x) h) a)
  side_raised e = rw e at o

  pub side_past : t ≡ false → T (not (not_past x a (far x))) × (sides⁺ ≡ sides)
  side_past e = rw e at o

module _ (P : Program) (R : Reckoning) (θ others : Valuation) (stops : List ℤ) (full : Bool) (n : ℕ) (sides : List ℤ) {r : Result ℕ NoModel} (h : SweepUpIs P R θ others stops full n sides r) where
  pub swept_raises : {k : ℕ} → r ≡ Ok k → SweptUp P R θ others stops full n k sides
  swept_raises e = rw e at h

  pub swept_none : r ≡ (Err (record {})) → EndsWith P R θ (risen P.variables sides) (Err (record {}))
  swept_none e = rw e at h

-- ---- one turn of a sweep

module _ {s : List ℕ} {P : Program} (a : Accepts s P) {R : Reckoning} {θ others : Valuation} {stops : List ℤ} {full : Bool} {sides : List ℤ}
    (k : Climbing P R θ others stops full sides) {i : ℕ} where
  -- no rule from i on demands more
  pub swept_end : {n raises at : ℕ} → NoneMore s P R θ (risen P.variables sides) i at → raises ≤ n → (raises ≡ 0 → i ≡ 0) → SweptUp P R θ others stops full n raises sides
  swept_end e l z = record { climbing = k; few = l; met = λ q j h. e.met j (omega (arith, z q)) h }

  -- rule j is the first that does
  module _ {j at : ℕ} {b : ℤ} (f : FirstMore s P R θ (risen P.variables sides) i j at b) (sides⁺ : List ℤ) (t : Bool)
      (o : RaisedSide (variable_in P.variables (head_of P j)) (head_of P j) b sides sides⁺ t) where
    pub first_raised : t ≡ true → length sides ≡ sides_length → Climbing P R θ others stops full sides⁺
    first_raised e long =
        let q = side_raised (variable_in P.variables (head_of P j)) (head_of P j) b sides sides⁺ o e in
        raised_climbing a k f.stands.among f.exceeds long q.0 q.1

    pub first_past : t ≡ false → (m : Valuation) → Model (reckoned P R) θ m → ⊥
    first_past e = climbing_over a k f.stands.among f.exceeds (side_past (variable_in P.variables (head_of P j)) (head_of P j) b sides sides⁺ o e).0

-- the values stay on the way
abbrev pub Onward : List ℕ → List ℤ → Bool → List ℤ → List ℤ → Type 0
Onward s stops full sides sides⁺ = (P : Program) (R : Reckoning) (θ others : Valuation) → Accepts s P → Climbing P R θ others stops full sides
    → Climbing P R θ others stops full sides⁺

-- for some program of the file
module _ {s : List ℕ} {stops : List ℤ} {full : Bool} {sides₀ sides : List ℤ} (w : SomeClimbing s stops full sides₀) (on : Onward s stops full sides₀ sides) where
  pub some_on : SomeClimbing s stops full sides
  some_on = record {
    program = w.program;
    reckoning = w.reckoning;
    assigned = w.assigned;
    others = w.others;
    accepts = w.accepts;
    climbing = on _ _ _ _ w.accepts w.climbing;
  }

  pub some_small : Small sides
  some_small = climbing_small some_on.accepts some_on.climbing

  pub some_first : {j at : ℕ} {b : ℤ} (i : ℕ) (answer : Next)
      → ((P : Program) (R : Reckoning) (θ : Valuation) → Accepts s P → AllReadOn P R θ stops full sides → NextIs s P R θ (risen P.variables sides) i answer)
      → answer ≡ next.More j at b → FirstMore s w.program w.reckoning w.assigned (risen w.program.variables sides) i j at b
  unfolding some_on
  some_first i answer f e =
      next_first s w.program w.reckoning w.assigned (risen w.program.variables sides) i
      (f _ _ _ w.accepts (climbing_read some_on.climbing)) e

module _ {s : List ℕ} {P : Program} {R : Reckoning} {θ m : Valuation} {i j at : ℕ} {b : ℤ} (f : FirstMore s P R θ m i j at b) where
  pub first_rule_there : SomeRule s at
  first_rule_there = record { program = P; rule = j; here = f.stands }

  pub first_below : {k : Counts} → AcceptedAs s k → j < k.rules
  first_below r = omega (arith, f.stands.among, (counts_of_is r f.stands.accepts).rules_are)

  -- a file has one program, so that the rule stands there for each
  pub first_placed : (Q : Program) → Accepts s Q → at ≡ rule_place s Q j
  first_placed Q a = subst (λ (S : Program). at ≡ rule_place s S j) (accepts_unique f.stands.accepts a) f.stands.placed

-- ---- the end of a run

module _ {s : List ℕ} {k : Counts} (r : AcceptedAs s k) {P : Program} (a : Accepts s P) {R : Reckoning} {θ others : Valuation} {stops : List ℤ} {full : Bool} {sides : List ℤ}
    (c : Climbing P R θ others stops full sides) where
  pub all_arrived : full ≡ true → ArrivedBelow (variables_at s k.variables) k.variables stops sides → Least (reckoned P R) θ (risen P.variables sides)
  all_arrived t h =
      let e = variables_are r a in
      arrived_least a c t (λ v l f. subst (λ (vs : List Variable). on_side sides (from_above (variable_in vs v)) v ≡ valued stops v) (sym e)
      (h v (omega (arith, l, (counts_of_is r a).variables_are)) (subst (λ (vs : List Variable). T (is_founded (variable_in vs v))) e f)))
