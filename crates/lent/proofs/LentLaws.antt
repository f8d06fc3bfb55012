-- A program with lent ranges is a system of the theory: its rules are monotone. More than that, a rule gives no more in narrower ranges than in wider ones.
use Rattle.std.specs.Prelude.{Option, Some, None}
use Prim.Native.Nat.{ℕ, ◌<◌}
use mathlib.Core.Path.{◌≡◌, refl, ap₂, subst, ◌∙◌}
use mathlib.Core.Bool.{Bool, true, false, cond, ◌&&◌}
use mathlib.Core.List.{List}
use lib.Dec.{T}
use lib.IntN.{ℤ}
use lib.ListN.{length}
use lib.Signed.{◌≤ℤ◌, le_z, lt_z, ≤ℤ_refl, lt_z_no}
use Rattle.format.proofs.Int.{int}
use Rattle.program.specs.Program.{Program, Rule, variable_in, rule_in}
use Rattle.program.specs.Variables.{is_founded, from_above, swaps, not_past, no_more, cut_off}
use Rattle.program.specs.Directions.{away, direction, is_rising, is_mixed}
use Rattle.program.specs.Evaluate.{evaluate}
use Rattle.program.specs.Readings.{Valuation, body_variable, kept}
use Rattle.program.specs.Idle.{demanding, most_at}
use Rattle.program.specs.declared.Direction.{Direction}
use Rattle.program.specs.declared.Direction.TheVariants.{Rising, Falling, Mixed}
use Rattle.program.specs.declared.Variable.{Variable}
use Rattle.program.proofs.Conditions.{never, both, none_below, below_none}
use Rattle.program.proofs.IdleRules.{demanding_held, held_between}
use Rattle.program.proofs.Monotone.{Moves, Under, Between, in_between, moves_away, evaluate_up}
use Rattle.program.proofs.Promises.{Promises}
use Rattle.program.proofs.Tests.{cases, is_true, is_test, not_it}
use Rattle.program.proofs.Variables.{past_refl, past_trans, past_total}
use Rattle.meaning.specs.Founded.{System, AtOrBefore, Within}
use Rattle.meaning.specs.Reduct.{reckoned, system}
use Rattle.meaning.proofs.Laws.{NoMore, Laws}
use Rattle.lent.specs.Lent.{lent_reading, undecided, lent_gives, lent}
use Rattle.lent.proofs.Fits.{Fitting, Part, lent_founded, lent_far, lent_cut, lent_within, lent_before, before_lent}

-- ---- what is given, cut off

module _ (x : Variable) where
  pub under_trans : (f g h : Option ℤ) → Under x f g → Under x g h → Under x f h
  under_trans None g h u v = tt
  under_trans (Some a) None h u v = absurd u
  under_trans (Some a) (Some b) None u v = v
  under_trans (Some a) (Some b) (Some c) u v = past_trans x a b c u v

  -- no further than the end
  pub cut_end : (b : ℤ) (g : Option ℤ) → Under x (cut_off x b g) (Some b)
  unfolding cut_off
  cut_end b None = tt
  cut_end b (Some a) = cases (not_past x a b) (λ t. T (not_past x (cond t a b) b)) (λ t. t) (λ t. past_refl x b)

  -- and no more than it was
  pub cut_under : (b : ℤ) (g : Option ℤ) → Under x (cut_off x b g) g
  unfolding cut_off
  cut_under b None = tt
  cut_under b (Some a) = cases (not_past x a b) (λ t. T (not_past x (cond t a b) a)) (λ t. past_refl x a) (past_total x b a)

  -- what does not go past the end stays
  pub cut_none : (b : ℤ) (g : Option ℤ) → T (no_more x g b) → g ≡ cut_off x b g
  unfolding cut_off
  cut_none b None t = refl
  cut_none b (Some a) t = rw (is_true (not_past x a b) t)

  pub cut_up : (b b' : ℤ) (g g' : Option ℤ) → T (not_past x b b') → Under x g g' → Under x (cut_off x b g) (cut_off x b' g')
  unfolding cut_off
  cut_up b b' None g' h u = tt
  cut_up b b' (Some a) None h u = u
  cut_up b b' (Some a) (Some c) h u =
      cases (not_past x c b') (λ s. T (not_past x (cond (not_past x a b) a b) (cond s c b')))
      (λ s. past_trans x (cond (not_past x a b) a b) a c (cut_under b (Some a)) u)
      (λ s. past_trans x (cond (not_past x a b) a b) b b' (cut_end b (Some a)) h)

  -- the far end of a range comes at or before that of a wider one
  pub part_far : {low high low' high' : ℤ} → Part low high low' high' → T (not_past x (swaps x high' low') (swaps x high low))
  unfolding not_past swaps
  part_far {low} {high} {low'} {high'} k =
      cases (from_above x) (λ t. T (cond t (le_z (cond t low high) (cond t low' high')) (le_z (cond t low' high') (cond t low high)))) (λ t. k.from.le) (λ t. k.to.le)

-- ---- one rule

-- a kept position rises, as seen from the starting end of its variable, which is founded
pub kept_rises : (vs : List Variable) (r : Rule) (i : ℕ) → kept vs r i ≡ true
    → (away (variable_in vs (body_variable r i)) (direction vs r i) ≡ Rising) × (is_founded (variable_in vs (body_variable r i)) ≡ true)
unfolding kept
kept_rises vs r i e = let b = both (is_rising (away x (direction vs r i))) (is_founded x) e in (rising (away x (direction vs r i)) b.0, b.1)
  where
    x : Variable
    x = variable_in vs (body_variable r i)

    rising : (d : Direction) → is_rising d ≡ true → d ≡ Rising
    rising Rising e = refl
    rising Falling e = absurd (never e refl)
    rising Mixed e = absurd (never e refl)

module _ (vs : List Variable) (low high : Valuation) (r : Rule) where
  -- where the head's lift stops
  abbrev pub head_far : ℤ
  head_far = swaps (variable_in vs r.head) (high r.head) (low r.head)

  -- what a rule gives, by the declared record of its head
  pub lent_gives_is : (m : Valuation)
      → lent_gives vs low high r m ≡ cond (undecided vs low high r) (Some head_far) (cut_off (variable_in vs r.head) head_far (evaluate r (lent_reading vs low high r m)))
  unfolding lent_gives
  lent_gives_is m =
      let x = variable_in vs r.head in
      rw (lent_cut x (low r.head) (high r.head), lent_far x (low r.head) (high r.head))

  -- no further than the head's far end
  pub lent_end : (m : Valuation) → Under (variable_in vs r.head) (lent_gives vs low high r m) (Some head_far)
  lent_end m =
      let x = variable_in vs r.head in
      let g = evaluate r (lent_reading vs low high r m) in
      rw (lent_gives_is m) (cases (undecided vs low high r) (λ t. Under x (cond t (Some head_far) (cut_off x head_far g)) (Some head_far)) (λ t. past_refl x head_far)
      (λ t. cut_end x head_far g))

  -- in a decided rule the range of a mixed position is single
  pub decided_single : undecided vs low high r ≡ false → (i : ℕ) → i < length r.terms → is_mixed (direction vs r i) ≡ true
      → high (body_variable r i) ≤ℤ low (body_variable r i)
  unfolding undecided
  decided_single e i l k =
      let f : lt_z (low (body_variable r i)) (high (body_variable r i)) ≡ false = rw k at (none_below _ _ e i l) in
      lt_z_no (rw f tt)

-- a reading lies in the declared range
pub lent_read_between : {P : Program} {low high m : Valuation} → Fitting P low high → Within (system P) m → (r : Rule) (j : ℕ)
    → Between (variable_in P.variables (body_variable r j)) (lent_reading P.variables low high r m j)
unfolding most_at
lent_read_between {P} {low} {high} {m} f w r j =
    let vs = P.variables in
    let x = body_variable r j in
    cases (kept vs r j) (λ b. Between (variable_in vs x) (cond b (m x) (demanding (variable_in vs r.head) (direction vs r j) (low x) (high x))))
    (λ t. in_between (variable_in vs x) (m x) (w.inside x))
    (λ t. held_between (f.range x) (demanding_held (variable_in vs r.head) (direction vs r j) (f.range x).ordered))

-- ---- in the second ranges, which lie inside the first, a rule gives no more

module _ {P : Program} (p : Promises P) {low high low' high' : Valuation} (wide : Fitting P low high) (narrow : Fitting P low' high')
    (parts : (v : ℕ) → Part (low v) (high v) (low' v) (high' v)) (i : ℕ) (h : i < length P.rules) where
  abbrev vs : List Variable
  vs = P.variables

  abbrev r : Rule
  r = rule_in P.rules i

  -- a rule that is decided in the wider ranges is decided
  decided : undecided vs low high r ≡ false → undecided vs low' high' r ≡ false
  unfolding undecided
  decided e = below_none _ _ (λ j l. go (is_mixed (direction vs r j)) j refl l)
    where
      go : (b : Bool) (j : ℕ) → is_mixed (direction vs r j) ≡ b → j < length r.terms → (b && lt_z (low' (body_variable r j)) (high' (body_variable r j))) ≡ false
      go false j k l = refl
      go true j k l =
          let x = body_variable r j in
          not_it (lt_z (low' x) (high' x)) (λ t. let u : T (lt_z (low' x) (high' x)) = is_test t in
          omega (int, (parts x).from, (parts x).to, decided_single vs low high r e j l k))

  -- m' lies at or before m where the rule keeps a position
  module _ {m m' : Valuation} (w : Within (system P) m) (w' : Within (system P) m')
      (under : (j : ℕ) → j < length r.terms → kept vs r j ≡ true → AtOrBefore (system P) (body_variable r j) (m' (body_variable r j)) (m (body_variable r j))) where
    reading_moves : undecided vs low high r ≡ false → (j : ℕ) → j < length r.terms
        → Moves (direction vs r j) (lent_reading vs low' high' r m' j) (lent_reading vs low high r m j)
    unfolding most_at demanding
    reading_moves e j l = go (kept vs r j) refl
      where
        x : ℕ
        x = body_variable r j

        hd : Variable
        hd = variable_in vs r.head

        towards : (d : Direction) → direction vs r j ≡ d → Moves d (demanding hd d (low' x) (high' x)) (demanding hd d (low x) (high x))
        towards Rising q = (parts x).to
        towards Falling q = (parts x).from
        towards Mixed q =
            let s = decided_single vs low high r e j l (rw q) in
            let a : low' x ≡ low x = omega (int, (parts x).from, (parts x).to, (narrow.range x).ordered) in
            let b : high' x ≡ high x = omega (int, (parts x).from, (parts x).to, (narrow.range x).ordered) in
            ap₂ (demanding hd Mixed) a b

        go : (b : Bool) → kept vs r j ≡ b
            → Moves (direction vs r j) (cond b (m' x) (demanding hd (direction vs r j) (low' x) (high' x))) (cond b (m x) (demanding hd (direction vs r j) (low x) (high x)))
        go true k = moves_away (variable_in vs x) (direction vs r j) (m' x) (m x) (rw (kept_rises vs r j k).0 (under j l k).le)
        go false k = towards (direction vs r j) refl

    pub given_up : Under (variable_in vs r.head) (lent_gives vs low' high' r m') (lent_gives vs low high r m)
    given_up = rw (lent_gives_is vs low' high' r m', lent_gives_is vs low high r m) (go (undecided vs low high r) (undecided vs low' high' r) refl refl)
      where
        x : Variable
        x = variable_in vs r.head

        a : ℤ
        a = head_far vs low high r

        a' : ℤ
        a' = head_far vs low' high' r

        g : Option ℤ
        g = evaluate r (lent_reading vs low high r m)

        g' : Option ℤ
        g' = evaluate r (lent_reading vs low' high' r m')

        ends : T (not_past x a' a)
        ends = part_far x (parts r.head)

        go : (b b' : Bool) → undecided vs low high r ≡ b → undecided vs low' high' r ≡ b' → Under x (cond b' (Some a') (cut_off x a' g')) (cond b (Some a) (cut_off x a g))
        go true true e e' = ends
        go true false e e' = under_trans x (cut_off x a' g') (Some a') (Some a) (cut_end x a' g') ends
        go false true e e' = absurd (never e' (decided e))
        go false false e e' = cut_up x a' a g' g ends
            (evaluate_up (p.rules i h) (lent_reading vs low' high' r m') (lent_reading vs low high r m)
            (λ j l. record { first = lent_read_between narrow w' r j; second = lent_read_between wide w r j }) (reading_moves e))

-- ---- the laws of the theory

module _ {P : Program} (p : Promises P) {low high : Valuation} (f : Fitting P low high) where
  abbrev 𝒮 : System
  𝒮 = reckoned P (lent P low high)

  no_more_lent : (v : ℕ) (g h : Option ℤ) → Under (variable_in P.variables v) g h → NoMore 𝒮 v g h
  no_more_lent v None h n = tt
  no_more_lent v (Some a) None n = n
  no_more_lent v (Some a) (Some b) n = before_lent f (record { le = n })

  founded_lent : (v : ℕ) → is_founded (variable_in P.variables v) ≡ true → is_founded (𝒮.variable v) ≡ true
  founded_lent v e = lent_founded (variable_in P.variables v) (low v) (high v) ∙ e

  pub lent_laws : Laws 𝒮
  lent_laws = record {
    mono = λ i h m θ m' θ' wm wθ wm' wθ' less.
        let r = rule_in P.rules i in
        no_more_lent r.head (lent_gives P.variables low high r m) (lent_gives P.variables low high r m')
        (given_up p f f (λ v. record { from = ≤ℤ_refl (low v); to = ≤ℤ_refl (high v) }) i h (lent_within f wm') (lent_within f wm)
        (λ j l k. let x = body_variable r j in
        let q = kept_rises P.variables r j k in
        lent_before f (subst (λ b. AtOrBefore 𝒮 x (cond b (m x) (θ x)) (cond b (m' x) (θ' x))) (founded_lent x q.1) (less x Rising (j, l, refl, q.0)))));
  }
