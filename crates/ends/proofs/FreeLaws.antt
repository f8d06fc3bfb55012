-- Rules that are undecided: only sizes are. The head of such a rule is raised to its stop, which the rule gives; so the values stay on the way.
use Rattle.std.specs.Prelude.{Some}
use Prim.Native.Nat.{ℕ, ◌+◌, ◌*◌, ◌<◌, ◌≤◌}
use mathlib.Core.Path.{◌≡◌, refl, sym, ap, ap₂, ◌∙◌, subst}
use mathlib.Core.Logic.{◌≢◌, ◌⊎◌, inl, inr}
use mathlib.Core.Bool.{Bool, true, false, not, cond, ◌&&◌}
use mathlib.Core.List.{List}
use native.Mathlib.Decide.{ℕ_discrete}
use native.Mathlib.Omega.{arith}
use borrow.Author.Tests.{eqb-true, eqb-false, not-true}
use lib.Dec.{T, eqb}
use lib.IntN.{ℤ, pos}
use lib.ListN.{length, set}
use lib.Signed.{le_z, lt_z}
use Rattle.format.proofs.Int.{int}
use Rattle.program.specs.Tables.{any_below}
use Rattle.program.specs.Fields.{value_at}
use Rattle.program.specs.Program.{Program, Rule, rule_of, rule_in, term_form, variable_in, variables_at}
use Rattle.program.specs.Reading.{AcceptedAs, Accepts}
use Rattle.program.specs.Variables.{from_above, far}
use Rattle.program.specs.Directions.{by_range, is_mixed}
use Rattle.program.specs.Readings.{Valuation, body_variable}
use Rattle.program.specs.declared.Counts.{Counts}
use Rattle.program.specs.declared.Direction.TheVariants.{Rising, Falling, Mixed}
use Rattle.program.specs.declared.Variable.{Variable}
use Rattle.program.proofs.Conditions.{never, last_or, below_none}
use Rattle.program.proofs.Forms.{read_as_sum, read_as_itself}
use Rattle.program.proofs.IdleRules.{only_sizes_mixed}
use Rattle.program.proofs.Promises.{RulePromise, plain_position, accepts_promises}
use Rattle.program.proofs.Pushes.{direction_plain, away_mixed, plain_size}
use Rattle.program.proofs.Tests.{is_true, is_test}
use Rattle.reader.specs.Parts.{rule_place}
use Rattle.reader.proofs.Published.{counts_of_is, program_limited, first_rule, variable_lies, variable_at_is}
use Rattle.meaning.specs.Founded.{System, AtOrBefore}
use Rattle.meaning.specs.Reduct.{reckoned}
use Rattle.meaning.proofs.Laws.{at_refl, to_far_is}
use Rattle.meaning.proofs.Steps.{Raised}
use Rattle.meaning.proofs.Theory.{Progress, progress_raise}
use Rattle.lent.specs.Lent.{lent_variable, undecided, lent_gives, lent}
use Rattle.lent.proofs.Fits.{Fitting, lent_founded, lent_far, low_within}
use Rattle.lent.proofs.LentLaws.{lent_laws, lent_gives_is}
use Rattle.sided.specs.Sides.{sides_length, side_place, on_side}
use Rattle.sided.specs.Reached.{own_side, risen}
use Rattle.run.specs.Running.{head_of, RuleStands}
use Rattle.run.proofs.RunLaws.{lies}
use Rattle.ascent.proofs.PlaceLaws.{not_other, set_same, set_other, place_few}
use Rattle.ascent.proofs.LookLaws.{own_above}
use Rattle.ends.specs.Ends.{stop_end, stop_ends}
use Rattle.ends.specs.Freed.{Freed}

-- ---- which rules are undecided

-- the range of x goes from below 0 to above it
abbrev spans : Variable → Bool
spans x = lt_z x.low (pos 0) && lt_z (pos 0) x.high

-- so its size is mixed
range_mixed : (x : Variable) → is_mixed (by_range x) ≡ spans x
range_mixed x = go (le_z (pos 0) x.low) (le_z x.high (pos 0)) refl refl
  where
    under : (a b : ℤ) (c : Bool) → le_z a b ≡ c → lt_z b a ≡ not c
    under a b true e = let t : T (le_z a b) = is_test e in not-true (lt_z b a) (is_true (not (lt_z b a)) (omega int))
    under a b false e = let t : T (not (le_z a b)) = subst (λ (c : Bool). T (not c)) (sym e) tt in is_true (lt_z b a) (omega int)

    go : (l u : Bool) → le_z (pos 0) x.low ≡ l → le_z x.high (pos 0) ≡ u → is_mixed (cond l Rising (cond u Falling Mixed)) ≡ spans x
    go true u p q = rw (under (pos 0) x.low true p)
    go false true p q = rw (under (pos 0) x.low false p, under x.high (pos 0) true q)
    go false false p q = rw (under (pos 0) x.low false p, under x.high (pos 0) false q)

module _ {vs : List Variable} {r : Rule} (p : RulePromise vs r) (low high : Valuation) where
  -- of another form than 5
  form_decided : term_form r.form ≢ 5 → undecided vs low high r ≡ false
  unfolding undecided
  form_decided f = below_none _ _ (λ j l. ap (λ (b : Bool). b && lt_z (low (body_variable r j)) (high (body_variable r j))) (only_sizes_mixed p f j l))

  -- a size, by its one position
  size_undecided : term_form r.form ≡ 5
      → undecided vs low high r ≡ (spans (variable_in vs (body_variable r 0)) && lt_z (low (body_variable r 0)) (high (body_variable r 0)))
  unfolding undecided any_below
  size_undecided e =
      let one : length r.terms ≡ 1 = p.body.count.size_one e in
      let plain = (p.body.terms 0 (omega arith)).plain_op (plain_position (term_form r.form) 0 (omega arith)) in
      rw one (ap (λ (b : Bool). b && lt_z (low (body_variable r 0)) (high (body_variable r 0)))
      (ap is_mixed (sym (direction_plain vs r 0 plain)) ∙ away_mixed (variable_in vs r.head) _
      ∙ ap is_mixed (sym (plain_size (term_form r.form) _ _ e)) ∙ range_mixed (variable_in vs (body_variable r 0))))

-- the same of the byte
read_as_five : (form : ℕ) → form ≢ 5 → term_form form ≢ 5
read_as_five form f q = go (eqb form 8) refl
  where
    go : (t : Bool) → eqb form 8 ≡ t → ⊥
    go true e = let one = read_as_sum form (eqb-true form 8 e) in omega arith
    go false e = f (read_as_itself form (eqb-false form 8 e) ∙ q)

pub five : {form : ℕ} → form ≡ 5 → term_form form ≡ 5
unfolding term_form
five h = rw h

-- ---- the rule that stands at a place, v being its field's value

module _ {s : List ℕ} {P : Program} {i at : ℕ} (h : RuleStands s P i at) {v : List ℕ} (q : v ≡ value_at s at) where
  rule_is : rule_in P.rules i ≡ rule_of v
  rule_is = (lies h).is ∙ ap rule_of (sym q)

  promise : RulePromise P.variables (rule_of v)
  promise = subst (RulePromise P.variables) rule_is ((accepts_promises h.accepts).rules i h.among)

  pub size_some : (rule_of v).form ≡ 5 → 0 < length (rule_of v).terms
  size_some e = omega (arith, promise.body.count.size_one (five e))

  pub size_field : {x : ℕ} → (rule_of v).form ≡ 5 → x ≡ body_variable (rule_of v) 0 → 8 * x + 8 ≤ length s
  size_field e f = omega (arith, f, (promise.body.terms 0 (size_some e)).declared, (program_limited h.accepts).inside)

  module _ (low high : Valuation) where
    pub not_size : (rule_of v).form ≢ 5 → false ≡ undecided P.variables low high (rule_in P.rules i)
    not_size f = rw rule_is (sym (form_decided promise low high (read_as_five (rule_of v).form f)))

    -- by the code's variable x and its record y
    pub size_is : {x : ℕ} {y : Variable} {a b : Bool} → (rule_of v).form ≡ 5 → x ≡ body_variable (rule_of v) 0 → ((n : ℕ) → x < n → y ≡ variable_in (variables_at s n) x)
        → a ≡ (lt_z y.low (pos 0) && lt_z (pos 0) y.high) → b ≡ lt_z (low x) (high x) → (a && b) ≡ undecided P.variables low high (rule_in P.rules i)
    size_is {x} {y} e f g p o =
        let n = length P.variables in
        let w = body_variable (rule_of v) 0 in
        let l : w < n = (promise.body.terms 0 (size_some e)).declared in
        let k : y ≡ variable_in P.variables w =
        g n (rw f l) ∙ ap (variable_in (variables_at s n)) f ∙ variable_at_is s n w l ∙ sym (variable_lies h.accepts w l) in
        ap₂ ◌&&◌ (p ∙ ap spans k) (o ∙ ap (λ (u : ℕ). lt_z (low u) (high u)) f) ∙ rw rule_is (sym (size_undecided promise low high (five e)))

-- ---- what such a rule gives

-- lifts stop at the far end of the lent range
pub lent_stop : (x : Variable) (low high : ℤ) → far (lent_variable x low high) ≡ stop_end x low high
unfolding stop_end
lent_stop x low high = lent_far x low high

-- its head's stop, whatever it reads
pub free_gives : (vs : List Variable) (low high : Valuation) (r : Rule) → undecided vs low high r ≡ true → (m : Valuation)
    → lent_gives vs low high r m ≡ Some (stop_ends vs low high r.head)
unfolding stop_end
free_gives vs low high r e m = lent_gives_is vs low high r m ∙ rw e

-- ---- a head gets its stop

-- variable h has reached a
module _ (vs : List Variable) (sides : List ℤ) (h : ℕ) (a : ℤ) where
  abbrev own : ℕ → Bool
  own v = own_side (variable_in vs v)

  abbrev after : List ℤ
  after = set sides (side_place (own h) h) a

  set_own : side_place (own h) h < length sides → risen vs after h ≡ a
  unfolding risen
  set_own l = set_same sides (own h) h a l

  set_else : (v : ℕ) → v ≢ h → risen vs after v ≡ risen vs sides v
  unfolding risen
  set_else v n = set_other sides (own h) h a (own v) v (λ e f. n e)

  set_beside : (v : ℕ) → on_side after (not (own v)) v ≡ on_side sides (not (own v)) v
  set_beside v = set_other sides (own h) h a (not (own v)) v (λ e f. not_other (own h) (subst (λ (w : ℕ). not (own w) ≡ own h) e f))

module _ {s : List ℕ} {P : Program} {i at : ℕ} (h : RuleStands s P i at) {low high : Valuation} {sides : List ℤ} (f : Freed P low high i sides) where
  abbrev vs : List Variable
  vs = P.variables

  abbrev r : Rule
  r = rule_in P.rules i

  abbrev 𝒮 : System
  𝒮 = reckoned P (lent P low high)

  -- the stop of rule k's head is reached
  abbrev Arrived : List ℤ → ℕ → Type 0
  Arrived xs k = undecided vs low high (rule_in P.rules k) ≡ true → risen vs xs (head_of P k) ≡ stop_ends vs low high (head_of P k)

  -- of a decided rule nothing is asked
  pub freed_past : undecided vs low high r ≡ false → Freed P low high (i + 1) sides
  freed_past e = record { sided = f.sided; progress = f.progress; free = λ j l. last_or (Arrived sides) i j (omega arith) (f.free j) (λ u. absurd (never u e)) }

  -- an undecided one gives the stop of its head
  module _ (t : Fitting P low high) (e : undecided vs low high r ≡ true) (long : length sides ≡ sides_length) where
    abbrev stop : ℤ
    stop = stop_ends vs low high r.head

    abbrev up : List ℤ
    up = after vs sides r.head stop

    promised : RulePromise vs r
    promised = (accepts_promises h.accepts).rules i h.among

    room : side_place (own vs sides r.head stop r.head) r.head < length sides
    room = place_few (own_side (variable_in vs r.head)) r.head promised.head_declared (omega (arith, (program_limited h.accepts).few_variables, long))

    far_stop : far (𝒮.variable r.head) ≡ stop
    far_stop = lent_stop (variable_in vs r.head) (low r.head) (high r.head)

    up_raised : Raised (risen vs sides) (risen vs up) r.head stop
    up_raised v = go (ℕ_discrete v r.head)
      where
        go : Dec (v ≡ r.head) → (risen vs up v ≡ risen vs sides v) ⊎ ((r.head ≡ v) × (risen vs up v ≡ stop))
        go (yes q) = inr (sym q, ap (risen vs up) q ∙ set_own vs sides r.head stop room)
        go (no n) = inl (set_else vs sides r.head stop v n)

    up_progress : Progress 𝒮 low (risen vs up)
    up_progress =
        progress_raise (lent_laws (accepts_promises h.accepts) t) (low_within t) f.progress i h.among
        (is_test (lent_founded (variable_in vs r.head) (low r.head) (high r.head) ∙ promised.head_founded)) stop stop
        (free_gives vs low high r e (risen vs sides)) (at_refl r.head stop)
        (subst (λ (a : ℤ). AtOrBefore 𝒮 r.head (risen vs sides r.head) a) far_stop (to_far_is f.progress.within r.head))
        (subst (λ (a : ℤ). AtOrBefore 𝒮 r.head stop a) (sym far_stop) (at_refl r.head stop)) (risen vs up) up_raised

    up_free : (j : ℕ) → j < i + 1 → Arrived up j
    up_free j l u = go (ℕ_discrete (head_of P j) r.head)
      where
        go : Dec (head_of P j ≡ r.head) → risen vs up (head_of P j) ≡ stop_ends vs low high (head_of P j)
        go (yes q) = ap (risen vs up) q ∙ set_own vs sides r.head stop room ∙ ap (stop_ends vs low high) (sym q)
        go (no n) =
            set_else vs sides r.head stop (head_of P j) n
            ∙ last_or (λ (k : ℕ). head_of P k ≢ r.head → Arrived sides k) i j (omega arith) (λ b m. f.free j b) (λ m. absurd (m refl)) n u

    up_freed : Freed P low high (i + 1) up
    up_freed = record {
      sided = record {
        other = λ v. set_beside vs sides r.head stop v ∙ f.sided.other v;
        standard = λ v n. up_progress.standard v (subst (λ (b : Bool). T (not b)) (sym (lent_founded (variable_in vs v) (low v) (high v))) n);
      };
      progress = up_progress;
      free = up_free;
    }

    -- by the code's head x, its record y, the side c and the stop b
    pub freed_raised : {x : ℕ} {y : Variable} {c : Bool} {b : ℤ} {sides⁺ : List ℤ} → x ≡ r.head → y ≡ variable_in vs r.head → c ≡ from_above y → b ≡ stop
        → sides⁺ ≡ set sides (side_place c x) b → Freed P low high (i + 1) sides⁺
    freed_raised p q o k w =
        let z = o ∙ ap (λ (u : Variable). from_above u) q ∙ own_above (variable_in vs r.head) (is_test promised.head_founded) in
        rw (w, z, p, k) up_freed

-- ---- the rules in file order

module _ {s : List ℕ} {k : Counts} (r : AcceptedAs s k) where
  pub place_first : (P : Program) → Accepts s P → 8 * k.variables ≡ rule_place s P 0
  place_first P x = omega (arith, first_rule x, (counts_of_is r x).variables_are)

  -- every rule has had its turn
  pub freed_whole : {i : ℕ} {low high : Valuation} {sides : List ℤ} → i ≡ k.rules → {P : Program} → Accepts s P → Freed P low high i sides
      → Freed P low high (length P.rules) sides
  freed_whole q x f = let n = q ∙ sym (counts_of_is r x).rules_are in rw (← n) f
