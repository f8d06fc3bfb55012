-- Estimates of small rules, and wrong ones, each refuted: a steady guess does not have them. Strides are 1 where nothing else is said.
use Rattle.std.specs.Prelude.{Option, Some, None}
use Prim.Native.Nat.{ℕ, zero, suc, ◌*◌}
use mathlib.Core.Path.{◌≡◌, refl, sym, subst, ◌∙◌}
use mathlib.Core.Bool.{Bool, true, false, not, ◌&&◌}
use mathlib.Core.List.{List, [], ◌∷◌}
use mathlib.Core.Logic.{inl}
use lib.Dec.{T}
use lib.IntN.{ℤ, pos, ◌+ℤ◌}
use lib.ListN.{length, get_or}
use lib.Signed.{le_z, le_z_yes}
use borrow.Author.Tests.{not-false}
use Rattle.program.specs.Tables.{any_below}
use Rattle.program.specs.Program.{Rule, rule, variable_in}
use Rattle.program.specs.Variables.{not_past, ahead, in_range}
use Rattle.program.specs.Evaluate.{evaluate}
use Rattle.program.specs.Readings.{body_variable, kept}
use Rattle.program.specs.Refusals.{item_refusal}
use Rattle.program.specs.declared.Term.{Term}
use Rattle.program.specs.declared.Variable.{Variable}
use Rattle.program.proofs.Tests.{is_true, is_test}
use Rattle.program.proofs.Conditions.{never, both, none_below}
use Rattle.program.proofs.Examples.{computes}
use Rattle.program.proofs.Promises.{rule_promised}
use Rattle.steady.specs.Estimate.{distance, further, weight, room_below, rise_below, rise, factor_rise, held, moved_as, estimated_as, estimate}
use Rattle.steady.specs.Short.{Short}
use Rattle.steady.proofs.SteadyLaws.{Steady}

-- three founded variables, each from 0 to 10; the first is the head
abbrev vs : List Variable
vs = let x : Variable = record { kind = 1; low = pos 0; high = pos 10 } in x ∷ x ∷ x ∷ []

-- number · v
abbrev weighed : ℤ → ℕ → Term
weighed k v = record { variable = v; op = 0; number = k }

abbrev rule_of_is : ℕ → ℤ → List Term → List Term → Rule
rule_of_is form c divisor ts = record { form = form; head = 0; c = c; divisor = divisor; terms = ts }

-- the first position has a, all others b
abbrev pair : ℤ → ℤ → ℕ → ℤ
pair a b zero = a
pair a b (suc i) = b

abbrev ones : ℕ → ℕ
ones i = 1

abbrev twos : ℕ → ℕ
twos i = 2

abbrev threes : ℕ → ℕ
threes i = 3

-- x1 + x2 from 0, 0 to 3, 3
abbrev sum : Rule
sum = rule_of_is 1 (pos 0) [] (weighed (pos 1) 1 ∷ weighed (pos 1) 2 ∷ [])

-- 2·x1 over 3 from 0 to 6
abbrev third : Rule
third = rule_of_is 8 (pos 0) (record { variable = 0; op = 3; number = pos 3 } ∷ []) (weighed (pos 2) 1 ∷ [])

-- 5 if x1 ≥ 3, from 0 to 3
abbrev condition : Rule
condition = rule_of_is 6 (pos 5) [] (record { variable = 1; op = 1; number = pos 3 } ∷ [])

-- x1 · x2 from 0, 0 to 3, 0
abbrev product : Rule
product = rule_of_is 4 (pos 0) [] (weighed (pos 0) 1 ∷ weighed (pos 0) 2 ∷ [])

-- the smaller of x1 and x2 from 0, 0 to 3, 0
abbrev smaller_of : Rule
smaller_of = rule_of_is 3 (pos 0) [] (weighed (pos 0) 1 ∷ weighed (pos 0) 2 ∷ [])

-- 2·x1 from 0 to 3
abbrev double : Rule
double = rule_of_is 1 (pos 0) [] (weighed (pos 2) 1 ∷ [])

-- the larger of x1 alone, from 0 to 3, in strides of 2
abbrev larger_of : Rule
larger_of = rule_of_is 2 (pos 0) [] (weighed (pos 0) 1 ∷ [])

-- x1 + 1 over 2, from 0 to 6, in strides of 3
abbrev half : Rule
half = rule_of_is 8 (pos 1) (record { variable = 0; op = 3; number = pos 2 } ∷ []) (weighed (pos 1) 1 ∷ [])

-- every test of the list is passed
abbrev pass : List Bool → Bool
pass [] = true
pass (b ∷ bs) = b && pass bs

passed : (bs : List Bool) → pass bs ≡ true → (i : ℕ) → T (get_or bs i true)
passed [] h i = tt
passed (b ∷ bs) h zero = is_test (both b (pass bs) h).0
passed (b ∷ bs) h (suc i) = passed bs (both b (pass bs) h).1 i

abbrev zeros : ℕ → ℤ
zeros = pair (pos 0) (pos 0)

-- a rule, and values `to` on the way from 0 to the aims
module _ (r : Rule) (aim to : ℕ → ℤ) (n : ℕ) (stride : ℕ → ℕ) where
  -- position i is kept, has values in range, goes from 0 towards its aim, and is at most n strides short of it
  abbrev tests : ℕ → List Bool
  tests i =
      let x = variable_in vs (body_variable r i) in
      kept vs r i ∷ in_range x (zeros i) ∷ in_range x (aim i) ∷ in_range x (to i) ∷ not_past x (zeros i) (aim i) ∷ not_past x (zeros i) (to i)
      ∷ le_z (ahead x (aim i)) (ahead x (to i) +ℤ pos (n * stride i)) ∷ []

  abbrev fails : ℕ → Bool
  fails i = not (pass (tests i))

  all_short : any_below (length r.terms) fails ≡ false → Short vs r zeros aim to n stride
  all_short h i l =
      let f = passed (tests i) (not-false (pass (tests i)) (none_below (length r.terms) fails h i l)) in
      inl (record { is_kept = is_true (kept vs r i) (f 0); at_in = f 1; aim_in = f 2; to_in = f 3; aims = f 4; goes = f 5; short = le_z_yes (f 6) })

-- a value is given to x, at most n steps short of b
abbrev reaches : Variable → ℤ → ℕ → Option ℤ → Bool
reaches x b n None = false
reaches x b n (Some a) = le_z (ahead x b) (ahead x a +ℤ pos n)

-- what the estimates are
estimates_compute : Unit {0}
unfolding computes any_below distance further weight room_below rise_below rise factor_rise held moved_as estimated_as estimate
estimates_compute = tt

pub sum-estimate : estimate (variable_in vs 0) 1 ones sum (pair (pos 0) (pos 0)) (pair (pos 3) (pos 3)) ≡ Some (pos 3)
unfolding estimates_compute
sum-estimate = refl

pub third_estimate : estimate (variable_in vs 0) 1 ones third (pair (pos 0) (pos 0)) (pair (pos 6) (pos 6)) ≡ Some (pos 4)
unfolding estimates_compute
third_estimate = refl

pub condition-estimate : estimate (variable_in vs 0) 1 ones condition (pair (pos 0) (pos 0)) (pair (pos 3) (pos 3)) ≡ None
unfolding estimates_compute
condition-estimate = refl

pub product_estimate : estimate (variable_in vs 0) 1 ones product (pair (pos 0) (pos 0)) (pair (pos 3) (pos 0)) ≡ Some (pos 0)
unfolding estimates_compute
product_estimate = refl

pub smaller-estimate : estimate (variable_in vs 0) 1 ones smaller_of (pair (pos 0) (pos 0)) (pair (pos 3) (pos 0)) ≡ Some (pos 0)
unfolding estimates_compute
smaller-estimate = refl

-- a head with a longer stride counts it twice
pub double-estimate : estimate (variable_in vs 0) 1 ones double (pair (pos 0) (pos 0)) (pair (pos 3) (pos 3)) ≡ Some (pos 3)
unfolding estimates_compute
double-estimate = refl

pub double-estimate_in_twos : estimate (variable_in vs 0) 2 ones double (pair (pos 0) (pos 0)) (pair (pos 3) (pos 3)) ≡ Some (pos 6)
unfolding estimates_compute
double-estimate_in_twos = refl

-- one with a shorter stride than the position does not count it
pub larger-estimate : estimate (variable_in vs 0) 1 twos larger_of (pair (pos 0) (pos 0)) (pair (pos 3) (pos 3)) ≡ Some (pos 0)
unfolding estimates_compute
larger-estimate = refl

pub larger-estimate_in_twos : estimate (variable_in vs 0) 2 twos larger_of (pair (pos 0) (pos 0)) (pair (pos 3) (pos 3)) ≡ Some (pos 3)
unfolding estimates_compute
larger-estimate_in_twos = refl

-- the room of a quotient by 2 holds a stride of 2, and none of 3
pub half_estimate_in_twos : estimate (variable_in vs 0) 1 twos half (pair (pos 0) (pos 0)) (pair (pos 6) (pos 6)) ≡ Some (pos 4)
unfolding estimates_compute
half_estimate_in_twos = refl

pub half_estimate_in_threes : estimate (variable_in vs 0) 1 threes half (pair (pos 0) (pos 0)) (pair (pos 6) (pos 6)) ≡ Some (pos 1)
unfolding estimates_compute
half_estimate_in_threes = refl

module _ (guess : Variable → ℕ → (ℕ → ℕ) → Rule → (ℕ → ℤ) → (ℕ → ℤ) → Option ℤ) (law : Steady guess) where
  -- b is not the guess for a head of stride 1: at `to`, n strides short of the aims, the rule gives nothing, or more than n steps less than b
  refuted : {r : Rule} {stride : ℕ → ℕ} {aim : ℕ → ℤ} {b : ℤ} → guess (variable_in vs r.head) 1 stride r zeros aim ≡ Some b → (to : ℕ → ℤ) (n : ℕ) (given : Option ℤ)
      → item_refusal vs (rule r) ≡ 0 → any_below (length r.terms) (fails r aim to n stride) ≡ false → evaluate r to ≡ given
      → reaches (variable_in vs r.head) b (n * 1) given ≡ false → ⊥
  refuted {r} {stride} {aim} {b} e to n given fine short gives far =
      let reached = reaches (variable_in vs r.head) b (n * 1) in
      let g = law vs r (rule_promised vs r fine) 1 stride zeros aim to n (all_short r aim to n stride short) b e in
      never (is_true (reached (Some g.0)) g.2.le) (subst (λ (y : Option ℤ). reached y ≡ false) (sym gives ∙ g.1) far)

  -- x1 + x2 is 4 at 2, 2, one step short: one that counts both positions has 6
  pub not_both_counted : guess (variable_in vs 0) 1 ones sum (pair (pos 0) (pos 0)) (pair (pos 3) (pos 3)) ≡ Some (pos 6) → ⊥
  unfolding computes ahead
  not_both_counted e = refuted e (pair (pos 2) (pos 2)) 1 (Some (pos 4)) refl refl refl refl

  -- 2·x1 over 3 is 4 at 6: one that takes the whole room for it has 6
  pub not_the_whole_room : guess (variable_in vs 0) 1 ones third (pair (pos 0) (pos 0)) (pair (pos 6) (pos 6)) ≡ Some (pos 6) → ⊥
  unfolding computes ahead
  not_the_whole_room e = refuted e (pair (pos 6) (pos 6)) 0 (Some (pos 4)) refl refl refl refl

  -- x1 ≥ 3 does not hold at 2: one that judges it at the aim has 5
  pub not_at_the_aim : guess (variable_in vs 0) 1 ones condition (pair (pos 0) (pos 0)) (pair (pos 3) (pos 3)) ≡ Some (pos 5) → ⊥
  unfolding computes ahead
  not_at_the_aim e = refuted e (pair (pos 2) (pos 2)) 1 None refl refl refl refl

  -- x1 · x2 is 0 at 3, 0: one that does not ask the other factor has 3
  pub not_by_a_factor_of_zero : guess (variable_in vs 0) 1 ones product (pair (pos 0) (pos 0)) (pair (pos 3) (pos 0)) ≡ Some (pos 3) → ⊥
  unfolding computes ahead
  not_by_a_factor_of_zero e = refuted e (pair (pos 3) (pos 0)) 0 (Some (pos 0)) refl refl refl refl

  -- the smaller of x1 and x2 is 0 at 3, 0: one that leaves the second out has 3
  pub not_without_an_argument : guess (variable_in vs 0) 1 ones smaller_of (pair (pos 0) (pos 0)) (pair (pos 3) (pos 0)) ≡ Some (pos 3) → ⊥
  unfolding computes ahead
  not_without_an_argument e = refuted e (pair (pos 3) (pos 0)) 0 (Some (pos 0)) refl refl refl refl

  -- 2·x1 is 4 at 2, one step short: one that counts it twice has 6
  pub not_counted_twice : guess (variable_in vs 0) 1 ones double (pair (pos 0) (pos 0)) (pair (pos 3) (pos 3)) ≡ Some (pos 6) → ⊥
  unfolding computes ahead
  not_counted_twice e = refuted e (pair (pos 2) (pos 2)) 1 (Some (pos 4)) refl refl refl refl

  -- the larger of x1 is 1 at 1, one stride of 2 short: one whose head has a stride of 1 and that has 3 falls by more
  pub not_a_longer_stride : guess (variable_in vs 0) 1 twos larger_of (pair (pos 0) (pos 0)) (pair (pos 3) (pos 3)) ≡ Some (pos 3) → ⊥
  unfolding computes ahead
  not_a_longer_stride e = refuted e (pair (pos 1) (pos 1)) 1 (Some (pos 1)) refl refl refl refl

  -- x1 + 1 over 2 is 2 at 3, one stride of 3 short: one that has room for it has 4
  pub not_past_the_room : guess (variable_in vs 0) 1 threes half (pair (pos 0) (pos 0)) (pair (pos 6) (pos 6)) ≡ Some (pos 4) → ⊥
  unfolding computes ahead
  not_past_the_room e = refuted e (pair (pos 3) (pos 3)) 1 (Some (pos 2)) refl refl refl refl
