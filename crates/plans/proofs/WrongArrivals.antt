-- Wrong checks for variables founded from above: of each, what it answers or writes on a sample plan is computed (proofs/Choices.antt), and shown to be no answer
-- or report of the call.
use Prim.Native.Nat.{ℕ, ◌*◌, ◌≤◌}
use mathlib.Core.Path.{◌≡◌, refl, ap}
use mathlib.Core.Bool.{false}
use mathlib.Core.List.{List, [], ◌∷◌, ◌++◌}
use native.Mathlib.Omega.{arith}
use lib.Dec.{eqb}
use lib.ListN.{length, get_or}
use borrow.Author.Tests.{eq-eqb}
use Rattle.program.proofs.Conditions.{never}
use Rattle.program.specs.Reading.{Reads, accepted, refused}
use Rattle.program.proofs.Unique.{reads_unique, accepts_reads}
use Rattle.verdict.specs.Checks.{Answer, refusal, rule, unfounded, stable, check_bytes, Checks}
use Rattle.verdict.proofs.Demanded.{word, first, second}
use Rattle.verdict.proofs.Determined.{checks_unique}
use Rattle.plans.specs.Starred.{small}
use Rattle.plans.specs.IdlePlans.{below}
use Rattle.plans.specs.Arrivals.{arrival, together, both_kinds, against, printed_above, contrary_above, half_above, own_above, sized_above, sized_apart, two, three}
use Rattle.plans.proofs.StarredChecks as checks
use Rattle.plans.proofs.Arrivals.{arrival_checks, own_not_valid, sized_not_valid, sized_read}
use Rattle.plans.proofs.Choices as choices
use Rattle.plans.proofs.Choices.{right, literals_swapped, plain_not_swapped, standard_not_swapped, started_low, falling_assigned, most_for_falling, rising_dropped}
use Rattle.plans.proofs.Choices.{falling_not_joined, falling_joined, one_mark, larger_taken, idle_by_low, says}

-- a check that goes this way answers r for the file s of k fields and the assignment a to its n variables, and the call never does
pub record WrongAnswer (way : ℕ) (s : List ℕ) (k : ℕ) (a : List ℕ) (n : ℕ) (r : Answer) : Type 0 where
  pub answered : (says way s k a).0 ≡ r
  pub refuted : (b b' : List ℕ) → check_bytes * n ≤ length b → Checks s a b r b' → ⊥

-- it writes these bytes, and the call, whatever it answers, never leaves a report that starts with them
pub record WrongBytes (way : ℕ) (s : List ℕ) (k : ℕ) (a : List ℕ) (n : ℕ) (bytes : List ℕ) : Type 0 where
  pub written : (says way s k a).1 ≡ bytes
  pub refuted : (r : Answer) (b rest : List ℕ) → check_bytes * n ≤ length b → Checks s a b r (bytes ++ rest) → ⊥

-- two answers differ in their words, or in a number
differs : (f : Answer → ℕ) {s a b b' b'' : List ℕ} {r r' : Answer} → eqb (f r') (f r) ≡ false → Checks s a b r b'' → Checks s a b r' b' → ⊥
differs f {r = r} {r'} t c q = never (eq-eqb (f r') (f r) (ap f (checks_unique q c).0)) t

-- ---- the right way answers and writes on these plans as the call does

pub record RightOnPlans : Type 0 where
  pub arrival_stable : says right arrival 8 (three 5 15 25) ≡ (stable, [])
  pub arrival_shown : says right arrival 8 (three 5 9 19) ≡ (unfounded 2 1, 0x01 ∷ 0x03 ∷ small 15 (0x02 ∷ 0x03 ∷ small 25 (0x00 ∷ 0x02 ∷ small 5 [])))
  pub together_shown : says right together 7 (three 5 9 9) ≡ (unfounded 2 1, 0x01 ∷ 0x03 ∷ small 15 (0x02 ∷ 0x03 ∷ small 15 (0x00 ∷ 0x02 ∷ small 5 [])))
  pub both_shown : says right both_kinds 8 (small 5 (below 5 (small 6 (small 3 []))))
      ≡ (unfounded 3 1, 0x00 ∷ 0x00 ∷ small 3 (0x01 ∷ 0x03 ∷ below 3 (0x02 ∷ 0x00 ∷ small 4 (0x03 ∷ 0x01 ∷ small 3 []))))
  pub against_shown : says right against 4 (two 1 3) ≡ (unfounded 2 1, 0x00 ∷ 0x03 ∷ small 2 (0x01 ∷ 0x03 ∷ small 5 (0x01 ∷ 0x01 ∷ small 3 [])))
  pub printed_shown : says right printed_above 6 (small 0 (below 1 (below 1 [])))
      ≡ (unfounded 2 1, 0x01 ∷ 0x03 ∷ small 0 (0x02 ∷ 0x03 ∷ small 0 (0x00 ∷ 0x01 ∷ small 0 [])))
  pub contrary_shown : says right contrary_above 2 (below 1 []) ≡ (unfounded 1 1, 0x00 ∷ 0x03 ∷ small 0 (0x00 ∷ 0x01 ∷ below 1 []))
  pub half_shown : says right half_above 3 (below 4 (below 7 [])) ≡ (unfounded 1 1, 0x00 ∷ 0x03 ∷ below 3 (0x01 ∷ 0x02 ∷ below 7 []))
  pub own_stable : says right (own_above 5) 2 (small 5 []) ≡ (stable, [])
  pub sized_refused : says right (sized_above 9) 4 (two 10 10) ≡ (refusal 13 16, [])
  pub sized_stable : says right sized_apart 4 (two 3 3) ≡ (stable, [])

pub right_on_plans : RightOnPlans
unfolding checks.computes choices.computes
right_on_plans = record {
  arrival_stable = refl;
  arrival_shown = refl;
  together_shown = refl;
  both_shown = refl;
  against_shown = refl;
  printed_shown = refl;
  contrary_shown = refl;
  half_shown = refl;
  own_stable = refl;
  sized_refused = refl;
  sized_stable = refl;
}

-- ---- directions: "plain terms swap rising and falling and literals do not, standard variables included"

-- literals swapped too: in a ≤ -1 if a ≥ 0 a is kept and pushes itself down; a circle of literals is read as assigned
pub not_literals_swapped : WrongAnswer literals_swapped contrary_above 2 (below 1 []) 1 stable
unfolding checks.computes choices.computes
not_literals_swapped = record { answered = refl; refuted = λ b b' h. differs word refl (arrival_checks.contrary_shown b h) }

pub not_literals_swapped_in_circle : WrongAnswer literals_swapped printed_above 6 (small 0 (below 1 (below 1 []))) 3 stable
unfolding checks.computes choices.computes
not_literals_swapped_in_circle = record { answered = refl; refuted = λ b b' h. differs word refl (arrival_checks.printed_shown b h) }

-- plain terms not swapped: a circle holds itself down
pub not_plain_unswapped : WrongAnswer plain_not_swapped together 7 (three 5 9 9) 3 stable
unfolding checks.computes choices.computes
not_plain_unswapped = record { answered = refl; refuted = λ b b' h. differs word refl (arrival_checks.together_shown b h) }

-- or t1 alone is shown, with conditions on t0 and t2
pub not_plain_unswapped_in_part : WrongAnswer plain_not_swapped arrival 8 (three 5 9 19) 3 (unfounded 1 2)
unfolding checks.computes choices.computes
not_plain_unswapped_in_part = record { answered = refl; refuted = λ b b' h. differs first refl (arrival_checks.arrival_shown b h) }

-- those of standard variables not swapped: x at most -7, in place of at least
pub not_standard_unswapped : WrongBytes standard_not_swapped half_above 3 (below 4 (below 7 [])) 2 (0x00 ∷ 0x03 ∷ below 3 (0x01 ∷ 0x01 ∷ below 7 []))
unfolding checks.computes choices.computes
not_standard_unswapped = record {
  written = refl;
  refuted = λ r b rest h q.
      let e : ◌≡◌ {A = ℕ} 1 2 = ap (λ (l : List ℕ). get_or l 5 0) (checks_unique q (arrival_checks.half_shown b h)).1 in omega arith;
}

-- ---- the least model

-- started at its low, a variable founded from above is never short
pub not_started_low : WrongAnswer started_low arrival 8 (three 5 9 19) 3 stable
unfolding checks.computes choices.computes
not_started_low = record { answered = refl; refuted = λ b b' h. differs word refl (arrival_checks.arrival_shown b h) }

-- where it falls read as assigned: a circle of both kinds holds itself
pub not_falling_assigned : WrongAnswer falling_assigned both_kinds 8 (small 5 (below 5 (small 6 (small 3 [])))) 4 stable
unfolding checks.computes choices.computes
not_falling_assigned = record { answered = refl; refuted = λ b b' h. differs word refl (arrival_checks.both_shown b h) }

-- of what two rules give the larger taken: of 5 and t1 + 10 that is not 5, so that t0 stays at its high, and all times are shown
pub not_larger_taken : WrongAnswer larger_taken arrival 8 (three 5 15 25) 3 (unfounded 3 0)
unfolding checks.computes choices.computes
not_larger_taken = record { answered = refl; refuted = λ b b' h. differs word refl (arrival_checks.arrival_stable b h) }

-- ---- the report

-- `at most` where it falls: t0 at most 5, in place of at least
pub not_most_for_falling : WrongBytes most_for_falling arrival 8 (three 5 9 19) 3 (0x01 ∷ 0x03 ∷ small 15 (0x02 ∷ 0x03 ∷ small 25 (0x00 ∷ 0x01 ∷ small 5 [])))
unfolding checks.computes choices.computes
not_most_for_falling = record {
  written = refl;
  refuted = λ r b rest h q.
      let e : ◌≡◌ {A = ℕ} 1 2 = ap (λ (l : List ℕ). get_or l 9 0) (checks_unique q (arrival_checks.arrival_shown b h)).1 in omega arith;
}

-- no condition where it rises, being in the set: "a kept occurrence in the set gives neither", and this one is not kept
pub not_rising_dropped : WrongAnswer rising_dropped contrary_above 2 (below 1 []) 1 (unfounded 1 0)
unfolding checks.computes choices.computes
not_rising_dropped = record { answered = refl; refuted = λ b b' h. differs second refl (arrival_checks.contrary_shown b h) }

pub not_rising_plain_dropped : WrongAnswer rising_dropped against 4 (two 1 3) 2 (unfounded 2 0)
unfolding checks.computes choices.computes
not_rising_plain_dropped = record { answered = refl; refuted = λ b b' h. differs second refl (arrival_checks.against_shown b h) }

-- mark 0
pub not_mark_0 : WrongBytes one_mark arrival 8 (three 5 9 19) 3 (0x01 ∷ 0x00 ∷ small 15 (0x02 ∷ 0x00 ∷ small 25 (0x00 ∷ 0x02 ∷ small 5 [])))
unfolding checks.computes choices.computes
not_mark_0 = record {
  written = refl;
  refuted = λ r b rest h q.
      let e : ◌≡◌ {A = ℕ} 0 3 = ap (λ (l : List ℕ). get_or l 1 0) (checks_unique q (arrival_checks.arrival_shown b h)).1 in omega arith;
}

-- ---- validity: "edges run to kept and mixed variables"

-- no edge where a variable founded from above falls: the file is judged, though it is not valid
pub not_falling_unjoined : WrongAnswer falling_not_joined (sized_above 9) 4 (two 10 10) 2 stable
unfolding checks.computes choices.computes
not_falling_unjoined = record { answered = refl; refuted = λ b b' h. differs word refl (arrival_checks.sized_refused _ b) }

-- an edge where one founded from below falls: the file is turned down, though it is valid
pub not_falling_joined : WrongAnswer falling_joined sized_apart 4 (two 3 3) 2 (refusal 13 16)
unfolding checks.computes choices.computes
not_falling_joined = record { answered = refl; refuted = λ b b' h. differs word refl (arrival_checks.sized_stable b h) }

-- idle by the low: the most that |a| + 5 is, is above it
pub not_idle_by_low : WrongAnswer idle_by_low (own_above 5) 2 (small 5 []) 1 (refusal 13 8)
unfolding checks.computes choices.computes
not_idle_by_low = record { answered = refl; refuted = λ b b' h. differs word refl (arrival_checks.own_stable b h) }

-- readers: one that accepts these files, and one that turns the other down
pub not_accepted_own : {v r c : ℕ} → Reads (own_above 4) (accepted v r c) → ⊥
not_accepted_own q = let e = reads_unique q own_not_valid in let z : ◌≡◌ {A = ℕ} 0 1 = cc in omega arith

pub not_accepted_sized : {v r c : ℕ} → Reads (sized_above 9) (accepted v r c) → ⊥
not_accepted_sized q = let e = reads_unique q sized_not_valid in let z : ◌≡◌ {A = ℕ} 0 1 = cc in omega arith

pub not_refused_sized : {n at : ℕ} → Reads sized_apart (refused n at) → ⊥
not_refused_sized q = let e = reads_unique q (accepts_reads sized_read) in let z : ◌≡◌ {A = ℕ} 0 1 = cc in omega arith

-- ---- form 8, rounded down for a head founded from above: a ≤ 7 / 2 is then a ≤ 3

pub not_rounded_down : {b b' : List ℕ} → 24 ≤ length b → Checks half_above (two 4 7) b (rule 0) b' → ⊥
not_rounded_down {b} h q = let e = ap word (checks_unique q (arrival_checks.half_of_7 b h)).0 in omega arith
