-- Wrong calls on files with a mixed position: a small file of this kind is valid, since no walk leads back, and its one report has both marks.
use Prim.Native.Nat.{ℕ, ◌≤◌}
use mathlib.Core.Path.{◌≡◌, refl, ap}
use mathlib.Core.List.{List, [], ◌∷◌}
use native.Mathlib.Omega.{arith}
use lib.Dec.{lit≤}
use lib.IntN.{pos, neg_ℤ}
use lib.ListN.{length, get_or, replicate}
use Rattle.program.specs.Program.{program}
use Rattle.program.specs.Reading.{Reads, refused, Accepts}
use Rattle.program.proofs.Unique.{reads_unique, accepts_reads}
use Rattle.verdict.specs.Checks.{Answer, unfounded, Checks}
use Rattle.verdict.proofs.Demanded.{second}
use Rattle.verdict.proofs.Determined.{checks_unique}
use Rattle.plans.specs.Starred.{UnfoundedPlan, variable, small}
use Rattle.plans.specs.StarredChecks.{Checked}
use Rattle.plans.proofs.Starred as plans
use Rattle.plans.proofs.Starred.{read, plan_of, unfounded_plan}
use Rattle.plans.proofs.StarredChecks as checks
use Rattle.plans.proofs.StarredChecks.{unfounded_checked}

-- a founded in 0..10, b standard in -10..10; a ≥ |b|
abbrev sized : List ℕ
sized = variable 1 0 0 0 10 (variable 0 0xFF 0xF6 0 10 (2 ∷ 0 ∷ 8 ∷ 5 ∷ 0 ∷ 0 ∷ 0 ∷ 1 ∷ 0 ∷ 0 ∷ 0 ∷ []))

sized_read : Accepts sized (program sized 3)
unfolding plans.computes
sized_read = read sized 3 (lit≤ tt) refl (lit≤ tt) refl

-- a 5, b -3: bound a 3; b at most -3 and at least -3
abbrev values : List ℕ
values = small 5 (0xFF ∷ 0xFD ∷ [])

sized_least : UnfoundedPlan sized values (pos 3 ∷ neg_ℤ (pos 3) ∷ [])
unfolding checks.computes
sized_least = unfounded_plan (plan_of values sized_read refl refl) 9 _ refl refl refl 0 refl

pub sized_shown : Checked sized values 2 (unfounded 1 2) (0 ∷ 0 ∷ 0 ∷ 3 ∷ 1 ∷ 1 ∷ 0xFF ∷ 0xFD ∷ 1 ∷ 2 ∷ 0xFF ∷ 0xFD ∷ [])
unfolding checks.computes
sized_shown = unfounded_checked sized_least sized_read 2 refl 0 tt _ _ refl refl _ refl refl

-- one that asks one of the two marks
pub not_one_mark : {b b' : List ℕ} → 24 ≤ length b → Checks sized values b (unfounded 1 1) b' → ⊥
not_one_mark {b} h q = let e = ap second (checks_unique q (sized_shown b h)).0 in omega arith

-- the bytes, whatever the counts: at most alone, at least alone
abbrev nines : ℕ → List ℕ
nines n = replicate n 9

pub not_at_most_alone : {r : Answer} → Checks sized values (nines 24) r (0 ∷ 0 ∷ 0 ∷ 3 ∷ 1 ∷ 1 ∷ 0xFF ∷ 0xFD ∷ nines 16) → ⊥
not_at_most_alone q =
    let e : ◌≡◌ {A = ℕ} 9 1 = ap (λ (l : List ℕ). get_or l 8 0) (checks_unique q (sized_shown (nines 24) (lit≤ tt))).1 in
    omega arith

pub not_at_least_alone : {r : Answer} {rest : List ℕ} → Checks sized values (nines 24) r (0 ∷ 0 ∷ 0 ∷ 3 ∷ 1 ∷ 2 ∷ rest) → ⊥
not_at_least_alone q =
    let e : ◌≡◌ {A = ℕ} 2 1 = ap (λ (l : List ℕ). get_or l 5 0) (checks_unique q (sized_shown (nines 24) (lit≤ tt))).1 in
    omega arith

-- ---- the same a and b, but both founded, and also b ≥ -a: the falling position draws no edge, so that b does not reach a

abbrev circle : List ℕ
circle =
    variable 1 0 0 0 10 (variable 1 0xFF 0xF6 0 10
    (2 ∷ 0 ∷ 8 ∷ 5 ∷ 0 ∷ 0 ∷ 0 ∷ 1 ∷ 0 ∷ 0 ∷ 0 ∷ 2 ∷ 0 ∷ 8 ∷ 1 ∷ 1 ∷ 0 ∷ 0 ∷ 0 ∷ 0 ∷ 0xFF ∷ 0xFF ∷ []))

circle_read : Accepts circle (program circle 4)
unfolding plans.computes
circle_read = read circle 4 (lit≤ tt) refl (lit≤ tt) refl

-- one that draws edges at falling positions turns the file down
pub not_falling_drawn : {at : ℕ} → Reads circle (refused 13 at) → ⊥
not_falling_drawn q = let e = reads_unique q (accepts_reads circle_read) in let z : ◌≡◌ {A = ℕ} 0 1 = cc in omega arith
