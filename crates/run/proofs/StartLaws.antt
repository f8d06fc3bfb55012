-- The run begins.
use Prim.Native.Nat.{ℕ, ◌<◌}
use mathlib.Core.Path.{◌≡◌, refl, sym, ap, subst, ◌∙◌}
use mathlib.Core.Bool.{Bool, true, false, ◌||◌}
use mathlib.Core.List.{List}
use lib.Dec.{ltb}
use lib.IntN.{ℤ}
use lib.ListN.{length, get_or}
use Rattle.words.specs.Bit.{has}
use Rattle.program.specs.Program.{Program}
use Rattle.program.specs.Reading.{AcceptedAs, Accepts}
use Rattle.program.specs.Readings.{Valuation, valued}
use Rattle.program.specs.declared.Counts.{Counts}
use Rattle.reader.specs.Parts.{rule_place}
use Rattle.reader.proofs.Published.{accepts_unique, counts_of_is}
use Rattle.meaning.specs.Founded.{Within}
use Rattle.meaning.specs.Reduct.{Reckoning, reduct, system}
use Rattle.tables.specs.Tabled.{ReadersAre}
use Rattle.tables.specs.Laid.{Laid, OffsetsOf}
use Rattle.run.specs.Running.{Basis, Underway, Running}
use Rattle.run.proofs.SolveLaws.{reduct_basis, run_start}

module _ (s : List ℕ) (k : Counts) (r : AcceptedAs s k) where
  -- the first set, with the readers
  pub all_wait : {P : Program} {R : Reckoning} {θ : Valuation} {os ms : List ℕ} {others stops : List ℤ} {cut : Bool} {m : List ℤ}
      → Underway s P R θ os ms others stops cut m → (rs : List ℕ) → ((Q : Program) → Accepts s Q → ReadersAre Q (length Q.rules) ms rs)
      → (ws₀ ws : List ℕ) → ((n : ℕ) → has ws₀ n ≡ false) → ((n : ℕ) → has ws n ≡ (ltb n k.rules || has ws₀ n))
      → Running s P R θ os ms rs others stops cut m ws
  all_wait {P} u rs a ws₀ ws e g =
      run_start u rs (a P u.basis.reckons.accepts) ws
      (λ i l. g i ∙ ap (λ (b : Bool). ltb i k.rules || b) (e i) ∙ or_false (ltb i k.rules) ∙ ap (ltb i) (sym (counts_of_is r u.basis.reckons.accepts).rules_are))
    where
      or_false : (b : Bool) → (b || false) ≡ b
      or_false true = refl
      or_false false = refl

-- where the rules of some reckoning's program stand
pub way_offsets : {s : List ℕ} {P : Program} {R : Reckoning} {θ : Valuation} {os ms : List ℕ} {others stops : List ℤ} {cut : Bool} {m : List ℤ}
    → Underway s P R θ os ms others stops cut m → OffsetsOf s os
way_offsets {s} {os = os} u Q x =
    subst (λ (P : Program). (i : ℕ) → i < length P.rules → get_or os i 0 ≡ rule_place s P i) (accepts_unique u.basis.reckons.accepts x)
    (λ i h. (u.basis.reckons.stands i h).placed)

-- the reduct's, where the assignment lies in its ranges
module _ {s : List ℕ} {k : Counts} {os ms : List ℕ} (l : Laid s k os ms) (θ stops : List ℤ) (w : (Q : Program) → Accepts s Q → Within (system Q) (valued θ)) where
  pub reduct_bases : (P : Program) → Accepts s P → Basis s P (reduct P) (valued θ) os ms θ stops false
  reduct_bases P a = reduct_basis (l.placed P a) θ stops (w P a)
