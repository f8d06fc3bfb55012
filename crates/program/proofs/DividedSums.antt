-- What rules of forms 1 and 8 give, in the words of documents 01 and 02: they have no literals, so they always give their amount.
use Rattle.std.specs.Prelude.{Some}
use Prim.Native.Nat.{ℕ, ◌<◌}
use mathlib.Core.Path.{◌≡◌, sym, ap, ◌∙◌}
use native.Mathlib.Omega.{arith}
use lib.IntN.{ℤ, pos, ◌+ℤ◌, ◌-ℤ◌, ◌*ℤ◌}
use lib.Signed.{◌≤ℤ◌, ◌<ℤ◌}
use mathlib.Core.List.{List}
use lib.ListN.{length}
use Rattle.program.specs.Program.{Rule, term_form, divisor_of, term_in}
use Rattle.program.specs.Evaluate.{sum_below, over_up, amount, evaluate}
use Rattle.program.specs.declared.Variable.{Variable}
use Rattle.program.proofs.Forms.{divisor_none, none_is_one, read_as_sum, read_as_itself}
use Rattle.program.proofs.Promises.{RulePromise, plain_position, divisor_least}
use Rattle.program.proofs.Gives.{amount_sum, given_is, plain_hold}
use Rattle.program.proofs.Quotients.{over_one, over_up_reaches, over_up_first}

-- "c + Σ number · variable"
abbrev pub total : Rule → (ℕ → ℤ) → ℤ
total r at = r.c +ℤ sum_below (λ i. (term_in r.terms i).number *ℤ at i) (length r.terms)

module _ {vs : List Variable} {r : Rule} (p : RulePromise vs r) (at : ℕ → ℤ) where
  sum_given : term_form r.form ≡ 1 → evaluate r at ≡ Some (over_up (divisor_of r) (total r at))
  sum_given h =
      let plain = plain_hold r.terms at (length r.terms) (λ i l. (p.body.terms i l).plain_op (plain_position (term_form r.form) i (omega arith))) in
      sym (given_is r at plain (sym (amount_sum r.c (divisor_of r) r.terms at h)))

  -- "Form 1 is read as divisor 1.": it gives its sum
  pub sum_gives : r.form ≡ 1 → evaluate r at ≡ Some (total r at)
  sum_gives h =
      let none = p.divided ∙ sym (divisor_none r.form (omega arith)) in
      sum_given (sym (read_as_itself r.form (omega arith)) ∙ h)
      ∙ ap Some (ap (λ (d : ℤ). over_up d (total r at)) (none_is_one r.divisor none) ∙ over_one (total r at))

  -- "the smallest whole number not below the sum, c included, over the divisor"
  pub record Quotient (q : ℤ) : Type 0 where
    pub given : evaluate r at ≡ Some q
    pub not_below : total r at ≤ℤ (divisor_of r *ℤ q)
    pub smallest : (divisor_of r *ℤ (q -ℤ pos 1)) <ℤ total r at

  pub divided_gives : r.form ≡ 8 → Quotient (over_up (divisor_of r) (total r at))
  divided_gives h = record {
    given = sum_given (sym (read_as_sum r.form h));
    not_below = over_up_reaches (divisor_least p) (total r at);
    smallest = over_up_first (divisor_least p) (total r at);
  }
