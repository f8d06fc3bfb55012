-- What the layers above rely on, for a file s that is accepted and the program P that it means: it holds since the file's fields passed. What
-- acceptance promises of each variable, rule and constraint is `accepts_promises` (Rattle.program.proofs.Promises).
use Prim.Native.Nat.{ℕ, ◌+◌, ◌*◌, ◌<◌}
use mathlib.Core.Path.{◌≡◌, refl, sym, ap, ◌∙◌, subst}
use mathlib.Core.List.{List}
use native.Mathlib.Nat.{add-zero}
use native.Mathlib.Omega.{arith}
use lib.ListN.{length, drop}
use Rattle.program.specs.Fields.{place, next_at}
use Rattle.program.specs.Program.{Program, program, rule_in, variable_of, variable_in, variables_at}
use Rattle.program.specs.Reading.{Accepts, Whole, Reads, accepted, whole}
use Rattle.program.proofs.Places.{place_next, passed_fine, counts, variables_stand, variable_stands, constraint_at_is, constraint_header_is}
use Rattle.program.proofs.Promises.{constraint_promised}
use Rattle.program.proofs.Unique.{accepts_reads}
use Rattle.fields.specs.Scanning.{Counted}
use Rattle.validity.proofs.RuleLaws as laws
use Rattle.reader.specs.Parts.{Limited, CountsOf, rule_place, constraint_place, RuleLies, ConstraintLies}
use Rattle.program.proofs.Gives.{promised_evaluable, promised_satisfiable}
-- the program that an accepted file means is one, with its counts
pub use Rattle.program.proofs.Unique.{Accepted, reads_accepts, accepts_unique}
-- variables by their bytes, and the length of a field's value
pub use Rattle.program.proofs.Places.{variables_length, variable_at_is, value_length}

-- ---- counts

module _ {s : List ℕ} {n m c : ℕ} (r : Reads s (accepted n m c)) {P : Program} (a : Accepts s P) where
  pub counts_of_is : CountsOf P n m c
  counts_of_is =
      let x = reads_accepts r in
      subst (λ (Q : Program). CountsOf Q n m c) (accepts_unique x.accepts a)
      (record { variables_are = x.variables_are; rules_are = x.rules_are; constraints_are = x.constraints_are })

  -- the variables are those that stand in the file
  pub variables_are : P.variables ≡ variables_at s n
  variables_are = rw (← counts_of_is.variables_are, ← a.means) (variables_stand a.fields a.whole.passed).are

pub limited : {s : List ℕ} {n m c : ℕ} → Reads s (accepted n m c) → Limited s n m c
limited (whole {k = k} w v) =
    let f = counts w.passed in
    record { few_variables = f.few_variables; few_rules = f.few_rules; few_constraints = f.few_constraints; inside = (variables_stand k w.passed).inside }

-- ---- rules and constraints

-- field k of a whole file
module _ {s : List ℕ} {k : ℕ} (w : Whole s k) where
  constraint_lies_at : (i : ℕ) → i < length (program s k).constraints → ConstraintLies s (program s k) i (constraint_place s (program s k) i)
  constraint_lies_at i h =
      let r = constraint_at_is w.passed h in
      let f = passed_fine w.passed _ r.before in
      record {
        inside = f.whole;
        is = r.is;
        headed = omega (arith, f.length_is, constraint_header_is f r.field.tagged);
        satisfiable = rw r.is at (promised_satisfiable (constraint_promised _ _ r.fine));
      }

module _ {s : List ℕ} {P : Program} (a : Accepts s P) where
  pub program_limited : Limited s (length P.variables) (length P.rules) (length P.constraints)
  program_limited = limited (accepts_reads a)

  pub variable_lies : (x : ℕ) → x < length P.variables → variable_in P.variables x ≡ variable_of (drop (8 * x + 3) s)
  variable_lies x h = let q = a.means in rw (← q) (variable_stands a.whole.passed (rw (← q) at h)).is

  counted : Counted s (record { variables = length P.variables; rules = length P.rules; constraints = length P.constraints })
  counted = record {
    fields = a.fields;
    whole = a.whole;
    describes = record {
      variables_are = ap (λ (Q : Program). Q.variables) a.means ∙ variables_are (accepts_reads a) a;
      rules_are = ap (λ (Q : Program). length Q.rules) a.means;
      constraints_are = ap (λ (Q : Program). length Q.constraints) a.means;
    };
  }

  pub rule_lies : (i : ℕ) → i < length P.rules → RuleLies s P i (rule_place s P i)
  unfolding counted
  rule_lies i h = record {
    inside = laws.rule_inside counted i h refl;
    is = ap (λ (Q : Program). rule_in Q.rules i) (sym a.means) ∙ laws.rule_is counted i h;
    standing = laws.standing counted i h;
    evaluable = promised_evaluable (laws.rule_promise counted i h);
  }

  pub constraint_lies : (i : ℕ) → i < length P.constraints → ConstraintLies s P i (constraint_place s P i)
  constraint_lies i h = let q = a.means in rw (← q) (constraint_lies_at a.whole i (rw (← q) at h))

  -- the rules stand after the variables
  pub first_rule : 8 * length P.variables ≡ rule_place s P 0
  first_rule = laws.first_rule counted

-- the next field stands where this one ends
module _ (s : List ℕ) (P : Program) (i : ℕ) where
  pub next_rule : rule_place s P (i + 1) ≡ next_at s (rule_place s P i)
  next_rule = let e : length P.variables + (i + 1) ≡ length P.variables + i + 1 = omega arith in ap (place s) e ∙ place_next s _

  pub next_constraint : constraint_place s P (i + 1) ≡ next_at s (constraint_place s P i)
  next_constraint =
      let e : length P.variables + length P.rules + (i + 1) ≡ length P.variables + length P.rules + i + 1 = omega arith in ap (place s) e ∙ place_next s _

-- the first constraint stands after the last rule
pub first_constraint : (s : List ℕ) (P : Program) → constraint_place s P 0 ≡ rule_place s P (length P.rules)
first_constraint s P = ap (place s) (add-zero (length P.variables + length P.rules))
