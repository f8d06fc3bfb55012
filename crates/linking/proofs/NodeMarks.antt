-- The value of a node's rule, read over variables whose fields stand in a list of their own.
use Prim.Native.Nat.{ℕ, ◌+◌, ◌-◌, ◌≤◌}
use mathlib.Core.Path.{◌≡◌, sym, ap₂, ◌∙◌, subst}
use mathlib.Core.List.{List}
use native.Mathlib.Omega.{arith}
use lib.ListN.{length, take, drop}
use lib.Seq.{take-append_seam}
use Rattle.program.specs.Program.{Rule, rule_of, variables_at}
use Rattle.program.specs.Encode.{rule_bytes}
use Rattle.program.proofs.Places.{variables_length}
use Rattle.program.proofs.Promises.{RulePromise, rule_promised}
use Rattle.program.proofs.Encoding.{rule_value, rule_size, rule_read, divisor_small, body_small}
use Rattle.program.proofs.Gives.{promised_evaluable}
use Rattle.idleness.specs.Most.{Ready}
use Rattle.noderules.specs.NodeRules.{PutIn}
use Rattle.linking.specs.Drawing.{Recorded, FineRule}

-- ---- the value among the bytes that were put in

module _ (r : Rule) {b b' : List ℕ} {end : ℕ} (p : PutIn (rule_bytes r) b 0 end b') where
  pub value_put : take (end - 3) (drop 3 b') ≡ rule_value r
  value_put =
      let e : end - 3 ≡ length (rule_value r) = omega (arith, p.ends) in
      ap₂ (λ (n : ℕ) (l : List ℕ). take n (drop 3 l)) e p.bytes ∙ take-append_seam (rule_value r) (drop (0 + length (rule_bytes r)) b)

-- ---- it is ready to be marked

module _ {s : List ℕ} {n : ℕ} (k : Recorded s n) where
  value_ready : (v : List ℕ) → 4 ≤ length v → RulePromise (variables_at s n) (rule_of v) → Ready s n v
  value_ready v h p =
      let l = variables_length s n in
      record {
        standing = record {
          inside = k.inside;
          few = k.few;
          headed = h;
          head = rw l at p.head_declared;
          declared = λ i m. rw l at (p.body.terms i m).declared;
        };
        evaluable = promised_evaluable p;
        distinct = p.body.distinct;
        low_small = k.low_small;
        high_small = k.high_small;
      }

  module _ (r : Rule) (e : FineRule s n r) where
    promise : RulePromise (variables_at s n) r
    promise = rule_promised (variables_at s n) r e.fine

    pub value_means : rule_of (rule_value r) ≡ r
    value_means = rule_read r promise.c_small promise.divided (divisor_small r.divisor promise.divisor) (body_small promise.body)

    pub ready : {v : List ℕ} → v ≡ rule_value r → Ready s n v
    ready x =
        let p = subst (RulePromise (variables_at s n)) (sym value_means) promise in
        subst (Ready s n) (sym x) (value_ready (rule_value r) (omega (arith, rule_size r)) p)
