-- The file of an accepted program without its idle rules is accepted: it is shorter, its rules are rules of the program, and so are its edges.
use Prim.Native.Nat.{ℕ, ◌<◌, ◌≤◌}
use mathlib.Core.Path.{◌≡◌, sym, subst}
use mathlib.Core.Logic.{inl, inr}
use mathlib.Core.Bool.{Bool, true, false, cond}
use mathlib.Core.List.{List, [], ◌∷◌, ◌++◌}
use native.Mathlib.Omega.{arith}
use lib.ListN.{length, length-append}
use Rattle.walks.proofs.Walks.{over}
use Rattle.program.specs.Program.{Program, Rule, rule, rule_in, term_in}
use Rattle.program.specs.Refusals.{item_refusal}
use Rattle.program.specs.Idle.{Idle, is_idle}
use Rattle.program.specs.Directions.{direction, is_mixed}
use Rattle.program.specs.Components.{draws, edge, Share, Valid}
use Rattle.program.specs.Reading.{Accepts}
use Rattle.program.specs.Encode.{each, rule_bytes, variable_bytes, constraint_bytes, encode, Bytes, All, Proper}
use Rattle.program.specs.declared.Variable.{Variable}
use Rattle.program.proofs.Conditions.{some_below, below_some}
use Rattle.program.proofs.RoundTrip.{accepted_proper, encoded_accepted}
use Rattle.meaning.specs.LeftOut.{with_rules, Among, acting, struck}
use Rattle.meaning.proofs.IdleRules.{acting_only}

-- ---- the rules that are not idle are some of the rules

module _ (vs : List Variable) where
  few : (rs : List Rule) → length (acting vs rs) ≤ length rs
  unfolding acting
  few [] = omega arith
  few (r ∷ rs) = go (is_idle vs r) (few rs)
    where
      go : (b : Bool) → length (acting vs rs) ≤ length rs → length (cond b (acting vs rs) (r ∷ acting vs rs)) ≤ length (r ∷ rs)
      go true h = omega arith
      go false h = omega arith

  shorter : (rs : List Rule) → length (each rule_bytes (acting vs rs)) ≤ length (each rule_bytes rs)
  unfolding acting
  shorter [] = omega arith
  shorter (r ∷ rs) = go (is_idle vs r) (shorter rs)
    where
      go : (b : Bool) → length (each rule_bytes (acting vs rs)) ≤ length (each rule_bytes rs)
          → length (each rule_bytes (cond b (acting vs rs) (r ∷ acting vs rs))) ≤ length (rule_bytes r ++ each rule_bytes rs)
      go true h = omega (arith, length-append (rule_bytes r) (each rule_bytes rs))
      go false h = omega (arith, length-append (rule_bytes r) (each rule_bytes rs), length-append (rule_bytes r) (each rule_bytes (acting vs rs)))

  all_acting : (p : Rule → Type 0) (rs : List Rule) → All p rs → All p (acting vs rs)
  unfolding acting
  all_acting p [] h = tt
  all_acting p (r ∷ rs) h = go (is_idle vs r) (all_acting p rs h.1)
    where
      go : (b : Bool) → All p (acting vs rs) → All p (cond b (acting vs rs) (r ∷ acting vs rs))
      go true a = a
      go false a = (h.0, a)

-- ---- fewer rules of a valid program are valid

-- components over more edges
pub share_over : (P Q : Program) → ((x y : ℕ) → edge Q x y ≡ true → edge P x y ≡ true) → {x y : ℕ} → Share Q x y → Share P x y
share_over P Q h (inl e) = inl e
share_over P Q h (inr w) = inr ((w.0.0, over h w.0.1), (w.1.0, over h w.1.1))

module _ (P : Program) (rs : List Rule) (only : (j : ℕ) → j < length rs → Among (rule_in rs j) P.rules) where
  abbrev Q : Program
  Q = with_rules P rs

  edge_over : (x y : ℕ) → edge Q x y ≡ true → edge P x y ≡ true
  unfolding edge draws
  edge_over x y h =
      let j = some_below (length rs) (λ i. draws Q (rule_in rs i) x y) h in
      let o = only j.0 j.1 in
      below_some (length P.rules) (λ i. draws P (rule_in P.rules i) x y) o.number o.inside
      (subst (λ r. draws P r x y ≡ true) (sym o.is) j.2)

  pub valid_left : Valid P → Valid Q
  valid_left v j o =
      let a = only j o.among in
      v a.number (record {
        among = a.inside;
        not_idle = subst (λ r. Idle P r → ⊥) (sym a.is) o.not_idle;
        at = o.at;
        inside = subst (λ r. o.at < length r.terms) (sym a.is) o.inside;
        pushes = subst (λ r. is_mixed (direction P.variables r o.at) ≡ true) (sym a.is) o.pushes;
        shares = subst (λ r. Share P r.head (term_in r.terms o.at).variable) (sym a.is) (share_over P Q edge_over o.shares);
      })

-- ---- the file

struck_short : (P : Program) → length (encode (with_rules P (acting P.variables P.rules))) ≤ length (encode P)
unfolding encode
struck_short P =
    let vs = each variable_bytes P.variables in
    let rs = each rule_bytes P.rules in
    let qs = each rule_bytes (acting P.variables P.rules) in
    let ks = each constraint_bytes P.constraints in
    omega (arith, length-append vs (rs ++ ks), length-append rs ks, length-append vs (qs ++ ks), length-append qs ks, shorter P.variables P.rules)

struck_proper : {P : Program} → Proper P → Proper (with_rules P (acting P.variables P.rules))
struck_proper {P} p = record {
  short = omega (arith, struck_short P, p.short);
  few_variables = p.few_variables;
  few_rules = omega (arith, few P.variables P.rules, p.few_rules);
  few_constraints = p.few_constraints;
  fine_variables = p.fine_variables;
  fine_rules = all_acting P.variables (λ r. item_refusal P.variables (rule r) ≡ 0) P.rules p.fine_rules;
  fine_constraints = p.fine_constraints;
  valid = valid_left P (acting P.variables P.rules) (acting_only P.variables P.rules) p.valid;
}

pub struck_accepted : {s : List ℕ} {P : Program} → Bytes s → Accepts s P → Accepts (struck P) (with_rules P (acting P.variables P.rules))
struck_accepted b x = encoded_accepted (struck_proper (accepted_proper b x))
