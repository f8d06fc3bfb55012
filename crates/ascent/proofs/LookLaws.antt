-- What a rule is found to demand is what it demands in the reckoning.
use Rattle.std.specs.Prelude.{Option, Some, None}
use Prim.Native.Nat.{ℕ, ◌<◌}
use mathlib.Core.Path.{◌≡◌, refl, sym, ap, ap₂, ◌∙◌, subst}
use mathlib.Core.Logic.{◌⊎◌, inl, inr}
use mathlib.Core.Bool.{Bool, true, false, not, cond, true≢false}
use mathlib.Core.List.{List}
use lib.Dec.{T, eqb}
use lib.IntN.{ℤ, pos}
use lib.ListN.{length}
use borrow.Author.Tests.{eq-eqb, ne_eqb, eqb-true}
use Rattle.program.specs.Fields.{value_at}
use Rattle.program.specs.Program.{Program, Rule, rule_of, rule_in, term_form, variable_in, variables_at}
use Rattle.program.specs.Variables.{is_founded, from_above, not_past, no_more}
use Rattle.program.specs.Evaluate.{evaluate}
use Rattle.program.specs.Evaluable.{Evaluable}
use Rattle.program.specs.Readings.{Valuation, body_variable, valued}
use Rattle.program.specs.declared.Variable.{Variable}
use Rattle.program.proofs.Gives.{enough_of}
use Rattle.program.proofs.Promises.{accepts_promises}
use Rattle.program.proofs.Tests.{cases}
use Rattle.program.proofs.Unique.{accepts_reads}
use Rattle.program.proofs.Variables.{founded_kind}
use Rattle.parts.specs.Values.{Standing}
use Rattle.reader.proofs.Published.{variables_are}
use Rattle.evaluation.specs.Past.{past_only}
use Rattle.meaning.specs.Reduct.{Reckoning}
use Rattle.meaning.proofs.Monotone.{head_founded}
use Rattle.run.specs.Running.{head_of, RuleMetIn, RuleStands, Demanded}
use Rattle.run.proofs.RunLaws.{lies}
use Rattle.sided.specs.Sides.{on_side, sided_reading}
use Rattle.sided.specs.Reached.{own_side, risen, size_side, plain_side, rule_side, sided_gives}
use Rattle.ascent.specs.Ascending.{capped, FoundOn, ReadOn}
use Rattle.ascent.specs.Looking.{SomeStanding}
use Rattle.ascent.proofs.CutLaws.{same_no_more, capped_no_more, capped_under, capped_past, capped_value}

-- ---- the side of plain terms

-- terms are read as of form 5 in form 5 alone
five : (form : ℕ) → eqb (term_form form) 5 ≡ eqb form 5
unfolding term_form
five form = go (eqb form 8) refl
  where
    go : (t : Bool) → eqb form 8 ≡ t → eqb (cond t 1 form) 5 ≡ eqb form 5
    go true e = rw (eqb-true form 8 e)
    go false e = refl

module _ (form : ℕ) (h x : Variable) {side : Bool} where
  pub not_size : (form ≡ 5 → ⊥) → side ≡ from_above h → side ≡ plain_side (term_form form) h x
  unfolding plain_side
  not_size n e = rw (five form, ne_eqb form 5 n) e

  pub of_size : {y : Variable} {above : Bool} → form ≡ 5 → above ≡ from_above h → y ≡ x → side ≡ size_side y above → side ≡ plain_side (term_form form) h x
  unfolding plain_side
  of_size q a p e = rw (five form, eq-eqb form 5 q, ← p, ← a) e

-- a size has a term
pub size_some : (v : List ℕ) → Evaluable (rule_of v) → (rule_of v).form ≡ 5 → 0 < length (rule_of v).terms
unfolding term_form
size_some v e q = enough_of e 5 (rw q)

-- ---- what is past

value_in : Option ℤ → ℤ
value_in None = pos 0
value_in (Some a) = a

is_nothing : Option ℤ → Bool
is_nothing None = true
is_nothing (Some a) = false

module _ (x : Variable) (z : ℤ) where
  past_value : (g : Option ℤ) (a : ℤ) → past_only x z g ≡ Some a → (g ≡ Some a) × T (not (not_past x a z))
  unfolding past_only value_in is_nothing
  past_value None a e = absurd (true≢false (ap is_nothing e))
  past_value (Some b) a e = go (not_past x b z) refl e
    where
      go : (t : Bool) → not_past x b z ≡ t → cond t None (Some b) ≡ Some a → (Some b ≡ Some a) × T (not (not_past x a z))
      go true q f = absurd (true≢false (ap is_nothing f))
      go false q f = let p : b ≡ a = ap value_in f in (f, rw (← p, q) tt)

  past_nothing : (g : Option ℤ) → past_only x z g ≡ None → T (no_more x g z)
  unfolding past_only is_nothing
  past_nothing None e = tt
  past_nothing (Some b) e = cases (not_past x b z) (λ t. cond t None (Some b) ≡ None → T t) (λ t q. tt) (λ t q. absurd (true≢false (sym (ap is_nothing q)))) e

-- ---- the head

-- of a founded variable the value reached stands where its kind says
pub own_above : (x : Variable) → T (is_founded x) → from_above x ≡ own_side x
unfolding own_side
own_above x t = go (founded_kind x t)
  where
    go : ((from_above x ≡ false) × (x.kind ≡ 1)) ⊎ ((from_above x ≡ true) × (x.kind ≡ 2)) → from_above x ≡ not (eqb x.kind 1)
    go (inl q) = rw q.1
    go (inr q) = rw q.1

-- a rule is met whose head has its stop
pub read_full : {P : Program} {R : Reckoning} {θ : Valuation} {stops : List ℤ} {full : Bool} {sides : List ℤ} {i : ℕ} → ReadOn P R θ stops full sides i → full ≡ true
    → risen P.variables sides (head_of P i) ≡ valued stops (head_of P i) → RuleMetIn P R θ (risen P.variables sides) i
read_full {P} {R} {θ} {stops} {full} {sides} {i} o f e = go o.found
  where
    h : ℕ
    h = head_of P i

    x : Variable
    x = variable_in P.variables h

    found : Option ℤ
    found = sided_gives P.variables sides (rule_in P.rules i)

    go : FoundOn P R θ stops full sides i → RuleMetIn P R θ (risen P.variables sides) i
    go (inl q) = rw (q, e) (same_no_more (R.variable h) x (capped full x (valued stops h) found) (valued stops h) o.order (capped_no_more x (valued stops h) full f found))
    go (inr q) = q.2

-- ---- the rule at a place

module _ {s : List ℕ} {P : Program} {i at : ℕ} (h : RuleStands s P i at) {v : List ℕ} (q : v ≡ value_at s at) where
  pub here_standing : Standing s (length P.variables) v
  here_standing = rw q (lies h).standing

  pub some_standing : SomeStanding s v
  some_standing = record { variables = length P.variables; standing = here_standing }

  here_is : rule_of v ≡ rule_in P.rules i
  here_is = ap rule_of q ∙ sym (lies h).is

module _ {s : List ℕ} {P : Program} {i at : ℕ} (h : RuleStands s P i at) {x : Variable} (p : x ≡ variable_in P.variables (head_of P i)) where
  here_own : from_above x ≡ own_side (variable_in P.variables (head_of P i))
  here_own = ap from_above p ∙ own_above (variable_in P.variables (head_of P i)) (head_founded (accepts_promises h.accepts) i h.among)

  -- the head's value is the one reached
  here_value : (sides : List ℤ) {head : ℕ} {above : Bool} {z : ℤ} → head ≡ head_of P i → above ≡ from_above x → z ≡ on_side sides above head
      → z ≡ risen P.variables sides (head_of P i)
  unfolding risen
  here_value sides a b e = e ∙ rw (a, b ∙ here_own)

  -- the head has its stop, which the code read as z and b
  pub look_full : {R : Reckoning} {θ : Valuation} {stops : List ℤ} {full : Bool} {sides : List ℤ} → ReadOn P R θ stops full sides i
      → {head : ℕ} {above : Bool} {z b : ℤ} → head ≡ head_of P i → above ≡ from_above x → z ≡ on_side sides above head → b ≡ valued stops head → full ≡ true → z ≡ b
      → Demanded P R θ (risen P.variables sides) i None
  look_full {stops = stops} {sides = sides} o a d e k f w = read_full o f (sym (here_value sides a d e) ∙ w ∙ k ∙ ap (valued stops) a)

  module _ {v : List ℕ} (q : v ≡ value_at s at) where
    here_side : {side : Bool} → ((n : ℕ) → Standing s n v → side ≡ plain_side (term_form (rule_of v).form) x (variable_in (variables_at s n) (body_variable (rule_of v) 0)))
        → side ≡ rule_side P.variables (rule_in P.rules i)
    here_side f =
        let n = length P.variables in
        f n (here_standing h q)
        ∙ ap (λ (r : Rule). plain_side (term_form r.form) x (variable_in (variables_at s n) (body_variable r 0))) (here_is h q)
        ∙ ap (λ (vs : List Variable). plain_side (term_form (rule_in P.rules i).form) x (variable_in vs (body_variable (rule_in P.rules i) 0)))
        (sym (variables_are (accepts_reads h.accepts) h.accepts))
        ∙ ap (λ (y : Variable). plain_side (term_form (rule_in P.rules i).form) y (variable_in P.variables (body_variable (rule_in P.rules i) 0))) p

    -- the head has not its stop
    module _ {R : Reckoning} {θ : Valuation} {stops : List ℤ} {full : Bool} {sides : List ℤ} (o : ReadOn P R θ stops full sides i) {head : ℕ} {above side : Bool} {z b : ℤ} {g : Option ℤ}
        (a : head ≡ head_of P i) (d : above ≡ from_above x) (e : z ≡ on_side sides above head) (w : b ≡ valued stops head) (n : full ≡ true → z ≡ b → ⊥)
        (f : (n : ℕ) → Standing s n v → side ≡ plain_side (term_form (rule_of v).form) x (variable_in (variables_at s n) (body_variable (rule_of v) 0)))
        (k : g ≡ past_only x z (evaluate (rule_of v) (sided_reading sides (term_form (rule_of v).form) side (rule_of v).terms))) where
      abbrev m : Valuation
      m = risen P.variables sides

      abbrev y : Variable
      y = variable_in P.variables (head_of P i)

      abbrev found : Option ℤ
      found = sided_gives P.variables sides (rule_in P.rules i)

      as_found : g ≡ past_only y (m (head_of P i)) found
      as_found = k ∙ ap₂ (λ (y : Variable) (w : ℤ). past_only y w (evaluate (rule_of v) (sided_reading sides (term_form (rule_of v).form) side (rule_of v).terms))) p (here_value sides a d e)
          ∙ ap (past_only y (m (head_of P i)))
          (ap (λ (r : Rule). evaluate r (sided_reading sides (term_form r.form) side r.terms)) (here_is h q)
          ∙ ap (λ (t : Bool). evaluate (rule_in P.rules i) (sided_reading sides (term_form (rule_in P.rules i).form) t (rule_in P.rules i).terms)) (here_side f))

      stop_is : b ≡ valued stops (head_of P i)
      stop_is = w ∙ ap (valued stops) a

      apart : full ≡ true → m (head_of P i) ≡ valued stops (head_of P i) → ⊥
      apart t u = n t (here_value sides a d e ∙ u ∙ sym stop_is)

      -- so that what it gives is what is found
      given : FoundOn P R θ stops full sides i → R.gives i m θ ≡ capped full y (valued stops (head_of P i)) found
      given (inl t) = t
      given (inr t) = absurd (apart t.0 t.1)

      pub look_more : {c r : ℤ} → g ≡ Some c → r ≡ cond full (cond (not_past x c b) c b) c → Demanded P R θ m i (Some r)
      look_more {c} {r} t u =
          let l = past_value y (m (head_of P i)) found c (sym as_found ∙ t) in
          rw (u, p, stop_is)
          record {
            gives_it = given o.found ∙ ap (capped full y (valued stops (head_of P i))) l.0 ∙ capped_value y (valued stops (head_of P i)) full c;
            more = record {
              lt = subst (λ (t : Bool). T (not t)) (sym (o.order _ (m (head_of P i))))
                  (capped_past y (valued stops (head_of P i)) (m (head_of P i)) full c o.short apart l.1);
            };
          }

      pub look_enough : g ≡ None → Demanded P R θ m i None
      look_enough t =
          let u = past_nothing y (m (head_of P i)) found (sym as_found ∙ t) in
          rw (given o.found)
          (same_no_more (R.variable (head_of P i)) y (capped full y (valued stops (head_of P i)) found) (m (head_of P i)) o.order
          (capped_under y (valued stops (head_of P i)) (m (head_of P i)) full found o.short u))
