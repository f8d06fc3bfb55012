-- "Each stable assignment of the nested file extends in just one way to the plain one, and none other is stable there."
use Prim.Native.Nat.{ℕ, ◌+◌, ◌<◌, ◌≤◌}
use mathlib.Core.Path.{◌≡◌, refl, sym, subst, fun_ext, ◌∙◌}
use mathlib.Core.Logic.{◌↔◌}
use mathlib.Core.Bool.{not, cond}
use mathlib.Core.List.{List}
use native.Mathlib.Omega.{arith}
use lib.Dec.{T, ltb, ltb→lt, nltb→le}
use lib.IntN.{pos}
use lib.ListN.{length}
use borrow.Author.Tests.{lt-ltb}
use Rattle.trees.specs.Tree.{total}
use Rattle.program.specs.Program.{constraint, no_constraint, constraint_in, variable_in, term_in}
use Rattle.program.specs.Evaluate.{satisfied}
use Rattle.program.specs.Refusals.{item_refusal}
use Rattle.program.specs.Variables.{is_founded, not_past}
use Rattle.program.specs.Readings.{Valuation}
use Rattle.program.specs.declared.Variable.{Variable}
use Rattle.program.proofs.Tests.{cases}
use Rattle.program.proofs.Variables.{past_refl}
use Rattle.meaning.specs.Founded.{Within, Model, Least}
use Rattle.meaning.specs.Reduct.{system}
use Rattle.meaning.specs.Stable.{Stable}
use Rattle.meaning.proofs.InRanges.{past_zero}
use Rattle.meaning.proofs.Theory.{least_unique}
use Rattle.nested.specs.Nested.{Rooted, Nested}
use Rattle.nested.specs.Flatten.{added_by, added_variables, flatten}
use Rattle.nested.specs.Meaning.{nested_system, NestedStable}
use Rattle.nested.specs.Sentences.{Extends, ExtendsOnce, restricted, completed, SameStable}
use Rattle.nested.proofs.FineNested.{FineNested}
use Rattle.nested.proofs.Lists.{all_at}
use Rattle.nested.proofs.Declared.{variable_same, constraint_same}
use Rattle.nested.proofs.Placing.{all, all_length, past_all, number_ways}
use Rattle.nested.proofs.Models.{plainly, extended, extended_extends, extended_past, restricted_extends, model_extended, model_restricted, added_later, model_unread}

module _ {N : Nested} (fine : FineNested N) where
  abbrev vs : List Variable
  vs = N.plain.variables

  abbrev ts : List Rooted
  ts = N.trees

  abbrev ws : List Variable
  ws = all vs ts

  abbrev n : ℕ
  n = length vs

  -- the first number that is no variable's
  abbrev top : ℕ
  top = n + total added_by ts

  -- ---- what stands past the last variable

  zero_past : {m : Valuation} → Within (system (plainly N)) m → (v : ℕ) → top ≤ v → m v ≡ pos 0
  zero_past w v l = past_zero (plainly N) w v (omega (arith, all_length vs ts))

  zero_nested : {m : Valuation} → Within (nested_system N) m → (v : ℕ) → n ≤ v → m v ≡ pos 0
  zero_nested w v l = past_zero N.plain (record { inside = w.inside }) v l

  -- a reduct that has a model is one of an assignment that has 0 there
  assigned_past : {θ m : Valuation} → Model (system (plainly N)) θ m → (v : ℕ) → top ≤ v → θ v ≡ pos 0
  assigned_past {θ} {m} k v l =
      let f : T (not (is_founded (variable_in ws v))) = rw (past_all vs ts v l) tt in
      sym (k.standard v f) ∙ zero_past k.within v l

  -- ---- constraints

  constraints_same : {θ θ' : Valuation} → Extends n θ θ' → (i : ℕ) → i < length N.plain.constraints
      → let c = constraint_in N.plain.constraints i in satisfied c (λ j. θ' (term_in c.terms j).variable) ≡ satisfied c (λ j. θ (term_in c.terms j).variable)
  constraints_same e i h = constraint_same vs (constraint_in N.plain.constraints i)
      (all_at (λ c. item_refusal vs (constraint c) ≡ 0) no_constraint N.plain.constraints fine.fine_constraints i h) e

  -- ---- the least model does not depend on what the added variables are assigned

  least_unread : {θ θ' m : Valuation} → Extends n θ θ' → ((v : ℕ) → top ≤ v → θ' v ≡ θ v) → Least (system (plainly N)) θ m → Least (system (plainly N)) θ' m
  least_unread e p l = record {
    model = model_unread fine e p l.model;
    floor = record { under = λ m' k v. l.floor.under m' (model_unread fine (record { same = λ v h. sym (e.same v h) }) (λ v h. sym (p v h)) k) v };
  }

  -- ---- a stable assignment of the nested program

  module _ {θ : Valuation} (st : NestedStable N θ) where
    abbrev e : Valuation
    e = extended N θ θ

    restricted_is : restricted n e ≡ θ
    restricted_is = fun_ext (λ v. cases (ltb v n) (λ b. cond b (e v) (pos 0) ≡ θ v) (λ l. (extended_extends fine θ θ).same v (ltb→lt v n l))
        (λ l. sym (zero_nested st.meets.ranges v (nltb→le v n l))))

    extension_model : Model (system (plainly N)) e e
    extension_model = model_extended fine st.meets.ranges st.least.model (extended_extends fine θ θ) (extended_past fine θ θ)

    extension_least : Least (system (plainly N)) e e
    extension_least = record { model = extension_model; floor = record { under = λ m k v. record { le = under m k v } } }
      where
        declared : (m : Valuation) → Model (system (plainly N)) e m → (v : ℕ) → v < n → T (not_past (variable_in vs v) (θ v) (m v))
        declared m k v l = rw (lt-ltb v n l) at
            (st.least.floor.under (restricted n m) (subst (λ a. Model (nested_system N) a (restricted n m)) restricted_is (model_restricted fine k)) v).le

        under : (m : Valuation) → Model (system (plainly N)) e m → (v : ℕ) → T (not_past (variable_in ws v) (e v) (m v))
        under m k v = number_ways vs ts (λ v. T (not_past (variable_in ws v) (e v) (m v))) v
            (λ l. rw (variable_same vs (added_variables vs ts) v l, (extended_extends fine θ θ).same v l) (declared m k v l))
            (added_later fine k θ (extended_extends fine θ θ) (declared m k) v)
            (λ l. rw (extended_past fine θ θ v l, zero_past k.within v l) (past_refl (variable_in ws v) (pos 0)))

    extension_stable : Stable (plainly N) e
    extension_stable = record {
      meets = record {
        ranges = extension_model.within;
        rules = extension_model.rules;
        constraints = λ i h. constraints_same (extended_extends fine θ θ) i h ∙ st.meets.constraints i h;
      };
      least = extension_least;
    }

    pub extends_once : ExtendsOnce n (plainly N) θ
    extends_once = record {
      extension = e;
      extends = extended_extends fine θ θ;
      stable = extension_stable;
      only = λ θ' x s. least_unique s.least
          (least_unread (record { same = λ v l. x.same v l ∙ sym ((extended_extends fine θ θ).same v l) })
          (λ v l. zero_past s.meets.ranges v l ∙ sym (extended_past fine θ θ v l)) extension_least);
    }

  -- ---- a stable assignment of the plain program

  pub none_other : {θ : Valuation} → Stable (plainly N) θ → NestedStable N (restricted n θ)
  none_other {θ} st = record {
    meets = record {
      ranges = k.within;
      rules = k.rules;
      constraints = λ i h. sym (constraints_same (restricted_extends fine θ) i h) ∙ st.meets.constraints i h;
    };
    least = record { model = k; floor = record { under = λ m j v. record { le = under m j v } } };
  }
    where
      k : Model (nested_system N) (restricted n θ) (restricted n θ)
      k = model_restricted fine st.least.model

      under : (m : Valuation) → Model (nested_system N) (restricted n θ) m → (v : ℕ) → T (not_past (variable_in vs v) (restricted n θ v) (m v))
      under m j v =
          let a = extended_extends fine m (restricted n θ) in
          let f = (st.least.floor.under (extended N m (restricted n θ)) (model_extended fine k.within j (restricted_extends fine θ) (zero_past st.meets.ranges)) v).le in
          cases (ltb v n) (λ b. T (not_past (variable_in vs v) (cond b (θ v) (pos 0)) (m v)))
          (λ l. rw (variable_same vs (added_variables vs ts) v (ltb→lt v n l), a.same v (ltb→lt v n l)) at f)
          (λ l. rw (zero_nested j.within v (nltb→le v n l)) (past_refl (variable_in vs v) (pos 0)))

  -- ---- how a plan of a nested program is checked

  module _ {θ θ' m : Valuation} (x : Extends n θ θ') (least : Least (system (plainly N)) θ' m) where
    restricted_completed : restricted n (completed n θ m) ≡ restricted n θ
    restricted_completed = fun_ext (λ v. cases (ltb v n) (λ b. cond b (cond b (θ v) (m v)) (pos 0) ≡ cond b (θ v) (pos 0)) (λ l. refl) (λ l. refl))

    completed_stable : NestedStable N (restricted n θ) → Stable (plainly N) (completed n θ m)
    completed_stable st = subst (Stable (plainly N)) (fun_ext same) o.stable
      where
        o : ExtendsOnce n (plainly N) (restricted n θ)
        o = extends_once st

        declared : (v : ℕ) → v < n → o.extension v ≡ θ v
        declared v l = o.extends.same v l ∙ rw (lt-ltb v n l)

        found : (v : ℕ) → o.extension v ≡ m v
        found = least_unique (least_unread (record { same = λ v l. x.same v l ∙ sym (declared v l) })
            (λ v l. assigned_past least.model v l ∙ sym (zero_past o.stable.meets.ranges v l)) o.stable.least) least

        same : (v : ℕ) → o.extension v ≡ completed n θ m v
        same v = cases (ltb v n) (λ b. o.extension v ≡ cond b (θ v) (m v)) (λ l. declared v (ltb→lt v n l)) (λ l. found v)

    pub as_checked : NestedStable N (restricted n θ) ↔ Stable (plainly N) (completed n θ m)
    as_checked = (completed_stable, λ st. subst (NestedStable N) restricted_completed (none_other st))

pub same_stable : {N : Nested} → FineNested N → SameStable (length N.plain.variables) N (flatten N)
unfolding flatten
same_stable {N} fine = record {
  extends_once = λ θ st. extends_once fine st;
  none_other = λ θ st. none_other fine st;
  never_read = λ θ θ' m x p k. model_unread fine x (λ v l. p v (omega (arith, all_length N.plain.variables N.trees))) k;
  as_checked = λ θ θ' m x l. as_checked fine x l;
}
