-- The same value changes nothing; another is stored, and the readers join.
use mathlib.Core.Path.{◌≡◌, refl, sym, ap, ◌∙◌}
use mathlib.Core.Logic.{inl, inr}
use mir.Syntax.{w64}
use mir.Val.{to_z, of_z}
use lib.IntN.{pos}
use lib.ListN.{get_or, set, length-set}
use borrow.Author.Rules.{rules}
use Rattle.targets.proofs.landing.place.Goals as goal

pub returns-then-before-value : goal.returns-then-before-value
returns-then-before-value c = let m = get_or c.args.model.now c.args.v (pos 0) in
    let p : to_z w64 (of_z w64 m) ≡ m = search rules in
    let q : to_z w64 (of_z w64 c.args.value) ≡ c.args.value = search rules in
    record { model_len_2 = c.requires.model_len; waiting_len_2 = c.requires.waiting_len; placed_at = inl (sym p ∙ ap (to_z w64) c.if-before-value.true ∙ q, record { model_is = refl; waiting_is = refl }) }

pub returns : goal.returns
returns c = let q : to_z w64 (of_z w64 c.args.value) ≡ c.args.value = search rules in
    record {
      model_len_2 = simp length-set c.requires.model_len;
      waiting_len_2 = c.join_readers.ensures.waiting_len_2;
      placed_at = inr (
        λ e. c.if-before-value.false (ap (of_z w64) e),
        record { model_is = ap (set c.args.model.now c.args.v) q; waiting_is = c.join_readers.ensures.by_index },
      );
    }
