-- A value past the far end changes nothing; another is stored, and the readers join.
use Prim.Native.Nat.{ℕ, ◌+◌, ◌*◌}
use mathlib.Core.Path.{◌≡◌, refl, ap, ◌∙◌}
use mathlib.Core.Bool.{◌||◌}
use mir.Syntax.{w64}
use mir.Val.{to_z, of_z}
use borrow.Author.Rules.{rules}
use Rattle.format.specs.Limits.{max_rules}
use Rattle.words.specs.Bit.{has}
use Rattle.run.proofs.RaiseLaws.{stored, not_stored}
use Rattle.run.proofs.solve.raise.Goals as goal

pub returns-then-not-store : goal.returns-then-not-store
returns-then-not-store c = let z : to_z w64 (of_z w64 c.args.a) ≡ c.args.a = search rules in
    let n = not_stored c.args.x c.args.head c.args.a c.args.model.now c.store.new.model (rw z at c.store.ensures.stored) c.if-not-store.true in
    record { model_len_2 = c.store.ensures.model_len; waiting_len_2 = c.requires.waiting_len; lifted = (n.0, record { model_is = n.1; waiting_is = refl }) }

pub returns : goal.returns
returns c = let z : to_z w64 (of_z w64 c.args.a) ≡ c.args.a = search rules in
    let n = stored c.args.x c.args.head c.args.a c.args.model.now c.store.new.model (rw z at c.store.ensures.stored) c.if-not-store.false in
    record {
      model_len_2 = c.store.ensures.model_len;
      waiting_len_2 = c.join_readers.ensures.waiting_len_2;
      lifted = (
        n.0,
        record {
          model_is = n.1;
          waiting_is = λ i l. c.join_readers.ensures.by_index i l ∙ ap (λ (v : ℕ). has c.args.waiting.now i || has c.args.readers.now (max_rules * v + i)) c.wide.ensures.0;
        },
      );
    }
