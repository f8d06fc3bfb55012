use Prim.Native.Nat.{ℕ, ◌*◌}
use mathlib.Core.Path.{◌≡◌, refl, sym, ap, ap₂, ◌∙◌}
use mathlib.Core.Bool.{◌||◌}
use lib.IntN.{ℤ}
use lib.ListN.{set}
use mir.Syntax.{w64}
use mir.Val.{to_z, of_z}
use borrow.Author.Rules.{rules}
use Rattle.format.specs.Limits.{max_number}
use Rattle.format.specs.Numbers.{beyond}
use Rattle.format.proofs.Ints.{within_small}
use Rattle.program.specs.Encode.{variable_bytes}
use Rattle.program.specs.declared.Variable.{Variable}
use Rattle.program.proofs.Conditions.{neither}
use Rattle.rewriting.specs.Writing.{put_at}
use Rattle.spans.proofs.fill_node.Goals as goal

pub returns-then-is_number_beyond : goal.returns-then-is_number_beyond
returns-then-is_number_beyond c =
    let x : to_z w64 (of_z w64 c.value-low.result) ≡ c.value-low.result = search rules in
    let y : to_z w64 (of_z w64 c.value-high.result) ≡ c.value-high.result = search rules in
    let e = ap₂ ◌||◌ (c.is_number_beyond.ensures ∙ ap (beyond max_number) (x ∙ c.value-low.ensures))
    (c.is_number_beyond-2.ensures ∙ ap (beyond max_number) (y ∙ c.value-high.ensures)) in
    record { far = sym e ∙ c.if-is_number_beyond.true; lows_kept = refl; highs_kept = refl; records_kept = refl }

pub put_record-requires : goal.put_record-requires
put_record-requires c =
    let x : to_z w64 (of_z w64 c.value-low.result) ≡ c.value-low.result = search rules in
    let y : to_z w64 (of_z w64 c.value-high.result) ≡ c.value-high.result = search rules in
    let e = ap₂ ◌||◌ (c.is_number_beyond.ensures ∙ ap (beyond max_number) (x ∙ c.value-low.ensures))
    (c.is_number_beyond-2.ensures ∙ ap (beyond max_number) (y ∙ c.value-high.ensures)) in
    let near = neither _ _ (sym e ∙ c.if-is_number_beyond.false) in
    record {
      records_len = (c.requires.tables.1, c.wide-v.ensures.1);
      low_bound = (rw (x ∙ c.value-low.ensures) (within_small _ _ near.0), rw (y ∙ c.value-high.ensures) (within_small _ _ near.1));
    }

pub returns : goal.returns
returns c =
    let x : to_z w64 (of_z w64 c.value-low.result) ≡ c.value-low.result = search rules in
    let y : to_z w64 (of_z w64 c.value-high.result) ≡ c.value-high.result = search rules in
    let e = ap₂ ◌||◌ (c.is_number_beyond.ensures ∙ ap (beyond max_number) (x ∙ c.value-low.ensures))
    (c.is_number_beyond-2.ensures ∙ ap (beyond max_number) (y ∙ c.value-high.ensures)) in
    let low = x ∙ c.value-low.ensures in
    let high = y ∙ c.value-high.ensures in
    record {
      near = sym e ∙ c.if-is_number_beyond.false;
      lows_set = ap₂ (set c.args.lows.now) c.wide-v.ensures.0 low;
      highs_set = ap₂ (set c.args.highs.now) c.wide-v.ensures.0 high;
      put =
          c.put_record.ensures
          ∙ ap₂ (λ (n : ℕ) (x : Variable). put_at c.args.records.now (8 * n) (variable_bytes x)) c.wide-v.ensures.0
          (ap₂ (λ (a b : ℤ). record { kind = c.args.kind; low = a; high = b }) low high);
    }
