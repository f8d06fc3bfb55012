-- One rule more is entered at each turn, for every program that the file means.
use Prim.Native.Nat.{◌<◌}
use mathlib.Core.Path.{refl, ◌∙◌}
use native.Mathlib.Omega.{arith}
use lib.ListN.{length}
use Rattle.reader.proofs.Published.{counts_of_is}
use Rattle.tables.proofs.LaidLaws.{rules_few, rule_here}
use Rattle.tables.proofs.TableLaws.{standing_here, few_here, readers_none, readers_more, readers_all}
use Rattle.tables.proofs.fill_readers.Goals as goal

pub loop-i-init : goal.loop-i-init
loop-i-init c = (rules_few c.args.file.now c.args.offsets.now c.args.counts c.requires.accepted_as c.requires.offsets_of, refl, λ P x. readers_none P c.args.masks.now _ c.requires.by_index)

pub value_at-requires : goal.value_at-requires
value_at-requires c = (rule_here c.args.file.now c.args.offsets.now c.args.counts c.requires.accepted_as c.requires.offsets_of _ _ c.loop-i-test.true c.place_in-at.ensures).inside

pub enter_rule-requires : goal.enter_rule-requires
enter_rule-requires c = let h = rule_here c.args.file.now c.args.offsets.now c.args.counts c.requires.accepted_as c.requires.offsets_of _ _ c.loop-i-test.true c.place_in-at.ensures in
    record { k_lt_max_rules = (omega arith, (standing_here h c.value_at.ensures).headed, few_here h c.value_at.ensures); rows_in = λ j m. let d = (standing_here h c.value_at.ensures).declared j m in omega (arith, d, c.loop-i.invariant.1, c.requires.variables_in_bounds) }

pub loop-i-preserved : goal.loop-i-preserved
loop-i-preserved c = (
  omega arith,
  c.enter_rule.ensures.readers_len_unchanged ∙ c.loop-i.invariant.1,
  λ P x.
      let i : c.loop-i.i < length P.rules = omega (arith, (counts_of_is c.requires.accepted_as x).rules_are) in
      readers_more P c.loop-i.i _ _ c.args.masks.now _ _ x i (c.place_in-at.ensures ∙ c.requires.offsets_of P x c.loop-i.i i)
      c.mask_in-mask.ensures c.value_at.ensures c.enter_rule.ensures.entered (c.loop-i.invariant.2 P x),
)

pub returns : goal.returns
returns c = record { readers_len_unchanged = c.loop-i.invariant.1; readers_are = λ P x. readers_all P c.args.masks.now _ (omega (arith, (counts_of_is c.requires.accepted_as x).rules_are)) (c.loop-i.invariant.2 P x) }
