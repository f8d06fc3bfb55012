-- The least model is compared with the assignment, and where some variable is short the report shows it.
use mathlib.Core.Path.{refl, sym, ◌∙◌}
use borrow.Author.Rules.{rules}
use Rattle.format.specs.Limits.{max_variables}
use Rattle.words.specs.Bit.{has}
use Rattle.reader.proofs.Published.{limited}
use Rattle.reduct.proofs.Fills.{zeros}
use Rattle.comparison.proofs.FoundedLaws.{starts_past, none_short, short_few, shown_room, shown_small, some_short}
use Rattle.comparison.proofs.comparing.compare.Goals as goal

pub run-requires : goal.run-requires
run-requires c = record { accepted_as = c.requires.accepted_as; within = λ P x. (c.requires.meets P x).ranges; rule_met = λ t P x. (c.requires.meets P x).rules; level_past = c.requires.level_past; by_index = starts_past c.args.file.now c.args.counts c.requires.accepted_as c.args.assigned.now c.requires.meets _ (zeros max_variables); model_len = refl }

pub short_set-set-requires : goal.short_set-set-requires
short_set-set-requires c = let f = limited c.requires.accepted_as in (f.inside, f.few_variables)

pub returns-then-count-eq0 : goal.returns-then-count-eq0
returns-then-count-eq0 c = none_short c.args.file.now c.args.counts c.requires.accepted_as c.args.assigned.now c.requires.meets c.run.new.model c.run.result c.run.ensures.ends_with
    c.args.report.now (has c.short_set-set.result.words) c.short_set-set.ensures (sym c.count.ensures ∙ c.if-count-eq0.true)

pub in_parts-parts-requires : goal.in_parts-parts-requires
in_parts-parts-requires c = let f = limited c.requires.accepted_as in record {
  variables_in_bounds = (f.inside, f.few_variables);
  by_index = short_few c.args.file.now c.args.counts c.requires.accepted_as c.args.assigned.now c.requires.meets c.run.new.model c.run.result c.run.ensures.ends_with
      c.args.report.now (has c.short_set-set.result.words) c.short_set-set.ensures;
}

pub show-requires : goal.show-requires
show-requires c = record {
  words_in_bounds = shown_room c.args.file.now c.args.counts c.requires.accepted_as c.args.assigned.now c.requires.meets c.run.new.model c.run.result c.run.ensures.ends_with
      c.args.report.now (has c.short_set-set.result.words) c.short_set-set.ensures c.in_parts-parts.result c.in_parts-parts.ensures (has c.asked-conditions.result.most.words) (has c.asked-conditions.result.least.words) c.asked-conditions.ensures.v_value c.asked-conditions.ensures.v_value_2 c.requires.variables_in_bounds;
  small = shown_small c.args.file.now c.args.counts c.requires.accepted_as c.args.assigned.now c.requires.meets c.run.new.model c.run.result c.run.ensures.ends_with
      c.args.report.now (has c.short_set-set.result.words) c.short_set-set.ensures c.in_parts-parts.result c.in_parts-parts.ensures (has c.asked-conditions.result.most.words) (has c.asked-conditions.result.least.words) c.asked-conditions.ensures.v_value c.asked-conditions.ensures.v_value_2;
}

pub returns : goal.returns
returns c = some_short c.args.file.now c.args.counts c.requires.accepted_as c.args.assigned.now c.requires.meets c.run.new.model c.run.result c.run.ensures.ends_with
    c.args.report.now (has c.short_set-set.result.words) c.short_set-set.ensures c.in_parts-parts.result c.in_parts-parts.ensures _ _
    c.asked-conditions.ensures.v_value c.asked-conditions.ensures.v_value_2 (λ x. c.if-count-eq0.false (c.count.ensures ∙ x)) _ _ c.show.ensures
