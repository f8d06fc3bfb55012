-- One rule after the other, each at its place.
use mathlib.Core.Path.{sym, ap, ◌∙◌}
use native.Mathlib.Omega.{arith}
use Rattle.words.specs.Bit.{has}
use Rattle.program.specs.Fields.{next_at}
use Rattle.reader.proofs.Published.{reads_accepts, counts_of_is, limited, first_rule, next_rule}
use Rattle.report.specs.Report.{asks_most, asks_least}
use Rattle.tables.proofs.TableLaws.{here}
use Rattle.conditions.proofs.AskLaws.{grown_none, grown_more}
use Rattle.conditions.proofs.AskedLaws.{asked_all}
use Rattle.conditions.proofs.asked.asked.Goals as goal

pub overflow_mul-at : goal.overflow_mul-at
overflow_mul-at c = let v = limited c.requires in omega arith

pub loop-i-init : goal.loop-i-init
loop-i-init c = λ P x. (omega (arith, first_rule x, (counts_of_is c.requires x).variables_are), grown_none _ _)

pub ask_field-next-requires : goal.ask_field-next-requires
ask_field-next-requires c = let a = reads_accepts c.requires in
    here c.requires a.accepts _ _ c.loop-i-test.true (c.loop-i.invariant a.meant a.accepts).0

pub next_at-at-requires : goal.next_at-at-requires
next_at-at-requires c = let a = reads_accepts c.requires in
    (here c.requires a.accepts _ _ c.loop-i-test.true (c.loop-i.invariant a.meant a.accepts).0).inside

pub loop-i-preserved : goal.loop-i-preserved
loop-i-preserved c = λ P x.
    let e = (c.loop-i.invariant P x).0 in
    (c.next_at-at.ensures ∙ ap (next_at c.args.file.now) e ∙ sym (next_rule c.args.file.now P _), grown_more _ _ (c.loop-i.invariant P x).1 (rw e at c.ask_field-next.ensures))

pub returns : goal.returns
returns c = record { v_value = λ P x v. asked_all c.args.file.now c.args.counts c.requires (has c.args.set.words) asks_most P x v (omega arith) c.empty-none.ensures (c.loop-i.invariant P x).1.most; v_value_2 = λ P x v. asked_all c.args.file.now c.args.counts c.requires (has c.args.set.words) asks_least P x v (omega arith) c.empty-none.ensures (c.loop-i.invariant P x).1.least }
