-- The tests go by the kind that is kept at the term.
use Rattle.program.specs.Program.{variable_in, variables_at}
use Rattle.ends.proofs.MaskLaws.{term_first, term_loose}
use Rattle.ends.proofs.masks.way_of.Goals as goal

pub returns : goal.returns
returns c = λ n q. record {
  first_is = term_first c.args.kinds.up c.args.kinds.down c.args.t c.kind_of-kind.ensures (variable_in (variables_at c.args.file.now n) c.args.t.variable) (c.variable-x.ensures n q) c.keeps-kept.ensures c.is_founded-founded.ensures;
  loose_is = term_loose c.args.kinds.up c.args.kinds.down c.args.t c.kind_of-kind.ensures c.is_mixed-mixed.ensures c.is_open-open.ensures;
}
