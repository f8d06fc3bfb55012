use mathlib.Core.Path.{ap, ◌∙◌}
use native.Mathlib.Omega.{arith}
use Rattle.program.specs.Fields.{value_at}
use Rattle.run.proofs.RunLaws.{lies, here_headed, here_evaluable}
use Rattle.sequence.proofs.links.link.Goals as goal

pub value_at-requires : goal.value_at-requires
value_at-requires c = rw c.place_in.ensures (lies (c.requires.1 c.loop-i.i (omega arith)).here).inside

pub link_rule-requires : goal.link_rule-requires
link_rule-requires c = let h = (c.requires.1 c.loop-i.i (omega arith)).here in
    let q = c.value_at.ensures ∙ ap (value_at c.args.file.now) c.place_in.ensures in
    (here_headed h q, (here_evaluable h q).few)
