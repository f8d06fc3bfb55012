use Rattle.noderules.specs.NodeRules.{PutIn}
use native.Mathlib.Omega.{arith}
use Rattle.noderules.proofs.Putting.{puts, puts_same, puts_more}
use Rattle.noderules.proofs.Rules.{header_bytes, node_bytes_is}
use Rattle.noderules.proofs.put_node.Goals as goal

pub returns : goal.returns
returns c = let p : PutIn (header_bytes c.args.node) c.args.out.now c.args.at _ _ = puts c.put-end.ensures in
    puts_same _ (node_bytes_is c.args.s.now c.args.node c.requires.0.few) (puts_more p (omega arith) c.put_terms.ensures)
