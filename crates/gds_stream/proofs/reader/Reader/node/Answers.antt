use Rattle.gds_grammar.specs.Format.{node}
use Rattle.gds_stream.proofs.Values.{node_is}
use Rattle.gds_stream.proofs.reader.Reader.node.Goals as goal

pub returns : goal.returns
unfolding node
returns c = let a = c.in_ok-area.ensures.gives in (a.0, a.1, node_is _ _ _ _ _ a.2)
