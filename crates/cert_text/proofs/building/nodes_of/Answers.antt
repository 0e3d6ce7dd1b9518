use Rattle.std.proofs.Common.{◌≡◌, List, All, subst}
use Rattle.cert_lines.specs.declared.line.Line.{Line}
use Rattle.cert_lines.specs.declared.line.Line.TheVariants.{End}
use Rattle.cert_lines.specs.Limits.{IsWithin}
use Rattle.cert_text.specs.Building.{first_node, one_node_more, nodes_of}
use Rattle.cert_text.proofs.Builders.{dropped_within, rest_is, node_turn}
use Rattle.cert_text.proofs.building.nodes_of.Goals as goal

pub loop-i-preserved : goal.loop-i-preserved
loop-i-preserved c = λ within.
    node_turn c.args.lines.now c.loop-i.i End c.loop-i.nodes c.add_node.new.nodes (nodes_of c.args.lines.now) c.loop-i-test.true (c.loop-i.invariant within)
    (subst (λ (lines : List Line). All IsWithin lines → c.add_node.new.nodes ≡ one_node_more c.loop-i.nodes (first_node lines)) (rest_is c.loop-i.i c.args.lines.now)
    c.in_ok-add_node.ensures (dropped_within c.loop-i.i c.args.lines.now within))
