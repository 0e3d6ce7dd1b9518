use Rattle.std.proofs.Common.{◌≡◌, ◌++◌, take}
use Rattle.std.specs.List.{flat_map}
use Rattle.cert_lines.specs.Lines.{line_text}
use Rattle.cert_text.specs.Claims.{node_lines}
use Rattle.cert_text.proofs.writing.put_nodes.Given as goal

-- the lines of the nodes before were written
abbrev pub invariant-loop-node : goal.invariant-loop-node
invariant-loop-node l = l.out.items ≡ l.initial.out.items ++ flat_map line_text (flat_map node_lines (take l.node-index l.nodes))
