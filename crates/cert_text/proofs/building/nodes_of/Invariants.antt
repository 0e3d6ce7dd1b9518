use Rattle.std.proofs.Common.{◌≡◌, ◌++◌, All, drop}
use Rattle.cert_lines.specs.Limits.{IsWithin}
use Rattle.cert_text.specs.Building.{nodes_of}
use Rattle.cert_text.proofs.building.nodes_of.Given as goal

-- the nodes of the lines before
abbrev pub invariant-loop-i : goal.invariant-loop-i
invariant-loop-i l = All IsWithin l.lines → nodes_of l.lines ≡ l.nodes ++ nodes_of (drop l.i l.lines)
