use Rattle.std.proofs.Common.{◌≡◌, drop}
use Rattle.cert_text.specs.Building.{behind_heading}
use Rattle.cert_text.proofs.building.behind_heading.Given as goal

-- the heading isn't among the lines before
abbrev pub invariant-loop-i : goal.invariant-loop-i
invariant-loop-i l = behind_heading l.heading l.lines ≡ behind_heading l.heading (drop l.i l.lines)
