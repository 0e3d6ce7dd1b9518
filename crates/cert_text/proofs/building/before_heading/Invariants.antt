use Rattle.std.proofs.Common.{◌≡◌, ◌++◌, take, drop}
use Rattle.cert_text.specs.Building.{before_heading}
use Rattle.cert_text.proofs.building.before_heading.Given as goal

-- the heading isn't among the lines before
abbrev pub invariant-loop-i : goal.invariant-loop-i
invariant-loop-i l = before_heading l.heading l.lines ≡ take l.i l.lines ++ before_heading l.heading (drop l.i l.lines)
