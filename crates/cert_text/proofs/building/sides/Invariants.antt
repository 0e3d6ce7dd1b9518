use Rattle.std.proofs.Common.{◌≡◌, All, map, take}
use Rattle.cert_lines.specs.Limits.{IsPlace}
use Rattle.cert_text.specs.Building.{side_of}
use Rattle.cert_text.proofs.building.sides.Given as goal

-- the sides of the lines before
abbrev pub invariant-loop-line : goal.invariant-loop-line
invariant-loop-line l = All (λ line. IsPlace (side_of l.side line)) l.lines → l.places ≡ map (side_of l.side) (take l.line-index l.lines)
