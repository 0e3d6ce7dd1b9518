use Rattle.std.proofs.Common.{◌≡◌, ◌++◌, drop}
use Rattle.cert_text.specs.Building.{first_shares}
use Rattle.cert_text.proofs.building.first_shares.Given as goal

-- the lines before are shares
abbrev pub invariant-loop-i : goal.invariant-loop-i
invariant-loop-i l = first_shares l.lines ≡ l.shares ++ first_shares (drop l.i l.lines)
