use Rattle.std.proofs.Common.{◌≡◌, drop}
use Rattle.cert_text.specs.Beginnings.{behind_first_line}
use Rattle.cert_text.proofs.beginning.behind_first_line.Given as goal

-- the first line feed stands behind the bytes before
abbrev pub invariant-loop-i : goal.invariant-loop-i
invariant-loop-i l = behind_first_line l.text ≡ behind_first_line (drop l.i l.text)
