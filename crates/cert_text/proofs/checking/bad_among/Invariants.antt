use Rattle.std.proofs.Common.{take}
use Rattle.cert_lines.specs.Guesses.{bytes_of}
use Rattle.cert_text.specs.Reached.{IsReached}
use Rattle.cert_text.proofs.checking.bad_among.Given as goal

-- the lines before have been read
abbrev pub invariant-loop-i : goal.invariant-loop-i
invariant-loop-i l = IsReached (take l.i (bytes_of l.whole)) l.stage
