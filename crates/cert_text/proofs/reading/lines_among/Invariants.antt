use Rattle.cert_lines.specs.Guesses.{bytes_of}
use Rattle.cert_text.specs.Taking.{AreOnly}
use Rattle.cert_text.proofs.reading.lines_among.Given as goal

-- the lines of the texts before
abbrev pub invariant-loop-i : goal.invariant-loop-i
invariant-loop-i l = AreOnly (bytes_of l.texts) l.i l.lines
