use Rattle.std.proofs.Common.{length, sym}
use Rattle.cert_lines.specs.Guesses.{bytes_of}
use Rattle.cert_text.proofs.Parting.{parts_known, some_parts, many}
use Rattle.cert_text.proofs.Taken.{all_only}
use Rattle.cert_text.proofs.reading.lines_of.Goals as goal

pub returns-in-Some : goal.returns-in-Some
returns-in-Some c =
    all_only c.args.text.now (bytes_of c.in-Some.whole.now) c.in-Some._last.now.now (length c.in-Some.whole.now) c.in_ok-lines-in-Some.lines
    (parts_known c.args.text.now c.in_ok-parts.parts.items c.as_slice.result.now c.in-Some.whole.now c.in-Some._last.now c.in_ok-parts.ensures c.as_slice.ensures.value c.in-Some.ensures.cases.0)
    (sym (many c.in-Some.whole.now)) c.in_ok-lines-in-Some.ensures

pub returns : goal.returns
returns c = absurd (some_parts c.args.text.now c.in_ok-parts.parts.items c.as_slice.result.now c.in_ok-parts.ensures c.as_slice.ensures.value c.in-None.ensures.cases)
