use Rattle.std.proofs.Common.{ℕ, List, [], Bor}
use Rattle.std.proofs.lemmas.List.{get_or-map}
use Rattle.cert_lines.specs.Guesses.{bytes_of}
use Rattle.cert_text.proofs.Parting.{within}
use Rattle.cert_text.proofs.Taken.{one_only}
use Rattle.cert_text.proofs.reading.lines_among.Goals as goal

pub loop-i-preserved : goal.loop-i-preserved
loop-i-preserved c =
    one_only (bytes_of c.args.texts.now) c.loop-i.i _ c.loop-i.lines c.push.new.self c.in_ok-line.line (within c.args.texts.now c.loop-i.i c.loop-i-test.true)
    (get_or-map (λ (w : Bor (List ℕ)). w.now) c.args.texts.now c.loop-i.i _ [] c.loop-i-test.true) c.loop-i.invariant c.in_ok-line.ensures c.in_ok-push.ensures.ok
