use Rattle.cert_text.specs.Claims.{strip_line}
use Rattle.cert_text.proofs.Strips.{put_more}
use Rattle.cert_text.proofs.writing.put_strips.Goals as goal

pub loop-i-preserved : goal.loop-i-preserved
loop-i-preserved c = put_more (strip_line c.args.at.now) c.loop-i.i _ _ _ c.loop-i.invariant c.in_ok-put_strip.ensures
