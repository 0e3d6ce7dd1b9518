use Rattle.cert_text.proofs.Taken.{claim_found}
use Rattle.cert_text.proofs.reading.claim_in.Goals as goal

pub returns : goal.returns
returns c = claim_found c.args.text.now c.in_ok-lines.lines c.as_slice.result.now c.in_ok-claim.claim c.requires c.in_ok-lines.ensures c.as_slice.ensures c.in_ok-claim.ensures
