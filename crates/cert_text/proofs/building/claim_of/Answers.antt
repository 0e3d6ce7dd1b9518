use Rattle.cert_text.proofs.Builders.{of_known}
use Rattle.cert_text.proofs.building.claim_of.Goals as goal

pub returns : goal.returns
returns c = of_known c.in_ok-claim.claim c.before_heading-header.result.now c.behind_heading-body.result.now c.args.lines.now c.before_heading-header.ensures c.behind_heading-body.ensures c.in_ok-claim.ensures
