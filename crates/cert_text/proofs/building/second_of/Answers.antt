use Rattle.cert_text.proofs.Builders.{second_known}
use Rattle.cert_text.proofs.building.second_of.Goals as goal

pub returns : goal.returns
returns c = second_known c.in_ok-proof.proof c.behind_heading-behind.result.now c.before_heading.result.now c.args.body.now c.behind_heading-behind.ensures c.before_heading.ensures c.in_ok-proof.ensures
