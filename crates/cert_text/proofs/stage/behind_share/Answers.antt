use Rattle.cert_text.proofs.Staging.{share_next}
use Rattle.cert_text.proofs.stage.behind_share.Goals as goal

pub returns-in-Share : goal.returns-in-Share
returns-in-Share c = share_next c.args.shares c.args.trees c.args.last c.args.line.now _ _ c.requires c.in-Share.is
