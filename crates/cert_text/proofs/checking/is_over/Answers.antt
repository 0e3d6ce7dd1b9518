use Rattle.cert_text.proofs.Staging.{still_open}
use Rattle.cert_text.proofs.checking.is_over.Goals as goal

pub returns-in_default : goal.returns-in_default
returns-in_default c = still_open c.args.stage.now c.in_default.not-Over
