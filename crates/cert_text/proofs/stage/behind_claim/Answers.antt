use Rattle.cert_text.proofs.Staging.{done_next, none_across_next, none_upwards_next}
use Rattle.cert_text.proofs.stage.behind_claim.Goals as goal

pub returns-in-Done : goal.returns-in-Done
returns-in-Done c = done_next c.args.line.now _ _ c.in-Done.is

pub returns-in-NoneAcross : goal.returns-in-NoneAcross
returns-in-NoneAcross c = none_across_next c.args.line.now c.in-NoneAcross.is

pub returns-in-NoneUpwards : goal.returns-in-NoneUpwards
returns-in-NoneUpwards c = none_upwards_next c.args.line.now _ c.in-NoneUpwards.is
