use Rattle.cert_text.proofs.Staging.{end_next, upwards_next}
use Rattle.cert_text.proofs.stage.behind_tree.Goals as goal

pub returns-in-End : goal.returns-in-End
returns-in-End c = end_next c.args.last c.args.line.now c.if-last.true c.in-End.is

pub returns-in-Upwards : goal.returns-in-Upwards
returns-in-Upwards c = upwards_next c.args.last c.args.line.now c.if-not-last.true c.in-Upwards.is
