use Rattle.std.proofs.Common.{subst}
use Rattle.cert_lines.specs.Read.{IsRead}
use Rattle.cert_text.proofs.Staging.{is_step}
use Rattle.cert_text.proofs.checking.step.Goals as goal

pub returns-in-Some : goal.returns-in-Some
returns-in-Some c = is_step c.args.stage.now c.args.text.now c.in-Some.line c.next.result (subst (IsRead c.args.text.now) c.in-Some.is c.in_ok-line.ensures) c.next.ensures
