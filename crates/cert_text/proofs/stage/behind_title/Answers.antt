use Rattle.cert_text.proofs.Staging.{title_next}
use Rattle.cert_text.proofs.stage.behind_title.Goals as goal

pub returns-in-Title : goal.returns-in-Title
returns-in-Title c = title_next c.args.line.now c.in-Title.is
