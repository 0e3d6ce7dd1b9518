use Rattle.cert_text.proofs.Staging.{across_next}
use Rattle.cert_text.proofs.stage.behind_across.Goals as goal

pub returns-in-Across : goal.returns-in-Across
returns-in-Across c = across_next c.args.line.now c.in-Across.is
