use Rattle.cert_text.proofs.Staging.{strip_number, strip_next, behind_strips_next}
use Rattle.cert_text.proofs.stage.behind_strip.Goals as goal

pub returns-in-Strip : goal.returns-in-Strip
returns-in-Strip c = strip_next c.args.next c.args.line.now c.in-Strip.number _ _ _ _ (strip_number c.args.next c.in-Strip.number c.from.result c.args.line.now _ _ _ _ c.requires c.in-Strip.is c.from.ensures (record { sfits = c.from.type_inv }) c.if-number-from.true) c.in-Strip.is

pub returns-in-Across : goal.returns-in-Across
returns-in-Across c = behind_strips_next c.args.next c.args.line.now c.in-Across.is
