use Rattle.gds_records.proofs.Turns.{no_whole}
use Rattle.gds_records.proofs.real.whole_real.Goals as goal

pub returns-in_default : goal.returns-in_default
returns-in_default c = no_whole c.args.bytes c.parts_of-parts.result.exponent c.parts_of-parts.result.fraction c.parts_of-parts.ensures.exponent c.parts_of-parts.ensures.fraction c.in_default.ensures
