use Rattle.rt_tableau.proofs.NewLines.{place_first, place_behind}
use Rattle.rt_tableau.proofs.exchange.place.Goals as goal

pub returns-then-s-eq0-clause-is : goal.returns-then-s-eq0-clause-is
returns-then-s-eq0-clause-is c = place_first c.args.s c.args.columns c.if-s-eq0.true

pub returns-else-s-eq0-clause-is : goal.returns-else-s-eq0-clause-is
returns-else-s-eq0-clause-is c = place_behind c.args.s c.args.columns c.requires c.if-s-eq0.false
