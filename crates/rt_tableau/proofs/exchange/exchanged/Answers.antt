use Rattle.std.proofs.Common.{subst}
use Rattle.std.specs.Result.{MatchResult}
use Rattle.rt_tableau.specs.Tables.{table_of, IsNewKept, IsNewPast}
use Rattle.rt_tableau.proofs.NewLines.{new_further}
use Rattle.rt_tableau.proofs.exchange.exchanged.Goals as goal

pub loop-i-preserved : goal.loop-i-preserved
loop-i-preserved c =
    let table = table_of c.args.lines.now in
    new_further table c.loop-i.i c.args.columns c.args.p c.args.q c.loop-i.new.items c.push.new.self.items c.in-Ok.line c.loop-i.invariant c.in_ok-push-in-Ok.ensures.items
    (subst (λ r. MatchResult r (IsNewKept table c.args.columns c.args.p c.args.q c.loop-i.i) (IsNewPast table c.args.columns c.args.p c.args.q c.loop-i.i)) c.in-Ok.is c.in_ok-line.ensures)
