use Rattle.gds_stream.proofs.Peeking.{comes, comes_not}
use Rattle.gds_stream.proofs.reader.Reader.peek.Goals as goal

pub returns-in-Ok-clause-next : goal.returns-in-Ok-clause-next
returns-in-Ok-clause-next c = comes _ _ _ _ c.args.self.now c.self.inside.ahead c.in-Ok.ahead c.body_of.result.now c.self.view_is c.self.invariant.1 c.in-Ok.is c.body_of.ensures

pub returns-in-Err-clause-next : goal.returns-in-Err-clause-next
returns-in-Err-clause-next c = rw c.fault.ensures (comes_not _ _ _ _ c.args.self.now c.self.inside.ahead c.in-Err.cause c.self.view_is c.self.invariant.1 c.in-Err.is)
