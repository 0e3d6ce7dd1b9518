use Rattle.std.proofs.Common.{refl, arith}
use Rattle.gds_stream.proofs.Peeking.{none_ahead, fault_ahead, one_ahead}
use Rattle.gds_stream.proofs.reader.look.Goals as goal

pub returns-then-at-bytes : goal.returns-then-at-bytes
returns-then-at-bytes c = none_ahead c.args.bytes.now c.args.at c.if-at-bytes.true

pub returns-in-Ok : goal.returns-in-Ok
returns-in-Ok c = one_ahead c.args.bytes.now c.args.at c.in-Ok.part _ (omega arith) c.in-Ok.ensures.exact.0 c.in-Ok.ensures.exact.1 c.in-Ok.ensures.part.1 refl

pub returns-in-Err : goal.returns-in-Err
returns-in-Err c = rw c.cause_of.ensures (fault_ahead c.args.bytes.now c.args.at c.in-Err.error (omega arith) c.in-Err.ensures.exact)
