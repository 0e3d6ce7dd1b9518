use Rattle.std.proofs.Common.{refl, arith}
use Rattle.gds_stream.proofs.ZerosBehind.{zeros_stop}
use Rattle.gds_stream.proofs.reader.first_other.Goals as goal

pub returns-then-byte-ne0 : goal.returns-then-byte-ne0
returns-then-byte-ne0 c = zeros_stop c.args.bytes.now c.loop-i.i _ (omega arith) refl c.if-byte-ne0.true c.loop-i.invariant
