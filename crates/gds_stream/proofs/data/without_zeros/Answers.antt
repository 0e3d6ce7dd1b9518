use Rattle.std.proofs.Common.{arith}
use Rattle.gds_stream.proofs.Zeros.{zero_goes, none_left, other_left}
use Rattle.gds_stream.proofs.data.without_zeros.Goals as goal
use Rattle.gds_stream.proofs.data.without_zeros.Goals.{then-loop-end-test+else-bytes-end-eq0, else-loop-end-test}

pub loop-end-preserved : goal.loop-end-preserved
loop-end-preserved c = (omega arith, zero_goes c.args.bytes.now c.loop-end.end (omega arith) (omega arith) c.if-bytes-end-eq0.true c.loop-end.invariant.1)

pub returns : goal.returns
returns c =
    elim c.loop-end-test.branch [
      | then-loop-end-test+else-bytes-end-eq0 w ↦ other_left c.args.bytes.now c.loop-end.end (omega arith) (omega arith) w.if-bytes-end-eq0.false c.loop-end.invariant.1
      | else-loop-end-test w ↦ none_left c.args.bytes.now c.loop-end.end (omega arith) c.loop-end.invariant.1
    ]
