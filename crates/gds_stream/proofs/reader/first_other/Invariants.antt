use Rattle.std.proofs.Common.{◌≡◌, take, replicate}
use Rattle.gds_stream.proofs.reader.first_other.Given as goal

abbrev pub invariant-loop-i : goal.invariant-loop-i
invariant-loop-i l = take l.i l.bytes ≡ replicate l.i 0
