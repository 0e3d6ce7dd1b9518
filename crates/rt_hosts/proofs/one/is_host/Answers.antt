use Rattle.std.proofs.Common.{arith}
use Rattle.std.proofs.lemmas.Int.{ints}
use Rattle.rt_hosts.proofs.one.is_host.Goals as goal
use Rattle.rt_hosts.proofs.one.is_host.Goals.{then-strip-at-2-via-then-strip-at-2, then-strip-at-2-via-else-strip-at-2+then-at-strip-2}

pub returns-then-strip-at-2 : goal.returns-then-strip-at-2
returns-then-strip-at-2 c = λ h. elim c.then-strip-at-2.branch [
  | then-strip-at-2-via-then-strip-at-2 w ↦ omega (arith, ints, h.rows.second, h.rows.first, w.if-strip-at-2.true)
  | then-strip-at-2-via-else-strip-at-2+then-at-strip-2 w ↦ omega (arith, ints, h.rows.second, h.rows.first, w.if-at-strip-2.true)
]

pub returns : goal.returns
returns c = record {
  of_mask = omega arith;
  columns = record { first = omega (arith, ints); second = omega (arith, ints) };
  rows = record { first = omega (arith, ints); second = omega (arith, ints) };
}
