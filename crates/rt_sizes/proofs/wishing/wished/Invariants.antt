use Rattle.std.proofs.Common.{◌≡◌, ◌++◌, drop, map, Some, Option}
use Rattle.rt_tech.specs.declared.sizes.Wish.{Wish}
use Rattle.rt_sizes.specs.Wishes.{lacking_fault, wished_from}
use Rattle.rt_sizes.proofs.wishing.wished.Given as goal

abbrev pub invariant-loop-device : goal.invariant-loop-device
invariant-loop-device l = record {
  rest_at_fault : lacking_fault l.book.sizes.now 0 l.kinds ≡ lacking_fault l.book.sizes.now l.device (drop l.device l.kinds);
  rest_wished : wished_from l.book.sizes.now 0 l.kinds ≡ map {A = Wish} {B = Option Wish} Some l.wishes ++ wished_from l.book.sizes.now l.device (drop l.device l.kinds);
}
