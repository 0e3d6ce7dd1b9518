use Rattle.std.proofs.Common.{◌≡◌, drop}
use Rattle.rt_sizes.specs.SizesFile.{kind_from}
use Rattle.rt_sizes.proofs.sizes_entries.kind_named.Given as goal

abbrev pub invariant-loop-i : goal.invariant-loop-i
invariant-loop-i l = kind_from 0 l.name l.kinds ≡ kind_from l.i l.name (drop l.i l.kinds)
