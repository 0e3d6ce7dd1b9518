use Rattle.std.proofs.Common.{◌≡◌, ◌+◌, ◌-◌, ◌^◌, ◌<◌, min, [], length, drop}
use Rattle.gds_slabs.specs.Sweep.{swept}
use Rattle.gds_slabs.proofs.sweep.count_of.Given as goal

-- the count so far, and the rectangles of the toggles that are left
abbrev pub invariant-loop-toggle : goal.invariant-loop-toggle
invariant-loop-toggle l = record {
  fits : l.count < 2 ^ 64;
  counted : min (l.count + length (swept l.last.y l.columns.keys (drop l.toggle-index l.toggles))) (2 ^ 64 - 1)
      ≡ min (length (swept l.initial.last.y [] l.toggles)) (2 ^ 64 - 1);
}
