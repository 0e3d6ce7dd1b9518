use Rattle.std.proofs.Common.{◌≡◌, ◌++◌, map}
use Rattle.std.specs.Option.{option_to_list}
use Rattle.rt_base.specs.Plane.{area}
use Rattle.gds_slabs.specs.Sweep.{slab}
use Rattle.gds_slabs.proofs.Odds.{Rising}
use Rattle.gds_slabs.proofs.sweep.push_slab.Given as goal

-- the rectangles so far, and those of the columns that are left
abbrev pub invariant-loop-column : goal.invariant-loop-column
invariant-loop-column l = record {
  listed : map area l.rects ++ slab l.last.y l.next.y (option_to_list l.left ++ l.column-iterator) ≡ map area l.initial.rects ++ slab l.last.y l.next.y l.columns.keys;
  rises : Rising (option_to_list l.left ++ l.column-iterator);
  can : (goal.iterator-loop-column).can_next l.column-iterator;
  ends : (goal.iterator-loop-column).is_finite l.column-iterator;
}
