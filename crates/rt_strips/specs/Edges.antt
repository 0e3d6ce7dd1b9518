-- Edges in order of mask, then height, then left end.
use Rattle.std.specs.Prelude.{◌≡◌, false, ℕ, ◌<◌, List, length, slice_index_or}
use Rattle.std.specs.Ordering.{nat_cmp, int_cmp, ordering_then, is_lt}
use Rattle.std.specs.declared.cmp.Ordering.{Ordering}
use Rattle.rt_strips.specs.declared.meeting.Edge.{Edge}

-- how two edges compare by mask, then height, then left end
abbrev pub compare_places : Edge → Edge → Ordering
compare_places a b = ordering_then (ordering_then (nat_cmp a.mask b.mask) (int_cmp a.height b.height)) (int_cmp a.left b.left)

-- no edge comes before an earlier one
pub record IsSortedByPlace (edges : List Edge) : Type 0 where
  pub sorted : (i j : ℕ) (d : Edge) → i < j → j < length edges → is_lt (compare_places (slice_index_or edges j d) (slice_index_or edges i d)) ≡ false
