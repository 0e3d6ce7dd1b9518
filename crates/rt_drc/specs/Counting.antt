-- The strips of a mask that a rule counts: all of them, or those with one lower mask.
use Rattle.std.specs.Prelude.{◌≡◌, ℕ, ℤ, List, map, slice_index, IfSome}
use Rattle.rt_strips.specs.declared.listing.Strip.{Strip}
use Rattle.rt_strips.specs.Placed.{Placed, placed}
use Rattle.rt_family.specs.Strips.{CoveredBy}
use Rattle.rt_drc.specs.declared.counting.Counted.{Counted}
use Rattle.rt_pieces.specs.Members.{IsOf, box_of, held_by}

-- strip i is of the mask, and has the lower mask if one is asked for
pub record IsCounted (counted : Counted) (strips : List Placed) (i : ℕ) : Type 0 where
  pub strip : IsOf counted.mask strips i
  pub on : IfSome counted.lower (λ l. slice_index counted.lowers.now i ≡ l)

-- a counted strip holds the cell
abbrev pub counted_cells : Counted → List Strip → ℤ → ℤ → Type 0
counted_cells counted strips = CoveredBy (IsCounted counted (map placed strips)) (box_of (map placed strips))

-- what the counted strips cover lies in another mask
pub record LieIn (counted : Counted) (mask : ℕ) (strips : List Strip) : Type 0 where
  pub lies : (x y : ℤ) → counted_cells counted strips x y → held_by mask strips x y
