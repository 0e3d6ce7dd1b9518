-- What is made once of strips along rows.
use Rattle.std.specs.Prelude.{ℕ, List}
use Rattle.rt_strips.specs.declared.listing.Strip.{Strip}
use Rattle.rt_drc.specs.declared.axes.Axes.{Axes}
use Rattle.rt_drc.specs.Rows.{cells_of, turned_cells_of, AreRowsOf}

-- the strips of so many masks have these seams, and the columns are the strips of the exchanged cells, with theirs
pub record AreAxesOf (masks : ℕ) (strips : List Strip) (axes : Axes) : Type 0 where
  pub rows : AreRowsOf (cells_of strips) masks strips axes.seams
  pub columns : AreRowsOf (turned_cells_of strips) masks axes.columns.items axes.column_seams
