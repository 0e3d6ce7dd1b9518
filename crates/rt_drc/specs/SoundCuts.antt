-- What the strips of a sound source tell of its cuts.
use Rattle.std.specs.Prelude.{ℕ, ℤ, List, map}
use Rattle.rt_strips.specs.declared.listing.Strip.{Strip}
use Rattle.rt_strips.specs.Placed.{placed}
use Rattle.rt_tech.specs.declared.table.Tech.{Tech}
use Rattle.rt_view.specs.Lowers.{AreLowersOf}
use Rattle.rt_view.specs.Shapes.{IsCut, IsUpper}
use Rattle.rt_drc.specs.Rows.{cells_of}
use Rattle.rt_drc.specs.Squares.{AreOwnPieces}

-- each strip of a cut is a piece of it
pub record CutsAreStrips (tech : Tech) (strips : List Strip) : Type 0 where
  pub pieces : (m : ℕ) → IsCut tech m → AreOwnPieces m strips

-- the strips of a cut lie in its upper mask, and in the lower mask that the numbers tell and in no other
pub record CutsAreSound (tech : Tech) (strips : List Strip) (lowers : List ℕ) : Type 0 where
  pub in_upper : (m u : ℕ) → IsUpper tech m u → (x y : ℤ) → cells_of strips m x y → cells_of strips u x y
  pub in_lower : AreLowersOf tech (cells_of strips) (map placed strips) lowers
