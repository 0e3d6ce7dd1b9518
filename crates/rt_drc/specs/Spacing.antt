-- What the search for a breach of the space rule rests on.
use Rattle.std.specs.Prelude.{◌≡◌, ℕ, ◌<◌, ◌^◌, ℤ, pos, ◌≤ℤ◌, ◌↔◌, length, map}
use Rattle.rt_strips.specs.Placed.{placed}
use Rattle.rt_strips.specs.Seams.{AreSeamsOf}
use Rattle.rt_drc.specs.declared.reach.Reach.{Reach}
use Rattle.rt_drc.specs.declared.rows.Rows.{Rows}
use Rattle.rt_pieces.specs.Members.{AreOfFamily, held_by}

-- the strips along rows and along columns have numbers of 32 bits
pub record AreFew (rows columns : Rows) : Type 0 where
  pub rows_few : length rows.strips.now < 2 ^ 32
  pub columns_few : length columns.strips.now < 2 ^ 32

-- the strips of mask m along rows and along columns are families that hold the same cells, with all seams of those along rows
pub record AreFamilies (m : ℕ) (rows columns : Rows) : Type 0 where
  pub rows_family : AreOfFamily m rows.strips.now
  pub columns_family : AreOfFamily m columns.strips.now
  pub same_cells : (x y : ℤ) → held_by m rows.strips.now x y ↔ held_by m columns.strips.now y x
  pub seams : AreSeamsOf (map placed rows.strips.now) rows.seams.now

-- gaps reach as far across as pieces reach on both axes
pub record AreReaches (gaps pieces : Reach) : Type 0 where
  pub some : pos 1 ≤ℤ gaps.across
  pub in_row : gaps.upwards ≡ pos 0
  pub same_across : pieces.across ≡ gaps.across
  pub same_upwards : pieces.upwards ≡ gaps.across
