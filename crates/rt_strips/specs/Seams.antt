-- Where a strip ends and others of its mask begin.
use Rattle.std.specs.Prelude.{◌≡◌, ℕ, ◌≤◌, ◌≤ℤ◌, List, AllPairs, Contains}
use Rattle.rt_strips.specs.declared.contact.Seam.{Seam}
use Rattle.rt_strips.specs.Placed.{Placed, left_of, right_of, bottom_of, top_of}
use Rattle.rt_strips.specs.Standing.{AreOfOneMask}

-- strip j begins in the row in which strip i of its mask ends, and over its columns or at one of its upper corners
pub record IsSeam (strips : List Placed) (i j : ℕ) : Type 0 where
  pub one_mask : AreOfOneMask strips i j
  pub adjoin : top_of strips i ≡ bottom_of strips j
  pub first : left_of strips i ≤ℤ right_of strips j
  pub second : left_of strips j ≤ℤ right_of strips i

-- the seams of the strips, all of them, in order of the strips that begin
pub record AreSeamsOf (strips : List Placed) (seams : List Seam) : Type 0 where
  pub each : (seam : Seam) → Contains seams seam → IsSeam strips seam.below seam.above
  pub every : (i j : ℕ) → IsSeam strips i j → Contains seams (record { below = i; above = j })
  pub upwards : AllPairs (λ (a b : Seam). a.above ≤ b.above) seams
