-- The rectangles that a polygon becomes: between each two adjacent heights of its points, the runs of the cells inside.
use Rattle.std.specs.Prelude.{◌≡◌, ℕ, ◌^◌, ℤ, pos, ◌<ℤ◌, ◌⊎◌, List, [], ◌∷◌, length, All, Contains}
use Rattle.rt_base.specs.declared.plane.Point.{Point}
use Rattle.rt_base.specs.declared.plane.Rect.{Rect}
use Rattle.rt_base.specs.Plane.{area}
use Rattle.rt_cells.specs.Rectangles.{Rectangle}
use Rattle.rt_cells.specs.Line.{IsRun}
use Rattle.gds_slabs.specs.Polygon.{Inside}
use Rattle.gds_slabs.specs.Steps.{IsWithin}

-- one of the points is at the height
abbrev pub IsHeight : List Point → ℤ → Type 0
IsHeight points y = (p : Point) × Contains points p × (p.y ≡ y)

-- two of the heights with none of them between
pub record AreAdjacent (height : ℤ → Type 0) (low high : ℤ) : Type 0 where
  pub bottom : height low
  pub top : height high
  pub upwards : low <ℤ high
  pub none_between : (y : ℤ) → height y → low <ℤ y → y <ℤ high → ⊥

-- a run of the cells inside, from a height up to the next one
pub record IsSlab (points : List Point) (r : Rectangle) : Type 0 where
  pub heights : AreAdjacent (IsHeight points) r.bottom r.top
  pub run : IsRun (λ x. Inside points x r.bottom) r.left r.right

-- the one comes before the other: by rows, then by columns
abbrev pub IsBefore : Rectangle → Rectangle → Type 0
IsBefore r q = (r.bottom <ℤ q.bottom) ⊎ ((r.bottom ≡ q.bottom) × (r.left <ℤ q.left))

-- each rectangle comes before all that follow it
abbrev pub AreInOrder : List Rectangle → Type 0
AreInOrder [] = Unit {0}
AreInOrder (r ∷ rects) = All (IsBefore r) rects × AreInOrder rects

-- the rectangles are the slabs of the polygon, each once and in order
pub record IsSlabs (points : List Point) (rects : List Rectangle) : Type 0 where
  pub order : AreInOrder rects
  pub sound : (r : Rectangle) → Contains rects r → IsSlab points r
  pub complete : (r : Rectangle) → IsSlab points r → Contains rects r

-- the rectangle is the only slab, and lies no farther from the axes than 2^32
pub record IsOnlySlab (points : List Point) (rect : Rect) : Type 0 where
  pub only : IsSlabs points (area rect ∷ [])
  pub near : IsWithin (pos (2 ^ 32)) (area rect)

-- the number of the slabs
abbrev pub IsSlabCount : List Point → ℕ → Type 0
IsSlabCount points count = (rects : List Rectangle) × IsSlabs points rects × (count ≡ length rects)
