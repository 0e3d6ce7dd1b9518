-- The sweep upwards over the toggles of a polygon: where the columns begin and end the cells inside.
use Rattle.std.specs.Prelude.{◌-◌, ◌^◌, ℤ, pos, negsuc, ◌≤ℤ◌, ◌<ℤ◌, cond, int_lt, List, [], ◌∷◌, ◌++◌}
use Rattle.std.specs.Ordering.{int_cmp, int_eq}
use Rattle.std.specs.List.{list_any}
use Rattle.std.specs.Set.{remove_key}
use Rattle.std.specs.BTreeSet.{insert_key}
use Rattle.rt_base.specs.declared.plane.Point.{Point}
use Rattle.rt_cells.specs.Rectangles.{Rectangle}
use Rattle.gds_slabs.specs.declared.toggles.Toggle.{Toggle}

-- two toggles for each side that goes on from p over the points: at both its heights, at the column of its first point
abbrev pub toggles_from : Point → List Point → List Toggle
toggles_from p [] = []
toggles_from p (q ∷ points) = record { y = p.y; x = p.x } ∷ record { y = q.y; x = p.x } ∷ toggles_from q points

-- the toggles of the line over the points
abbrev pub toggles : List Point → List Toggle
toggles [] = []
toggles (p ∷ points) = toggles_from p points

-- the rising columns without x where it is there, or with x at its place
abbrev pub toggled : ℤ → List ℤ → List ℤ
toggled x columns = cond (list_any (int_eq x) columns) (remove_key (int_eq x) columns) (insert_key int_cmp columns x)

-- the columns two by two, as rectangles from one height up to another
abbrev pub slab : ℤ → ℤ → List ℤ → List Rectangle
slab low high [] = []
slab low high (a ∷ []) = []
slab low high (a ∷ b ∷ columns) = record { left = a; right = b; bottom = low; top = high } ∷ slab low high columns

-- the rectangles from one height up to another, if there are rows between
abbrev pub step : ℤ → ℤ → List ℤ → List Rectangle
step low high columns = cond (int_lt low high) (slab low high columns) []

-- the rectangles of the toggles that are left, at a height with these columns
abbrev pub swept : ℤ → List ℤ → List Toggle → List Rectangle
swept low columns [] = []
swept low columns (t ∷ rest) = step low t.y columns ++ swept t.y (toggled t.x columns) rest

-- the toggles rise from the height
abbrev pub Ascending : ℤ → List Toggle → Type 0
Ascending low [] = Unit {0}
Ascending low (t ∷ rest) = (low ≤ℤ t.y) × Ascending t.y rest

-- the toggles rise
abbrev pub AreAscending : List Toggle → Type 0
AreAscending [] = Unit {0}
AreAscending (t ∷ rest) = Ascending t.y rest

-- the number is one of 32 bits
pub record IsSmall (z : ℤ) : Type 0 where
  pub low : negsuc (2 ^ 31 - 1) ≤ℤ z
  pub high : z <ℤ pos (2 ^ 31)

-- both numbers of the toggle are of 32 bits
pub record IsSmallToggle (t : Toggle) : Type 0 where
  pub height : IsSmall t.y
  pub column : IsSmall t.x
