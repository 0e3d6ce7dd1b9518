-- Hosts of rectangles: the strips of a mask that have a cell in common with them.
use Rattle.std.specs.Prelude.{◌≡◌, ℕ, ◌<◌, List, length, All, AllPairs, Contains, slice_index_or, Option, None, MatchOption}
use Rattle.rt_cells.specs.Rectangles.{Rectangle}
use Rattle.rt_base.specs.declared.plane.Rect.{Rect}
use Rattle.rt_base.specs.Plane.{area}
use Rattle.rt_family.specs.Strips.{ShareColumn, ShareRow, IsHost}
use Rattle.rt_family.specs.Laws.{IsOfMask}
use Rattle.rt_strips.specs.Placed.{Placed, strip_at, mask_of}

-- the rectangle of a mask is of mask m, and has a common column and a common row with another rectangle
pub record IsHosting (m : ℕ) (p : Placed) (r : Rectangle) : Type 0 where
  pub of_mask : p.mask ≡ m
  pub columns : ShareColumn p.area r
  pub rows : ShareRow p.area r

-- what is noted for the rectangle of a number
abbrev pub host_at : List (Option ℕ) → ℕ → Option ℕ
host_at hosts t = slice_index_or hosts t None

-- so many rectangles with no host noted
pub record AreNone (count : ℕ) (hosts : List (Option ℕ)) : Type 0 where
  pub counted : length hosts ≡ count
  pub no_host : (t : ℕ) → host_at hosts t ≡ None

module _ (m : ℕ) (strips : List Placed) where
  -- strip i is of mask m, and has a cell in common with the rectangle
  abbrev pub IsHostOf : Rectangle → ℕ → Type 0
  IsHostOf r i = IsHost (IsOfMask (length strips) (mask_of strips) m) (λ k. (strip_at strips k).area) r i

  -- the numbers of all hosts of the rectangle, in rising order
  pub record AreHostsOf (r : Rectangle) (hosts : List ℕ) : Type 0 where
    pub each : All (IsHostOf r) hosts
    pub every : (i : ℕ) → IsHostOf r i → Contains hosts i
    pub rising : AllPairs (λ i j. i < j) hosts

  -- no strip of the mask has a cell in common with the rectangle
  pub record HasNoHost (r : Rectangle) : Type 0 where
    pub none : (i : ℕ) → ¬ IsHostOf r i

  -- for each rectangle in order one of its hosts, or none where it has none
  pub record AreSomeHosts (areas : List Rect) (hosts : List (Option ℕ)) : Type 0 where
    pub counted : length hosts ≡ length areas
    pub each : (t : ℕ) (d : Rect) → t < length areas
        → MatchOption (host_at hosts t) (HasNoHost (area (slice_index_or areas t d))) (IsHostOf (area (slice_index_or areas t d)))
