-- Sizes that are in order for a target table.
use Rattle.std.specs.Prelude.{◌≡◌, ◌≢◌, ℕ, ◌≤◌, neg_ℤ, ◌≤ℤ◌, List, length, All, AllPairs, Some, IsTrue, slice_get}
use Rattle.rt_sizes.specs.declared.limits.TheConstants.{AXIS_LIMIT, PIVOT_LIMIT}
use Rattle.rt_base.specs.Text.{IsText}
use Rattle.rt_tech.specs.declared.sizes.Mirror.{Mirror}
use Rattle.rt_tech.specs.declared.sizes.Mirror.TheVariants.{At}
use Rattle.rt_tech.specs.declared.sizes.Sizes.{Sizes}
use Rattle.rt_tech.specs.declared.sizes.Wish.{Wish}
use Rattle.rt_tech.specs.declared.table.Kind.{Kind}
use Rattle.rt_tech.specs.declared.table.Tech.{Tech}
use Rattle.rt_tech.specs.Tech.{IsLength}

-- a length and a width that a table could ask for
pub record IsWish (wish : Wish) : Type 0 where
  pub length : IsLength wish.length
  pub width : IsLength wish.width

-- the number is that of a kind of devices
pub record IsDeviceKind (target : Tech) (number : ℕ) : Type 0 where
  pub kind : Kind
  pub there : slice_get target.kinds number ≡ Some kind
  pub device : IsTrue kind.device

-- an axis lies within the limit
abbrev pub IsMirror : Mirror → Type 0
IsMirror (At axis) = (neg_ℤ AXIS_LIMIT ≤ℤ axis) × (axis ≤ℤ AXIS_LIMIT)
IsMirror _ = Unit {0}

-- the cell has a name, the search may make a pivot and no more than the most, each kind that is given sizes is one of devices, no kind and
-- no device is given sizes twice, and each length and width is one that a table could ask for
pub record AreInOrder (target : Tech) (sizes : Sizes) : Type 0 where
  pub some_name : 1 ≤ length sizes.cell
  pub printable : IsText sizes.cell
  pub mirror : IsMirror sizes.mirror
  pub some_pivots : 1 ≤ sizes.pivots
  pub few_pivots : sizes.pivots ≤ PIVOT_LIMIT
  pub kinds : All (λ entry. IsDeviceKind target entry.0 × IsWish entry.1) sizes.kinds
  pub kinds_once : AllPairs (λ a b. a.0 ≢ b.0) sizes.kinds
  pub devices : All (λ entry. IsWish entry.1) sizes.devices
  pub devices_once : AllPairs (λ a b. a.0 ≢ b.0) sizes.devices
