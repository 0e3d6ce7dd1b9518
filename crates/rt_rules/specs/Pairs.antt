-- The enclosures and distances of a table: which masks they name, and that these are there.
use Rattle.std.specs.Prelude.{◌≢◌, ℕ, ◌<◌, ℤ, pos, ◌^◌, length, Bool, true, false, ◌||◌, All, Option, Some, None, IfSome, IsTrue, slice_get}
use Rattle.rt_tech.specs.declared.table.Apart.{Apart as Distance}
use Rattle.rt_tech.specs.declared.table.Enclose.{Enclose as Enclosure}
use Rattle.rt_tech.specs.declared.table.Mask.{Mask}
use Rattle.rt_tech.specs.declared.table.Tech.{Tech}
use Rattle.rt_tech.specs.Rules.{has_upper, has_lower}
use Rattle.rt_tech.specs.Tech.{mask_count, IsReach, IsLength, IsValidTech}

-- the enclosure and the distance of a number
abbrev pub enclose_at : Tech → ℕ → Option Enclosure
enclose_at tech n = slice_get tech.encloses n

abbrev pub apart_at : Tech → ℕ → Option Distance
apart_at tech n = slice_get tech.aparts n

-- their numbers, and 0 where there is none
abbrev pub enclose_number : Option Enclosure → ℤ
enclose_number (Some enclose) = enclose.number
enclose_number None = pos 0

abbrev pub apart_number : Option Distance → ℤ
apart_number (Some apart) = apart.number
apart_number None = pos 0

-- the lower mask that pieces have to lie in for an enclosure to speak of them: in its upper mask a cut is always enclosed
abbrev pub lower_if : Bool → ℕ → Option ℕ
lower_if true m = Some m
lower_if false m = None

abbrev pub lower_of : Tech → Enclosure → Option ℕ
lower_of tech enclose = lower_if (has_lower tech.masks enclose.cut enclose.mask) enclose.mask

-- the masks that an enclosure, and a distance, names are there and stand as they should, and its number is one that a table can ask for
pub record IsMeasuredEnclose (tech : Tech) (enclose : Enclosure) : Type 0 where
  pub cut : enclose.cut < mask_count tech
  pub mask : enclose.mask < mask_count tech
  pub beside : IsTrue (has_upper tech.masks enclose.cut enclose.mask || has_lower tech.masks enclose.cut enclose.mask)
  pub number : IsReach enclose.number

pub record IsMeasuredApart (tech : Tech) (apart : Distance) : Type 0 where
  pub first : apart.a < mask_count tech
  pub lower : IfSome apart.on (λ m. IsTrue (has_lower tech.masks apart.a m))
  pub second : apart.b < mask_count tech
  pub different : apart.a ≢ apart.b
  pub number : IsLength apart.number

-- the masks above and below a cut are there
pub record HasSidesThere (tech : Tech) (mask : Mask) : Type 0 where
  pub upper : mask.upper < mask_count tech
  pub lowers : All (λ m. m < mask_count tech) mask.lowers

-- what the rules of cuts and of two masks need of a table. Every valid table is so
pub record HasMeasuredPairs (tech : Tech) : Type 0 where
  pub sides : All (HasSidesThere tech) tech.masks
  pub encloses : All (IsMeasuredEnclose tech) tech.encloses
  pub few_encloses : length tech.encloses < 2 ^ 32
  pub aparts : All (IsMeasuredApart tech) tech.aparts
  pub few_aparts : length tech.aparts < 2 ^ 32

-- every valid table has what these rules need
abbrev pub ValidIsMeasured : Type 0
ValidIsMeasured = (tech : Tech) → IsValidTech tech → HasMeasuredPairs tech
