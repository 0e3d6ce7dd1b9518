-- Whole numbers and lengths of a document.
use Rattle.std.specs.Prelude.{ℕ, ℤ, pos, Bool, true, ◌&&◌, ◌==◌, nat_abs, int_le, int_div, int_rem, List, Option, Some, None, is_some}
use Rattle.std.specs.Option.{option_map_or}
use Rattle.std.specs.Fmt.{decimal}
use Rattle.toml.specs.Data.{Data, Members, Items, as_integer, get_item}
use Rattle.rt_tech.specs.declared.limits.TheConstants.{LAYER_LIMIT, LENGTH_LIMIT}
use Rattle.rt_tech.specs.declared.table.TableCause.TheVariants.{Form, Range}
use Rattle.rt_tech.specs.declared.table.Which.TheVariants.{Source, Target}
use Rattle.rt_tech.specs.declared.table.Which.{Which}
use Rattle.rt_keys.specs.declared.stop.Fault.{Fault}
use Rattle.rt_keys.specs.declared.scale.Scale.{Scale}
use Rattle.rt_keys.specs.Document.{number, as_number, count}
use Rattle.rt_keys.specs.Faults.{◌or_else◌, test, test_here, within, wanted}

-- the number lies between the two
abbrev pub is_within : ℤ → ℤ → ℤ → Bool
is_within low high number = int_le low number && int_le number high

-- the key has to hold a whole number between the two
abbrev pub number_fault : ℤ → ℤ → List ℕ → Members → Option Fault
number_fault low high key members = wanted as_integer key members or_else test key Range (is_within low high (number key members))

-- how a table's lengths are written: which of the two tables it is, and its grid
pub record Measure : Type 0 where
  pub which : Which
  pub grid : ℤ

abbrev pub measure_of : Scale → Measure
measure_of scale = record { which = scale.which; grid = scale.grid }

-- the number is a multiple of the grid, which is asked of a target table alone
abbrev pub is_on_grid : Which → ℤ → ℤ → Bool
is_on_grid Source grid number = true
is_on_grid Target grid number = nat_abs (int_rem number grid) == 0

-- the table may write this length: from the least one to the largest that a table can ask for, and on the grid
abbrev pub may_be : Measure → ℤ → ℤ → Bool
may_be measure low number = is_within low LENGTH_LIMIT number && is_on_grid measure.which measure.grid number

-- a length as it is kept: a source table's as it is, a target table's in steps
abbrev pub kept_in : Which → ℤ → ℤ → ℤ
kept_in Source grid number = number
kept_in Target grid number = int_div number grid

-- the key has to hold a length from the least one on
abbrev pub length_fault : Measure → ℤ → List ℕ → Members → Option Fault
length_fault measure low key members = wanted as_integer key members or_else test key Range (may_be measure low (number key members))

-- the length at a key, as it is kept
abbrev pub length_of : Measure → List ℕ → Members → ℤ
length_of measure key members = kept_in measure.which measure.grid (number key members)

-- a number of a pair has to be whole, from the least one to the largest layer
abbrev pub number_here_fault : ℤ → Data → Option Fault
number_here_fault low value = test_here Form (is_some (as_integer value)) or_else test_here Range (is_within low LAYER_LIMIT (as_number value))

-- number n of a pair, where it is there
abbrev pub place_here : ℤ → ℕ → Option Data → Option Fault
place_here low n None = None
place_here low n (Some value) = within (decimal n) (number_here_fault low value)

unfoldable pub place_fault : ℤ → ℕ → Items → Option Fault
place_fault low n values = place_here low n (get_item n values)

-- number n of a pair, and 0 where there is none
abbrev pub place : ℕ → Items → ℤ
place n values = option_map_or as_number (get_item n values) (pos 0)

-- a pair has to be two numbers from the least ones on. What follows the second isn't looked at but for its count
unfoldable pub pair_fault : ℤ → ℤ → Items → Option Fault
pair_fault low low_second values = place_fault low 0 values or_else place_fault low_second 1 values or_else test_here Range (count values == 2)

abbrev pub pair_of : Items → ℤ × ℤ
pair_of values = (place 0 values, place 1 values)
