-- A sizes file: what it says, and its first fault, key by key.
use Rattle.std.specs.Prelude.{◌≡◌, ℕ, ◌+◌, pos, neg_ℤ, nat_abs, nat_le, Bool, false, ◌||◌, ◌&&◌, if◌then◌else◌, List, [], ◌∷◌, length, Option, Some, None, is_some, unwrap_or, option_map, codes, bytes_eq}
use Rattle.std.specs.List.{list_all}
use Rattle.std.specs.Option.{option_map_or}
use Rattle.rt_keys.specs.declared.indexes.TheConstants.{INDEX_LIMIT}
use Rattle.rt_sizes.specs.declared.limits.TheConstants.{AXIS_LIMIT, PIVOT_LIMIT, PIVOTS}
use Rattle.toml.specs.Data.{Data, Members, Items, as_str, as_array, as_table}
use Rattle.rt_tech.specs.declared.table.Kind.{Kind}
use Rattle.rt_tech.specs.declared.table.Tech.{Tech}
use Rattle.rt_tech.specs.declared.table.TableCause.TheVariants.{Form, Range, Duplicate, Name, Role}
use Rattle.rt_tech.specs.declared.table.Which.TheVariants.{Target}
use Rattle.rt_keys.specs.declared.error.TableError.{TableError}
use Rattle.rt_keys.specs.declared.error.TableError.TheVariants.{BadToml, BadTable, TablesDiffer, BadSizes, OutOfMemory}
use Rattle.rt_tech.specs.declared.sizes.Mirror.{Mirror}
use Rattle.rt_tech.specs.declared.sizes.Mirror.TheVariants.{Find, At}
use Rattle.rt_tech.specs.declared.sizes.Mirror.TheVariants as mirror
use Rattle.rt_tech.specs.declared.sizes.Sizes.{Sizes}
use Rattle.rt_tech.specs.declared.sizes.Wish.{Wish}
use Rattle.rt_keys.specs.declared.stop.Fault.{Fault}
use Rattle.rt_keys.specs.Document.{IsDocument, has, word, number, list, as_members, entries_of}
use Rattle.rt_keys.specs.Faults.{◌or_else◌, test, test_here, within, wanted, unwanted, others, each}
use Rattle.rt_keys.specs.Indexes.{indexed}
use Rattle.rt_keys.specs.Names.{named, is_first}
use Rattle.rt_keys.specs.Numbers.{Measure, number_fault, length_fault, length_of}
use Rattle.rt_sizes.specs.Refusals.{RefusesSizes}

-- the keys of a sizes file, and of an entry of it: one that tells for what the sizes are, and two for the sizes
abbrev pub sizes_keys : List (List ℕ)
sizes_keys = codes "version" ∷ codes "cell" ∷ codes "mirror" ∷ codes "axis" ∷ codes "pivots" ∷ codes "kind" ∷ codes "device" ∷ codes "width_most" ∷ codes "height_most" ∷ codes "offset" ∷ []

abbrev pub entry_keys : List ℕ → List (List ℕ)
entry_keys key = key ∷ codes "length" ∷ codes "width" ∷ []

-- sizes are lengths of the target table
abbrev pub in_target : Tech → Measure
in_target target = record { which = Target; grid = target.grid }

-- cell
abbrev pub is_printable : ℕ → Bool
is_printable byte = nat_le 32 byte && nat_le byte 126

abbrev pub is_cell : List ℕ → Bool
is_cell bytes = nat_le 1 (length bytes) && list_all is_printable bytes

unfoldable pub cell_fault : Members → Option Fault
cell_fault file = wanted as_str (codes "cell") file or_else test (codes "cell") Range (is_cell (word (codes "cell") file))

-- mirror
abbrev pub is_mirror : List ℕ → Bool
is_mirror word = bytes_eq word (codes "none") || bytes_eq word (codes "find") || bytes_eq word (codes "axis")

-- axis, which is there with the mirror "axis" alone
abbrev pub axis_fault : Members → Option Fault
axis_fault file =
    if bytes_eq (word (codes "mirror") file) (codes "axis") then number_fault (neg_ℤ AXIS_LIMIT) AXIS_LIMIT (codes "axis") file
    else unwanted (codes "axis") file

unfoldable pub mirror_fault : Members → Option Fault
mirror_fault file =
    wanted as_str (codes "mirror") file
    or_else test (codes "mirror") Range (is_mirror (word (codes "mirror") file))
    or_else axis_fault file

unfoldable pub mirror_of : Members → Mirror
mirror_of file =
    if bytes_eq (word (codes "mirror") file) (codes "axis") then At (number (codes "axis") file)
    else if bytes_eq (word (codes "mirror") file) (codes "find") then Find
    else mirror.None

-- pivots, where it is there
unfoldable pub pivots_fault : Members → Option Fault
pivots_fault file = if has (codes "pivots") file then number_fault (pos 1) (pos PIVOT_LIMIT) (codes "pivots") file else None

abbrev pub pivots_of : Members → ℕ
pivots_of file = if has (codes "pivots") file then nat_abs (number (codes "pivots") file) else PIVOTS

-- the length and the width of an entry
unfoldable pub wish_fault : Measure → Members → Option Fault
wish_fault measure entry = length_fault measure (pos 1) (codes "length") entry or_else length_fault measure (pos 1) (codes "width") entry

abbrev pub wish_at : Measure → Members → Wish
wish_at measure entry = record { length = length_of measure (codes "length") entry; width = length_of measure (codes "width") entry }

-- an entry at a place of its list, when one key tells for what its sizes are and has this first fault
unfoldable pub sized_fault : Tech → List ℕ → (ℕ → Members → Option Fault) → ℕ → Members → Option Fault
sized_fault target key told place entry =
    told place entry or_else wish_fault (in_target target) entry or_else others (entry_keys key) entry

unfoldable pub entry_fault : Tech → List ℕ → (ℕ → Members → Option Fault) → List (ℕ × Wish) → Data → Option Fault
entry_fault target key told before value =
    test_here Form (is_some (as_table value)) or_else sized_fault target key told (length before) (as_members value)

-- what an entry says, when a key tells this number
unfoldable pub entry_sizes : Tech → (Members → ℕ) → Data → ℕ × Wish
entry_sizes target number value = (number (as_members value), wish_at (in_target target) (as_members value))

-- the first kind by a name, with its number, when the first of the list has number i
abbrev pub kind_from : ℕ → List ℕ → List Kind → Option (ℕ × Kind)
kind_from i name [] = None
kind_from i name (kind ∷ kinds) = if bytes_eq kind.name name then Some (i, kind) else kind_from (i + 1) name kinds

-- the kind of the target that an entry names
abbrev pub kind_told : Tech → Members → Option (ℕ × Kind)
kind_told target entry = kind_from 0 (word (codes "name") entry) target.kinds

-- the name of an entry of the kinds
unfoldable pub kind_name_fault : Tech → ℕ → Items → Members → Option Fault
kind_name_fault target place kinds entry =
    wanted as_str (codes "name") entry
    or_else test (codes "name") Duplicate (is_first place (named (word (codes "name") entry) kinds))
    or_else test (codes "name") Name (is_some (kind_told target entry))
    or_else test (codes "name") Role (option_map_or (λ found. found.1.device) (kind_told target entry) false)

-- the number of the kind that an entry names, and 0 where there is none
abbrev pub kind_number : Tech → Members → ℕ
kind_number target entry = unwrap_or (option_map (λ found. found.0) (kind_told target entry)) 0

-- an entry of the kinds
abbrev pub kind_fault : Tech → Items → List (ℕ × Wish) → Data → Option Fault
kind_fault target kinds = entry_fault target (codes "name") (λ place. kind_name_fault target place kinds)

abbrev pub kind_sizes : Tech → Data → ℕ × Wish
kind_sizes target = entry_sizes target (kind_number target)

-- kind, where it is there
unfoldable pub kinds_there : Tech → Members → Option Fault
kinds_there target file =
    wanted as_array (codes "kind") file
    or_else within (codes "kind") (each (kind_fault target (list (codes "kind") file)) (kind_sizes target) [] (list (codes "kind") file))

unfoldable pub kinds_fault : Tech → Members → Option Fault
kinds_fault target file = if has (codes "kind") file then kinds_there target file else None

abbrev pub kinds_of : Tech → Members → List (ℕ × Wish)
kinds_of target file = entries_of (kind_sizes target) (list (codes "kind") file)

-- the index of an entry of the devices
unfoldable pub index_fault : ℕ → Items → Members → Option Fault
index_fault place devices entry =
    number_fault (pos 0) INDEX_LIMIT (codes "index") entry
    or_else test (codes "index") Duplicate (is_first place (indexed (nat_abs (number (codes "index") entry)) devices))

-- an entry of the devices, and the index that it tells
abbrev pub index_told : Members → ℕ
index_told entry = nat_abs (number (codes "index") entry)

abbrev pub device_fault : Tech → Items → List (ℕ × Wish) → Data → Option Fault
device_fault target devices = entry_fault target (codes "index") (λ place. index_fault place devices)

abbrev pub device_sizes : Tech → Data → ℕ × Wish
device_sizes target = entry_sizes target index_told

-- device, where it is there
unfoldable pub devices_there : Tech → Members → Option Fault
devices_there target file =
    wanted as_array (codes "device") file
    or_else within (codes "device") (each (device_fault target (list (codes "device") file)) (device_sizes target) [] (list (codes "device") file))

unfoldable pub devices_fault : Tech → Members → Option Fault
devices_fault target file = if has (codes "device") file then devices_there target file else None

abbrev pub devices_of : Tech → Members → List (ℕ × Wish)
devices_of target file = entries_of (device_sizes target) (list (codes "device") file)

-- keys of a later version may not be there
unfoldable pub later_fault : Members → Option Fault
later_fault file =
    unwanted (codes "width_most") file
    or_else unwanted (codes "height_most") file
    or_else unwanted (codes "offset") file
    or_else unwanted (codes "resistor") file

-- the lists of a sizes file, then the keys that may not be there
unfoldable pub lists_fault : Tech → Members → Option Fault
lists_fault target file =
    kinds_fault target file
    or_else devices_fault target file
    or_else later_fault file
    or_else others sizes_keys file

-- the first fault of a sizes file for this target table
unfoldable pub sizes_fault : Tech → Members → Option Fault
sizes_fault target file =
    number_fault (pos 1) (pos 1) (codes "version") file
    or_else cell_fault file
    or_else mirror_fault file
    or_else pivots_fault file
    or_else lists_fault target file

-- what a sizes file without faults says
abbrev pub sizes_of : Tech → Members → Sizes
sizes_of target file = record {
  cell = word (codes "cell") file;
  mirror = mirror_of file;
  pivots = pivots_of file;
  kinds = kinds_of target file;
  devices = devices_of target file;
}

-- the bytes are a sizes file for this target table, without faults, and say these sizes
pub record DescribesSizes (target : Tech) (bytes : List ℕ) (sizes : Sizes) : Type 0 where
  pub file : Members
  pub document : IsDocument bytes file
  pub faultless : sizes_fault target file ≡ None
  pub told : sizes ≡ sizes_of target file

-- the bytes are a document, and its first fault as a sizes file for this target table is refused by this answer
pub record IsFaultySizes (target : Tech) (bytes : List ℕ) (error : TableError) : Type 0 where
  pub file : Members
  pub document : IsDocument bytes file
  pub refused : RefusesSizes (sizes_fault target file) error

-- why the bytes aren't read as a sizes file for this target table
abbrev pub RefusesFile : Tech → List ℕ → TableError → Type 0
RefusesFile target bytes BadToml = (file : Members) → IsDocument bytes file → ⊥
RefusesFile target bytes OutOfMemory = Unit {0}
RefusesFile target bytes (BadSizes key cause) = IsFaultySizes target bytes (BadSizes key cause)
RefusesFile target bytes (BadTable key cause) = ⊥
RefusesFile target bytes (TablesDiffer key) = ⊥
