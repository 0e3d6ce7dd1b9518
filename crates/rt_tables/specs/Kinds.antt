-- The entries of a table's list of kinds.
use Rattle.std.specs.Prelude.{ℕ, ℤ, pos, not, ◌&&◌, nat_le, if◌then◌else◌, List, [], ◌∷◌, ◌++◌, length, Option, None, is_some, codes}
use Rattle.std.specs.List.{list_all}
use Rattle.std.specs.Fmt.{decimal}
use Rattle.toml.specs.Data.{Data, Members, Items, as_str, as_bool, as_array, as_table}
use Rattle.rt_tech.specs.declared.limits.TheConstants.{KIND_LIMIT}
use Rattle.rt_tech.specs.declared.table.Mask.{Mask}
use Rattle.rt_tech.specs.declared.table.Near.{Near}
use Rattle.rt_tech.specs.declared.table.Kind.{Kind}
use Rattle.rt_tech.specs.declared.table.Role.TheVariants.{Active, Background}
use Rattle.rt_tech.specs.declared.table.TableCause.TheVariants.{Form, Range, Duplicate, Role, Clash}
use Rattle.rt_keys.specs.declared.stop.Fault.{Fault}
use Rattle.rt_keys.specs.Document.{word, flag, list, as_members, count, entries_of}
use Rattle.rt_keys.specs.Faults.{◌or_else◌, test, test_here, within, wanted, unwanted, others, each}
use Rattle.rt_tables.specs.Masks.{has_role, is_name, named_fault, numbered}
use Rattle.rt_keys.specs.Names.{named, is_first}
use Rattle.rt_keys.specs.Numbers.{Measure, length_fault, length_of}
use Rattle.rt_tables.specs.Rules.{is_role_at}
pub use Rattle.rt_tech.specs.Rules.{has_near, share_a_mask, are_parted}

-- the keys of an entry of inside or outside
abbrev pub near_keys : List (List ℕ)
near_keys = codes "mask" ∷ codes "number" ∷ []

-- mask
unfoldable pub background_fault : Items → List Mask → Members → Option Fault
background_fault names masks entry =
    named_fault (codes "mask") names entry or_else test (codes "mask") Role (is_role_at Background masks (numbered (codes "mask") names entry))

unfoldable pub near_table_fault : Measure → ℤ → Items → List Mask → List Near → Members → Option Fault
near_table_fault measure low names masks before entry =
    background_fault names masks entry
    or_else length_fault measure low (codes "number") entry
    or_else others near_keys entry
    or_else test_here Duplicate (not (has_near before (numbered (codes "mask") names entry)))

-- an entry of inside or outside
unfoldable pub near_fault : Measure → ℤ → Items → List Mask → List Near → Data → Option Fault
near_fault measure low names masks before value =
    test_here Form (is_some (as_table value)) or_else near_table_fault measure low names masks before (as_members value)

abbrev pub near_at : Measure → Items → Members → Near
near_at measure names entry = record { mask = numbered (codes "mask") names entry; number = length_of measure (codes "number") entry }

unfoldable pub near_of : Measure → Items → Data → Near
near_of measure names value = near_at measure names (as_members value)

-- inside, with numbers from 0, and outside, with numbers from 1
unfoldable pub nears_fault : List ℕ → Measure → ℤ → Items → List Mask → Members → Option Fault
nears_fault key measure low names masks entry =
    wanted as_array key entry or_else within key (each (near_fault measure low names masks) (near_of measure names) [] (list key entry))

abbrev pub nears_of : List ℕ → Measure → Items → Members → List Near
nears_of key measure names entry = entries_of (near_of measure names) (list key entry)

-- the keys of a kind
abbrev pub kind_keys : List (List ℕ)
kind_keys = codes "name" ∷ codes "device" ∷ codes "inside" ∷ codes "outside" ∷ []

-- name. The kinds' names are those of the entries of their list
unfoldable pub kind_name_fault : ℕ → Items → Members → Option Fault
kind_name_fault place kinds entry =
    wanted as_str (codes "name") entry
    or_else test (codes "name") Range (is_name (word (codes "name") entry))
    or_else test (codes "name") Duplicate (is_first place (named (word (codes "name") entry) kinds))

-- inside and outside, with a later version's key at its place, then the keys that no rule names
unfoldable pub backgrounds_fault : Measure → Items → List Mask → Members → Option Fault
backgrounds_fault measure names masks entry =
    nears_fault (codes "inside") measure (pos 0) names masks entry
    or_else nears_fault (codes "outside") measure (pos 1) names masks entry
    or_else unwanted (codes "bulk") entry
    or_else others kind_keys entry

-- the keys of a kind one after another
unfoldable pub kind_table_fault : Measure → Items → Items → List Mask → List Kind → Members → Option Fault
kind_table_fault measure kinds names masks before entry =
    kind_name_fault (length before) kinds entry
    or_else wanted as_bool (codes "device") entry
    or_else backgrounds_fault measure names masks entry

-- an entry of the list
unfoldable pub kind_fault : Measure → Items → Items → List Mask → List Kind → Data → Option Fault
kind_fault measure kinds names masks before value =
    test_here Form (is_some (as_table value)) or_else kind_table_fault measure kinds names masks before (as_members value)

abbrev pub kind_at : Measure → Items → Members → Kind
kind_at measure names entry = record {
  name = word (codes "name") entry;
  device = flag (codes "device") entry;
  inside = nears_of (codes "inside") measure names entry;
  outside = nears_of (codes "outside") measure names entry;
}

unfoldable pub kind_of : Measure → Items → Data → Kind
kind_of measure names value = kind_at measure names (as_members value)

-- each kind is parted from those before it
abbrev pub parted_fault : List Kind → List Kind → Option Fault
parted_fault before [] = None
parted_fault before (kind ∷ kinds) =
    within (decimal (length before)) (test_here Clash (list_all (are_parted kind) before)) or_else parted_fault (before ++ kind ∷ []) kinds

-- kind: it has to be there where there is an active, with 1 to 64 entries, and nowhere else
abbrev pub kinds_at : Measure → Items → Members → List Kind
kinds_at measure names doc = entries_of (kind_of measure names) (list (codes "kind") doc)

-- the kinds that these entries describe
unfoldable pub kinds_listed : Measure → Items → Items → List Mask → Option Fault
kinds_listed measure values names masks =
    within (codes "kind") (each (kind_fault measure values names masks) (kind_of measure names) [] values)
    or_else test (codes "kind") Range (nat_le 1 (count values) && nat_le (count values) KIND_LIMIT)
    or_else within (codes "kind") (parted_fault [] (entries_of (kind_of measure names) values))

unfoldable pub kinds_there : Measure → Items → List Mask → Members → Option Fault
kinds_there measure names masks doc =
    wanted as_array (codes "kind") doc or_else kinds_listed measure (list (codes "kind") doc) names masks

unfoldable pub kinds_fault : Measure → Items → List Mask → Members → Option Fault
kinds_fault measure names masks doc = if has_role Active masks then kinds_there measure names masks doc else unwanted (codes "kind") doc

abbrev pub kinds_of : Measure → Items → List Mask → Members → List Kind
kinds_of measure names masks doc = if has_role Active masks then kinds_at measure names doc else []
