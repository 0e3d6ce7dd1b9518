-- The rules between masks: enclosures, the rules of channels, and distances. The masks are those of the table, the
-- names are those of the entries of its list.
use Rattle.std.specs.Prelude.{ℕ, pos, Bool, not, ◌||◌, if◌then◌else◌, List, [], ◌∷◌, Option, Some, None, is_some, codes}
use Rattle.toml.specs.Data.{Data, Members, Items, as_array, as_table}
use Rattle.rt_tech.specs.declared.table.Mask.{Mask}
use Rattle.rt_tech.specs.declared.table.Enclose.{Enclose}
use Rattle.rt_tech.specs.declared.table.Apart.{Apart}
use Rattle.rt_tech.specs.declared.table.Gates.{Gates}
use Rattle.rt_tech.specs.declared.table.Role.TheVariants.{Active, Cut}
use Rattle.rt_tech.specs.declared.table.TableCause.TheVariants.{Missing, Form, Duplicate, Role, Clash}
use Rattle.rt_keys.specs.declared.stop.Fault.{Fault}
use Rattle.rt_keys.specs.Document.{list, inner, as_members, entries_of}
use Rattle.rt_keys.specs.Faults.{◌or_else◌, test, test_here, within, wanted, allowed, unwanted, others, each}
use Rattle.rt_tables.specs.Masks.{has_role, named_fault, numbered}
use Rattle.rt_keys.specs.Numbers.{Measure, length_fault, length_of}
pub use Rattle.rt_tech.specs.Rules.{is_role_at, is_upper_of, is_lower_of, has_upper, has_lower, has_enclose, is_enclosed, are_enclosed, same_on, has_apart, are_gate_and_active, is_on_another, may_be_apart, is_kept_from, is_kept_from_gate, is_kept_apart, are_kept_apart}

-- the keys of an enclosure
abbrev pub enclose_keys : List (List ℕ)
enclose_keys = codes "cut" ∷ codes "mask" ∷ codes "number" ∷ []

-- what an entry of the enclosures says
abbrev pub enclose_at : Measure → Items → Members → Enclose
enclose_at measure names entry = record {
  cut = numbered (codes "cut") names entry;
  mask = numbered (codes "mask") names entry;
  number = length_of measure (codes "number") entry;
}

-- cut
unfoldable pub cut_fault : Items → List Mask → Members → Option Fault
cut_fault names masks entry =
    named_fault (codes "cut") names entry or_else test (codes "cut") Role (is_role_at Cut masks (numbered (codes "cut") names entry))

-- an entry that says this enclosure, after the keys that it may have: a cut with its upper mask or one of its lower
-- masks, once
unfoldable pub enclose_end_fault : List Mask → List Enclose → Enclose → Members → Option Fault
enclose_end_fault masks before enclose entry =
    others enclose_keys entry
    or_else test_here Duplicate (not (has_enclose before enclose.cut enclose.mask))
    or_else test_here Clash (has_upper masks enclose.cut enclose.mask || has_lower masks enclose.cut enclose.mask)

-- the keys of an enclosure one after another
unfoldable pub enclose_table_fault : Measure → Items → List Mask → List Enclose → Members → Option Fault
enclose_table_fault measure names masks before entry =
    cut_fault names masks entry
    or_else named_fault (codes "mask") names entry
    or_else length_fault measure (pos 0) (codes "number") entry
    or_else enclose_end_fault masks before (enclose_at measure names entry) entry

-- an entry of the list
unfoldable pub enclose_fault : Measure → Items → List Mask → List Enclose → Data → Option Fault
enclose_fault measure names masks before value =
    test_here Form (is_some (as_table value)) or_else enclose_table_fault measure names masks before (as_members value)

unfoldable pub enclose_of : Measure → Items → Data → Enclose
enclose_of measure names value = enclose_at measure names (as_members value)

-- enclose: it has to be there where there is a cut, and none that a cut demands may be absent
abbrev pub encloses_of : Measure → Items → Members → List Enclose
encloses_of measure names doc = entries_of (enclose_of measure names) (list (codes "enclose") doc)

unfoldable pub enclose_there : List Mask → Members → Option Fault
enclose_there masks doc = if has_role Cut masks then wanted as_array (codes "enclose") doc else allowed as_array (codes "enclose") doc

unfoldable pub encloses_fault : Measure → Items → List Mask → Members → Option Fault
encloses_fault measure names masks doc =
    enclose_there masks doc
    or_else within (codes "enclose") (each (enclose_fault measure names masks) (enclose_of measure names) [] (list (codes "enclose") doc))
    or_else test (codes "enclose") Missing (are_enclosed (encloses_of measure names doc) 0 masks)

-- channel: it has to be there where there is an active, and nowhere else
abbrev pub channel_keys : List (List ℕ)
channel_keys = codes "cap" ∷ codes "ext" ∷ codes "cross" ∷ []

unfoldable pub channel_table_fault : Measure → Members → Option Fault
channel_table_fault measure channel =
    length_fault measure (pos 1) (codes "cap") channel
    or_else length_fault measure (pos 1) (codes "ext") channel
    or_else length_fault measure (pos 1) (codes "cross") channel
    or_else others channel_keys channel

unfoldable pub channel_there : Measure → Members → Option Fault
channel_there measure doc =
    wanted as_table (codes "channel") doc or_else within (codes "channel") (channel_table_fault measure (inner (codes "channel") doc))

unfoldable pub channel_fault : Measure → List Mask → Members → Option Fault
channel_fault measure masks doc = if has_role Active masks then channel_there measure doc else unwanted (codes "channel") doc

abbrev pub gates_at : Measure → Members → Gates
gates_at measure channel = record {
  cap = length_of measure (codes "cap") channel;
  ext = length_of measure (codes "ext") channel;
  cross = length_of measure (codes "cross") channel;
}

abbrev pub gates_of : Measure → List Mask → Members → Option Gates
gates_of measure masks doc = if has_role Active masks then Some (gates_at measure (inner (codes "channel") doc)) else None

-- the keys of a distance
abbrev pub apart_keys : List (List ℕ)
apart_keys = codes "a" ∷ codes "b" ∷ codes "number" ∷ codes "on" ∷ []

-- on: it has to be there where a is a cut and b one of its lower masks, and nowhere else
abbrev pub has_on : Items → List Mask → Members → Bool
has_on names masks entry = has_lower masks (numbered (codes "a") names entry) (numbered (codes "b") names entry)

unfoldable pub on_fault : Items → List Mask → Members → Option Fault
on_fault names masks entry = if has_on names masks entry then named_fault (codes "on") names entry else unwanted (codes "on") entry

abbrev pub on_at : Items → List Mask → Members → Option ℕ
on_at names masks entry = if has_on names masks entry then Some (numbered (codes "on") names entry) else None

-- what an entry of the distances says
abbrev pub apart_at : Measure → Items → List Mask → Members → Apart
apart_at measure names masks entry = record {
  a = numbered (codes "a") names entry;
  on = on_at names masks entry;
  b = numbered (codes "b") names entry;
  number = length_of measure (codes "number") entry;
}

-- an entry that says this distance, after the keys that it may have: there is one such distance, and it may be
unfoldable pub apart_end_fault : List Mask → List Apart → Apart → Members → Option Fault
apart_end_fault masks before apart entry =
    others apart_keys entry
    or_else test_here Duplicate (not (has_apart before apart.a apart.on apart.b))
    or_else test_here Clash (may_be_apart masks apart.a apart.on apart.b)

-- the keys of a distance one after another
unfoldable pub apart_table_fault : Measure → Items → List Mask → List Apart → Members → Option Fault
apart_table_fault measure names masks before entry =
    named_fault (codes "a") names entry
    or_else named_fault (codes "b") names entry
    or_else length_fault measure (pos 1) (codes "number") entry
    or_else on_fault names masks entry
    or_else apart_end_fault masks before (apart_at measure names masks entry) entry

-- an entry of the list
unfoldable pub apart_fault : Measure → Items → List Mask → List Apart → Data → Option Fault
apart_fault measure names masks before value =
    test_here Form (is_some (as_table value)) or_else apart_table_fault measure names masks before (as_members value)

unfoldable pub apart_of : Measure → Items → List Mask → Data → Apart
apart_of measure names masks value = apart_at measure names masks (as_members value)

-- apart: it may be there, and none that a cut demands may be absent
abbrev pub aparts_of : Measure → Items → List Mask → Members → List Apart
aparts_of measure names masks doc = entries_of (apart_of measure names masks) (list (codes "apart") doc)

unfoldable pub aparts_fault : Measure → Items → List Mask → Members → Option Fault
aparts_fault measure names masks doc =
    allowed as_array (codes "apart") doc
    or_else within (codes "apart") (each (apart_fault measure names masks) (apart_of measure names masks) [] (list (codes "apart") doc))
    or_else test (codes "apart") Missing (are_kept_apart masks (aparts_of measure names masks doc) 0 masks)
