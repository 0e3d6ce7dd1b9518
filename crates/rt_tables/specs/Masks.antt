-- The entries of a table's list of masks: what each says, and the first fault of each, key by key.
use Rattle.std.specs.Prelude.{ℕ, ℤ, pos, Bool, false, not, ◌&&◌, ◌||◌, ◌==◌, nat_le, if◌then◌else◌, List, [], ◌∷◌, length, Option, Some, None, is_some, unwrap_or, option_and_then, codes, bytes_eq}
use Rattle.std.specs.List.{list_any, list_all}
use Rattle.std.specs.Option.{option_map_or}
use Rattle.toml.specs.Data.{Data, Members, Items, get_item, as_str, as_array, as_table}
use Rattle.rt_tech.specs.declared.limits.TheConstants.{LAYER_LIMIT, NAME_LIMIT}
use Rattle.rt_tech.specs.declared.table.Mask.{Mask}
use Rattle.rt_tech.specs.declared.table.Role.{Role as MaskRole}
use Rattle.rt_tech.specs.declared.table.Role.TheVariants.{Metal, Cut}
use Rattle.rt_tech.specs.declared.table.TableCause.TheVariants.{Form, Range, Duplicate, Name, Role, Clash}
use Rattle.rt_keys.specs.declared.stop.Fault.{Fault}
use Rattle.rt_keys.specs.Document.{has, read_at, word, number, list, as_word, as_members, count, entries_of}
use Rattle.rt_keys.specs.Faults.{◌or_else◌, test, test_here, within, wanted, unwanted, others, each}
use Rattle.rt_keys.specs.Names.{named, is_first}
use Rattle.rt_keys.specs.Numbers.{Measure, number_fault, length_fault, length_of, pair_fault, pair_of}
use Rattle.rt_keys.specs.Words.{role_named, same_role}
use Rattle.rt_tech.specs.Words.{same_pair, is_ignored}
pub use Rattle.rt_tech.specs.Words.{has_role, is_single, may_have_text, may_be_lower, are_different}

-- the keys of a mask
abbrev pub mask_keys : List (List ℕ)
mask_keys = codes "name" ∷ codes "role" ∷ codes "layer" ∷ codes "datatype" ∷ codes "text" ∷ codes "space" ∷ codes "width" ∷ codes "size" ∷ codes "upper" ∷ codes "lower" ∷ []

-- a to z, 0 to 9 and _
abbrev pub is_name_byte : ℕ → Bool
is_name_byte byte = (nat_le 97 byte && nat_le byte 122) || (nat_le 48 byte && nat_le byte 57) || (byte == 95)

-- 1 to 32 of these bytes
abbrev pub is_name : List ℕ → Bool
is_name bytes = nat_le 1 (length bytes) && nat_le (length bytes) NAME_LIMIT && list_all is_name_byte bytes

-- the role that an entry tells, and a metal's where it tells none
abbrev pub role_told : Members → Option MaskRole
role_told entry = option_and_then role_named (read_at as_str (codes "role") entry)

abbrev pub role_of : Members → MaskRole
role_of entry = unwrap_or (role_told entry) Metal

-- the key has to hold the name of a mask
abbrev pub named_fault : List ℕ → Items → Members → Option Fault
named_fault key masks entry = wanted as_str key entry or_else test key Name (is_some (named (word key entry) masks))

-- the number of the mask that a key names, and 0 where there is none
abbrev pub numbered : List ℕ → Items → Members → ℕ
numbered key masks entry = unwrap_or (named (word key entry) masks) 0

-- the role that entry number n of the masks tells
abbrev pub role_at : Items → ℕ → Option MaskRole
role_at masks n = option_and_then (λ value. role_told (as_members value)) (get_item n masks)

-- the layer pair of an entry, and the layer pair of its labels where it has one
abbrev pub pair_at : Members → ℤ × ℤ
pair_at entry = (number (codes "layer") entry, number (codes "datatype") entry)

abbrev pub note_at : Members → Option (ℤ × ℤ)
note_at entry = if has (codes "text") entry then Some (pair_of (list (codes "text") entry)) else None

-- one of the masks has this layer pair
abbrev pub has_pair : List Mask → ℤ × ℤ → Bool
has_pair masks pair = list_any (λ mask. same_pair (mask.layer, mask.datatype) pair) masks

-- the labels of one of the masks have this layer pair
abbrev pub has_note : List Mask → ℤ × ℤ → Bool
has_note masks pair = list_any (λ mask. option_map_or (λ note. same_pair note pair) mask.note false) masks

-- name
unfoldable pub name_fault : ℕ → Items → Members → Option Fault
name_fault place masks entry =
    wanted as_str (codes "name") entry
    or_else test (codes "name") Range (is_name (word (codes "name") entry) && not (bytes_eq (word (codes "name") entry) (codes "channel")))
    or_else test (codes "name") Duplicate (is_first place (named (word (codes "name") entry) masks))

-- role
unfoldable pub role_fault : List Mask → Members → Option Fault
role_fault before entry =
    wanted as_str (codes "role") entry
    or_else test (codes "role") Range (is_some (role_named (word (codes "role") entry)))
    or_else test (codes "role") Clash (not (is_single (role_of entry) && has_role (role_of entry) before))

-- layer
unfoldable pub layer_fault : Members → Option Fault
layer_fault entry = number_fault (pos 0) LAYER_LIMIT (codes "layer") entry

-- datatype
unfoldable pub datatype_fault : List (ℤ × ℤ) → List Mask → Members → Option Fault
datatype_fault ignored before entry =
    number_fault (pos 0) LAYER_LIMIT (codes "datatype") entry
    or_else test (codes "datatype") Duplicate (not (has_pair before (pair_at entry)))
    or_else test (codes "datatype") Clash (not (is_ignored ignored (pair_at entry)))

-- text, where it is there
unfoldable pub text_there : List (ℤ × ℤ) → List Mask → Members → Option Fault
text_there ignored before entry =
    wanted as_array (codes "text") entry
    or_else within (codes "text") (pair_fault (pos 0) (pos 0) (list (codes "text") entry))
    or_else test (codes "text") Duplicate (not (has_note before (pair_of (list (codes "text") entry))))
    or_else test (codes "text") Role (may_have_text (role_of entry))
    or_else test (codes "text") Clash (not (is_ignored ignored (pair_of (list (codes "text") entry))))

unfoldable pub text_fault : List (ℤ × ℤ) → List Mask → Members → Option Fault
text_fault ignored before entry = if has (codes "text") entry then text_there ignored before entry else None

-- width, of all but cuts, and size, of cuts
abbrev pub is_cut : Members → Bool
is_cut entry = same_role (role_of entry) Cut

unfoldable pub width_fault : Measure → Members → Option Fault
width_fault measure entry =
    if is_cut entry then (unwanted (codes "width") entry or_else length_fault measure (pos 1) (codes "size") entry)
    else (length_fault measure (pos 1) (codes "width") entry or_else unwanted (codes "size") entry)

-- upper, of cuts
unfoldable pub upper_fault : Items → Members → Option Fault
upper_fault masks entry =
    named_fault (codes "upper") masks entry
    or_else test (codes "upper") Role (option_map_or (λ role. same_role role Metal) (role_at masks (numbered (codes "upper") masks entry)) false)

-- an entry of lower, and the mask that it names
unfoldable pub lower_entry_fault : Items → Data → Option Fault
lower_entry_fault masks value =
    test_here Form (is_some (as_str value))
    or_else test_here Name (is_some (named (as_word value) masks))
    or_else test_here Role (option_map_or may_be_lower (role_at masks (unwrap_or (named (as_word value) masks) 0)) false)

abbrev pub lower_entry : Items → Data → ℕ
lower_entry masks value = unwrap_or (named (as_word value) masks) 0

abbrev pub lowers_at : Items → Members → List ℕ
lowers_at masks entry = entries_of (lower_entry masks) (list (codes "lower") entry)

-- so many lower masks, with the upper one: there is one at least, and none stands twice
unfoldable pub lowers_fault : ℕ → ℕ → List ℕ → Option Fault
lowers_fault count upper lowers =
    test (codes "lower") Range (nat_le 1 count) or_else test (codes "lower") Clash (are_different (upper ∷ lowers))

-- lower, of cuts
unfoldable pub lower_fault : Items → Members → Option Fault
lower_fault masks entry =
    wanted as_array (codes "lower") entry
    or_else within (codes "lower") (each (λ before. lower_entry_fault masks) (lower_entry masks) [] (list (codes "lower") entry))
    or_else lowers_fault (count (list (codes "lower") entry)) (numbered (codes "upper") masks entry) (lowers_at masks entry)

-- upper and lower
unfoldable pub sides_fault : Items → Members → Option Fault
sides_fault masks entry =
    if is_cut entry then (upper_fault masks entry or_else lower_fault masks entry)
    else (unwanted (codes "upper") entry or_else unwanted (codes "lower") entry)

-- what an entry says after its layer pairs, with a later version's key at its place, then the keys that no rule names
unfoldable pub measures_fault : Measure → Items → Members → Option Fault
measures_fault measure masks entry =
    length_fault measure (pos 1) (codes "space") entry
    or_else unwanted (codes "notch") entry
    or_else width_fault measure entry
    or_else sides_fault masks entry
    or_else others mask_keys entry

-- the keys of a mask one after another
unfoldable pub mask_table_fault : Measure → Items → List (ℤ × ℤ) → List Mask → Members → Option Fault
mask_table_fault measure masks ignored before entry =
    name_fault (length before) masks entry
    or_else role_fault before entry
    or_else layer_fault entry
    or_else datatype_fault ignored before entry
    or_else text_fault ignored before entry
    or_else measures_fault measure masks entry

-- an entry of the list
unfoldable pub mask_fault : Measure → Items → List (ℤ × ℤ) → List Mask → Data → Option Fault
mask_fault measure masks ignored before value =
    test_here Form (is_some (as_table value)) or_else mask_table_fault measure masks ignored before (as_members value)

-- the mask that an entry describes
abbrev pub width_at : Measure → Members → ℤ
width_at measure entry = if is_cut entry then length_of measure (codes "size") entry else length_of measure (codes "width") entry

abbrev pub upper_at : Items → Members → ℕ
upper_at masks entry = if is_cut entry then numbered (codes "upper") masks entry else 0

abbrev pub lowers_of : Items → Members → List ℕ
lowers_of masks entry = if is_cut entry then lowers_at masks entry else []

abbrev pub mask_at : Measure → Items → Members → Mask
mask_at measure masks entry = record {
  name = word (codes "name") entry;
  role = role_of entry;
  layer = number (codes "layer") entry;
  datatype = number (codes "datatype") entry;
  note = note_at entry;
  width = width_at measure entry;
  space = length_of measure (codes "space") entry;
  upper = upper_at masks entry;
  lowers = lowers_of masks entry;
}

unfoldable pub mask_of : Measure → Items → Data → Mask
mask_of measure masks value = mask_at measure masks (as_members value)
