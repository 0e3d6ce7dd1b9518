-- Rule tables with all their keys: what stands at each key, each by its type and with its numbers in range, and that no
-- other key is there. Whether names, roles and layers agree with one another isn't said here: that is what a valid table
-- is.
use Rattle.std.specs.Prelude.{◌≡◌, ℕ, ℤ, pos, Bool, true, false, List, [], ◌∷◌, IsTrue, is_some, bytes_eq, codes}
use Rattle.std.specs.List.{list_any}
use Rattle.toml.specs.Data.{Data, Members, Items, as_str, as_integer, as_bool, as_array, as_table}
use Rattle.rt_tech.specs.declared.table.Mask.{Mask}
use Rattle.rt_tech.specs.declared.table.Role.TheVariants.{Active, Cut}
use Rattle.rt_tech.specs.declared.table.Which.{Which}
use Rattle.rt_keys.specs.Document.{has, word, number, list, inner, as_word, as_list}
use Rattle.rt_keys.specs.Names.{named}
use Rattle.rt_keys.specs.Numbers.{Measure}
use Rattle.table_laws.specs.Shapes.{Holds, MayHold, IsAbsent, HasKeysAmong, AllItems, IsTableOf, HoldsLength, HoldsName, IsPair}
use Rattle.rt_tables.specs.Kinds.{near_keys, kind_keys}
use Rattle.rt_tables.specs.Masks.{has_role, role_told, is_cut, mask_keys}
use Rattle.rt_tables.specs.Rules.{enclose_keys, channel_keys, apart_keys, has_on}
use Rattle.rt_tables.specs.Tables.{table_keys, measure_in, masks_in, is_units}

-- an entry of the ignored pairs
pub record IsIgnoredEntry (value : Data) : Type 0 where
  pub is_list : IsTrue (is_some (as_array value))
  pub pair : IsPair (as_list value)

-- an entry of lower: the name of one of the masks
pub record IsLowerEntry (masks : Items) (value : Data) : Type 0 where
  pub a_word : IsTrue (is_some (as_str value))
  pub known : IsTrue (is_some (named (as_word value) masks))

-- what a cut has, and what any other mask has
pub record HasCutKeys (measure : Measure) (masks : Items) (entry : Members) : Type 0 where
  pub size : HoldsLength measure (pos 1) (codes "size") entry
  pub width : IsAbsent (codes "width") entry
  pub upper : HoldsName masks (codes "upper") entry
  pub lower : Holds as_array (codes "lower") entry
  pub lowers : AllItems (IsLowerEntry masks) (list (codes "lower") entry)

pub record HasNoCutKeys (measure : Measure) (entry : Members) : Type 0 where
  pub width : HoldsLength measure (pos 1) (codes "width") entry
  pub size : IsAbsent (codes "size") entry
  pub upper : IsAbsent (codes "upper") entry
  pub lower : IsAbsent (codes "lower") entry

abbrev pub HasSidesKeys : Measure → Items → Members → Bool → Type 0
HasSidesKeys measure masks entry true = HasCutKeys measure masks entry
HasSidesKeys measure masks entry false = HasNoCutKeys measure entry

-- an entry of the masks
pub record IsMaskEntry (measure : Measure) (masks : Items) (entry : Members) : Type 0 where
  pub name : Holds as_str (codes "name") entry
  pub role : Holds as_str (codes "role") entry
  pub role_known : IsTrue (is_some (role_told entry))
  pub layer : Holds as_integer (codes "layer") entry
  pub datatype : Holds as_integer (codes "datatype") entry
  pub text : MayHold as_array (codes "text") entry
  pub text_pair : IsTrue (has (codes "text") entry) → IsPair (list (codes "text") entry)
  pub space : HoldsLength measure (pos 1) (codes "space") entry
  pub sides : HasSidesKeys measure masks entry (is_cut entry)
  pub keys : HasKeysAmong mask_keys entry

-- an entry of the enclosures
pub record IsEncloseEntry (measure : Measure) (masks : Items) (entry : Members) : Type 0 where
  pub cut : HoldsName masks (codes "cut") entry
  pub mask : HoldsName masks (codes "mask") entry
  pub length : HoldsLength measure (pos 0) (codes "number") entry
  pub keys : HasKeysAmong enclose_keys entry

-- the table of the rules of channels
pub record IsChannel (measure : Measure) (channel : Members) : Type 0 where
  pub cap : HoldsLength measure (pos 1) (codes "cap") channel
  pub ext : HoldsLength measure (pos 1) (codes "ext") channel
  pub cross : HoldsLength measure (pos 1) (codes "cross") channel
  pub keys : HasKeysAmong channel_keys channel

-- the lower mask that an entry of the distances names, where it has to name one
abbrev pub NamesLower : Items → Members → Bool → Type 0
NamesLower masks entry true = HoldsName masks (codes "on") entry
NamesLower masks entry false = IsAbsent (codes "on") entry

-- an entry of the distances
pub record IsApartEntry (measure : Measure) (names : Items) (masks : List Mask) (entry : Members) : Type 0 where
  pub first : HoldsName names (codes "a") entry
  pub second : HoldsName names (codes "b") entry
  pub length : HoldsLength measure (pos 1) (codes "number") entry
  pub lower : NamesLower names entry (has_on names masks entry)
  pub keys : HasKeysAmong apart_keys entry

-- an entry of the backgrounds of a kind
pub record IsNearEntry (measure : Measure) (least : ℤ) (names : Items) (entry : Members) : Type 0 where
  pub mask : HoldsName names (codes "mask") entry
  pub length : HoldsLength measure least (codes "number") entry
  pub keys : HasKeysAmong near_keys entry

-- an entry of the kinds
pub record IsKindEntry (measure : Measure) (names : Items) (entry : Members) : Type 0 where
  pub name : Holds as_str (codes "name") entry
  pub device : Holds as_bool (codes "device") entry
  pub inside : Holds as_array (codes "inside") entry
  pub insides : AllItems (IsTableOf (IsNearEntry measure (pos 0) names)) (list (codes "inside") entry)
  pub outside : Holds as_array (codes "outside") entry
  pub outsides : AllItems (IsTableOf (IsNearEntry measure (pos 1) names)) (list (codes "outside") entry)
  pub keys : HasKeysAmong kind_keys entry

-- channels and kinds, where there is an active
pub record HasChannelKeys (measure : Measure) (names : Items) (doc : Members) : Type 0 where
  pub channel : Holds as_table (codes "channel") doc
  pub channels : IsChannel measure (inner (codes "channel") doc)
  pub kind : Holds as_array (codes "kind") doc
  pub kinds : AllItems (IsTableOf (IsKindEntry measure names)) (list (codes "kind") doc)

pub record HasNoChannelKeys (doc : Members) : Type 0 where
  pub channel : IsAbsent (codes "channel") doc
  pub kind : IsAbsent (codes "kind") doc

abbrev pub HasActiveKeys : Measure → Items → Members → Bool → Type 0
HasActiveKeys measure names doc true = HasChannelKeys measure names doc
HasActiveKeys measure names doc false = HasNoChannelKeys doc

-- a word of a list that may be there
pub record IsUnlisted (doc : Members) : Type 0 where
  pub a_word : Holds as_str (codes "unlisted") doc
  pub known : IsTrue (list_any (bytes_eq (word (codes "unlisted") doc)) (codes "refuse" ∷ codes "ignore" ∷ []))

-- the document has all the keys of a table, and no others
pub record HasShape (which : Which) (doc : Members) : Type 0 where
  pub version : Holds as_integer (codes "version") doc
  pub version_is : number (codes "version") doc ≡ pos 1
  pub grid : Holds as_integer (codes "grid") doc
  pub units : Holds as_str (codes "units") doc
  pub units_digits : IsTrue (is_units (word (codes "units") doc))
  pub unlisted : IsTrue (has (codes "unlisted") doc) → IsUnlisted doc
  pub ignore : MayHold as_array (codes "ignore") doc
  pub ignored : AllItems IsIgnoredEntry (list (codes "ignore") doc)
  pub mask : Holds as_array (codes "mask") doc
  pub masks : AllItems (IsTableOf (IsMaskEntry (measure_in which doc) (list (codes "mask") doc))) (list (codes "mask") doc)
  pub enclose : MayHold as_array (codes "enclose") doc
  pub enclose_there : IsTrue (has_role Cut (masks_in which doc)) → IsTrue (has (codes "enclose") doc)
  pub encloses : AllItems (IsTableOf (IsEncloseEntry (measure_in which doc) (list (codes "mask") doc))) (list (codes "enclose") doc)
  pub apart : MayHold as_array (codes "apart") doc
  pub aparts : AllItems (IsTableOf (IsApartEntry (measure_in which doc) (list (codes "mask") doc) (masks_in which doc))) (list (codes "apart") doc)
  pub channels : HasActiveKeys (measure_in which doc) (list (codes "mask") doc) doc (has_role Active (masks_in which doc))
  pub keys : HasKeysAmong table_keys doc
