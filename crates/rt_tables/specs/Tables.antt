-- Rule tables as documents: the first fault of one, and the table that one without a fault is.
use Rattle.std.specs.Prelude.{◌≡◌, ℕ, ℤ, pos, negsuc, Bool, not, ◌&&◌, ◌||◌, nat_le, List, [], ◌∷◌, Option, Some, None, is_some, is_ok, Result, Ok, Err, codes, bytes_eq}
use Rattle.hex.specs.Hex.{decode_sized}
use Rattle.toml.specs.Data.{Data, Members, Items, as_str, as_array}
use Rattle.rt_tech.specs.declared.limits.TheConstants.{GRID_LIMIT, MASK_LIMIT, LEAST_LAYER}
use Rattle.rt_tech.specs.declared.table.Mask.{Mask}
use Rattle.rt_tech.specs.declared.table.Tech.{Tech}
use Rattle.rt_tech.specs.declared.table.Which.{Which}
use Rattle.rt_tech.specs.declared.table.TableCause.TheVariants.{Missing, Form, Range}
use Rattle.rt_keys.specs.declared.stop.Fault.{Fault}
use Rattle.rt_tables.specs.declared.rules.Rules.{Rules}
use Rattle.rt_keys.specs.declared.error.TableError.{TableError}
use Rattle.rt_keys.specs.declared.error.TableError.TheVariants.{BadToml, BadTable, TablesDiffer, BadSizes, OutOfMemory}
use Rattle.rt_keys.specs.Answers.{NamesTableFault}
use Rattle.rt_keys.specs.Document.{IsDocument, has, word, number, list, as_list, count, entries_of}
use Rattle.rt_keys.specs.Faults.{◌or_else◌, test, test_here, within, wanted, unwanted, allowed, others, each}
use Rattle.rt_tables.specs.Kinds.{kinds_fault, kinds_of}
use Rattle.rt_tables.specs.Masks.{mask_fault, mask_of}
use Rattle.rt_keys.specs.Numbers.{Measure, number_fault, pair_fault, pair_of}
use Rattle.rt_tables.specs.Rules.{encloses_fault, encloses_of, channel_fault, gates_of, aparts_fault, aparts_of}
pub use Rattle.rt_tech.specs.Words.{come_together}

-- the keys of a table, in the order in which they are read
abbrev pub table_keys : List (List ℕ)
table_keys = codes "version" ∷ codes "grid" ∷ codes "units" ∷ codes "unlisted" ∷ codes "ignore" ∷ codes "mask" ∷ codes "enclose" ∷ codes "channel" ∷ codes "apart" ∷ codes "kind" ∷ []

-- how the lengths of a document are written
abbrev pub measure_in : Which → Members → Measure
measure_in which doc = record { which = which; grid = number (codes "grid") doc }

-- units: 32 hexadecimal digits of either case, which are 16 bytes
abbrev pub is_units : List ℕ → Bool
is_units digits = is_ok (decode_sized digits 16)

abbrev pub bytes_of : {E : Type 0} → Result (List ℕ) E → List ℕ
bytes_of (Ok bytes) = bytes
bytes_of (Err e) = []

abbrev pub units_of : List ℕ → List ℕ
units_of digits = bytes_of (decode_sized digits 16)

unfoldable pub units_fault : Members → Option Fault
units_fault doc = wanted as_str (codes "units") doc or_else test (codes "units") Range (is_units (word (codes "units") doc))

-- unlisted: it may be there, as "refuse" or "ignore"
unfoldable pub unlisted_fault : Members → Option Fault
unlisted_fault doc =
    allowed as_str (codes "unlisted") doc
    or_else test (codes "unlisted") Range (not (has (codes "unlisted") doc) || bytes_eq (word (codes "unlisted") doc) (codes "refuse") || bytes_eq (word (codes "unlisted") doc) (codes "ignore"))

-- ignore: it may be there, as a list of pairs
unfoldable pub ignored_fault : Data → Option Fault
ignored_fault value = test_here Form (is_some (as_array value)) or_else pair_fault LEAST_LAYER (negsuc 0) (as_list value)

unfoldable pub ignored_of : Data → ℤ × ℤ
ignored_of value = pair_of (as_list value)

unfoldable pub ignore_fault : Members → Option Fault
ignore_fault doc =
    allowed as_array (codes "ignore") doc
    or_else within (codes "ignore") (each (λ before. ignored_fault) ignored_of [] (list (codes "ignore") doc))

abbrev pub ignored_in : Members → List (ℤ × ℤ)
ignored_in doc = entries_of ignored_of (list (codes "ignore") doc)

-- mask: it has to be there, with 1 to 64 entries, a gate exactly where an active is
abbrev pub masks_of : Measure → Items → List Mask
masks_of measure values = entries_of (mask_of measure values) values

unfoldable pub masks_listed : Measure → List (ℤ × ℤ) → Items → Option Fault
masks_listed measure ignored values =
    within (codes "mask") (each (mask_fault measure values ignored) (mask_of measure values) [] values)
    or_else test (codes "mask") Missing (come_together (masks_of measure values))
    or_else test (codes "mask") Range (nat_le 1 (count values) && nat_le (count values) MASK_LIMIT)

abbrev pub masks_in : Which → Members → List Mask
masks_in which doc = masks_of (measure_in which doc) (list (codes "mask") doc)

-- the distances and the kinds, with a later version's key at its place, then the keys that no rule names
unfoldable pub later_rules_fault : Measure → Items → List Mask → Members → Option Fault
later_rules_fault measure names masks doc =
    aparts_fault measure names masks doc
    or_else kinds_fault measure names masks doc
    or_else unwanted (codes "resistor") doc
    or_else others table_keys doc

-- the keys after the masks, one after another
unfoldable pub rules_fault : Measure → Items → List Mask → Members → Option Fault
rules_fault measure names masks doc =
    encloses_fault measure names masks doc
    or_else channel_fault measure masks doc
    or_else later_rules_fault measure names masks doc

-- what a document says after its masks
pub record AreRules (measure : Measure) (names : Items) (masks : List Mask) (doc : Members) (rules : Rules) : Type 0 where
  pub encloses : rules.encloses ≡ encloses_of measure names doc
  pub gates : rules.gates ≡ gates_of measure masks doc
  pub aparts : rules.aparts ≡ aparts_of measure names masks doc
  pub kinds : rules.kinds ≡ kinds_of measure names masks doc

-- the masks that these entries describe, and the keys after them
unfoldable pub listed_fault : Measure → List (ℤ × ℤ) → Items → Members → Option Fault
listed_fault measure ignored values doc =
    masks_listed measure ignored values or_else rules_fault measure values (masks_of measure values) doc

-- the masks, and the keys after them
unfoldable pub contents_fault : Measure → List (ℤ × ℤ) → Members → Option Fault
contents_fault measure ignored doc =
    wanted as_array (codes "mask") doc or_else listed_fault measure ignored (list (codes "mask") doc) doc

-- the keys of a table one after another
unfoldable pub tech_fault : Which → Members → Option Fault
tech_fault which doc =
    number_fault (pos 1) (pos 1) (codes "version") doc
    or_else number_fault (pos 1) GRID_LIMIT (codes "grid") doc
    or_else units_fault doc
    or_else unlisted_fault doc
    or_else ignore_fault doc
    or_else contents_fault (measure_in which doc) (ignored_in doc) doc

-- the table that a document is
unfoldable pub tech_in : Which → Members → Tech
tech_in which doc = record {
  grid = number (codes "grid") doc;
  units = units_of (word (codes "units") doc);
  masks = masks_in which doc;
  encloses = encloses_of (measure_in which doc) (list (codes "mask") doc) doc;
  gates = gates_of (measure_in which doc) (masks_in which doc) doc;
  aparts = aparts_of (measure_in which doc) (list (codes "mask") doc) (masks_in which doc) doc;
  kinds = kinds_of (measure_in which doc) (list (codes "mask") doc) (masks_in which doc) doc;
  ignored = ignored_in doc;
  drop_unlisted = bytes_eq (word (codes "unlisted") doc) (codes "ignore");
}

-- the bytes are this table: a document without a fault, and what it says
pub record IsTechOf (which : Which) (bytes : List ℕ) (tech : Tech) : Type 0 where
  pub members : Members
  pub document : IsDocument bytes members
  pub no_fault : tech_fault which members ≡ None
  pub says : tech ≡ tech_in which members

-- the bytes are a document with this first fault
pub record HasTableFault (which : Which) (bytes : List ℕ) (error : TableError) : Type 0 where
  pub members : Members
  pub document : IsDocument bytes members
  pub fault : Fault
  pub first : tech_fault which members ≡ Some fault
  pub named : NamesTableFault fault error

-- what the reading of a table answers
abbrev pub IsTechAnswer : Which → List ℕ → Result Tech TableError → Type 0
IsTechAnswer which bytes (Ok tech) = IsTechOf which bytes tech
IsTechAnswer which bytes (Err BadToml) = (members : Members) → IsDocument bytes members → ⊥
IsTechAnswer which bytes (Err (BadTable key cause)) = HasTableFault which bytes (BadTable key cause)
IsTechAnswer which bytes (Err (TablesDiffer key)) = ⊥
IsTechAnswer which bytes (Err (BadSizes key cause)) = ⊥
IsTechAnswer which bytes (Err OutOfMemory) = Unit {0}
