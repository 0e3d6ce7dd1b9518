-- The TOML document that a file is, and what stands at its keys.
use Rattle.std.specs.Prelude.{◌≡◌, ℕ, suc, ℤ, pos, Bool, false, List, [], ◌∷◌, Option, Some, is_some, unwrap_or, option_and_then, IsUtf8}
use Rattle.toml.specs.Data.{Data, Members, no_members, Items, no_items, item, get_member, as_str, as_integer, as_bool, as_array, as_table}
use Rattle.toml.specs.Parse.{parse_document}

-- the bytes are a text, and as TOML that text is a table of these members
pub record IsDocument (bytes : List ℕ) (members : Members) : Type 0 where
  pub utf8 : IsUtf8 bytes
  pub reads : parse_document bytes ≡ Some members

-- the key is there
abbrev pub has : List ℕ → Members → Bool
has key members = is_some (get_member key members)

-- what stands at a key, read as one type of value
abbrev pub read_at : {A : Type 0} → (Data → Option A) → List ℕ → Members → Option A
read_at read key members = option_and_then read (get_member key members)

-- the string, the whole number, the truth value, the list and the table at a key. Where there is none: the empty
-- string, 0, false, the empty list and the empty table
abbrev pub word : List ℕ → Members → List ℕ
word key members = unwrap_or (read_at as_str key members) []

abbrev pub number : List ℕ → Members → ℤ
number key members = unwrap_or (read_at as_integer key members) (pos 0)

abbrev pub flag : List ℕ → Members → Bool
flag key members = unwrap_or (read_at as_bool key members) false

abbrev pub list : List ℕ → Members → Items
list key members = unwrap_or (read_at as_array key members) no_items

abbrev pub inner : List ℕ → Members → Members
inner key members = unwrap_or (read_at as_table key members) no_members

-- an entry of a list as a string, as a whole number, as a list and as a table, in the same way
abbrev pub as_word : Data → List ℕ
as_word value = unwrap_or (as_str value) []

abbrev pub as_number : Data → ℤ
as_number value = unwrap_or (as_integer value) (pos 0)

abbrev pub as_list : Data → Items
as_list value = unwrap_or (as_array value) no_items

abbrev pub as_members : Data → Members
as_members value = unwrap_or (as_table value) no_members

-- how many entries a list has
abbrev pub count : Items → ℕ
count no_items = 0
count (item value values) = suc (count values)

-- what a list gives, entry by entry
abbrev pub entries_of : {A : Type 0} → (Data → A) → Items → List A
entries_of of no_items = []
entries_of of (item value values) = of value ∷ entries_of of values
