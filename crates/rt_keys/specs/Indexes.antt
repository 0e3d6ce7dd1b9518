-- Entries of a list by their indexes.
use Rattle.std.specs.Prelude.{ℕ, ◌+◌, ℤ, pos, nat_abs, nat_eq, Bool, false, if◌then◌else◌, Option, Some, None, option_and_then, codes}
use Rattle.std.specs.Option.{option_map_or}
use Rattle.toml.specs.Data.{Data, Items, no_items, item, as_integer}
use Rattle.rt_keys.specs.declared.indexes.TheConstants.{INDEX_LIMIT}
use Rattle.rt_keys.specs.Document.{read_at, as_members}
use Rattle.rt_keys.specs.Numbers.{is_within}

-- the number as an index, where it may be one
abbrev pub as_index : ℤ → Option ℕ
as_index number = if is_within (pos 0) INDEX_LIMIT number then Some (nat_abs number) else None

-- the index of an entry, where it has one
abbrev pub index_of : Data → Option ℕ
index_of value = option_and_then as_index (read_at as_integer (codes "index") (as_members value))

-- the entry has this index
abbrev pub has_index : ℕ → Data → Bool
has_index index value = option_map_or (nat_eq index) (index_of value) false

-- the number of the first entry with this index, when the first of the list has number i
abbrev pub indexed_from : ℕ → ℕ → Items → Option ℕ
indexed_from i index no_items = None
indexed_from i index (item value values) = if has_index index value then Some i else indexed_from (i + 1) index values

-- the number of the first entry with this index
abbrev pub indexed : ℕ → Items → Option ℕ
indexed index values = indexed_from 0 index values
