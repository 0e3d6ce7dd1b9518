-- Entries of a list by their names, and the first of those that are alike.
use Rattle.std.specs.Prelude.{ℕ, ◌+◌, ◌==◌, Bool, false, if◌then◌else◌, List, Option, Some, None, bytes_eq, codes}
use Rattle.std.specs.Option.{option_map_or}
use Rattle.toml.specs.Data.{Data, Items, no_items, item, as_str}
use Rattle.rt_keys.specs.Document.{read_at, as_members}

-- the name of an entry, where it has one
abbrev pub name_of : Data → Option (List ℕ)
name_of value = read_at as_str (codes "name") (as_members value)

-- the entry has this name
abbrev pub is_named : List ℕ → Data → Bool
is_named name value = option_map_or (λ its. bytes_eq its name) (name_of value) false

-- the number of the first entry by this name, when the first of the list has number i
abbrev pub named_from : ℕ → List ℕ → Items → Option ℕ
named_from i name no_items = None
named_from i name (item value values) = if is_named name value then Some i else named_from (i + 1) name values

-- the number of the first entry by this name
abbrev pub named : List ℕ → Items → Option ℕ
named name values = named_from 0 name values

-- an entry was found, and at this place
abbrev pub is_first : ℕ → Option ℕ → Bool
is_first place found = option_map_or (λ n. n == place) found false
