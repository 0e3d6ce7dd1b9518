-- A list of named files, and the bytes that a name has in it.
use Rattle.std.specs.Prelude.{◌≡◌, ℕ, Bool, List, [], ◌∷◌, Option, None, Vec, String, string_bytes, bytes_eq, option_map, find}
use Rattle.std.specs.declared.alloc.Global.{Global}

-- a file: its name and its bytes
abbrev pub Entry : Type 0
Entry = String Global × Vec ℕ Global

-- whether a file has that name
abbrev pub is_named : List ℕ → Entry → Bool
is_named name entry = bytes_eq (string_bytes entry.0) name

-- the bytes of the first file of that name
abbrev pub file_in : List Entry → List ℕ → Option (List ℕ)
file_in entries name = option_map (λ entry. entry.1.items) (find (is_named name) entries)

-- no file has the name of a later one
abbrev pub NamesDiffer : List Entry → Type 0
NamesDiffer [] = Unit {0}
NamesDiffer (entry ∷ entries) = (file_in entries (string_bytes entry.0) ≡ None) × NamesDiffer entries
