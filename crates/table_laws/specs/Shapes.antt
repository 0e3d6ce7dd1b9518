-- What stands at the keys of a document, each by its type.
use Rattle.std.specs.Prelude.{◌≡◌, ℕ, ℤ, ◌≤ℤ◌, false, List, Option, Some, IsTrue, is_some, bytes_eq}
use Rattle.std.specs.List.{list_any}
use Rattle.toml.specs.Data.{Data, Members, Items, get_item, as_str, as_integer, as_table}
use Rattle.rt_tech.specs.declared.limits.TheConstants.{LENGTH_LIMIT}
use Rattle.rt_keys.specs.Document.{has, read_at, word, number, as_members, count}
use Rattle.rt_keys.specs.Names.{named}
use Rattle.rt_keys.specs.Numbers.{Measure, is_on_grid}

-- a value of the type stands at the key
abbrev pub Holds : {A : Type 0} → (Data → Option A) → List ℕ → Members → Type 0
Holds read key members = IsTrue (is_some (read_at read key members))

-- where the key is there, a value of the type stands at it
abbrev pub MayHold : {A : Type 0} → (Data → Option A) → List ℕ → Members → Type 0
MayHold read key members = IsTrue (has key members) → Holds read key members

-- the key isn't there
abbrev pub IsAbsent : List ℕ → Members → Type 0
IsAbsent key members = has key members ≡ false

-- each key that is there is one of these
abbrev pub HasKeysAmong : List (List ℕ) → Members → Type 0
HasKeysAmong keys members = (key : List ℕ) → IsTrue (has key members) → IsTrue (list_any (bytes_eq key) keys)

-- each entry of a list is as P says
abbrev pub AllItems : (Data → Type 0) → Items → Type 0
AllItems P items = (n : ℕ) (value : Data) → get_item n items ≡ Some value → P value

-- an entry of a list is a table, and as P says
pub record IsTableOf (P : Members → Type 0) (value : Data) : Type 0 where
  pub is_table : IsTrue (is_some (as_table value))
  pub members : P (as_members value)

-- a length stands at the key: a whole number from the least one to the largest that a table can ask for, in a target table
-- a multiple of the grid
pub record HoldsLength (measure : Measure) (least : ℤ) (key : List ℕ) (members : Members) : Type 0 where
  pub whole : Holds as_integer key members
  pub low : least ≤ℤ number key members
  pub high : number key members ≤ℤ LENGTH_LIMIT
  pub on_grid : IsTrue (is_on_grid measure.which measure.grid (number key members))

-- the name of one of the entries stands at the key
pub record HoldsName (entries : Items) (key : List ℕ) (members : Members) : Type 0 where
  pub a_word : Holds as_str key members
  pub known : IsTrue (is_some (named (word key members) entries))

-- two whole numbers
pub record IsPair (values : Items) : Type 0 where
  pub two : count values ≡ 2
  pub whole : AllItems (λ value. IsTrue (is_some (as_integer value))) values
