-- What reading by a grammar tells of the words of the grammar: what is left of it behind the records that were read.
use Rattle.std.specs.Prelude.{◌≡◌, ◌≢◌, ℕ, ◌+◌, ◌<◌, List, ◌∷◌, ◌++◌, length, All, AllPairs, Option, Some, None, Result, Ok, Err}
use Rattle.std.specs.List.{fold}
use Rattle.gds_records.specs.Records.{Item, flat}
use Rattle.gds_grammar.specs.Grammar.{Grammar, In}
use Rattle.gds_grammar.specs.Conditions.{kind_after, names_in, InContext, Placed}
use Rattle.gds_grammar.specs.Reading.{Cursor, Fault, peek}

-- all are bytes
abbrev pub AreBytes : List ℕ → Type 0
AreBytes bytes = All (λ b. b < 256) bytes

-- the types begin with the next one, where it is known
abbrev pub Goes : Option ℕ → List ℕ → Type 0
Goes None types = Unit {0}
Goes (Some code) types = (more : List ℕ) × (types ≡ code ∷ more)

-- behind the types, with the next one to come, this is left of the grammar
pub record Left (g : Grammar) (types : List ℕ) (next : Option ℕ) (left : Grammar) : Type 0 where
  pub into : (more : List ℕ) → In left more → In g (types ++ more)
  pub only : (more : List ℕ) → In g (types ++ more) → Goes next more → In left more

-- the type of a record
abbrev pub type_of : Result Item Fault → Option ℕ
type_of (Ok i) = Some i.code
type_of (Err f) = None

-- the type of the record that comes next, where one does
abbrev pub next_type : Cursor → Option ℕ
next_type c = type_of (peek c)

-- from one place to the other these records stand, each as it should be
pub record Follows (c : Cursor) (items : List Item) (d : Cursor) : Type 0 where
  pub spells : c.rest ≡ flat items ++ d.rest
  pub at : d.at ≡ c.at + length (flat items)
  pub placed : Placed c.at items
  pub each : InContext c.kind items
  pub kind : d.kind ≡ fold kind_after c.kind items
  pub names : d.names ≡ c.names ++ names_in items
  pub differ : AllPairs (λ a b. a ≢ b) c.names → AllPairs (λ a b. a ≢ b) d.names
