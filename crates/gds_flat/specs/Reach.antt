-- Structures by their names, and the walk over what they place.
use Rattle.std.specs.Prelude.{◌≡◌, ℕ, ◌+◌, ◌<◌, Bool, List, [], ◌∷◌, ◌++◌, length, Option, Some, None, find, if◌then◌else◌, bytes_eq, All, Contains}
use Rattle.std.specs.List.{filter_map}
use Rattle.gds_stream.specs.declared.library.Element.{Element}
use Rattle.gds_stream.specs.declared.library.Element.TheVariants.{Boundary, Path, Sref, Aref, Label, BoxShape}
use Rattle.gds_stream.specs.declared.library.Structure.{Structure}
use Rattle.gds_flat.specs.declared.limits.TheConstants.{DEEPEST}

-- a structure's name: its bytes
abbrev pub Name : Type 0
Name = List ℕ

-- the structure has the name
abbrev pub is_named : Name → Structure → Bool
is_named name structure = bytes_eq structure.name name

-- the name of a structure, if there is one
abbrev pub name_of : Option Structure → Name
name_of None = []
name_of (Some structure) = structure.name

-- the elements of a structure, if there is one
abbrev pub elements_of : Option Structure → List Element
elements_of None = []
elements_of (Some structure) = structure.elements

-- the place of the first structure of the name, when the first of the list has number i
abbrev pub place_from : ℕ → Name → List Structure → Option ℕ
place_from i name [] = None
place_from i name (s ∷ structures) = if is_named name s then Some i else place_from (i + 1) name structures

-- the place of the first structure of the name
abbrev pub place_named : Name → List Structure → Option ℕ
place_named name structures = place_from 0 name structures

-- the structure of the name
abbrev pub structure_named : List Structure → Name → Option Structure
structure_named library name = find (is_named name) library

-- the name that an element places, if it is a reference
abbrev pub target : Element → Option Name
target (Boundary offset layer datatype points) = None
target (Path offset layer datatype pathtype width points) = None
target (Sref offset name place at) = Some name
target (Aref offset name place columns rows points) = Some name
target (Label offset layer texttype at text) = None
target (BoxShape offset layer boxtype) = None

-- the names that elements place, in order
abbrev pub references : List Element → List Name
references elements = filter_map target elements

-- the order in which a walk reaches names, from those that are seen and those that are still to be taken:
-- what a structure places is taken before what is left
pub data Order (library : List Structure) : List Name → List Name → List Name → Type 0 where
  done : {seen : List Name} → Order library seen [] seen
  known : {seen agenda order : List Name} {n : Name} → Contains seen n → Order library seen agenda order → Order library seen (n ∷ agenda) order
  new : {seen agenda order : List Name} {n : Name} {s : Structure} → ¬ Contains seen n → structure_named library n ≡ Some s
      → Order library (seen ++ n ∷ []) (references s.elements ++ agenda) order → Order library seen (n ∷ agenda) order

-- the first name that such a walk comes to and that no structure has
pub data Missing (library : List Structure) : List Name → List Name → Name → Type 0 where
  here : {seen agenda : List Name} {n : Name} → ¬ Contains seen n → structure_named library n ≡ None → Missing library seen (n ∷ agenda) n
  later : {seen agenda : List Name} {n m : Name} → Contains seen n → Missing library seen agenda m → Missing library seen (n ∷ agenda) m
  within : {seen agenda : List Name} {n m : Name} {s : Structure} → ¬ Contains seen n → structure_named library n ≡ Some s
      → Missing library (seen ++ n ∷ []) (references s.elements ++ agenda) m → Missing library seen (n ∷ agenda) m

-- the structure of the one name places the other
pub record Refers (library : List Structure) (from to : Name) : Type 0 where
  pub structure : Structure
  pub found : structure_named library from ≡ Some structure
  pub places : Contains (references structure.elements) to

-- each name refers to the next one, the first of all to the first of the list
abbrev pub Chain : List Structure → Name → List Name → Type 0
Chain library from [] = Unit {0}
Chain library from (to ∷ names) = Refers library from to × Chain library to names

-- the names go round in a circle: each refers to the next, and the last is the first
pub record IsCycle (library : List Structure) (names : List Name) : Type 0 where
  pub start : Name
  pub between : List Name
  pub closed : names ≡ start ∷ (between ++ start ∷ [])
  pub chain : Chain library start (between ++ start ∷ [])

-- the name isn't among those before, and all that it refers to is
pub record StandsBehind (library : List Structure) (before : List Name) (name : Name) : Type 0 where
  pub fresh : ¬ Contains before name
  pub behind : (m : Name) → Refers library name m → Contains before m

-- each name stands behind those before it
abbrev pub RankedBehind : List Structure → List Name → List Name → Type 0
RankedBehind library before [] = Unit {0}
RankedBehind library before (n ∷ names) = StandsBehind library before n × RankedBehind library (before ++ n ∷ []) names

-- each name stands behind all that it refers to, and none stands twice
abbrev pub Ranked : List Structure → List Name → Type 0
Ranked library names = RankedBehind library [] names

-- no circle is reached: the names of the order can be put behind all that they refer to
pub record Acyclic (library : List Structure) (order : List Name) : Type 0 where
  pub finish : List Name
  pub ranked : Ranked library finish
  pub all : All (Contains finish) order
  pub only : All (Contains order) finish

-- no chain from the name has more names than the deepest that is taken
abbrev pub Shallow : List Structure → Name → Type 0
Shallow library top = (names : List Name) → Chain library top names → length names < DEEPEST

-- a chain of one name more, from this one
pub record Deep (library : List Structure) (top : Name) : Type 0 where
  pub others : List Name
  pub many : length others ≡ DEEPEST
  pub chain : Chain library top others
