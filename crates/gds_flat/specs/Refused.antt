-- What each answer of flattening says.
use Rattle.std.specs.Prelude.{◌≡◌, ℕ, ◌-◌, ◌^◌, ◌<◌, ◌≤◌, min, List, [], ◌∷◌, length, All, Contains}
use Rattle.std.specs.List.{flat_map}
use Rattle.rt_tech.specs.declared.table.Tech.{Tech}
use Rattle.rt_layout.specs.declared.layout.Layout.{Layout}
use Rattle.gds_stream.specs.declared.library.Element.{Element}
use Rattle.gds_stream.specs.declared.library.Structure.{Structure}
use Rattle.gds_flat.specs.declared.error.ElementFault.{ElementFault}
use Rattle.gds_flat.specs.declared.error.ElementFault.TheVariants.{Unmapped, Oddity, Steps}
use Rattle.gds_flat.specs.declared.error.Stop.{Stop}
use Rattle.gds_flat.specs.declared.error.Stop.TheVariants.{Unnamed, NoMemory}
use Rattle.gds_flat.specs.declared.error.FlatError.{FlatError}
use Rattle.gds_flat.specs.declared.error.FlatError.TheVariants.{Unsupported, NoSuchStructure, Cyclic, UnmappedLayer, ArrayStep, CoordinateRange, TooMany, TooDeep, OutOfMemory}
use Rattle.gds_flat.specs.declared.limits.TheConstants.{MOST_ITEMS}
use Rattle.gds_flat.specs.Reach.{Name, structure_named, elements_of, Order, Missing, IsCycle, Acyclic, Shallow, Deep}
use Rattle.gds_flat.specs.Elements.{Fine, FirstFault}
use Rattle.gds_flat.specs.Items.{Piece, Pieces, DrawingIsNear, Flat, FirstFar}

-- the elements of the structures by these names, one structure after the other
abbrev pub elements_along : List Structure → List Name → List Element
elements_along library names = flat_map (λ n. elements_of (structure_named library n)) names

-- the names that the walk from the top reaches, in order
abbrev pub IsReached : List Structure → Name → List Name → Type 0
IsReached library top order = Order library [] (top ∷ []) order

-- all names are found, no circle is reached, and no chain is too long
pub record IsSound (library : List Structure) (top : Name) : Type 0 where
  pub order : List Name
  pub reached : IsReached library top order
  pub acyclic : Acyclic library order
  pub shallow : Shallow library top

-- that, and all elements that are reached are fine
pub record Accepted (library : List Structure) (top : Name) (tech : Tech) : Type 0 where
  pub sound : IsSound library top
  pub fine : All (Fine tech) (elements_along library sound.order)

-- a circle of names, the first of which is reached, and all names are found
pub record HasCycle (library : List Structure) (top : Name) (names : List Name) : Type 0 where
  pub order : List Name
  pub reached : IsReached library top order
  pub cycle : IsCycle library names
  pub on : Contains order cycle.start

-- no circle, but a chain that is too long
pub record IsTooDeep (library : List Structure) (top : Name) : Type 0 where
  pub order : List Name
  pub reached : IsReached library top order
  pub acyclic : Acyclic library order
  pub deep : Deep library top

-- the fault is that of the first element that isn't fine, in a sound library
pub record IsFaulty (library : List Structure) (top : Name) (tech : Tech) (fault : ElementFault) : Type 0 where
  pub sound : IsSound library top
  pub first : FirstFault tech (elements_along library sound.order) fault

-- more items than are taken
pub record IsTooMany (library : List Structure) (top : Name) (tech : Tech) (count : ℕ) : Type 0 where
  pub accepted : Accepted library top tech
  pub pieces : List Piece
  pub are : Pieces library tech top pieces
  pub many : MOST_ITEMS < length pieces
  pub counted : count ≡ min (length pieces) (2 ^ 64 - 1)

-- no more items than are taken, and the first that lies too far out is of the element at the offset
pub record IsTooFar (library : List Structure) (top : Name) (tech : Tech) (offset : ℕ) : Type 0 where
  pub accepted : Accepted library top tech
  pub pieces : List Piece
  pub are : Pieces library tech top pieces
  pub few : length pieces ≤ MOST_ITEMS
  pub far : FirstFar pieces offset

-- the refusal for the fault of an element
abbrev pub refusal_of : ElementFault → FlatError
refusal_of (Unmapped layer number) = UnmappedLayer layer number
refusal_of (Oddity offset odd) = Unsupported offset odd
refusal_of (Steps offset) = ArrayStep offset

-- the refusal where a walk stops
abbrev pub refusal_to : Stop → FlatError
refusal_to (Unnamed name) = NoSuchStructure name
refusal_to NoMemory = OutOfMemory

-- when each refusal comes
abbrev pub FlatRefused : List Structure → Name → Tech → FlatError → Type 0
FlatRefused library top tech (Unsupported offset odd) = IsFaulty library top tech (Oddity offset odd)
FlatRefused library top tech (NoSuchStructure name) = Missing library [] (top ∷ []) name
FlatRefused library top tech (Cyclic names) = HasCycle library top names
FlatRefused library top tech (UnmappedLayer layer number) = IsFaulty library top tech (Unmapped layer number)
FlatRefused library top tech (ArrayStep offset) = IsFaulty library top tech (Steps offset)
FlatRefused library top tech (CoordinateRange offset) = IsTooFar library top tech offset
FlatRefused library top tech (TooMany count) = IsTooMany library top tech count
FlatRefused library top tech TooDeep = IsTooDeep library top
FlatRefused library top tech OutOfMemory = Unit {0}

-- the layout is the flat cell, of no more items than are taken, none of which lies too far out
pub record IsFlattened (library : List Structure) (top : Name) (tech : Tech) (layout : Layout) : Type 0 where
  pub accepted : Accepted library top tech
  pub flat : Flat library tech top layout
  pub few : length flat.pieces ≤ MOST_ITEMS
  pub near : All (λ p. DrawingIsNear p.drawing) flat.pieces
