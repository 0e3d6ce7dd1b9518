-- How deep structures are placed in one another.
use Rattle.std.specs.Prelude.{◌≡◌, ℕ, ◌+◌, ◌<◌, ◌≤◌, ◌⊎◌, List, [], ◌∷◌, length, take, Some, slice_get, Contains}
use Rattle.gds_stream.specs.declared.library.Element.{Element}
use Rattle.gds_stream.specs.declared.library.Structure.{Structure}
use Rattle.gds_flat.specs.declared.walk.Walk.{Walk}
use Rattle.gds_flat.specs.Reach.{Name, place_named, references, Order, Chain, Ranked}
use Rattle.gds_flat.specs.Walking.{name_at, names_at, AreMarked}

-- a walk without a circle
pub record IsTree (library : List Structure) (top : Name) (walk : Walk) : Type 0 where
  pub order : Order library [] (top ∷ []) (names_at library walk.order.items)
  pub marked : AreMarked library [] walk.marks.items walk.order.items walk.finish.items
  pub ranked : Ranked library (names_at library walk.finish.items)

-- the structure of the name stands at this place of the finish
pub record IsRankOf (library : List Structure) (finish : List ℕ) (name : Name) (p : ℕ) : Type 0 where
  pub structure : ℕ
  pub named : place_named name library ≡ Some structure
  pub at : slice_get finish p ≡ Some structure

-- what the elements place stands among the first so many of the finish
abbrev pub PlaceOnly : List Structure → List ℕ → ℕ → List Element → Type 0
PlaceOnly library finish count elements = (n : Name) → Contains (references elements) n → Contains (names_at library (take count finish)) n

-- a chain from the name has so many structures, itself included, and none has more
pub record IsDepthOf (library : List Structure) (name : Name) (depth : ℕ) : Type 0 where
  pub others : List Name
  pub chain : Chain library name others
  pub reaches : length others + 1 ≡ depth
  pub most : (names : List Name) → Chain library name names → length names < depth

-- the depths of the first structures of the finish
pub record AreDepths (library : List Structure) (finish depths : List ℕ) : Type 0 where
  pub few : length depths ≤ length finish
  pub small : (p d : ℕ) → slice_get depths p ≡ Some d → d ≤ p + 1
  pub are : (p d k : ℕ) → slice_get depths p ≡ Some d → slice_get finish p ≡ Some k → IsDepthOf library (name_at library k) d

-- what elements place has this depth at most, and something has it
pub record IsDeepest (library : List Structure) (elements : List Element) (depth : ℕ) : Type 0 where
  pub most : (n : Name) (names : List Name) → Contains (references elements) n → Chain library n names → length names < depth
  pub some : (depth ≡ 0) ⊎ ((n : Name) × Contains (references elements) n × IsDepthOf library n depth)
