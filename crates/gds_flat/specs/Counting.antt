-- How many items elements give, as a loop over them counts.
use Rattle.std.specs.Prelude.{◌≡◌, ℕ, ◌≤◌, List, length, Some, slice_get}
use Rattle.rt_tech.specs.declared.table.Tech.{Tech}
use Rattle.gds_stream.specs.declared.library.Element.{Element}
use Rattle.gds_stream.specs.declared.library.Structure.{Structure}
use Rattle.gds_slabs.specs.declared.step.Step.{Step}
use Rattle.gds_flat.specs.Walking.{name_at}
use Rattle.gds_flat.specs.Placing.{StepsOf}
use Rattle.gds_flat.specs.Items.{Piece, GivesOn, Own, PiecesOf}
use Rattle.gds_flat.specs.Drawn.{IsCount, HasCount}

-- the counts of the first structures of the finish
pub record AreFirstCounts (library : List Structure) (tech : Tech) (finish counts : List ℕ) : Type 0 where
  pub few : length counts ≤ length finish
  pub are : (p k count : ℕ) → slice_get finish p ≡ Some k → slice_get counts p ≡ Some count → HasCount library tech (name_at library k) count

-- the elements give so many items, with what references place
pub record HasCountOf (library : List Structure) (tech : Tech) (elements : List Element) (count : ℕ) : Type 0 where
  pub pieces : List Piece
  pub are : PiecesOf library tech elements pieces
  pub counted : IsCount pieces count

-- the element gives so many items by itself
pub record HasOwnCount (tech : Tech) (element : Element) (count : ℕ) : Type 0 where
  pub pieces : List Piece
  pub own : Own tech element pieces
  pub counted : IsCount pieces count

-- the element on any mask gives so many items by itself
pub record HasCountOn (element : Element) (count : ℕ) : Type 0 where
  pub pieces : ℕ → List Piece
  pub gives : (mask : ℕ) → GivesOn element mask (pieces mask)
  pub counted : (mask : ℕ) → IsCount (pieces mask) count

-- a reference places what it names so many times
pub record IsPlacedTimes (element : Element) (times : ℕ) : Type 0 where
  pub steps : List Step
  pub are : StepsOf element steps
  pub counted : times ≡ length steps
  pub some : 1 ≤ times
