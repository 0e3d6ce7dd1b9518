-- What a walk over what structures place keeps, with structures by their places in the library.
use Rattle.std.specs.Prelude.{◌≡◌, ℕ, ◌+◌, ◌<◌, ◌⊎◌, List, [], ◌∷◌, ◌++◌, length, map, take, drop, Option, Some, MatchOption, slice_get, All, Contains}
use Rattle.gds_stream.specs.declared.library.Element.{Element}
use Rattle.gds_stream.specs.declared.library.Structure.{Structure}
use Rattle.gds_flat.specs.declared.walk.Mark.{Mark}
use Rattle.gds_flat.specs.declared.walk.Mark.TheVariants.{Unseen, Open, Done}
use Rattle.gds_flat.specs.declared.walk.Frame.{Frame}
use Rattle.gds_flat.specs.declared.walk.Walk.{Walk}
use Rattle.gds_flat.specs.declared.error.Stop.{Stop}
use Rattle.gds_flat.specs.declared.error.Stop.TheVariants.{Unnamed, NoMemory}
use Rattle.gds_flat.specs.Reach.{Name, name_of, elements_of, place_named, references, Order, Missing, Chain, IsCycle, Ranked}

-- the name of the structure at the place
abbrev pub name_at : List Structure → ℕ → Name
name_at library k = name_of (slice_get library k)

-- the names of the structures at the places
abbrev pub names_at : List Structure → List ℕ → List Name
names_at library places = map (name_at library) places

-- the elements of the structure at the place
abbrev pub elements_at : List Structure → ℕ → List Element
elements_at library k = elements_of (slice_get library k)

-- the structure at the place is the first of its name
abbrev pub IsFirst : List Structure → ℕ → Type 0
IsFirst library k = place_named (name_at library k) library ≡ Some k

-- the structures of the frames
abbrev pub opens : List Frame → List ℕ
opens frames = map (λ f. f.structure) frames

-- the names that a frame has taken
abbrev pub taken : List Structure → Frame → List Name
taken library f = references (take f.next (elements_at library f.structure))

-- the elements that a frame has still to take
abbrev pub elements_left : List Structure → Frame → List Element
elements_left library f = drop f.next (elements_at library f.structure)

-- the names that the frames have still to take, those of the last frame first
abbrev pub agenda : List Structure → List Frame → List Name
agenda library [] = []
agenda library (f ∷ frames) = agenda library frames ++ references (elements_left library f)

-- what the walk comes to from here is what the whole walk comes to
pub record LeadsOn (library : List Structure) (top : Name) (seen names : List Name) : Type 0 where
  pub order : (o : List Name) → Order library seen names o → Order library [] (top ∷ []) o
  pub missing : (n : Name) → Missing library seen names n → Missing library [] (top ∷ []) n

-- the marks say of each structure whether it is reached, and where in the frames or in the finish it stands
pub record AreMarked (library : List Structure) (opened : List ℕ) (marks : List Mark) (order finish : List ℕ) : Type 0 where
  pub enough : length marks ≡ length library
  pub first : All (IsFirst library) order
  pub unseen : (k : ℕ) → slice_get marks k ≡ Some Unseen → ¬ Contains order k
  pub open_seen : (k d : ℕ) → slice_get marks k ≡ Some (Open d) → Contains order k
  pub done_seen : (k d : ℕ) → slice_get marks k ≡ Some (Done d) → Contains order k
  pub open_at : (k d : ℕ) → slice_get marks k ≡ Some (Open d) → slice_get opened d ≡ Some k
  pub at_open : (k d : ℕ) → slice_get opened d ≡ Some k → slice_get marks k ≡ Some (Open d)
  pub done_at : (k d : ℕ) → slice_get marks k ≡ Some (Done d) → slice_get finish d ≡ Some k
  pub at_done : (k d : ℕ) → slice_get finish d ≡ Some k → slice_get marks k ≡ Some (Done d)

-- what a frame has taken is done, but for some names
abbrev pub IsTakenBut : List Structure → List ℕ → List Name → Frame → Type 0
IsTakenBut library finish but f = (m : Name) → Contains (taken library f) m → Contains (names_at library finish) m ⊎ Contains but m

-- the name of the first frame, and some names where there is none
abbrev pub above : List Structure → List Name → List Frame → List Name
above library pending [] = pending
above library pending (f ∷ frames) = name_at library f.structure ∷ []

-- what each frame has taken is done, but for the name of the next frame, and of the last frame but for the names pending
abbrev pub AreTaken : List Structure → List ℕ → List Name → List Frame → Type 0
AreTaken library finish pending [] = Unit {0}
AreTaken library finish pending (f ∷ frames) = IsTakenBut library finish (above library pending frames) f × AreTaken library finish pending frames

-- no circle so far: the finish is ranked, and the frames have taken what is done
pub record AreRanked (library : List Structure) (pending : List Name) (frames : List Frame) (finish : List ℕ) : Type 0 where
  pub ranked : Ranked library (names_at library finish)
  pub taken : AreTaken library finish pending frames

-- the places go round in a circle from a place that is reached
pub record IsCircle (library : List Structure) (order places : List ℕ) : Type 0 where
  pub cycle : IsCycle library (names_at library places)
  pub on : Contains (names_at library order) cycle.start
  pub within : All (λ k. k < length library) places

-- each name refers to the next
abbrev pub IsChain : List Structure → List Name → Type 0
IsChain library [] = Unit {0}
IsChain library (n ∷ names) = Chain library n names

-- how far a walk has come, with these names to be taken before what the frames have left
pub record HasCome (library : List Structure) (top : Name) (pending : List Name) (frames : List Frame) (marks : List Mark)
    (order finish : List ℕ) (circle : Option (List ℕ)) : Type 0 where
  pub leads : LeadsOn library top (names_at library order) (pending ++ agenda library frames)
  pub marked : AreMarked library (opens frames) marks order finish
  pub chain : IsChain library (names_at library (opens frames) ++ pending)
  pub either : MatchOption circle (AreRanked library pending frames finish) (IsCircle library order)

-- how far the walk has come
abbrev pub IsWalk : List Structure → Name → List Name → List Frame → Walk → Type 0
IsWalk library top pending frames walk =
    HasCome library top pending frames walk.marks.items walk.order.items walk.finish.items walk.circle

-- how much there is to do for structures that aren't reached
abbrev pub work_unseen : List Mark → List Structure → ℕ
work_unseen [] library = 0
work_unseen (mark ∷ marks) [] = 0
work_unseen (Unseen ∷ marks) (s ∷ library) = (1 + length s.elements) + work_unseen marks library
work_unseen (Open d ∷ marks) (s ∷ library) = work_unseen marks library
work_unseen (Done d ∷ marks) (s ∷ library) = work_unseen marks library

-- how much there is to do for the frames
abbrev pub work_open : List Structure → List Frame → ℕ
work_open library [] = 0
work_open library (f ∷ frames) = (1 + length (elements_left library f)) + work_open library frames

-- how many steps a walk can have left at most
abbrev pub work_left : List Structure → List Frame → List Mark → ℕ
work_left library frames marks = work_open library frames + work_unseen marks library

-- when a walk stops: at a name that no structure has, or for want of memory
abbrev pub StopsWith : List Structure → Name → Stop → Type 0
StopsWith library top (Unnamed name) = Missing library [] (top ∷ []) name
StopsWith library top NoMemory = Unit {0}

-- the structure at the place is the first of its name, and has the mark
pub record IsNext (library : List Structure) (marks : List Mark) (structure : ℕ) (mark : Mark) : Type 0 where
  pub first : IsFirst library structure
  pub marked : slice_get marks structure ≡ Some mark

-- the structures are in the order of a walk: found, and either ranked or with a circle that is reached
pub record HasWalked (library : List Structure) (top : Name) (walk : Walk) : Type 0 where
  pub order : Order library [] (top ∷ []) (names_at library walk.order.items)
  pub marked : AreMarked library [] walk.marks.items walk.order.items walk.finish.items
  pub circle : MatchOption walk.circle (Ranked library (names_at library walk.finish.items)) (IsCircle library walk.order.items)
