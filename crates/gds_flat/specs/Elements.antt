-- Elements on the masks of a table: which are passed over, which are odd, and in which an array has no whole steps.
use Rattle.std.specs.Prelude.{◌≡◌, ◌≢◌, ℕ, ◌<◌, ◌⊎◌, ℤ, pos, ◌-ℤ◌, ◌*ℤ◌, ◌<ℤ◌, ◌≤ℤ◌, Bool, true, false, ◌||◌, List, ◌∷◌, ◌++◌, slice_index_or, Option, Some, None, MatchOption, position, IsSome, All, bit_and, if◌then◌else◌}
use Rattle.std.specs.Option.{option_map_or}
use Rattle.std.specs.Ordering.{int_eq}
use Rattle.rt_base.specs.declared.plane.Point.{Point}
use Rattle.rt_tech.specs.declared.table.Mask.{Mask}
use Rattle.rt_tech.specs.declared.table.Tech.{Tech}
use Rattle.rt_tech.specs.Words.{same_pair, is_ignored}
use Rattle.gds_records.specs.Reals.{IsReal, IsQuarterTurns}
use Rattle.gds_stream.specs.declared.library.Element.{Element}
use Rattle.gds_stream.specs.declared.library.Element.TheVariants.{Boundary, Path, Sref, Aref, Label, BoxShape}
use Rattle.gds_stream.specs.declared.library.Place.{Place}
use Rattle.gds_slabs.specs.Polygon.{IsSlanted}
use Rattle.gds_slabs.specs.Path.{IsPathWidth}
use Rattle.gds_slabs.specs.declared.path.PathEnd.{PathEnd}
use Rattle.gds_slabs.specs.declared.path.PathEnd.TheVariants.{Flush, Square}
use Rattle.gds_flat.specs.declared.error.Odd.{Odd}
use Rattle.gds_flat.specs.declared.error.Odd.TheVariants.{PathType, PathWidth, BoxElement, Magnification, Angle, Absolute, Slanted}
use Rattle.gds_flat.specs.declared.error.ElementFault.{ElementFault}
use Rattle.gds_flat.specs.declared.error.ElementFault.TheVariants.{Unmapped, Oddity, Steps}

-- the place of an element's first byte in the stream
abbrev pub offset_of : Element → ℕ
offset_of (Boundary offset layer datatype points) = offset
offset_of (Path offset layer datatype pathtype width points) = offset
offset_of (Sref offset name place at) = offset
offset_of (Aref offset name place columns rows points) = offset
offset_of (Label offset layer texttype at text) = offset
offset_of (BoxShape offset layer boxtype) = offset

-- the layer of an element and its data type, text type or box type; a reference has none
abbrev pub pair_of : Element → Option (ℤ × ℤ)
pair_of (Boundary offset layer datatype points) = Some (layer, datatype)
pair_of (Path offset layer datatype pathtype width points) = Some (layer, datatype)
pair_of (Sref offset name place at) = None
pair_of (Aref offset name place columns rows points) = None
pair_of (Label offset layer texttype at text) = Some (layer, texttype)
pair_of (BoxShape offset layer boxtype) = Some (layer, boxtype)

-- the first mask whose shapes have the pair
abbrev pub mask_of_shapes : List Mask → ℤ × ℤ → Option ℕ
mask_of_shapes masks pair = position (λ mask. same_pair (mask.layer, mask.datatype) pair) masks

-- the first mask whose labels have the pair
abbrev pub mask_of_notes : List Mask → ℤ × ℤ → Option ℕ
mask_of_notes masks pair = position (λ mask. option_map_or (λ note. same_pair note pair) mask.note false) masks

-- the mask of an element: for a label by the masks' labels, for others by their shapes; none for a reference
abbrev pub mask_of : Tech → Element → Option ℕ
mask_of tech (Boundary offset layer datatype points) = mask_of_shapes tech.masks (layer, datatype)
mask_of tech (Path offset layer datatype pathtype width points) = mask_of_shapes tech.masks (layer, datatype)
mask_of tech (Sref offset name place at) = None
mask_of tech (Aref offset name place columns rows points) = None
mask_of tech (Label offset layer texttype at text) = mask_of_notes tech.masks (layer, texttype)
mask_of tech (BoxShape offset layer boxtype) = mask_of_shapes tech.masks (layer, boxtype)

-- the table passes over the pair, if no mask has it: it passes over all such pairs, or ignores this one
abbrev pub is_passed_over : Tech → ℤ × ℤ → Bool
is_passed_over tech pair = tech.drop_unlisted || is_ignored tech.ignored pair

-- the table has no mask for the element, and passes over its pair
pub record IsDropped (tech : Tech) (element : Element) : Type 0 where
  pub pair : ℤ × ℤ
  pub has : pair_of element ≡ Some pair
  pub unmapped : mask_of tech element ≡ None
  pub passed : is_passed_over tech pair ≡ true

-- the table has no mask for the element, and doesn't pass over its pair
pub record IsUnmapped (tech : Tech) (pair : ℤ × ℤ) (element : Element) : Type 0 where
  pub has : pair_of element ≡ Some pair
  pub unmapped : mask_of tech element ≡ None
  pub listed : is_passed_over tech pair ≡ false

-- the element is a reference, or has a mask
abbrev pub IsTested : Tech → Element → Type 0
IsTested tech element = (pair_of element ≡ None) ⊎ IsSome (mask_of tech element)

-- how a path of the type ends: type 0 at its points, type 2 half its width beyond them; no other type is taken
abbrev pub end_of : ℤ → Option PathEnd
end_of pathtype = if int_eq pathtype (pos 0) then Some Flush else if int_eq pathtype (pos 2) then Some Square else None

-- the place of an odd in the order of the tests
abbrev pub rank : Odd → ℕ
rank PathType = 0
rank PathWidth = 1
rank BoxElement = 2
rank Magnification = 3
rank Angle = 4
rank Absolute = 5
rank Slanted = 6

-- a polygon or a path of these points has the odd
abbrev pub PointsHave : List Point → Odd → Type 0
PointsHave points Slanted = IsSlanted points
PointsHave points _ = ⊥

-- it lacks the odd
abbrev pub PointsLack : List Point → Odd → Type 0
PointsLack points Slanted = ¬ IsSlanted points
PointsLack points _ = Unit {0}

-- a path of this type, width and points has the odd
abbrev pub PathHas : ℤ → ℤ → List Point → Odd → Type 0
PathHas pathtype width points PathType = end_of pathtype ≡ None
PathHas pathtype width points PathWidth = ¬ IsPathWidth width
PathHas pathtype width points other = PointsHave points other

-- it lacks the odd
abbrev pub PathLacks : ℤ → ℤ → List Point → Odd → Type 0
PathLacks pathtype width points PathType = (end : PathEnd) × (end_of pathtype ≡ Some end)
PathLacks pathtype width points PathWidth = IsPathWidth width
PathLacks pathtype width points other = PointsLack points other

-- a reference placed so has the odd
abbrev pub PlaceHas : Place → Odd → Type 0
PlaceHas place Magnification = ¬ IsReal place.mag (pos 1)
PlaceHas place Angle = (q : ℤ) → IsReal place.angle (pos 90 *ℤ q) → ⊥
PlaceHas place Absolute = bit_and place.flags 6 ≢ 0
PlaceHas place _ = ⊥

-- it lacks the odd
abbrev pub PlaceLacks : Place → Odd → Type 0
PlaceLacks place Magnification = IsReal place.mag (pos 1)
PlaceLacks place Angle = (quarters : ℕ) × IsQuarterTurns place.angle quarters
PlaceLacks place Absolute = bit_and place.flags 6 ≡ 0
PlaceLacks place _ = Unit {0}

-- the odd is that of a box
abbrev pub BoxHas : Odd → Type 0
BoxHas BoxElement = Unit {0}
BoxHas _ = ⊥

-- it is another one
abbrev pub BoxLacks : Odd → Type 0
BoxLacks BoxElement = ⊥
BoxLacks _ = Unit {0}

-- the element has the odd
abbrev pub HasOdd : Element → Odd → Type 0
HasOdd (Boundary offset layer datatype points) odd = PointsHave points odd
HasOdd (Path offset layer datatype pathtype width points) odd = PathHas pathtype width points odd
HasOdd (Sref offset name place at) odd = PlaceHas place odd
HasOdd (Aref offset name place columns rows points) odd = PlaceHas place odd
HasOdd (Label offset layer texttype at text) odd = ⊥
HasOdd (BoxShape offset layer boxtype) odd = BoxHas odd

-- the element lacks the odd
abbrev pub LacksOdd : Element → Odd → Type 0
LacksOdd (Boundary offset layer datatype points) odd = PointsLack points odd
LacksOdd (Path offset layer datatype pathtype width points) odd = PathLacks pathtype width points odd
LacksOdd (Sref offset name place at) odd = PlaceLacks place odd
LacksOdd (Aref offset name place columns rows points) odd = PlaceLacks place odd
LacksOdd (Label offset layer texttype at text) odd = Unit {0}
LacksOdd (BoxShape offset layer boxtype) odd = BoxLacks odd

-- the odd is the first that something has, and it lacks those before
pub record IsFirstOdd (has lacks : Odd → Type 0) (odd : Odd) : Type 0 where
  pub here : has odd
  pub earlier : (other : Odd) → rank other < rank odd → lacks other

-- the first odd that something has, none where it lacks all
abbrev pub IsFirstFor : (Odd → Type 0) → (Odd → Type 0) → Option Odd → Type 0
IsFirstFor has lacks found = MatchOption found ((odd : Odd) → lacks odd) (IsFirstOdd has lacks)

-- it is the first odd of the element
abbrev pub FirstOdd : Element → Odd → Type 0
FirstOdd element odd = IsFirstOdd (HasOdd element) (LacksOdd element) odd

-- the element has no odd
abbrev pub Plain : Element → Type 0
Plain element = (odd : Odd) → LacksOdd element odd

-- so many equal steps, at least one, lead from one point to the other
pub record LeadTo (count : ℤ) (step : ℤ × ℤ) (from to : Point) : Type 0 where
  pub some : pos 1 ≤ℤ count
  pub across : count *ℤ step.0 ≡ to.x -ℤ from.x
  pub upwards : count *ℤ step.1 ≡ to.y -ℤ from.y

-- the count is below 1, or no whole step leads so from one point to the other
abbrev pub NoneLeads : ℤ → Point → Point → Type 0
NoneLeads count from to = (count <ℤ pos 1) ⊎ ((step : ℤ) → count *ℤ step ≢ to.x -ℤ from.x) ⊎ ((step : ℤ) → count *ℤ step ≢ to.y -ℤ from.y)

-- the point at a place of a list
abbrev pub point_at : List Point → ℕ → Point
point_at points k = slice_index_or points k (record { x = pos 0; y = pos 0 })

-- the element is an array without columns or rows, or with a step that isn't whole
abbrev pub StepFails : Element → Type 0
StepFails (Boundary offset layer datatype points) = ⊥
StepFails (Path offset layer datatype pathtype width points) = ⊥
StepFails (Sref offset name place at) = ⊥
StepFails (Aref offset name place columns rows points) =
    NoneLeads columns (point_at points 0) (point_at points 1) ⊎ NoneLeads rows (point_at points 0) (point_at points 2)
StepFails (Label offset layer texttype at text) = ⊥
StepFails (BoxShape offset layer boxtype) = ⊥

-- the steps along a row of an array and from row to row
pub record AreSteps (columns rows : ℤ) (points : List Point) (across up : ℤ × ℤ) : Type 0 where
  pub columns_lead : LeadTo columns across (point_at points 0) (point_at points 1)
  pub rows_lead : LeadTo rows up (point_at points 0) (point_at points 2)

-- an array has columns, rows and whole steps
abbrev pub HasSteps : Element → Type 0
HasSteps (Boundary offset layer datatype points) = Unit {0}
HasSteps (Path offset layer datatype pathtype width points) = Unit {0}
HasSteps (Sref offset name place at) = Unit {0}
HasSteps (Aref offset name place columns rows points) = (across : ℤ × ℤ) × (up : ℤ × ℤ) × AreSteps columns rows points across up
HasSteps (Label offset layer texttype at text) = Unit {0}
HasSteps (BoxShape offset layer boxtype) = Unit {0}

-- nothing is odd in the element, and its steps are whole
pub record IsWhole (element : Element) : Type 0 where
  pub plain : Plain element
  pub steps : HasSteps element

-- the table passes over the element, or it is a reference or has a mask, and is whole
abbrev pub Fine : Tech → Element → Type 0
Fine tech element = IsDropped tech element ⊎ (IsTested tech element × IsWhole element)

-- the element, which isn't passed over, has the odd as its first
pub record IsOddAt (tech : Tech) (element : Element) (offset : ℕ) (odd : Odd) : Type 0 where
  pub tested : IsTested tech element
  pub first : FirstOdd element odd
  pub at : offset ≡ offset_of element

-- the element has no odd, but fails in its steps
pub record FailsAt (tech : Tech) (element : Element) (offset : ℕ) : Type 0 where
  pub tested : IsTested tech element
  pub plain : Plain element
  pub fails : StepFails element
  pub at : offset ≡ offset_of element

-- the fault is that of the element
abbrev pub FaultOf : Tech → Element → ElementFault → Type 0
FaultOf tech element (Unmapped layer number) = IsUnmapped tech (layer, number) element
FaultOf tech element (Oddity offset odd) = IsOddAt tech element offset odd
FaultOf tech element (Steps offset) = FailsAt tech element offset

-- the fault is that of the first element that isn't fine
pub record FirstFault (tech : Tech) (elements : List Element) (fault : ElementFault) : Type 0 where
  pub before : List Element
  pub element : Element
  pub behind : List Element
  pub split : elements ≡ before ++ element ∷ behind
  pub fine : All (Fine tech) before
  pub at : FaultOf tech element fault
