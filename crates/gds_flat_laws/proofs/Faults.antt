-- An element that is fine has no fault.
use Rattle.std.proofs.Common.{◌≡◌, ℕ, ℤ, pos, ◌≤ℤ◌, ◌<ℤ◌, inl, inr, List, Option, Some, None, IsSome, arith}
use Rattle.std.proofs.lemmas.Int.{ints}
use Rattle.rt_base.specs.declared.plane.Point.{Point}
use Rattle.rt_tech.specs.declared.table.Tech.{Tech}
use Rattle.gds_stream.specs.declared.library.Element.{Element}
use Rattle.gds_stream.specs.declared.library.Element.TheVariants.{Boundary, Path, Sref, Aref, Label, BoxShape}
use Rattle.gds_stream.specs.declared.library.Place.{Place}
use Rattle.gds_flat.specs.declared.error.Odd.{Odd}
use Rattle.gds_flat.specs.declared.error.Odd.TheVariants.{PathType, PathWidth, BoxElement, Magnification, Angle, Absolute, Slanted}
use Rattle.gds_flat.specs.declared.error.ElementFault.{ElementFault}
use Rattle.gds_flat.specs.declared.error.ElementFault.TheVariants.{Unmapped, Oddity, Steps}
use Rattle.gds_flat.specs.Elements.{pair_of, mask_of, end_of, PointsHave, PointsLack, PathHas, PathLacks, PlaceHas, PlaceLacks, BoxHas, BoxLacks, HasOdd, LacksOdd, LeadTo, NoneLeads, point_at, StepFails, HasSteps, IsDropped, IsUnmapped, IsTested, Fine, FaultOf}

-- ---- what has an odd doesn't lack it

points_odd : (points : List Point) (odd : Odd) → PointsLack points odd → PointsHave points odd → ⊥
points_odd points PathType lacks has = has
points_odd points PathWidth lacks has = has
points_odd points BoxElement lacks has = has
points_odd points Magnification lacks has = has
points_odd points Angle lacks has = has
points_odd points Absolute lacks has = has
points_odd points Slanted lacks has = lacks has

type_odd : {X : Type 0} (end : Option X) → (e : X) × (end ≡ Some e) → end ≡ None → ⊥
type_odd end lacks has = let some = lacks.1 in cc

path_odd : (pathtype width : ℤ) (points : List Point) (odd : Odd) → PathLacks pathtype width points odd → PathHas pathtype width points odd → ⊥
path_odd pathtype width points PathType lacks has = type_odd (end_of pathtype) lacks has
path_odd pathtype width points PathWidth lacks has = has lacks
path_odd pathtype width points BoxElement lacks has = has
path_odd pathtype width points Magnification lacks has = has
path_odd pathtype width points Angle lacks has = has
path_odd pathtype width points Absolute lacks has = has
path_odd pathtype width points Slanted lacks has = lacks has

place_odd : (place : Place) (odd : Odd) → PlaceLacks place odd → PlaceHas place odd → ⊥
place_odd place PathType lacks has = has
place_odd place PathWidth lacks has = has
place_odd place BoxElement lacks has = has
place_odd place Magnification lacks has = has lacks
place_odd place Angle lacks has = has lacks.1.quarters lacks.1.degrees
place_odd place Absolute lacks has = has lacks
place_odd place Slanted lacks has = has

box_odd : (odd : Odd) → BoxLacks odd → BoxHas odd → ⊥
box_odd PathType lacks has = has
box_odd PathWidth lacks has = has
box_odd BoxElement lacks has = lacks
box_odd Magnification lacks has = has
box_odd Angle lacks has = has
box_odd Absolute lacks has = has
box_odd Slanted lacks has = has

pub lacks_and_has : (element : Element) (odd : Odd) → LacksOdd element odd → HasOdd element odd → ⊥
lacks_and_has (Boundary offset layer datatype points) odd lacks has = points_odd points odd lacks has
lacks_and_has (Path offset layer datatype pathtype width points) odd lacks has = path_odd pathtype width points odd lacks has
lacks_and_has (Sref offset name place at) odd lacks has = place_odd place odd lacks has
lacks_and_has (Aref offset name place columns rows points) odd lacks has = place_odd place odd lacks has
lacks_and_has (Label offset layer texttype at text) odd lacks has = has
lacks_and_has (BoxShape offset layer boxtype) odd lacks has = box_odd odd lacks has

-- ---- what has whole steps doesn't fail in them

below_one : (count : ℤ) → pos 1 ≤ℤ count → count <ℤ pos 1 → ⊥
below_one count some few = omega (arith, ints)

lead_or_none : (count : ℤ) (step : ℤ × ℤ) (from to : Point) → LeadTo count step from to → NoneLeads count from to → ⊥
lead_or_none count step from to leads (inl few) = below_one count leads.some few
lead_or_none count step from to leads (inr (inl none)) = none step.0 leads.across
lead_or_none count step from to leads (inr (inr none)) = none step.1 leads.upwards

pub steps_and_fails : (element : Element) → HasSteps element → StepFails element → ⊥
steps_and_fails (Boundary offset layer datatype points) steps fails = fails
steps_and_fails (Path offset layer datatype pathtype width points) steps fails = fails
steps_and_fails (Sref offset name place at) steps fails = fails
steps_and_fails (Aref offset name place columns rows points) steps (inl none) =
    lead_or_none columns steps.0 (point_at points 0) (point_at points 1) steps.2.columns_lead none
steps_and_fails (Aref offset name place columns rows points) steps (inr none) =
    lead_or_none rows steps.1 (point_at points 0) (point_at points 2) steps.2.rows_lead none
steps_and_fails (Label offset layer texttype at text) steps fails = fails
steps_and_fails (BoxShape offset layer boxtype) steps fails = fails

-- ---- passed over, unmapped or tested

no_mask : (mask : Option ℕ) → IsSome mask → mask ≡ None → ⊥
no_mask None some none = cc
no_mask (Some mask) some none = cc

pub tested_has_mask : (tech : Tech) (element : Element) (pair : ℤ × ℤ) → IsTested tech element → pair_of element ≡ Some pair → mask_of tech element ≡ None → ⊥
tested_has_mask tech element pair (inl none) has unmapped = cc
tested_has_mask tech element pair (inr some) has unmapped = no_mask (mask_of tech element) some unmapped

dropped_and_tested : (tech : Tech) (element : Element) → IsDropped tech element → IsTested tech element → ⊥
dropped_and_tested tech element d tested = tested_has_mask tech element d.pair tested d.has d.unmapped

pub unmapped_and_tested : (tech : Tech) (element : Element) (pair : ℤ × ℤ) → IsUnmapped tech pair element → IsTested tech element → ⊥
unmapped_and_tested tech element pair u tested = tested_has_mask tech element pair tested u.has u.unmapped

pub pairs_one : (element : Element) (p q : ℤ × ℤ) → pair_of element ≡ Some p → pair_of element ≡ Some q → p ≡ q
pairs_one element p q a b = cc

dropped_and_unmapped : (tech : Tech) (element : Element) (pair : ℤ × ℤ) → IsDropped tech element → IsUnmapped tech pair element → ⊥
dropped_and_unmapped tech element pair d u =
    let same : d.pair ≡ pair = pairs_one element d.pair pair d.has u.has in
    let passed = d.passed in
    let listed = u.listed in
    cc

-- ---- an element that is fine has no fault

pub fine_and_fault : (tech : Tech) (element : Element) (fault : ElementFault) → Fine tech element → FaultOf tech element fault → ⊥
fine_and_fault tech element (Unmapped layer number) (inl d) f = dropped_and_unmapped tech element (layer, number) d f
fine_and_fault tech element (Unmapped layer number) (inr w) f = unmapped_and_tested tech element (layer, number) f w.0
fine_and_fault tech element (Oddity offset odd) (inl d) f = dropped_and_tested tech element d f.tested
fine_and_fault tech element (Oddity offset odd) (inr w) f = lacks_and_has element odd (w.1.plain odd) f.first.here
fine_and_fault tech element (Steps offset) (inl d) f = dropped_and_tested tech element d f.tested
fine_and_fault tech element (Steps offset) (inr w) f = steps_and_fails element w.1.steps f.fails
