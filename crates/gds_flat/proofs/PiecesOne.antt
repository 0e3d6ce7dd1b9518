-- The items of elements are one list at most.
use Rattle.std.proofs.Common.{◌≡◌, ℕ, ◌<◌, ℤ, pos, ◌-ℤ◌, ◌*ℤ◌, ◌≤ℤ◌, Bool, List, [], ◌∷◌, ◌++◌, map, Option, Some, None, MatchOption, All, unsigned_abs, refl, sym, ap, subst, ◌∙◌, arith}
use Rattle.std.proofs.Math.Path.{ap₂}
use Rattle.std.proofs.lemmas.Int.{ints}
use Rattle.std.proofs.lemmas.List.Elements.{All-head, All-tail}
use denote.Struct.Props.{props}
use Rattle.rt_base.specs.declared.plane.Point.{Point}
use Rattle.rt_base.specs.declared.plane.Orient.{Orient}
use Rattle.rt_cells.proofs.Times.{times_cancel_le}
use Rattle.rt_tech.specs.declared.table.Tech.{Tech}
use Rattle.gds_records.specs.Reals.{IsQuarterTurns}
use Rattle.gds_records.proofs.Magnitudes.{one_value}
use Rattle.gds_stream.specs.declared.library.Element.{Element}
use Rattle.gds_stream.specs.declared.library.Element.TheVariants.{Boundary, Path, Sref, Aref, Label, BoxShape}
use Rattle.gds_stream.specs.declared.library.Structure.{Structure}
use Rattle.gds_stream.specs.declared.library.Place.{Place}
use Rattle.gds_slabs.specs.declared.step.Step.{Step}
use Rattle.gds_slabs.specs.declared.path.PathEnd.{PathEnd}
use Rattle.gds_slabs.specs.Path.{path_areas, half_of}
use Rattle.gds_slabs.proofs.Coverings.{slabs_are_one}
use Rattle.gds_flat.specs.Reach.{Name}
use Rattle.gds_flat.specs.Elements.{mask_of, end_of, LeadTo, point_at}
use Rattle.gds_flat.specs.Placing.{IsTurnOf, shift_of, AreStepsTo, array_shifts, AreArraySteps, StepsOf}
use Rattle.gds_flat.specs.Items.PiecesOf.{none, own, placed}
use Rattle.gds_flat.specs.Items.{Piece, area_piece, GivesOn, Own, all_moved, PiecesOf, Pieces}

-- ---- what an element gives by itself

-- a path of a type ends in one way
pub ends_one : (end : Option PathEnd) (a b : PathEnd) → end ≡ Some a → end ≡ Some b → a ≡ b
ends_one end a b g h = cc

gives_one : (e : Element) (mask : ℕ) (a b : List Piece) → GivesOn e mask a → GivesOn e mask b → a ≡ b
gives_one (Boundary offset layer datatype points) mask a b g h =
    g.are ∙ ap (map (area_piece offset mask)) (slabs_are_one points g.rects h.rects g.slabs h.slabs) ∙ sym h.are
gives_one (Path offset layer datatype pathtype width points) mask a b g h =
    g.are ∙ ap (λ e. map (area_piece offset mask) (path_areas (half_of width) e points)) (ends_one (end_of pathtype) g.end h.end g.ends h.ends) ∙ sym h.are
gives_one (Sref offset name place at) mask a b g h = g ∙ sym h
gives_one (Aref offset name place columns rows points) mask a b g h = g ∙ sym h
gives_one (Label offset layer texttype at text) mask a b g h = g ∙ sym h
gives_one (BoxShape offset layer boxtype) mask a b g h = g ∙ sym h

own_on : (m : Option ℕ) (e : Element) (a b : List Piece) → MatchOption m (a ≡ []) (λ mask. GivesOn e mask a)
    → MatchOption m (b ≡ []) (λ mask. GivesOn e mask b) → a ≡ b
own_on None e a b g h = g ∙ sym h
own_on (Some mask) e a b g h = gives_one e mask a b g h

pub own_one : (tech : Tech) (e : Element) (a b : List Piece) → Own tech e a → Own tech e b → a ≡ b
own_one tech e a b g h = own_on (mask_of tech e) e a b g h

-- ---- steps

pub quarters_one : (bytes : List ℕ) (m n : ℕ) → IsQuarterTurns bytes m → IsQuarterTurns bytes n → m ≡ n
quarters_one bytes m n a b =
    let same : pos 90 *ℤ a.quarters ≡ pos 90 *ℤ b.quarters = one_value bytes (pos 90 *ℤ a.quarters) (pos 90 *ℤ b.quarters) a.degrees b.degrees in
    let one : a.quarters ≡ b.quarters = omega (arith, ints) in
    let r = a.beside in
    let s = b.beside in
    cc

orient_one : (reflect : Bool) (m n : ℕ) (low : m < 4) (under : n < 4) → m ≡ n
    → ◌≡◌ {A = Orient} (record { reflect = reflect; quarters = m; below_a_turn = low }) (record { reflect = reflect; quarters = n; below_a_turn = under })
orient_one reflect m n low under e =
    let P : ℕ → Type 0 = λ x. (h : x < 4)
    → ◌≡◌ {A = Orient} (record { reflect = reflect; quarters = m; below_a_turn = low }) (record { reflect = reflect; quarters = x; below_a_turn = h }) in
    let within : IsProp (m < 4) = hlevel props in
    let here : (h : m < 4) → ◌≡◌ {A = Orient} (record { reflect = reflect; quarters = m; below_a_turn = low }) (record { reflect = reflect; quarters = m; below_a_turn = h }) =
    λ h i. record { reflect = reflect; quarters = m; below_a_turn = within low h i } in
    subst P e here under

step_one : (place : Place) (s t : Step) → IsTurnOf place s → IsTurnOf place t → shift_of s ≡ shift_of t → s ≡ t
step_one place s t a b e =
    let quarters : s.orient.quarters ≡ t.orient.quarters = quarters_one place.angle s.orient.quarters t.orient.quarters a.quarters b.quarters in
    let reflect : t.orient.reflect ≡ s.orient.reflect = b.reflect ∙ sym a.reflect in
    let low : (r : Bool) (h : t.orient.quarters < 4) → r ≡ s.orient.reflect
    → s.orient ≡ record { reflect = r; quarters = t.orient.quarters; below_a_turn = h } =
    (λ r h same. let P : Bool → Type 0 = λ x. s.orient ≡ record { reflect = x; quarters = t.orient.quarters; below_a_turn = h } in
    subst P (sym same) (orient_one s.orient.reflect s.orient.quarters t.orient.quarters s.orient.below_a_turn h quarters)) in
    let orient : s.orient ≡ t.orient = low t.orient.reflect t.orient.below_a_turn reflect in
    λ i. record { orient = orient i; dx = (e i).0; dy = (e i).1 }

turns_one : (place : Place) (xs ys : List Step) → All (IsTurnOf place) xs → All (IsTurnOf place) ys → map shift_of xs ≡ map shift_of ys → xs ≡ ys
turns_one place [] [] a b e = refl
turns_one place [] (y ∷ ys) a b e = cc
turns_one place (x ∷ xs) [] a b e = cc
turns_one place (x ∷ xs) (y ∷ ys) a b e =
    let head : shift_of x ≡ shift_of y = cc in
    let rest : map shift_of xs ≡ map shift_of ys = cc in
    ap₂ (λ s ss. s ∷ ss) (step_one place x y (All-head (IsTurnOf place) x xs a) (All-head (IsTurnOf place) y ys b) head)
    (turns_one place xs ys (All-tail (IsTurnOf place) x xs a) (All-tail (IsTurnOf place) y ys b) rest)

steps_to_one : (place : Place) (shifts : List (ℤ × ℤ)) (xs ys : List Step) → AreStepsTo place shifts xs → AreStepsTo place shifts ys → xs ≡ ys
steps_to_one place shifts xs ys a b = turns_one place xs ys a.turns b.turns (a.follow ∙ sym b.follow)

both_ways : (b c : ℤ) → b ≤ℤ c → c ≤ℤ b → b ≡ c
both_ways b c h k = omega (arith, ints)

same_le : (b c : ℤ) → b ≡ c → b ≤ℤ c
same_le b c h = omega (arith, ints)

times_one : (a b c d : ℤ) → pos 1 ≤ℤ a → a *ℤ b ≡ d → a *ℤ c ≡ d → b ≡ c
times_one a b c d some h k =
    both_ways b c (times_cancel_le a b c some (same_le (a *ℤ b) (a *ℤ c) (h ∙ sym k))) (times_cancel_le a c b some (same_le (a *ℤ c) (a *ℤ b) (k ∙ sym h)))

lead_one : (count : ℤ) (s t : ℤ × ℤ) (from to : Point) → LeadTo count s from to → LeadTo count t from to → s ≡ t
lead_one count s t from to a b =
    ap₂ (λ x y. (x, y)) (times_one count s.0 t.0 (to.x -ℤ from.x) a.some a.across b.across)
    (times_one count s.1 t.1 (to.y -ℤ from.y) a.some a.upwards b.upwards)

array_one : (place : Place) (columns rows : ℤ) (points : List Point) (xs ys : List Step) → AreArraySteps place columns rows points xs
    → AreArraySteps place columns rows points ys → xs ≡ ys
array_one place columns rows points xs ys a b =
    let across : b.across ≡ a.across = lead_one columns b.across a.across (point_at points 0) (point_at points 1) b.whole.columns_lead a.whole.columns_lead in
    let up : b.up ≡ a.up = lead_one rows b.up a.up (point_at points 0) (point_at points 2) b.whole.rows_lead a.whole.rows_lead in
    let P : ℤ × ℤ → Type 0 = λ s. AreStepsTo place (array_shifts (point_at points 0) s b.up (unsigned_abs columns) (unsigned_abs rows)) ys in
    let Q : ℤ × ℤ → Type 0 = λ s. AreStepsTo place (array_shifts (point_at points 0) a.across s (unsigned_abs columns) (unsigned_abs rows)) ys in
    steps_to_one place (array_shifts (point_at points 0) a.across a.up (unsigned_abs columns) (unsigned_abs rows)) xs ys a.are (subst Q up (subst P across b.are))

pub steps_one : (e : Element) (xs ys : List Step) → StepsOf e xs → StepsOf e ys → xs ≡ ys
steps_one (Boundary offset layer datatype points) xs ys a b = absurd a
steps_one (Path offset layer datatype pathtype width points) xs ys a b = absurd a
steps_one (Sref offset name place at) xs ys a b = steps_to_one place ((at.x, at.y) ∷ []) xs ys a b
steps_one (Aref offset name place columns rows points) xs ys a b = array_one place columns rows points xs ys a b
steps_one (Label offset layer texttype at text) xs ys a b = absurd a
steps_one (BoxShape offset layer boxtype) xs ys a b = absurd a

-- ---- items

pub pieces_of_one : (library : List Structure) (tech : Tech) {es : List Element} {a b : List Piece} → PiecesOf library tech es a → PiecesOf library tech es b → a ≡ b
pieces_of_one library tech none none = refl
pieces_of_one library tech (own e mine others t o r i) (own f mine' others' t' o' r' i') =
    i ∙ ap₂ (λ x y. x ++ y) (own_one tech e mine mine' o o') (pieces_of_one library tech r r') ∙ sym i'
pieces_of_one library tech (own e mine others t o r i) (placed f to s inner others' steps t' found p of r' i') = cc
pieces_of_one library tech (placed e to s inner others steps t found p of r i) (own f mine others' t' o r' i') = cc
pieces_of_one library tech (placed e to s inner others steps t found p of r i) (placed f to' s' inner' others' steps' t' found' p' of' r' i') =
    let name : to' ≡ to = cc in
    let same : s' ≡ s = cc in
    let P : Structure → Type 0 = λ x. PiecesOf library tech x.elements inner' in
    i ∙ ap₂ (λ x y. x ++ y) (ap₂ (λ x y. all_moved x y) (steps_one e steps steps' of of') (pieces_of_one library tech p (subst P same p')))
    (pieces_of_one library tech r r') ∙ sym i'

pub pieces_one : (library : List Structure) (tech : Tech) (name : Name) (a b : List Piece) → Pieces library tech name a → Pieces library tech name b → a ≡ b
pieces_one library tech name a b p q =
    let f = p.found in
    let g = q.found in
    let same : q.structure ≡ p.structure = cc in
    let P : Structure → Type 0 = λ x. PiecesOf library tech x.elements b in
    pieces_of_one library tech p.are (subst P same q.are)
