-- The points of a stream have coordinates of 32 bits. So a layout can have the rectangles that are written.
use Rattle.std.proofs.Common.{ℕ, ◌-◌, ◌^◌, ℤ, pos, neg_ℤ, ◌≤ℤ◌, Bool, true, false, cond, ◌==◌, List, [], ◌∷◌, ◌++◌, map, Option, Some, None, MatchOption, All, sym, subst, arith}
use Rattle.std.specs.Prelude.{if◌then◌else◌}
use Rattle.std.specs.Int.{w32, cast_signed}
use Rattle.std.specs.List.{AllZip, filter_map, cons_option}
use Rattle.std.proofs.lemmas.Int.{ints}
use Rattle.std.proofs.lemmas.List.Elements.{All-nil, All-cons, All-head, All-tail}
use Rattle.rt_base.specs.declared.plane.Point.{Point}
use Rattle.rt_layout.specs.declared.layout.Label.{Label as Mark}
use Rattle.rt_tech.specs.declared.table.Tech.{Tech}
use Rattle.rt_strips.specs.Placed.{Placed}
use Rattle.gds_records.specs.declared.types.TheConstants.{BOUNDARY, PATH, SREF, AREF, TEXT, BOX, LAYER, DATATYPE, TEXTTYPE, BOXTYPE, SNAME, STRING, XY, BGNSTR, ENDSTR, ENDEL}
use Rattle.gds_records.specs.Records.{Item}
use Rattle.gds_stream.specs.declared.library.Element.{Element}
use Rattle.gds_stream.specs.declared.library.Element.TheVariants.{Boundary, Path, Sref, Aref, Label, BoxShape}
use Rattle.gds_stream.specs.declared.library.Library.{Library}
use Rattle.gds_stream.specs.declared.library.Structure.{Structure}
use Rattle.gds_stream.specs.Contents.{four_bytes, points_in, data_at, number_at, points_at, first_of, place_in, pathtype_in, width_in, columns_in, rows_in, element_of, pieces, structure_of, library_of, Stream}
use Rattle.gds_grammar.specs.Conditions.{starts, trim}
use Rattle.gds_slabs.specs.Sweep.{IsSmall}
use Rattle.rt_written.specs.Written.{corners_of, IsPolygonOf, IsWrittenAs}
use Rattle.rt_written.specs.ReadBack.{IsInRange}

-- ---- points

-- a number of four bytes
four_small : (n : ℕ) → IsSmall (cast_signed w32 n)
four_small n = record { low = omega (arith, ints); high = omega (arith, ints) }

-- both numbers of the point are of 32 bits
record IsSmallPoint (p : Point) : Type 0 where
  x : IsSmall p.x
  y : IsSmall p.y

points_small : (bytes : List ℕ) → All IsSmallPoint (points_in bytes)
points_small [] = All-nil IsSmallPoint
points_small (a ∷ []) = All-nil IsSmallPoint
points_small (a ∷ (b ∷ [])) = All-nil IsSmallPoint
points_small (a ∷ (b ∷ (c ∷ []))) = All-nil IsSmallPoint
points_small (a ∷ (b ∷ (c ∷ (d ∷ [])))) = All-nil IsSmallPoint
points_small (a ∷ (b ∷ (c ∷ (d ∷ (e ∷ []))))) = All-nil IsSmallPoint
points_small (a ∷ (b ∷ (c ∷ (d ∷ (e ∷ (f ∷ [])))))) = All-nil IsSmallPoint
points_small (a ∷ (b ∷ (c ∷ (d ∷ (e ∷ (f ∷ (g ∷ []))))))) = All-nil IsSmallPoint
points_small (a ∷ (b ∷ (c ∷ (d ∷ (e ∷ (f ∷ (g ∷ (h ∷ bytes)))))))) =
    All-cons IsSmallPoint (record { x = four_bytes (a ∷ b ∷ c ∷ d ∷ []); y = four_bytes (e ∷ f ∷ g ∷ h ∷ []) }) (points_in bytes)
    (record { x = four_small _; y = four_small _ }) (points_small bytes)

-- ---- elements

-- the points of a polygon are of 32 bits
abbrev HasSmallPoints : Element → Type 0
HasSmallPoints (Boundary offset layer datatype points) = All IsSmallPoint points
HasSmallPoints (Path offset layer datatype pathtype width points) = Unit {0}
HasSmallPoints (Sref offset name place at) = Unit {0}
HasSmallPoints (Aref offset name place columns rows points) = Unit {0}
HasSmallPoints (Label offset layer texttype at text) = Unit {0}
HasSmallPoints (BoxShape offset layer boxtype) = Unit {0}

-- the element that is given, if there is one, has small points
record GivesSmall (o : Option Element) : Type 0 where
  small : MatchOption o (Unit {0}) HasSmallPoints

none_given : GivesSmall None
none_given = record { small = tt }

some_given : (e : Element) → HasSmallPoints e → GivesSmall (Some e)
some_given e h = record { small = h }

either : (b : Bool) (o p : Option Element) → GivesSmall o → GivesSmall p → GivesSmall (cond b o p)
either true o p h k = h
either false o p h k = k

-- only a polygon has points that are asked about
other_small : (code : ℕ) (i : Item) (e : Element) (others : Option Element) → HasSmallPoints e → GivesSmall others
    → GivesSmall (if i.code == code then Some e else others)
other_small code i e others h k = either (i.code == code) (Some e) others (some_given e h) k

element_small : (items : List Item) → GivesSmall (element_of items)
element_small [] = none_given
element_small (i ∷ items) =
    let polygon : Element = Boundary i.at (number_at LAYER items) (number_at DATATYPE items) (points_at items) in
    let path : Element = Path i.at (number_at LAYER items) (number_at DATATYPE items) (pathtype_in items) (width_in items) (points_at items) in
    let placed : Element = Sref i.at (trim (data_at SNAME items)) (place_in items) (first_of (points_at items)) in
    let array : Element = Aref i.at (trim (data_at SNAME items)) (place_in items) (columns_in items) (rows_in items) (points_at items) in
    let label : Element = Label i.at (number_at LAYER items) (number_at TEXTTYPE items) (first_of (points_at items)) (trim (data_at STRING items)) in
    let box : Element = BoxShape i.at (number_at LAYER items) (number_at BOXTYPE items) in
    let boxes : Option Element = if i.code == BOX then Some box else None in
    let labels : Option Element = if i.code == TEXT then Some label else boxes in
    let arrays : Option Element = if i.code == AREF then Some array else labels in
    let places : Option Element = if i.code == SREF then Some placed else arrays in
    let paths : Option Element = if i.code == PATH then Some path else places in
    other_small BOUNDARY i polygon paths (points_small (data_at XY items))
    (other_small PATH i path places tt
    (other_small SREF i placed arrays tt
    (other_small AREF i array labels tt (other_small TEXT i label boxes tt (other_small BOX i box None tt none_given)))))

kept_small : (o : Option Element) (rest : List Element) → GivesSmall o → All HasSmallPoints rest → All HasSmallPoints (cons_option o rest)
kept_small None rest h k = k
kept_small (Some e) rest h k = All-cons HasSmallPoints e rest h.small k

elements_small : (parts : List (List Item)) → All HasSmallPoints (filter_map element_of parts)
elements_small [] = All-nil HasSmallPoints
elements_small (p ∷ parts) = kept_small (element_of p) (filter_map element_of parts) (element_small p) (elements_small parts)

-- ---- the library

abbrev HasSmallElements : Structure → Type 0
HasSmallElements s = All HasSmallPoints s.elements

structures_small : (parts : List (List Item)) → All HasSmallElements (map structure_of parts)
structures_small [] = All-nil HasSmallElements
structures_small (p ∷ parts) = All-cons HasSmallElements (structure_of p) (map structure_of parts) (elements_small (pieces starts ENDEL p)) (structures_small parts)

library_small : (items : List Item) → All HasSmallElements (library_of items).structures
unfolding library_of
library_small items = structures_small (pieces (BGNSTR ∷ []) ENDSTR items)

stream_small : (bytes : List ℕ) (library : Library) → Stream bytes library → All HasSmallElements library.structures
stream_small bytes library stream = subst (λ (l : Library). All HasSmallElements l.structures) (sym stream.holds) (library_small stream.items)

-- ---- the rectangles

low_far : (a : ℤ) → IsSmall a → neg_ℤ (pos (2 ^ 62 - 1)) ≤ℤ a
low_far a h = let l = h.low in omega (arith, ints, l)

high_far : (a : ℤ) → IsSmall a → a ≤ℤ pos (2 ^ 62 - 1)
high_far a h = let l = h.high in omega (arith, ints, l)

opposite : (a b c : Point) (points : List Point) → All IsSmallPoint (a ∷ b ∷ c ∷ points) → IsSmallPoint a × IsSmallPoint c
opposite a b c points all = (
  All-head IsSmallPoint a (b ∷ c ∷ points) all,
  All-head IsSmallPoint c points (All-tail IsSmallPoint b (c ∷ points) (All-tail IsSmallPoint a (b ∷ c ∷ points) all)),
)

in_range : (r : Placed) → All IsSmallPoint (corners_of r.area) → IsInRange r
in_range r all =
    let a : Point = record { x = r.area.left; y = r.area.bottom } in
    let b : Point = record { x = r.area.right; y = r.area.bottom } in
    let c : Point = record { x = r.area.right; y = r.area.top } in
    let d : Point = record { x = r.area.left; y = r.area.top } in
    let small = opposite a b c (d ∷ a ∷ []) all in
    record {
      left = low_far r.area.left small.0.x;
      right = high_far r.area.right small.1.x;
      bottom = low_far r.area.bottom small.0.y;
      top = high_far r.area.top small.1.y;
    }

all_in_range : (tech : Tech) (outlines notes : List Element) (rectangles : List Placed) → AllZip (IsPolygonOf tech) outlines rectangles
    → All HasSmallPoints (outlines ++ notes) → All IsInRange rectangles
all_in_range tech [] notes [] polygons all = All-nil IsInRange
all_in_range tech [] notes (r ∷ rs) polygons all = absurd polygons
all_in_range tech (e ∷ es) notes [] polygons all = absurd polygons
all_in_range tech (e ∷ es) notes (r ∷ rs) polygons all =
    let p : IsPolygonOf tech e r = polygons.0 in
    All-cons IsInRange r rs (in_range r (subst HasSmallPoints p.is_polygon (All-head HasSmallPoints e (es ++ notes) all)))
    (all_in_range tech es notes rs polygons.1 (All-tail HasSmallPoints e (es ++ notes) all))

-- the rectangles that a stream's cell is written as are in range
pub written_in_range : (tech : Tech) (bytes : List ℕ) (library : Library) (name : List ℕ) (rectangles : List Placed) (labels : List Mark)
    → Stream bytes library → IsWrittenAs tech library name rectangles labels → All IsInRange rectangles
written_in_range tech bytes library name rectangles labels stream written =
    all_in_range tech written.outlines written.notes rectangles written.polygons
    (All-head HasSmallElements (record { name = name; elements = written.outlines ++ written.notes }) []
    (subst (λ (ss : List Structure). All HasSmallElements ss) written.one_structure (stream_small bytes library stream)))
