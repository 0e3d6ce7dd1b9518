-- Counts of items, which stop at 2^64 - 1.
use Rattle.std.proofs.Common.{◌≡◌, ◌≢◌, ℕ, zero, suc, ◌+◌, ◌-◌, ◌*◌, ◌^◌, ◌<◌, ◌≤◌, min, List, [], ◌∷◌, ◌++◌, length, get_or, take, Some, None, slice_get, ℤ, pos, ◌≤ℤ◌, map, unsigned_abs, refl, sym, ap, subst, ◌∙◌, ⊎_elim, arith}
use Rattle.std.proofs.Math.Nat.{suc-mul}
use Rattle.std.proofs.lemmas.Bool.{cases_lt}
use Rattle.std.proofs.lemmas.Int.{ints}
use Rattle.std.proofs.lemmas.List.{length-append, length-map, take_more}
use Rattle.std.proofs.lemmas.Option.{slice_get_within, slice_get-get_or}
use Rattle.rt_cells.proofs.Entries.{before_or_end}
use Rattle.rt_base.specs.declared.plane.Point.{Point}
use Rattle.rt_base.specs.declared.text.Text.{Text}
use Rattle.rt_tech.specs.declared.table.Tech.{Tech}
use Rattle.gds_stream.specs.declared.library.Element.{Element}
use Rattle.gds_stream.specs.declared.library.Element.TheVariants.{Boundary, Path, Sref, Aref, Label, BoxShape}
use Rattle.gds_stream.specs.declared.library.Structure.{Structure}
use Rattle.gds_stream.specs.declared.library.Place.{Place}
use Rattle.gds_slabs.specs.declared.step.Step.{Step}
use Rattle.gds_slabs.specs.Polygon.{IsSlanted}
use Rattle.gds_slabs.specs.Slabs.{IsSlabs, IsSlabCount}
use Rattle.gds_slabs.specs.declared.path.PathEnd.{PathEnd}
use Rattle.gds_slabs.specs.Path.{path_areas, half_of}
use Rattle.gds_flat.specs.declared.error.Odd.TheVariants.{Slanted}
use Rattle.gds_flat.specs.Reach.{Name, target}
use Rattle.gds_flat.specs.Walking.{name_at, elements_at, IsFirst}
use Rattle.gds_flat.specs.Elements.{mask_of, end_of, IsWhole, point_at}
use Rattle.gds_flat.specs.Placing.{shift_of, AreStepsTo, array_shifts, AreArraySteps}
use Rattle.gds_flat.specs.Items.{Piece, area_piece, note_piece, all_moved, PiecesOf}
use Rattle.gds_flat.specs.Drawn.{IsCount, HasCount}
use Rattle.gds_flat.specs.Counting.{AreFirstCounts, HasCountOf, HasOwnCount, HasCountOn, IsPlacedTimes}
use Rattle.gds_flat.proofs.Going.{IsPlaced, placed}
use Rattle.gds_flat.proofs.Ranking.{IsTurn}
use Rattle.gds_flat.proofs.PiecesThere.{own_some, steps_there, pieces_of_join, pieces_of_own, pieces_of_placed}
use Rattle.gds_flat.proofs.PiecesLong.{length_all_moved, length_array_shifts}

-- ---- sums and products

pub sum_stops : (a b x y r : ℕ) → x ≡ min a (2 ^ 64 - 1) → y ≡ min b (2 ^ 64 - 1) → r ≡ min (x + y) (2 ^ 64 - 1) → r ≡ min (a + b) (2 ^ 64 - 1)
sum_stops a b x y r p q s = omega arith

at_least : (k n : ℕ) → 1 ≤ k → n ≤ k * n
at_least zero n some = absurd (omega arith)
at_least (suc k) n some = omega (arith, suc-mul k n)

pub times_stops : (k b y r : ℕ) → 1 ≤ k → y ≡ min b (2 ^ 64 - 1) → r ≡ min (k * y) (2 ^ 64 - 1) → r ≡ min (k * b) (2 ^ 64 - 1)
times_stops k b y r some p q = ⊎_elim low high (cases_lt b (2 ^ 64))
  where
    low : b < 2 ^ 64 → r ≡ min (k * b) (2 ^ 64 - 1)
    low h = let same : y ≡ b = omega arith in q ∙ ap (λ n. min (k * n) (2 ^ 64 - 1)) same

    high : 2 ^ 64 ≤ b → r ≡ min (k * b) (2 ^ 64 - 1)
    high h = omega (arith, at_least k b some, at_least k y some)

pub few_counted : (pieces : List Piece) (n : ℕ) → n ≡ length pieces → n < 2 ^ 64 → IsCount pieces n
few_counted pieces n same low = omega arith

-- ---- copies

length_steps : (place : Place) (shifts : List (ℤ × ℤ)) (steps : List Step) → AreStepsTo place shifts steps → length steps ≡ length shifts
length_steps place shifts steps h = sym (length-map steps shift_of) ∙ ap length h.follow

some_columns : (z : ℤ) → pos 1 ≤ℤ z → 1 ≤ unsigned_abs z
some_columns z h = omega (arith, ints)

array_times : (offset : ℕ) (name : Text) (place : Place) (columns rows : ℤ) (points : List Point) → IsWhole (Aref offset name place columns rows points)
    → IsPlacedTimes (Aref offset name place columns rows points) (unsigned_abs columns * unsigned_abs rows)
array_times offset name place columns rows points w =
    let s = steps_there (Aref offset name place columns rows points) name refl w in
    let h : AreArraySteps place columns rows points s.0 = s.1 in
    let shifts = array_shifts (point_at points 0) h.across h.up (unsigned_abs columns) (unsigned_abs rows) in
    record {
      steps = s.0;
      are = s.1;
      counted = sym (length_array_shifts (point_at points 0) h.across h.up (unsigned_abs columns) (unsigned_abs rows)) ∙ sym (length_steps place shifts s.0 h.are);
      some = some_product (unsigned_abs columns) (unsigned_abs rows) (some_columns columns h.whole.columns_lead.some) (some_columns rows h.whole.rows_lead.some);
    }
  where
    some_product : (m n : ℕ) → 1 ≤ m → 1 ≤ n → 1 ≤ m * n
    some_product m n h k = omega (arith, at_least m n h)

pub array_copies : (e : Element) (offset : ℕ) (name : Text) (place : Place) (columns rows : ℤ) (points : List Point) (n : ℕ)
    → e ≡ Aref offset name place columns rows points → IsWhole e → n ≡ unsigned_abs columns * unsigned_abs rows → IsPlacedTimes e n
array_copies e offset name place columns rows points n is w same =
    let P : Element → Type 0 = λ x. IsWhole x in
    let Q : Element → Type 0 = λ x. IsPlacedTimes x (unsigned_abs columns * unsigned_abs rows) in
    let R : ℕ → Type 0 = λ x. IsPlacedTimes e x in
    subst R (sym same) (subst Q (sym is) (array_times offset name place columns rows points (subst P is w)))

-- a reference that is no array
pub one_copy : (e : Element) → target e ≢ None → IsWhole e
    → ((offset : ℕ) (name : Text) (place : Place) (columns rows : ℤ) (points : List Point) → e ≢ Aref offset name place columns rows points) → IsPlacedTimes e 1
one_copy (Boundary offset layer datatype points) t w differs = absurd (t refl)
one_copy (Path offset layer datatype pathtype width points) t w differs = absurd (t refl)
one_copy (Sref offset name place at) t w differs =
    let s = steps_there (Sref offset name place at) name refl w in
    record { steps = s.0; are = s.1; counted = sym (length_steps place ((at.x, at.y) ∷ []) s.0 s.1); some = omega arith }
one_copy (Aref offset name place columns rows points) t w differs = absurd (differs offset name place columns rows points refl)
one_copy (Label offset layer texttype at text) t w differs = absurd (t refl)
one_copy (BoxShape offset layer boxtype) t w differs = absurd (t refl)

-- ---- what an element gives by itself

-- a polygon that is whole isn't slanted, and one that is drawable is closed
pub polygon_straight : (e : Element) (offset : ℕ) (layer datatype : ℤ) (points others : List Point) → e ≡ Boundary offset layer datatype points → others ≡ points
    → IsWhole e → ¬ IsSlanted others
polygon_straight e offset layer datatype points others is same w =
    let P : Element → Type 0 = λ x. IsWhole x in
    let Q : List Point → Type 0 = λ x. ¬ IsSlanted x in
    let h : IsWhole (Boundary offset layer datatype points) = subst P is w in
    subst Q (sym same) (h.plain Slanted)

pub polygon_counted : (e : Element) (offset : ℕ) (layer datatype : ℤ) (points : List Point) (count : ℕ) → e ≡ Boundary offset layer datatype points
    → IsSlabCount points count → count < 2 ^ 64 → HasCountOn e count
polygon_counted e offset layer datatype points count is s low =
    let P : Element → Type 0 = λ x. HasCountOn x count in
    let slabs : IsSlabs points s.0 = s.1 in
    let same : count ≡ length s.0 = s.2 in
    subst P (sym is) (record {
      pieces = λ mask. map (area_piece offset mask) s.0;
      gives = λ mask. record { rects = s.0; slabs = slabs; are = refl };
      counted = λ mask. few_counted (map (area_piece offset mask) s.0) count (same ∙ sym (length-map s.0 (area_piece offset mask))) low;
    })

pub path_counted : (e : Element) (offset : ℕ) (layer datatype pathtype width : ℤ) (points : List Point) (count : ℕ)
    (end : PathEnd) → e ≡ Path offset layer datatype pathtype width points → end_of pathtype ≡ Some end
    → count ≡ length (path_areas (half_of width) end points) → count < 2 ^ 64 → HasCountOn e count
path_counted e offset layer datatype pathtype width points count end is ends same low =
    let P : Element → Type 0 = λ x. HasCountOn x count in
    let areas = path_areas (half_of width) end points in
    subst P (sym is) (record {
      pieces = λ mask. map (area_piece offset mask) areas;
      gives = λ mask. record { end = end; ends = ends; are = refl };
      counted = λ mask. few_counted (map (area_piece offset mask) areas) count (same ∙ sym (length-map areas (area_piece offset mask))) low;
    })

pub label_counted : (e : Element) (offset : ℕ) (layer texttype : ℤ) (at : Point) (text : Text) → e ≡ Label offset layer texttype at text → HasCountOn e 1
label_counted e offset layer texttype at text is =
    let P : Element → Type 0 = λ x. HasCountOn x 1 in
    subst P (sym is) (record {
      pieces = λ mask. note_piece offset mask at text ∷ [];
      gives = λ mask. refl;
      counted = λ mask. refl;
    })

pub nothing_counted : (e : Element) → ((offset : ℕ) (layer datatype : ℤ) (points : List Point) → e ≢ Boundary offset layer datatype points)
    → ((offset : ℕ) (layer datatype pathtype width : ℤ) (points : List Point) → e ≢ Path offset layer datatype pathtype width points)
    → ((offset : ℕ) (layer texttype : ℤ) (at : Point) (text : Text) → e ≢ Label offset layer texttype at text) → HasCountOn e 0
nothing_counted (Boundary offset layer datatype points) p q r = absurd (p offset layer datatype points refl)
nothing_counted (Path offset layer datatype pathtype width points) p q r = absurd (q offset layer datatype pathtype width points refl)
nothing_counted (Sref offset name place at) p q r = record { pieces = λ mask. []; gives = λ mask. refl; counted = λ mask. refl }
nothing_counted (Aref offset name place columns rows points) p q r = record { pieces = λ mask. []; gives = λ mask. refl; counted = λ mask. refl }
nothing_counted (Label offset layer texttype at text) p q r = absurd (r offset layer texttype at text refl)
nothing_counted (BoxShape offset layer boxtype) p q r = record { pieces = λ mask. []; gives = λ mask. refl; counted = λ mask. refl }

-- on its mask
pub mask_counted : (tech : Tech) (e : Element) (mask count : ℕ) → mask_of tech e ≡ Some mask → HasCountOn e count → HasOwnCount tech e count
mask_counted tech e mask count mapped h =
    record { pieces = h.pieces mask; own = own_some tech e mask (h.pieces mask) mapped (h.gives mask); counted = h.counted mask }

-- ---- elements

pub none_counted : (library : List Structure) (tech : Tech) → PiecesOf library tech [] [] → HasCountOf library tech [] 0
none_counted library tech p = record { pieces = []; are = p; counted = omega arith }

-- an element that is no reference
pub own_counted : (library : List Structure) (tech : Tech) (e : Element) (count : ℕ) → target e ≡ None → HasOwnCount tech e count → HasCountOf library tech (e ∷ []) count
own_counted library tech e count t h = record { pieces = h.pieces; are = pieces_of_own library tech e h.pieces t h.own; counted = h.counted }

-- a reference
pub placed_counted : (library : List Structure) (tech : Tech) (e : Element) (to : Name) (times inner count : ℕ) → target e ≡ Some to → IsPlacedTimes e times
    → HasCount library tech to inner → count ≡ min (times * inner) (2 ^ 64 - 1) → HasCountOf library tech (e ∷ []) count
placed_counted library tech e to times inner count t p h is = record {
  pieces = all_moved p.steps h.pieces;
  are = pieces_of_placed library tech e to h.pieces p.steps t h.are p.are;
  counted = times_stops times (length h.pieces) inner count p.some h.counted is
      ∙ ap (λ n. min n (2 ^ 64 - 1)) (ap (λ n. n * length h.pieces) p.counted ∙ sym (length_all_moved p.steps h.pieces));
}

-- elements and more elements
counted_join : (library : List Structure) (tech : Tech) (es fs : List Element) (a b count : ℕ) → HasCountOf library tech es a → HasCountOf library tech fs b
    → count ≡ min (a + b) (2 ^ 64 - 1) → HasCountOf library tech (es ++ fs) count
counted_join library tech es fs a b count g h is = record {
  pieces = g.pieces ++ h.pieces;
  are = pieces_of_join library tech g.are h.are;
  counted = sum_stops (length g.pieces) (length h.pieces) a b count g.counted h.counted is
      ∙ ap (λ n. min n (2 ^ 64 - 1)) (sym (length-append g.pieces h.pieces));
}

pub counted_more : (library : List Structure) (tech : Tech) (es : List Element) (i : ℕ) (e : Element) (a b count : ℕ) → i < length es → e ≡ get_or es i e
    → HasCountOf library tech (take i es) a → HasCountOf library tech (e ∷ []) b → count ≡ min (a + b) (2 ^ 64 - 1)
    → HasCountOf library tech (take (i + 1) es) count
counted_more library tech es i e a b count below is g h sum =
    let more : take i es ++ e ∷ [] ≡ take (i + 1) es = ap (λ x. take i es ++ x ∷ []) is ∙ sym (take_more es i e below) in
    let P : List Element → Type 0 = λ xs. HasCountOf library tech xs count in
    subst P more (counted_join library tech (take i es) (e ∷ []) a b count g h sum)

-- ---- structures

-- the count of the structure at a place
structure_counted : (library : List Structure) (tech : Tech) (k count : ℕ) (es : List Element) → IsFirst library k → es ≡ elements_at library k
    → HasCountOf library tech es count → HasCount library tech (name_at library k) count
structure_counted library tech k count es first same h =
    let r = placed library (name_at library k) k first in
    let p : IsPlaced library (name_at library k) k r.0 = r.1 in
    let P : List Element → Type 0 = λ xs. PiecesOf library tech xs h.pieces in
    let are : PiecesOf library tech (r.0).elements h.pieces = rw (p.at) at (subst P same h.are) in
    record { pieces = h.pieces; are = record { structure = r.0; found = p.found; are = are }; counted = h.counted }

-- the count of the structure by a name
pub named_counted : (library : List Structure) (tech : Tech) (finish counts : List ℕ) (name : Name) (k place : ℕ) → AreFirstCounts library tech finish counts
    → name_at library k ≡ name → slice_get finish place ≡ Some k → place < length counts → HasCount library tech name (get_or counts place 0)
named_counted library tech finish counts name k place h named at below =
    let P : Name → Type 0 = λ n. HasCount library tech n (get_or counts place 0) in
    subst P named (h.are place k (get_or counts place 0) at (slice_get-get_or counts place 0 below))

counts_more : (library : List Structure) (tech : Tech) (finish counts : List ℕ) (k count : ℕ) (es : List Element) → slice_get finish (length counts) ≡ Some k
    → IsFirst library k → es ≡ elements_at library k → HasCountOf library tech es count → AreFirstCounts library tech finish counts
    → AreFirstCounts library tech finish (counts ++ count ∷ [])
counts_more library tech finish counts k count es at first same one h = record {
  few = let below = slice_get_within finish (length counts) k at in omega (arith, length-append counts (count ∷ []));
  are = λ p j c f e. ⊎_elim (λ old. h.are p j c f old)
      (λ new. let place : p ≡ length counts = new.0 in
      let value : count ≡ c = new.1 in
      let here : slice_get finish (length counts) ≡ Some j = (let P : ℕ → Type 0 = λ x. slice_get finish x ≡ Some j in subst P place f) in
      let structure : k ≡ j = cc in
      let P : ℕ → Type 0 = λ x. HasCount library tech (name_at library x) c in
      let Q : ℕ → Type 0 = λ x. HasCount library tech (name_at library k) x in
      subst P structure (subst Q value (structure_counted library tech k count es first same one)))
      (before_or_end counts count p c e);
}

-- the count at a turn
pub turn_count : (library : List Structure) (tech : Tech) (finish counts : List ℕ) (i k count : ℕ) (es : List Element) → IsTurn library finish i k
    → length counts ≡ i → es ≡ elements_at library k → HasCountOf library tech es count → AreFirstCounts library tech finish counts
    → AreFirstCounts library tech finish (counts ++ count ∷ [])
turn_count library tech finish counts i k count es turn is same one h =
    let P : ℕ → Type 0 = λ n. slice_get finish n ≡ Some k in
    counts_more library tech finish counts k count es (subst P (sym is) turn.at) turn.first same one h
