-- The steps of the loops over a path.
use Rattle.std.proofs.Common.{Some, ◌≡◌, ◌≢◌, ℕ, zero, suc, ◌+◌, ◌-◌, ◌<◌, ◌≤◌, ℤ, ◌<ℤ◌, Bool, true, false, not, cond, ◌&&◌, List, [], ◌∷◌, ◌++◌, length, get_or, drop, drop-cons, add-one, map, refl, sym, ◌∙◌, ap, append_assoc, length-append, arith}
use Rattle.std.specs.Prelude.{slice_get}
use Rattle.std.specs.Int.{int_min, int_max}
use Rattle.std.specs.List.{filter}
use Rattle.std.specs.Option.{option_to_list}
use Rattle.std.specs.Ordering.{int_eq}
use Rattle.std.proofs.lemmas.Int.{ints, clamps, by_lt_z}
use Rattle.std.proofs.lemmas.Bool.Decides.{Decides-int_eq}
use Rattle.std.proofs.lemmas.Bool.{false_from_ne_true}
use Rattle.std.proofs.lemmas.List.{map-append}
use Rattle.std.proofs.lemmas.List.Elements.{filter-append}
use Rattle.rt_base.specs.Plane.{area}
use Rattle.rt_base.specs.declared.plane.Point.{Point}
use Rattle.rt_base.specs.declared.plane.Rect.{Rect}
use Rattle.rt_cells.specs.Rectangles.{Rectangle}
use Rattle.rt_cells.proofs.Lines.{antisymmetric}
use Rattle.gds_slabs.specs.Polygon.{sides_from}
use Rattle.gds_slabs.specs.Path.{square, row_segment, column_segment, segment, has_length}

-- the smaller of two different numbers is below the greater
pub min_below_max : (a b : ℤ) → a ≢ b → int_min a b <ℤ int_max a b
min_below_max a b differ =
    by_lt_z a b
    (λ l. omega (arith, ints, clamps))
    (λ l. by_lt_z b a (λ m. omega (arith, ints, clamps)) (λ m. absurd (differ (antisymmetric a b m l))))

same_test : (a b : ℤ) → a ≡ b → int_eq a b ≡ true
same_test a b e = (Decides-int_eq a b).1 e

differ_test : (a b : ℤ) → a ≢ b → int_eq a b ≡ false
differ_test a b differ = false_from_ne_true (int_eq a b) (λ e. differ ((Decides-int_eq a b).0 e))

pushed : (old new : List Rect) (r : Rect) (q : Rectangle) → new ≡ old ++ r ∷ [] → area r ≡ q → map area new ≡ map area old ++ q ∷ []
pushed old new r q e f = ap (map area) e ∙ map-append area old (r ∷ []) ∙ ap (λ v. map area old ++ v ∷ []) f

row_listed : (half : ℤ) (p q : Point) → p.y ≡ q.y → p.x ≢ q.x → map (segment half) (filter has_length ((p, q) ∷ [])) ≡ row_segment half (p, q) ∷ []
row_listed half p q e f =
    let g = same_test p.y q.y e in
    let h = differ_test p.x q.x f in
    rw (h, g) refl

long : (p q : Point) → p.y ≢ q.y → has_length (p, q) ≡ true
long p q e = ap (λ b. not (int_eq p.x q.x && b)) (differ_test p.y q.y e) ∙ either (int_eq p.x q.x)
  where
    either : (b : Bool) → not (b && false) ≡ true
    either true = refl
    either false = refl

kept : (side : Point × Point) → has_length side ≡ true → filter has_length (side ∷ []) ≡ side ∷ []
kept side e = ap (λ b. cond b (side ∷ []) []) e

column_listed : (half : ℤ) (p q : Point) → p.y ≢ q.y → map (segment half) (filter has_length ((p, q) ∷ [])) ≡ column_segment half (p, q) ∷ []
column_listed half p q e =
    ap (map (segment half)) (kept (p, q) (long p q e))
    ∙ ap (λ b. cond b (row_segment half (p, q)) (column_segment half (p, q)) ∷ []) (differ_test p.y q.y e)

-- the rectangle of a segment along a row is pushed
pub row_pushed : (half : ℤ) (p q : Point) (old new : List Rect) (r : Rect) → p.y ≡ q.y → p.x ≢ q.x → new ≡ old ++ r ∷ [] → area r ≡ row_segment half (p, q)
    → map area new ≡ map area old ++ map (segment half) (filter has_length ((p, q) ∷ []))
row_pushed half p q old new r e f g h = pushed old new r _ g h ∙ ap (λ v. map area old ++ v) (sym (row_listed half p q e f))

-- the rectangle of a segment along a column is pushed
pub column_pushed : (half : ℤ) (p q : Point) (old new : List Rect) (r : Rect) → p.y ≢ q.y → new ≡ old ++ r ∷ [] → area r ≡ column_segment half (p, q)
    → map area new ≡ map area old ++ map (segment half) (filter has_length ((p, q) ∷ []))
column_pushed half p q old new r e g h = pushed old new r _ g h ∙ ap (λ v. map area old ++ v) (sym (column_listed half p q e))

-- one entry, and what is left behind it
pub drop_more : {X : Type 0} (xs : List X) (i : ℕ) (d : X) → i < length xs → drop i xs ≡ get_or xs i d ∷ drop (i + 1) xs
drop_more xs i d low = rw (add-one i) (drop-cons xs i d low)

-- the rectangles of the next segment are pushed, and those of the others are left
pub segments_more : (half : ℤ) (last : Point) (rest : List Point) (i : ℕ) (d : Point) (now new : List Rect) (all : List Rectangle) → i < length rest
    → map area new ≡ map area now ++ map (segment half) (filter has_length ((last, get_or rest i d) ∷ []))
    → map area now ++ map (segment half) (filter has_length (sides_from last (drop i rest))) ≡ all
    → map area new ++ map (segment half) (filter has_length (sides_from (get_or rest i d) (drop (i + 1) rest))) ≡ all
segments_more half last rest i d now new all low is was =
    let p = get_or rest i d in
    let others = sides_from p (drop (i + 1) rest) in
    ap (λ v. v ++ map (segment half) (filter has_length others)) is
    ∙ append_assoc (map area now) (map (segment half) (filter has_length ((last, p) ∷ []))) (map (segment half) (filter has_length others))
    ∙ ap (λ v. map area now ++ v)
    (sym (map-append (segment half) (filter has_length ((last, p) ∷ [])) (filter has_length others))
    ∙ ap (map (segment half)) (sym (filter-append has_length ((last, p) ∷ []) others))
    ∙ ap (λ v. map (segment half) (filter has_length (sides_from last v))) (sym (drop_more rest i d low)))
    ∙ was

-- the square at the next point is pushed, and those at the others are left
pub squares_more : (half : ℤ) (points : List Point) (i : ℕ) (d : Point) (now new : List Rect) (r : Rect) (all : List Rectangle) → i < length points
    → new ≡ now ++ r ∷ [] → area r ≡ square half (get_or points i d)
    → map area now ++ map (square half) (drop i points) ≡ all → map area new ++ map (square half) (drop (i + 1) points) ≡ all
squares_more half points i d now new r all low is same was =
    ap (λ v. v ++ map (square half) (drop (i + 1) points)) (pushed now new r _ is same)
    ∙ append_assoc (map area now) (square half (get_or points i d) ∷ []) (map (square half) (drop (i + 1) points))
    ∙ ap (λ v. map area now ++ map (square half) v) (sym (drop_more points i d low))
    ∙ was

-- one segment, and the others
pub length_kept : (side : Point × Point) (others : List (Point × Point))
    → length (filter has_length (side ∷ others)) ≡ length (filter has_length (side ∷ [])) + length (filter has_length others)
length_kept side others =
    ap length (filter-append has_length (side ∷ []) others) ∙ length-append (filter has_length (side ∷ [])) (filter has_length others)

-- the point at a place
pub got : (points : List Point) (k : ℕ) (d : Point) → k < length points → slice_get points k ≡ Some (get_or points k d)
got [] k d h = absurd (omega arith)
got (p ∷ points) zero d h = refl
got (p ∷ points) (suc k) d h = got points k d (omega arith)

-- the squares at the ends are pushed
pub ends_pushed : (half : ℤ) (points : List Point) (d e : Point) (old between new : List Rect) (r q : Rect) → 2 ≤ length points
    → between ≡ old ++ r ∷ [] → area r ≡ square half (get_or points 0 d) → new ≡ between ++ q ∷ [] → area q ≡ square half (get_or points (length points - 1) e)
    → map area new ≡ map area old ++ map (square half) (option_to_list (slice_get points 0) ++ option_to_list (slice_get points (length points - 1)))
ends_pushed half points d e old between new r q n f g h k =
    let first : 0 < length points = omega arith in
    let last : length points - 1 < length points = omega arith in
    let e0 = got points 0 d first in
    let e1 = got points (length points - 1) e last in
    let ends : map (square half) (option_to_list (slice_get points 0) ++ option_to_list (slice_get points (length points - 1)))
    ≡ square half (get_or points 0 d) ∷ square half (get_or points (length points - 1) e) ∷ [] =
    ap (λ v. map (square half) (option_to_list v ++ option_to_list (slice_get points (length points - 1)))) e0
    ∙ ap (λ v. map (square half) (option_to_list (Some (get_or points 0 d)) ++ option_to_list v)) e1 in
    pushed between new q _ h k ∙ ap (λ v. v ++ square half (get_or points (length points - 1) e) ∷ []) (pushed old between r _ f g)
    ∙ append_assoc (map area old) (square half (get_or points 0 d) ∷ []) (square half (get_or points (length points - 1) e) ∷ [])
    ∙ ap (λ v. map area old ++ v) (sym ends)
