-- The rectangles of a path, as a list and as a fact about one.
use Rattle.std.proofs.Common.{◌≡◌, ◌≢◌, ℤ, Bool, true, false, ◌&&◌, List, [], ◌∷◌, ◌++◌, map, ◌↔◌, Contains, refl, ap, subst, inl, inr}
use Rattle.std.specs.List.{filter}
use Rattle.std.specs.Ordering.{int_eq}
use Rattle.std.proofs.lemmas.Bool.{and_from, and_parts, not_from_true, not_from_false, false_from_ne_true, cond_both}
use Rattle.std.proofs.lemmas.Bool.Decides.{Decides-int_eq}
use Rattle.rt_base.specs.declared.plane.Point.{Point}
use Rattle.rt_cells.specs.Rectangles.{Rectangle}
use Rattle.gds_slabs.specs.declared.path.PathEnd.{PathEnd}
use Rattle.gds_slabs.specs.Polygon.{sides}
use Rattle.gds_slabs.specs.Path.{square, segment, has_length, inner, squared_ends, path_areas, PathArea}
use Rattle.gds_slabs.proofs.Members.{Among, contains_from_among, among_from_contains, among_append_left, among_append_right, among_append_cases}
use Rattle.gds_slabs.proofs.Odds.{clash}

among_map : {X Y : Type 0} (f : X → Y) (xs : List X) (x : X) → Among xs x → Among (map f xs) (f x)
among_map f [] x h = elim h [ ]
among_map f (y ∷ xs) x (inl e) = inl (ap f e)
among_map f (y ∷ xs) x (inr h) = inr (among_map f xs x h)

from_map : {X Y : Type 0} (f : X → Y) (xs : List X) (y : Y) → Among (map f xs) y → (x : X) × Among xs x × (f x ≡ y)
from_map f [] y h = elim h [ ]
from_map f (x ∷ xs) y (inl e) = (x, inl refl, e)
from_map f (x ∷ xs) y (inr h) = let g = from_map f xs y h in (g.0, inr g.1, g.2)

among_filter : {X : Type 0} (p : X → Bool) (xs : List X) (x : X) → p x ≡ true → Among xs x → Among (filter p xs) x
among_filter p [] x e h = elim h [ ]
among_filter p (y ∷ xs) x e h =
    cond_both (p y) (y ∷ filter p xs) (filter p xs) (λ v. Among v x)
    (λ _. elim h [ inl k ↦ inl k | inr k ↦ inr (among_filter p xs x e k) ])
    (λ f. elim h [ inl k ↦ clash (p x) e (subst (λ v. p v ≡ false) k f) | inr k ↦ among_filter p xs x e k ])

from_filter : {X : Type 0} (p : X → Bool) (xs : List X) (x : X) → Among (filter p xs) x → Among xs x × (p x ≡ true)
from_filter p [] x h = elim h [ ]
from_filter p (y ∷ xs) x h =
    cond_both (p y) (y ∷ filter p xs) (filter p xs) (λ v. Among v x → Among (y ∷ xs) x × (p x ≡ true))
    (λ e k. elim k [
      | inl f ↦ (inl f, subst (λ v. p v ≡ true) f e)
      | inr m ↦ (let g = from_filter p xs x m in (inr g.0, g.1))
    ])
    (λ e k. let g = from_filter p xs x k in (inr g.0, g.1))
    h

long_differs : (s : Point × Point) → has_length s ≡ true → s.0 ≢ s.1
long_differs (p, q) e k =
    clash (has_length (p, q)) e
    (not_from_true (int_eq p.x q.x && int_eq p.y q.y)
    (and_from (int_eq p.x q.x) (int_eq p.y q.y) ((Decides-int_eq p.x q.x).1 (ap (λ (t : Point). t.x) k)) ((Decides-int_eq p.y q.y).1 (ap (λ (t : Point). t.y) k))))

same_point : (p q : Point) → p.x ≡ q.x → p.y ≡ q.y → p ≡ q
same_point p q e f = λ i. record { x = e i; y = f i }

differs_long : (s : Point × Point) → s.0 ≢ s.1 → has_length s ≡ true
differs_long (p, q) differ =
    not_from_false (int_eq p.x q.x && int_eq p.y q.y)
    (false_from_ne_true (int_eq p.x q.x && int_eq p.y q.y) (λ e.
    let h = and_parts (int_eq p.x q.x) (int_eq p.y q.y) e in
    differ (same_point p q ((Decides-int_eq p.x q.x).0 h.0) ((Decides-int_eq p.y q.y).0 h.1))))

-- the list has the rectangles of the segments and the squares, and no other
pub listed_areas : (half : ℤ) (end : PathEnd) (points : List Point) (r : Rectangle) → Contains (path_areas half end points) r ↔ PathArea half end points r
listed_areas half end points r = (λ h. out (among_from_contains (path_areas half end points) r h), λ h. contains_from_among (path_areas half end points) r (into h))
  where
    out : Among (path_areas half end points) r → PathArea half end points r
    out h = elim (among_append_cases _ (map (square half) (squared_ends end points)) r h) [
      | inr k ↦ (let f = from_map (square half) (squared_ends end points) r k in inr (f.0, inr (contains_from_among (squared_ends end points) f.0 f.1), f.2))
      | inl k ↦
          elim (among_append_cases (map (segment half) (filter has_length (sides points))) (map (square half) (inner points)) r k) [
            | inr m ↦ (let f = from_map (square half) (inner points) r m in inr (f.0, inl (contains_from_among (inner points) f.0 f.1), f.2))
            | inl m ↦
                (let f = from_map (segment half) (filter has_length (sides points)) r m in
                let g = from_filter has_length (sides points) f.0 f.1 in
                inl (f.0, contains_from_among (sides points) f.0 g.0, long_differs f.0 g.1, f.2))
          ]
    ]

    into : PathArea half end points r → Among (path_areas half end points) r
    into (inl h) =
        among_append_left _ (map (square half) (squared_ends end points)) r
        (among_append_left _ (map (square half) (inner points)) r
        (subst (Among (map (segment half) (filter has_length (sides points)))) h.3
        (among_map (segment half) (filter has_length (sides points)) h.0
        (among_filter has_length (sides points) h.0 (differs_long h.0 h.2) (among_from_contains (sides points) h.0 h.1)))))
    into (inr h) =
        subst (Among (path_areas half end points)) h.2
        (elim h.1 [
          | inl k ↦
              among_append_left _ (map (square half) (squared_ends end points)) (square half h.0)
              (among_append_right (map (segment half) (filter has_length (sides points))) (map (square half) (inner points)) (square half h.0)
              (among_map (square half) (inner points) h.0 (among_from_contains (inner points) h.0 k)))
          | inr k ↦
              among_append_right (map (segment half) (filter has_length (sides points)) ++ map (square half) (inner points)) (map (square half) (squared_ends end points)) (square half h.0)
              (among_map (square half) (squared_ends end points) h.0 (among_from_contains (squared_ends end points) h.0 k))
        ])
