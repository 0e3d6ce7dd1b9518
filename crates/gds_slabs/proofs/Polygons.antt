-- A polygon's slabs are what the sweep lists: they are its only slabs, and cover the cells inside once.
use Rattle.std.proofs.Common.{◌≡◌, ℤ, pos, ◌-ℤ◌, ◌<ℤ◌, ◌⊎◌, Bool, true, false, cond, List, [], ◌∷◌, ◌++◌, refl, sym, ◌∙◌, ap, subst, inl, inr, arith}
use Rattle.std.specs.Prelude.{int_le, int_lt}
use Rattle.std.specs.List.Sorted.{IsPermutation}
use Rattle.std.proofs.lemmas.List.Sorted.{Contains-permutation, IsPermutation-sym}
use Rattle.std.proofs.lemmas.Int.{ints}
use Rattle.rt_cells.specs.Line.{IsRun}
use Rattle.rt_cells.specs.Rectangles.{Rectangle}
use Rattle.rt_base.specs.declared.plane.Point.{Point}
use Rattle.gds_slabs.specs.declared.toggles.Toggle.{Toggle}
use Rattle.gds_slabs.specs.Polygon.{sides, crosses, Inside, IsClosed, IsSlanted}
use Rattle.gds_slabs.specs.Slabs.{IsHeight, AreAdjacent, IsSlabs}
use Rattle.gds_slabs.specs.Sweep.{toggles, swept, AreAscending}
use Rattle.gds_slabs.proofs.Parity.{parity, parity-IsPermutation, odd_from_parity, parity_from_odd}
use Rattle.gds_slabs.proofs.Members.{Among, contains_from_among, among_from_contains}
use Rattle.gds_slabs.proofs.Odds.{Has}
use Rattle.gds_slabs.proofs.Levels.{Height, height_first, under, row, IsReached, swept_sound, swept_complete, swept_in_order}
use Rattle.gds_slabs.proofs.Crossings.{toggles_cross, toggles_even, toggles_end, At, at_from_height, height_from_at, Toggles, toggle_from_at, at_from_toggle}

-- ---- the toggles in order of height

-- the toggles of the line over the points, by height
pub record AreSorted (points : List Point) (ts : List Toggle) : Type 0 where
  pub same_parity : (f : Toggle → Bool) → parity f ts ≡ parity f (toggles points)
  pub into : (t : Toggle) → Among (toggles points) t → Among ts t
  pub out : (t : Toggle) → Among ts t → Among (toggles points) t
  pub ascending : AreAscending ts

pub sorted_from_permutation : (points : List Point) (ts : List Toggle) → IsPermutation (toggles points) ts → AreAscending ts → AreSorted points ts
sorted_from_permutation points ts p k = record {
  same_parity = λ f. parity-IsPermutation f (toggles points) ts p;
  into = λ t h. among_from_contains ts t (Contains-permutation (toggles points) ts t p (contains_from_among (toggles points) t h));
  out = λ t h.
      among_from_contains (toggles points) t
      (Contains-permutation ts (toggles points) t (IsPermutation-sym (toggles points) ts p) (contains_from_among ts t h));
  ascending = k;
}

height_among : (low : ℤ) (rest : List Toggle) (u : Toggle) → Among rest u → Height low rest u.y
height_among low [] u h = elim h [ ]
height_among low (t ∷ rest) u (inl e) = inr (subst (λ (v : Toggle). Height t.y rest v.y) e (height_first t.y rest))
height_among low (t ∷ rest) u (inr h) = inr (height_among t.y rest u h)

among_height : (low : ℤ) (rest : List Toggle) (y : ℤ) → Height low rest y → (y ≡ low) ⊎ Toggles rest y
among_height low [] y e = inl e
among_height low (t ∷ rest) y (inl e) = inl e
among_height low (t ∷ rest) y (inr h) =
    elim (among_height t.y rest y h) [
      | inl e ↦ inr (t, inl refl, sym e)
      | inr k ↦ inr (k.0, inr k.1, k.2)
    ]

same_adjacent : (H K : ℤ → Type 0) → ((y : ℤ) → H y → K y) → ((y : ℤ) → K y → H y) → (p q : ℤ) → AreAdjacent H p q → AreAdjacent K p q
same_adjacent H K to from p q h = record {
  bottom = to p h.bottom;
  top = to q h.top;
  upwards = h.upwards;
  none_between = λ y k m n. h.none_between y (from y k) m n;
}

like_runs : (L M : ℤ → Type 0) → ((z : ℤ) → L z → M z) → ((z : ℤ) → M z → L z) → (p q : ℤ) → IsRun L p q → IsRun M p q
like_runs L M to from p q run = record {
  nonempty = run.nonempty;
  inside = λ z w. to z (run.inside z w);
  before = λ h. run.before (from (p -ℤ pos 1) h);
  after = λ h. run.after (from q h);
}

pub start_anywhere : (low : ℤ) (t : Toggle) (rest : List Toggle) → swept low [] (t ∷ rest) ≡ swept t.y [] (t ∷ rest)
start_anywhere low t rest = nothing (int_lt low t.y) (swept t.y (t.x ∷ []) rest) ∙ sym (nothing (int_lt t.y t.y) (swept t.y (t.x ∷ []) rest))
  where
    nothing : (b : Bool) (rects : List Rectangle) → cond b [] [] ++ rects ≡ rects
    nothing true rects = refl
    nothing false rects = refl

module _ (points : List Point) (closed : IsClosed points) (straight : IsSlanted points → ⊥) where
  -- what is inside, by the toggles
  pub inside_from_row : (ts : List Toggle) → AreSorted points ts → (x y : ℤ) → row [] ts y x ≡ true → Inside points x y
  inside_from_row ts sorted x y h =
      odd_from_parity (crosses x y) (sides points)
      (sym (toggles_cross x y points straight) ∙ sym (sorted.same_parity (under (λ c. int_le c x) y)) ∙ h)

  pub row_from_inside : (ts : List Toggle) → AreSorted points ts → (x y : ℤ) → Inside points x y → row [] ts y x ≡ true
  row_from_inside ts sorted x y h =
      sorted.same_parity (under (λ c. int_le c x) y) ∙ toggles_cross x y points straight ∙ parity_from_odd (crosses x y) (sides points) h

  pub reached : (t : Toggle) (rest : List Toggle) → AreSorted points (t ∷ rest) → IsReached t.y [] (t ∷ rest)
  reached t rest sorted = record {
    rising = tt;
    ascending = (omega (arith, ints), sorted.ascending);
    even = λ y l. sorted.same_parity (under (λ _. true) y) ∙ toggles_even y points closed;
    ends = λ x. sorted.same_parity (λ (u : Toggle). int_le u.x x) ∙ toggles_end x points;
  }

has_sides : (p : Point) (t : Toggle) (rest : List Toggle) → AreSorted (p ∷ []) (t ∷ rest) → ⊥
has_sides p t rest sorted = sorted.out t (inl refl)

has_points : (t : Toggle) (rest : List Toggle) → AreSorted [] (t ∷ rest) → ⊥
has_points t rest sorted = sorted.out t (inl refl)

-- the heights of the points are those of the toggles
height_in : (points : List Point) (t : Toggle) (rest : List Toggle) → AreSorted points (t ∷ rest) → (y : ℤ) → IsHeight points y → Height t.y (t ∷ rest) y
height_in [] t rest sorted y h = absurd (has_points t rest sorted)
height_in (p ∷ []) t rest sorted y h = absurd (has_sides p t rest sorted)
height_in (p ∷ q ∷ points) t rest sorted y h =
    let f = toggle_from_at p q points y (at_from_height (p ∷ q ∷ points) y h) in
    subst (Height t.y (t ∷ rest)) f.2 (height_among t.y (t ∷ rest) f.0 (sorted.into f.0 f.1))

height_of_toggle : (points : List Point) (ts : List Toggle) → AreSorted points ts → (u : Toggle) → Among ts u → IsHeight points u.y
height_of_toggle [] ts sorted u h = absurd (sorted.out u h)
height_of_toggle (p ∷ points) ts sorted u h = height_from_at (p ∷ points) u.y (at_from_toggle p points u (sorted.out u h))

height_out : (points : List Point) (t : Toggle) (rest : List Toggle) → AreSorted points (t ∷ rest) → (y : ℤ) → Height t.y (t ∷ rest) y → IsHeight points y
height_out points t rest sorted y h =
    elim (among_height t.y (t ∷ rest) y h) [
      | inl e ↦ subst (IsHeight points) (sym e) (height_of_toggle points (t ∷ rest) sorted t (inl refl))
      | inr k ↦ subst (IsHeight points) k.2 (height_of_toggle points (t ∷ rest) sorted k.0 k.1)
    ]

-- without toggles there is one height at most
no_slab : (points : List Point) → AreSorted points [] → (p q : ℤ) → AreAdjacent (IsHeight points) p q → ⊥
no_slab [] sorted p q h = at_from_height [] p h.bottom
no_slab (r ∷ []) sorted p q h =
    one_height (at_from_height (r ∷ []) p h.bottom) (at_from_height (r ∷ []) q h.top) h.upwards
  where
    one_height : At (r ∷ []) p → At (r ∷ []) q → p <ℤ q → ⊥
    one_height (inl e) (inl f) l = omega (arith, ints)
    one_height (inl e) (inr k) l = k
    one_height (inr k) f l = k
no_slab (r ∷ s ∷ points) sorted p q h = sorted.into _ (inl refl)

-- what the sweep lists are the polygon's slabs
pub swept_are_slabs : (points : List Point) → IsClosed points → (IsSlanted points → ⊥) → (ts : List Toggle) → AreSorted points ts
    → (low : ℤ) → IsSlabs points (swept low [] ts)
swept_are_slabs points closed straight [] sorted low = record {
  order = tt;
  sound = λ r h. elim (among_from_contains [] r h) [ ];
  complete = λ r h. absurd (no_slab points sorted r.bottom r.top h.heights);
}
swept_are_slabs points closed straight (t ∷ rest) sorted low =
    subst (IsSlabs points) (sym (start_anywhere low t rest)) (record {
      order = swept_in_order t.y [] (t ∷ rest) at;
      sound = λ r h.
          let f = swept_sound t.y [] (t ∷ rest) at r (among_from_contains _ r h) in
          record {
            heights = same_adjacent (Height t.y (t ∷ rest)) (IsHeight points) (height_out points t rest sorted) (height_in points t rest sorted) r.bottom r.top f.0;
            run = like_runs (Has (row [] (t ∷ rest) r.bottom)) (λ x. Inside points x r.bottom)
                (λ x k. inside_from_row points closed straight (t ∷ rest) sorted x r.bottom k)
                (λ x k. row_from_inside points closed straight (t ∷ rest) sorted x r.bottom k) r.left r.right f.1;
          };
      complete = λ r h.
          contains_from_among _ r
          (swept_complete t.y [] (t ∷ rest) at r
          (same_adjacent (IsHeight points) (Height t.y (t ∷ rest)) (height_in points t rest sorted) (height_out points t rest sorted) r.bottom r.top h.heights)
          (like_runs (λ x. Inside points x r.bottom) (Has (row [] (t ∷ rest) r.bottom))
          (λ x k. row_from_inside points closed straight (t ∷ rest) sorted x r.bottom k)
          (λ x k. inside_from_row points closed straight (t ∷ rest) sorted x r.bottom k) r.left r.right h.run));
    })
  where
    at : IsReached t.y [] (t ∷ rest)
    at = reached points closed straight t rest sorted

-- rectangles that are what the sweep over the sorted toggles lists are the slabs
pub slabs_swept : (points : List Point) → IsClosed points → (IsSlanted points → ⊥) → (ts : List Toggle) → IsPermutation (toggles points) ts → AreAscending ts
    → (us : List Toggle) → us ≡ ts → (low : ℤ) (rects : List Rectangle) → rects ≡ swept low [] us → IsSlabs points rects
slabs_swept points closed straight ts p k us same low rects e =
    subst (IsSlabs points) (sym (e ∙ ap (swept low []) same)) (swept_are_slabs points closed straight ts (sorted_from_permutation points ts p k) low)
