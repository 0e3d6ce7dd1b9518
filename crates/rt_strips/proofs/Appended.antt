-- The strips of one more mask, behind those of the masks before it.
use Rattle.std.proofs.Common.{◌≡◌, ℕ, suc, ◌+◌, ◌-◌, ◌<◌, ℤ, ◌<ℤ◌, ◌⊎◌, ◌↔◌, List, ◌++◌, length, map, get_or, refl, sym, ap, subst, subst₂, ◌∙◌, arith, inl, inr}
use Rattle.std.proofs.lemmas.Bool.{cases_lt, cases_order}
use Rattle.std.proofs.lemmas.List.{get_or-map, get_or_default, get_or_append_left, get_or-append_right, get_or-append-add, length-map, length-append}
use Rattle.std.proofs.lemmas.List.Elements.{Contains-get_or}
use Rattle.rt_cells.specs.Line.{Within, IsRun}
use Rattle.rt_cells.specs.Cells.{row_of}
use Rattle.rt_cells.specs.Rectangles.{Rectangle, IsNonempty, Holds}
use Rattle.rt_cells.proofs.Lines.{first_place}
use Rattle.rt_strips.specs.Placed.{Placed, no_strip, strip_at, mask_of, left_of, right_of, bottom_of, top_of, covered_by}
use Rattle.rt_strips.specs.Standing.{IsStrip, AreOfOneMask, StandsOn}
use Rattle.rt_strips.specs.StripsOf.{ComesBefore, AreStripsOf}
use Rattle.rt_strips.specs.OneMask.{IsBefore, AreAllStrips}
use Rattle.rt_strips.specs.Tallies.{at_mask}
use Rattle.rt_strips.proofs.Family.{IsOfMask, box_of, covered_from, covered_at}
use Rattle.rt_strips.proofs.Runs.{run_along}
use Rattle.rt_strips.proofs.Standing.{stood, under_there}

-- the cells of one mask
abbrev pub only_on : ℕ → (ℤ → ℤ → Type 0) → ℕ → ℤ → ℤ → Type 0
only_on m cells k x y = (k ≡ m) × cells x y

before_by : (p q : Placed) → p.mask ≡ q.mask → IsBefore p.area q.area
    → (p.mask < q.mask) ⊎ ((p.mask ≡ q.mask) × ((p.area.bottom <ℤ q.area.bottom) ⊎ ((p.area.bottom ≡ q.area.bottom) × (p.area.left <ℤ q.area.left))))
before_by p q e h = inr (e, h)

module _ (m : ℕ) (cells : ℤ → ℤ → Type 0) (areas : List Rectangle) (are : AreAllStrips cells areas) where
  -- the strip of a number
  pub at_number : (i : ℕ) → IsStrip (map (at_mask m) areas) i → (i < length areas) × (strip_at (map (at_mask m) areas) i ≡ at_mask m (get_or areas i no_strip.area))
  at_number i h =
      let l : i < length areas = subst (λ n. i < n) (length-map areas (at_mask m)) h.below_count in
      (l, get_or-map (at_mask m) areas i no_strip.area no_strip l)

  covered_on : (x y : ℤ) → covered_by m (map (at_mask m) areas) x y ↔ cells x y
  covered_on x y = (
    λ c.
        let d = covered_from (map (at_mask m) areas) m x y c in
        let a = at_number d.0 (record { below_count = d.1.below }) in
        (are.same_cells x y).1 (get_or areas d.0 no_strip.area, Contains-get_or areas d.0 no_strip.area a.0, subst (λ (p : Placed). Holds p.area x y) a.1 d.2),
    λ c.
        let d = (are.same_cells x y).0 c in
        let i = d.1.0 in
        let h : IsStrip (map (at_mask m) areas) i = record { below_count = subst (λ n. i < n) (sym (length-map areas (at_mask m))) d.1.1 } in
        let a = at_number i h in
        let e : get_or areas i no_strip.area ≡ d.0 = get_or_default areas i no_strip.area d.0 d.1.1 ∙ d.1.2 in
        covered_at (map (at_mask m) areas) m i x y (record { below = h.below_count; of_mask = ap (λ (p : Placed). p.mask) a.1 })
        (subst (λ (p : Placed). Holds p.area x y) (sym a.1) (subst (λ (r : Rectangle). Holds r x y) (sym e) d.2)),
  )

  never_both : (i j : ℕ) (x y : ℤ) → i < j → IsStrip (map (at_mask m) areas) j → Holds (box_of (map (at_mask m) areas) i) x y → Holds (box_of (map (at_mask m) areas) j) x y → ⊥
  never_both i j x y h strip u v =
      let b = at_number j strip in
      let a = at_number i (record { below_count = omega (arith, h, strip.below_count) }) in
      are.once i j no_strip.area h b.0 x y (subst (λ (p : Placed). Holds p.area x y) a.1 u) (subst (λ (p : Placed). Holds p.area x y) b.1 v)

  -- the strips of the cells of one mask are strips
  pub one_mask_strips : AreStripsOf (only_on m cells) (suc m) (map (at_mask m) areas)
  one_mask_strips = record {
    on_masks = λ i h. let e : mask_of (map (at_mask m) areas) i ≡ m = ap (λ (p : Placed). p.mask) (at_number i h).1 in omega (arith, e);
    nonempty = λ i h. let a = at_number i h in subst (λ (p : Placed). IsNonempty p.area) (sym a.1) (are.nonempty i no_strip.area a.0);
    same_cells = λ k x y below. (
      λ c. subst (λ n. covered_by n (map (at_mask m) areas) x y) (sym c.0) ((covered_on x y).1 c.1),
      λ c.
          let d = covered_from (map (at_mask m) areas) k x y c in
          let e : k ≡ m = sym d.1.of_mask ∙ ap (λ (p : Placed). p.mask) (at_number d.0 (record { below_count = d.1.below })).1 in
          (e, (covered_on x y).0 (subst (λ n. covered_by n (map (at_mask m) areas) x y) e c)),
    );
    once = λ i j one x y u v. elim (cases_order i j) [
      | inl e ↦ e
      | inr (inl l) ↦ absurd (never_both i j x y l one.second u v)
      | inr (inr l) ↦ absurd (never_both j i x y l one.first v u)
    ];
    whole_runs = λ i h y inside.
        let a = at_number i h in
        let run = are.whole_runs i no_strip.area a.0 y (subst (λ (p : Placed). Within p.area.bottom p.area.top y) a.1 inside) in
        subst (λ (p : Placed). IsRun (row_of (covered_by p.mask (map (at_mask m) areas)) y) p.area.left p.area.right) (sym a.1)
        (run_along (row_of cells y) (row_of (covered_by m (map (at_mask m) areas)) y) (λ x c. (covered_on x y).1 c) (λ x c. (covered_on x y).0 c) _ _ run);
    unstacked = λ i j s left right.
        let a = at_number i s.strips_of_one_mask.first in
        let b = at_number j s.strips_of_one_mask.second in
        are.unstacked (get_or areas i no_strip.area) (get_or areas j no_strip.area) (Contains-get_or areas i no_strip.area a.0) (Contains-get_or areas j no_strip.area b.0)
        (subst₂ (λ (p q : Placed). p.area.top ≡ q.area.bottom) a.1 b.1 s.adjoin) (subst₂ (λ (p q : Placed). p.area.left ≡ q.area.left) a.1 b.1 left)
        (subst₂ (λ (p q : Placed). p.area.right ≡ q.area.right) a.1 b.1 right);
    in_order = λ i j h g.
        let b = at_number j g in
        let a = at_number i (record { below_count = omega (arith, h, g.below_count) }) in
        before_by (strip_at (map (at_mask m) areas) i) (strip_at (map (at_mask m) areas) j) (ap (λ (p : Placed). p.mask) a.1 ∙ sym (ap (λ (p : Placed). p.mask) b.1))
        (subst₂ (λ (p q : Placed). IsBefore p.area q.area) (sym a.1) (sym b.1) (are.in_order i j no_strip.area h b.0));
  }

-- one strip of a list is as one of another
moved_strips : (xs ys : List Placed) (i j k l : ℕ) → IsStrip ys k → IsStrip ys l → strip_at xs i ≡ strip_at ys k → strip_at xs j ≡ strip_at ys l → StandsOn xs i j → StandsOn ys k l
moved_strips xs ys i j k l h g e f s = stood ys k l (strip_at ys k) (strip_at ys l) h g refl refl (under_there xs i j (strip_at ys k) (strip_at ys l) e f s)

moved_one_mask : (xs ys : List Placed) (i j k l : ℕ) → IsStrip ys k → IsStrip ys l → strip_at xs i ≡ strip_at ys k → strip_at xs j ≡ strip_at ys l → AreOfOneMask xs i j → AreOfOneMask ys k l
moved_one_mask xs ys i j k l h g e f one = record { first = h; second = g; one_mask = subst₂ (λ (p q : Placed). p.mask ≡ q.mask) e f one.one_mask }

moved_order : (xs ys : List Placed) (i j k l : ℕ) → strip_at ys k ≡ strip_at xs i → strip_at ys l ≡ strip_at xs j → ComesBefore ys k l → ComesBefore xs i j
moved_order xs ys i j k l e f h =
    subst₂ (λ (p q : Placed). (p.mask < q.mask) ⊎ ((p.mask ≡ q.mask) × ((p.area.bottom <ℤ q.area.bottom) ⊎ ((p.area.bottom ≡ q.area.bottom) × (p.area.left <ℤ q.area.left))))) e f h

-- a strip of two lists end to end is one of the first, or one of the second
data IsFromBoth (xs ys : List Placed) (i : ℕ) : Type 0 where
  from_first : IsStrip xs i → strip_at (xs ++ ys) i ≡ strip_at xs i → IsFromBoth xs ys i
  from_second : (k : ℕ) → IsStrip ys k → i ≡ length xs + k → strip_at (xs ++ ys) i ≡ strip_at ys k → IsFromBoth xs ys i

which : (xs ys : List Placed) (i : ℕ) → IsStrip (xs ++ ys) i → IsFromBoth xs ys i
which xs ys i h =
    elim (cases_lt i (length xs)) [
      | inl l ↦ from_first (record { below_count = l }) (get_or_append_left xs ys no_strip i l)
      | inr l ↦ from_second (i - length xs) (record { below_count = omega (arith, l, h.below_count, length-append xs ys) }) (omega (arith, l)) (get_or-append_right xs ys (length xs) i no_strip refl l)
    ]

clash : (a b m : ℕ) → a < m → b ≡ m → a ≡ b → ⊥
clash a b m h e f = omega (arith, h, e, f)

module _ (cells : ℕ → ℤ → ℤ → Type 0) (m : ℕ) (xs ys : List Placed) (first : AreStripsOf cells m xs) (second : AreStripsOf (only_on m (cells m)) (suc m) ys) where
  -- the strips of the second list are of mask m
  pub on_mask : (k : ℕ) → IsStrip ys k → mask_of ys k ≡ m
  on_mask k h =
      let some = second.nonempty k h in
      ((second.same_cells (mask_of ys k) (left_of ys k) (bottom_of ys k) (second.on_masks k h)).1
      (covered_at ys (mask_of ys k) k (left_of ys k) (bottom_of ys k) (record { below = h.below_count; of_mask = refl })
      (record { column = first_place _ _ some.across; row = first_place _ _ some.upwards }))).0

  first_there : (k i : ℕ) → IsOfMask xs k i → IsOfMask (xs ++ ys) k i × (strip_at (xs ++ ys) i ≡ strip_at xs i)
  first_there k i h =
      let e = get_or_append_left xs ys no_strip i h.below in
      (record { below = omega (arith, h.below, length-append xs ys); of_mask = ap (λ (p : Placed). p.mask) e ∙ h.of_mask }, e)

  second_there : (k i : ℕ) → IsOfMask ys k i → IsOfMask (xs ++ ys) k (length xs + i) × (strip_at (xs ++ ys) (length xs + i) ≡ strip_at ys i)
  second_there k i h =
      let e = get_or-append-add xs ys i no_strip in
      (record { below = omega (arith, h.below, length-append xs ys); of_mask = ap (λ (p : Placed). p.mask) e ∙ h.of_mask }, e)

  low_from : (k i : ℕ) (x y : ℤ) → k < m → IsOfMask (xs ++ ys) k i → Holds (box_of (xs ++ ys) i) x y → IsFromBoth xs ys i → covered_by k xs x y
  low_from k i x y below h u (from_first s e) =
      covered_at xs k i x y (record { below = s.below_count; of_mask = ap (λ (p : Placed). p.mask) (sym e) ∙ h.of_mask }) (subst (λ (p : Placed). Holds p.area x y) e u)
  low_from k i x y below h u (from_second l s _ e) = absurd (clash k (mask_of ys l) m below (on_mask l s) (sym h.of_mask ∙ ap (λ (p : Placed). p.mask) e))

  top_from : (i : ℕ) (x y : ℤ) → IsOfMask (xs ++ ys) m i → Holds (box_of (xs ++ ys) i) x y → IsFromBoth xs ys i → covered_by m ys x y
  top_from i x y h u (from_first s e) = absurd (clash (mask_of xs i) m m (first.on_masks i s) refl (ap (λ (p : Placed). p.mask) (sym e) ∙ h.of_mask))
  top_from i x y h u (from_second l s _ e) =
      covered_at ys m l x y (record { below = s.below_count; of_mask = on_mask l s }) (subst (λ (p : Placed). Holds p.area x y) e u)

  low_covered : (k : ℕ) (x y : ℤ) → k < m → covered_by k (xs ++ ys) x y ↔ covered_by k xs x y
  low_covered k x y below = (
    λ c. let d = covered_from (xs ++ ys) k x y c in low_from k d.0 x y below d.1 d.2 (which xs ys d.0 (record { below_count = d.1.below })),
    λ c.
        let d = covered_from xs k x y c in
        let t = first_there k d.0 d.1 in
        covered_at (xs ++ ys) k d.0 x y t.0 (subst (λ (p : Placed). Holds p.area x y) (sym t.1) d.2),
  )

  top_covered : (x y : ℤ) → covered_by m (xs ++ ys) x y ↔ covered_by m ys x y
  top_covered x y = (
    λ c. let d = covered_from (xs ++ ys) m x y c in top_from d.0 x y d.1 d.2 (which xs ys d.0 (record { below_count = d.1.below })),
    λ c.
        let d = covered_from ys m x y c in
        let t = second_there m d.0 d.1 in
        covered_at (xs ++ ys) m (length xs + d.0) x y t.0 (subst (λ (p : Placed). Holds p.area x y) (sym t.1) d.2),
  )

  mask_below : (i : ℕ) → IsFromBoth xs ys i → mask_of (xs ++ ys) i < suc m
  mask_below i (from_first s e) = let l = first.on_masks i s in let f : mask_of (xs ++ ys) i ≡ mask_of xs i = ap (λ (p : Placed). p.mask) e in omega (arith, l, f)
  mask_below i (from_second k s _ e) = let l = on_mask k s in let f : mask_of (xs ++ ys) i ≡ mask_of ys k = ap (λ (p : Placed). p.mask) e in omega (arith, l, f)

  nonempty_of : (i : ℕ) → IsFromBoth xs ys i → IsNonempty (strip_at (xs ++ ys) i).area
  nonempty_of i (from_first s e) = subst (λ (p : Placed). IsNonempty p.area) (sym e) (first.nonempty i s)
  nonempty_of i (from_second k s _ e) = subst (λ (p : Placed). IsNonempty p.area) (sym e) (second.nonempty k s)

  cells_of : (k : ℕ) (x y : ℤ) → k < suc m → cells k x y ↔ covered_by k (xs ++ ys) x y
  cells_of k x y below =
      elim (cases_lt k m) [
        | inl l ↦ (λ c. (low_covered k x y l).1 ((first.same_cells k x y l).0 c), λ c. (first.same_cells k x y l).1 ((low_covered k x y l).0 c))
        | inr l ↦
            let e : m ≡ k = omega (arith, l, below) in
            subst (λ n. cells n x y ↔ covered_by n (xs ++ ys) x y) e
            (λ c. (top_covered x y).1 ((second.same_cells m x y (omega arith)).0 (refl, c)), λ c. ((second.same_cells m x y (omega arith)).1 ((top_covered x y).0 c)).1)
      ]

  other_masks : (i j k : ℕ) → IsStrip xs i → strip_at (xs ++ ys) i ≡ strip_at xs i → IsStrip ys k → strip_at (xs ++ ys) j ≡ strip_at ys k
      → mask_of (xs ++ ys) i < mask_of (xs ++ ys) j
  other_masks i j k s e t f =
      let a = first.on_masks i s in let b = on_mask k t in
      let g : mask_of (xs ++ ys) i ≡ mask_of xs i = ap (λ (p : Placed). p.mask) e in
      let h : mask_of (xs ++ ys) j ≡ mask_of ys k = ap (λ (p : Placed). p.mask) f in
      omega (arith, a, b, g, h)

  no_one_mask : (a b : ℕ) → a < b → a ≡ b → ⊥
  no_one_mask a b h e = omega (arith, h, e)

  once_of : (i j : ℕ) → IsFromBoth xs ys i → IsFromBoth xs ys j → AreOfOneMask (xs ++ ys) i j → (x y : ℤ)
      → Holds (strip_at (xs ++ ys) i).area x y → Holds (strip_at (xs ++ ys) j).area x y → i ≡ j
  once_of i j (from_first s e) (from_first t f) one x y u v =
      first.once i j (moved_one_mask (xs ++ ys) xs i j i j s t e f one) x y (subst (λ (p : Placed). Holds p.area x y) e u) (subst (λ (p : Placed). Holds p.area x y) f v)
  once_of i j (from_first s e) (from_second l t _ f) one x y u v = absurd (no_one_mask _ _ (other_masks i j l s e t f) one.one_mask)
  once_of i j (from_second k s _ e) (from_first t f) one x y u v = absurd (no_one_mask _ _ (other_masks j i k t f s e) (sym one.one_mask))
  once_of i j (from_second k s d e) (from_second l t g f) one x y u v =
      let same : k ≡ l = second.once k l (moved_one_mask (xs ++ ys) ys i j k l s t e f one) x y (subst (λ (p : Placed). Holds p.area x y) e u) (subst (λ (p : Placed). Holds p.area x y) f v) in
      d ∙ ap (λ n. length xs + n) same ∙ sym g

  runs_of : (i : ℕ) → IsFromBoth xs ys i → (y : ℤ) → Within (bottom_of (xs ++ ys) i) (top_of (xs ++ ys) i) y
      → IsRun (row_of (covered_by (mask_of (xs ++ ys) i) (xs ++ ys)) y) (left_of (xs ++ ys) i) (right_of (xs ++ ys) i)
  runs_of i (from_first s e) y inside =
      let l = first.on_masks i s in
      subst (λ (p : Placed). IsRun (row_of (covered_by p.mask (xs ++ ys)) y) p.area.left p.area.right) (sym e)
      (run_along (row_of (covered_by (mask_of xs i) xs) y) (row_of (covered_by (mask_of xs i) (xs ++ ys)) y)
      (λ x c. (low_covered (mask_of xs i) x y l).1 c) (λ x c. (low_covered (mask_of xs i) x y l).0 c) _ _
      (first.whole_runs i s y (subst (λ (p : Placed). Within p.area.bottom p.area.top y) e inside)))
  runs_of i (from_second k s _ e) y inside =
      subst (λ (p : Placed). IsRun (row_of (covered_by p.mask (xs ++ ys)) y) p.area.left p.area.right) (sym e)
      (subst (λ n. IsRun (row_of (covered_by n (xs ++ ys)) y) (left_of ys k) (right_of ys k)) (sym (on_mask k s))
      (run_along (row_of (covered_by m ys) y) (row_of (covered_by m (xs ++ ys)) y) (λ x c. (top_covered x y).1 c) (λ x c. (top_covered x y).0 c) _ _
      (subst (λ n. IsRun (row_of (covered_by n ys) y) (left_of ys k) (right_of ys k)) (on_mask k s)
      (second.whole_runs k s y (subst (λ (p : Placed). Within p.area.bottom p.area.top y) e inside)))))

  unstacked_of : (i j : ℕ) → IsFromBoth xs ys i → IsFromBoth xs ys j → StandsOn (xs ++ ys) i j → left_of (xs ++ ys) i ≡ left_of (xs ++ ys) j
      → right_of (xs ++ ys) i ≡ right_of (xs ++ ys) j → ⊥
  unstacked_of i j (from_first s e) (from_first t f) stands left right =
      first.unstacked i j (moved_strips (xs ++ ys) xs i j i j s t e f stands) (subst₂ (λ (p q : Placed). p.area.left ≡ q.area.left) e f left)
      (subst₂ (λ (p q : Placed). p.area.right ≡ q.area.right) e f right)
  unstacked_of i j (from_first s e) (from_second l t _ f) stands left right = no_one_mask _ _ (other_masks i j l s e t f) stands.strips_of_one_mask.one_mask
  unstacked_of i j (from_second k s _ e) (from_first t f) stands left right = no_one_mask _ _ (other_masks j i k t f s e) (sym stands.strips_of_one_mask.one_mask)
  unstacked_of i j (from_second k s _ e) (from_second l t _ f) stands left right =
      second.unstacked k l (moved_strips (xs ++ ys) ys i j k l s t e f stands) (subst₂ (λ (p q : Placed). p.area.left ≡ q.area.left) e f left)
      (subst₂ (λ (p q : Placed). p.area.right ≡ q.area.right) e f right)

  order_of : (i j : ℕ) → i < j → IsFromBoth xs ys i → IsFromBoth xs ys j → ComesBefore (xs ++ ys) i j
  order_of i j h (from_first s e) (from_first t f) = moved_order (xs ++ ys) xs i j i j (sym e) (sym f) (first.in_order i j h t)
  order_of i j h (from_first s e) (from_second l t _ f) = inl (other_masks i j l s e t f)
  order_of i j h (from_second k s d e) (from_first t f) = absurd (wrong_way (length xs) k i j h d t.below_count)
    where
      wrong_way : (n k i j : ℕ) → i < j → i ≡ n + k → j < n → ⊥
      wrong_way n k i j h d l = omega (arith, h, d, l)
  order_of i j h (from_second k s d e) (from_second l t g f) = moved_order (xs ++ ys) ys i j k l (sym e) (sym f) (second.in_order k l (omega (arith, h, d, g)) t)

  -- the strips of one more mask
  pub one_more_mask : AreStripsOf cells (suc m) (xs ++ ys)
  one_more_mask = record {
    on_masks = λ i h. mask_below i (which xs ys i h);
    nonempty = λ i h. nonempty_of i (which xs ys i h);
    same_cells = cells_of;
    once = λ i j one. once_of i j (which xs ys i one.first) (which xs ys j one.second) one;
    whole_runs = λ i h. runs_of i (which xs ys i h);
    unstacked = λ i j s. unstacked_of i j (which xs ys i s.strips_of_one_mask.first) (which xs ys j s.strips_of_one_mask.second) s;
    in_order = λ i j h g. order_of i j h (which xs ys i (record { below_count = omega (arith, h, g.below_count) })) (which xs ys j g);
  }
