-- The strips of the same cells are one list.
use Rattle.std.proofs.Common.{◌≡◌, ℕ, ◌<◌, ℤ, pos, ◌-ℤ◌, ◌≤ℤ◌, ◌<ℤ◌, List, refl, sym, ap, ◌∙◌, subst, subst₂, arith, inl, inr}
use Rattle.std.specs.Prelude.{AllPairs, Contains}
use Rattle.std.proofs.lemmas.Int.{ints, clamps, by_lt_z}
use Rattle.std.proofs.lemmas.List.{get_or_default}
use Rattle.std.specs.Int.{int_max, int_min}
use Rattle.rt_cells.specs.Line.{Within, IsRun}
use Rattle.rt_cells.specs.Cells.{row_of}
use Rattle.rt_cells.specs.Rectangles.{Holds}
use Rattle.rt_cells.proofs.Lines.{first_place, last_place, antisymmetric}
use Rattle.rt_strips.specs.Placed.{Placed, no_strip, strip_at, mask_of, left_of, right_of, bottom_of, top_of, covered_by}
use Rattle.rt_strips.specs.Standing.{IsStrip}
use Rattle.rt_strips.specs.StripsOf.{ComesBefore, AreStripsOf}
use Rattle.rt_strips.proofs.Family.{IsOfMask, box_of, covered_from, covered_at}
use Rattle.rt_strips.proofs.Runs.{run_along, one_run}
use Rattle.rt_strips.proofs.Sorted.{one_list}

-- the one place is before the other: by mask, then by bottom, then by left
pub data IsEarlier (p q : Placed) : Type 0 where
  lower_mask : p.mask < q.mask → IsEarlier p q
  lower_bottom : p.mask ≡ q.mask → p.area.bottom <ℤ q.area.bottom → IsEarlier p q
  lower_left : p.mask ≡ q.mask → p.area.bottom ≡ q.area.bottom → p.area.left <ℤ q.area.left → IsEarlier p q

never_back : (p q : Placed) → IsEarlier p q → IsEarlier q p → ⊥
never_back p q (lower_mask h) (lower_mask g) = omega (arith, h, g)
never_back p q (lower_mask h) (lower_bottom g _) = omega (arith, h, g)
never_back p q (lower_mask h) (lower_left g _ _) = omega (arith, h, g)
never_back p q (lower_bottom h _) (lower_mask g) = omega (arith, h, g)
never_back p q (lower_bottom _ h) (lower_bottom _ g) = omega (arith, ints, h, g)
never_back p q (lower_bottom _ h) (lower_left _ g _) = omega (arith, ints, h, g)
never_back p q (lower_left h _ _) (lower_mask g) = omega (arith, h, g)
never_back p q (lower_left _ h _) (lower_bottom _ g) = omega (arith, ints, h, g)
never_back p q (lower_left _ _ h) (lower_left _ _ g) = omega (arith, ints, h, g)

earlier : (strips : List Placed) (i j : ℕ) → ComesBefore strips i j → IsEarlier (strip_at strips i) (strip_at strips j)
earlier strips i j (inl h) = lower_mask h
earlier strips i j (inr (e, inl h)) = lower_bottom e h
earlier strips i j (inr (e, inr (f, h))) = lower_left e f h

module _ (cells : ℕ → ℤ → ℤ → Type 0) (masks : ℕ) where
  -- the list is in order
  in_order : (strips : List Placed) → AreStripsOf cells masks strips → AllPairs IsEarlier strips
  in_order strips are i j d h g =
      subst₂ IsEarlier (get_or_default strips i no_strip d (omega (arith, h, g))) (get_or_default strips j no_strip d g)
      (earlier strips i j (are.in_order i j h (record { below_count = g })))

  -- a row of a strip is a run of its mask's cells
  pub run_of : (strips : List Placed) → AreStripsOf cells masks strips → (m i : ℕ) → m < masks → IsOfMask strips m i → (y : ℤ)
      → Within (bottom_of strips i) (top_of strips i) y → IsRun (row_of (cells m) y) (left_of strips i) (right_of strips i)
  run_of strips are m i below h y inside =
      run_along (row_of (covered_by m strips) y) (row_of (cells m) y)
      (λ x c. (are.same_cells m x y below).1 c) (λ x c. (are.same_cells m x y below).0 c) (left_of strips i) (right_of strips i)
      (subst (λ k. IsRun (row_of (covered_by k strips) y) (left_of strips i) (right_of strips i)) h.of_mask (are.whole_runs i (record { below_count = h.below }) y inside))

  -- a cell is held by a strip
  pub holder : (strips : List Placed) → AreStripsOf cells masks strips → (m : ℕ) (x y : ℤ) → m < masks → cells m x y
      → (i : ℕ) × IsOfMask strips m i × Holds (box_of strips i) x y
  holder strips are m x y below c = covered_from strips m x y ((are.same_cells m x y below).0 c)

  -- what a strip holds is a cell
  pub held_cell : (strips : List Placed) → AreStripsOf cells masks strips → (m i : ℕ) (x y : ℤ) → m < masks → IsOfMask strips m i → Holds (box_of strips i) x y → cells m x y
  held_cell strips are m i x y below h holds = (are.same_cells m x y below).1 (covered_at strips m i x y h holds)

  -- a strip under another of its columns isn't there
  pub unstacked_by : (strips : List Placed) → AreStripsOf cells masks strips → (m i j : ℕ) → IsOfMask strips m i → IsOfMask strips m j
      → top_of strips i ≡ bottom_of strips j → left_of strips i ≡ left_of strips j → right_of strips i ≡ right_of strips j → ⊥
  unstacked_by strips are m i j h g adjoin left right =
      are.unstacked i j
      (record {
        strips_of_one_mask = record { first = record { below_count = h.below }; second = record { below_count = g.below }; one_mask = h.of_mask ∙ sym g.of_mask };
        adjoin = adjoin;
        over = record { common = columns (left_of strips i) (right_of strips i) (left_of strips j) (right_of strips j) left right (are.nonempty i (record { below_count = h.below })).across };
      }) left right
    where
      columns : (l r l' r' : ℤ) → l ≡ l' → r ≡ r' → l <ℤ r → int_max l l' <ℤ int_min r r'
      columns l r l' r' e f h = omega (arith, ints, clamps)

  -- a strip that has the row under another and ends above it isn't over its columns
  not_from_below : (strips : List Placed) → AreStripsOf cells masks strips → (m t i : ℕ) (x : ℤ) → IsOfMask strips m t → IsOfMask strips m i
      → Holds (box_of strips t) x (bottom_of strips i -ℤ pos 1) → Within (left_of strips i) (right_of strips i) x → bottom_of strips i <ℤ top_of strips t → ⊥
  not_from_below strips are m t i x h g u v l =
      let e : t ≡ i = are.once t i (record { first = record { below_count = h.below }; second = record { below_count = g.below }; one_mask = h.of_mask ∙ sym g.of_mask }) x (bottom_of strips i)
      (record { column = u.column; row = record { from = omega (arith, ints, u.row); to = l } })
      (record { column = v; row = first_place _ _ (are.nonempty i (record { below_count = g.below })).upwards }) in
      below_itself (bottom_of strips t) (bottom_of strips i) u.row.from (ap (bottom_of strips) e)
    where
      below_itself : (b z : ℤ) → b ≤ℤ (z -ℤ pos 1) → b ≡ z → ⊥
      below_itself b z h e = omega (arith, ints)

  -- a strip that has the row over another and begins below it isn't over its columns
  not_from_above : (strips : List Placed) → AreStripsOf cells masks strips → (m t i : ℕ) (x : ℤ) → IsOfMask strips m t → IsOfMask strips m i
      → Holds (box_of strips t) x (top_of strips i) → Within (left_of strips i) (right_of strips i) x → bottom_of strips t <ℤ top_of strips i → ⊥
  not_from_above strips are m t i x h g u v l =
      let e : t ≡ i = are.once t i (record { first = record { below_count = h.below }; second = record { below_count = g.below }; one_mask = h.of_mask ∙ sym g.of_mask }) x (top_of strips i -ℤ pos 1)
      (record { column = u.column; row = record { from = omega (arith, ints, l); to = omega (arith, ints, u.row) } })
      (record { column = v; row = last_place _ _ (are.nonempty i (record { below_count = g.below })).upwards }) in
      above_itself (top_of strips t) (top_of strips i) u.row.to (ap (top_of strips) e)
    where
      above_itself : (t z : ℤ) → z <ℤ t → t ≡ z → ⊥
      above_itself t z h e = omega (arith, ints)

  module _ (a b : List Placed) (of_a : AreStripsOf cells masks a) (of_b : AreStripsOf cells masks b) where
    -- the strip of the one list over the columns of a strip of the other that has the row
    same_columns : (m i j : ℕ) (x y : ℤ) → m < masks → IsOfMask a m i → IsOfMask b m j → Holds (box_of a i) x y → Holds (box_of b j) x y
        → (left_of a i ≡ left_of b j) × (right_of a i ≡ right_of b j)
    same_columns m i j x y below h g u v =
        one_run (row_of (cells m) y) (left_of a i) (right_of a i) (left_of b j) (right_of b j) x (run_of a of_a m i below h y u.row) (run_of b of_b m j below g y v.row) u.column v.column

    -- of two that hold a cell, the second doesn't begin below the first
    begins_no_lower : (m i j : ℕ) (x y : ℤ) → m < masks → IsOfMask a m i → IsOfMask b m j → Holds (box_of a i) x y → Holds (box_of b j) x y
        → bottom_of a i ≤ℤ bottom_of b j
    begins_no_lower m i j x y below h g u v =
        by_lt_z (bottom_of b j) (bottom_of a i)
        (λ l.
        let s = same_columns m i j x y below h g u v in
        let y' = bottom_of a i -ℤ pos 1 in
        let k : Holds (box_of b j) x y' = record { column = v.column; row = record { from = omega (arith, ints, l); to = omega (arith, ints, u.row, v.row) } } in
        let t = holder a of_a m x y' below (held_cell b of_b m j x y' below g k) in
        let e = same_columns m t.0 j x y' below t.1 g t.2 k in
        by_lt_z (bottom_of a i) (top_of a t.0)
        (λ higher. absurd (not_from_below a of_a m t.0 i x t.1 h t.2 u.column higher))
        (λ ends. absurd (unstacked_by a of_a m t.0 i t.1 h (omega (arith, ints, ends, t.2.row)) (e.0 ∙ sym s.0) (e.1 ∙ sym s.1))))
        (λ l. l)

    -- and doesn't end above it
    ends_no_higher : (m i j : ℕ) (x y : ℤ) → m < masks → IsOfMask a m i → IsOfMask b m j → Holds (box_of a i) x y → Holds (box_of b j) x y
        → top_of b j ≤ℤ top_of a i
    ends_no_higher m i j x y below h g u v =
        by_lt_z (top_of a i) (top_of b j)
        (λ l.
        let s = same_columns m i j x y below h g u v in
        let y' = top_of a i in
        let k : Holds (box_of b j) x y' = record { column = v.column; row = record { from = omega (arith, ints, u.row, v.row); to = l } } in
        let t = holder a of_a m x y' below (held_cell b of_b m j x y' below g k) in
        let e = same_columns m t.0 j x y' below t.1 g t.2 k in
        by_lt_z (bottom_of a t.0) (top_of a i)
        (λ lower. absurd (not_from_above a of_a m t.0 i x t.1 h t.2 u.column lower))
        (λ begins. absurd (unstacked_by a of_a m i t.0 h t.1 (omega (arith, ints, begins, t.2.row)) (s.0 ∙ sym e.0) (s.1 ∙ sym e.1))))
        (λ l. l)

same_placed : (p q : Placed) → p.mask ≡ q.mask → p.area.left ≡ q.area.left → p.area.right ≡ q.area.right → p.area.bottom ≡ q.area.bottom → p.area.top ≡ q.area.top → p ≡ q
same_placed p q m l r b t = λ i. record { mask = m i; area = record { left = l i; right = r i; bottom = b i; top = t i } }

module _ (cells : ℕ → ℤ → ℤ → Type 0) (masks : ℕ) where
  -- a strip of the one list is one of the other
  is_there : (a b : List Placed) → AreStripsOf cells masks a → AreStripsOf cells masks b → (i : ℕ) → IsStrip a i
      → (j : ℕ) × IsStrip b j × (strip_at b j ≡ strip_at a i)
  is_there a b of_a of_b i strip =
      let m = mask_of a i in
      let below = of_a.on_masks i strip in
      let h : IsOfMask a m i = record { below = strip.below_count; of_mask = refl } in
      let some = of_a.nonempty i strip in
      let x = left_of a i in
      let y = bottom_of a i in
      let u : Holds (box_of a i) x y = record { column = first_place _ _ some.across; row = first_place _ _ some.upwards } in
      let t = holder cells masks b of_b m x y below (held_cell cells masks a of_a m i x y below h u) in
      let j = t.0 in
      let g = t.1 in
      let v = t.2 in
      let s = same_columns cells masks a b of_a of_b m i j x y below h g u v in (
        j,
        record { below_count = g.below },
        same_placed (strip_at b j) (strip_at a i) g.of_mask (sym s.0) (sym s.1)
            (antisymmetric _ _ (begins_no_lower cells masks b a of_b of_a m j i x y below g h v u) (begins_no_lower cells masks a b of_a of_b m i j x y below h g u v))
            (antisymmetric _ _ (ends_no_higher cells masks a b of_a of_b m i j x y below h g u v) (ends_no_higher cells masks b a of_b of_a m j i x y below g h v u)),
      )

  is_contained : (a b : List Placed) → AreStripsOf cells masks a → AreStripsOf cells masks b → (p : Placed) → Contains a p → Contains b p
  is_contained a b of_a of_b p c =
      let t = is_there a b of_a of_b c.0 (record { below_count = c.1 }) in
      (t.0, t.1.below_count, get_or_default b t.0 p no_strip t.1.below_count ∙ t.2 ∙ get_or_default a c.0 no_strip p c.1 ∙ c.2)

  -- two lists that are the strips of the same cells are the same list
  pub strips_are_one_list : (a b : List Placed) → AreStripsOf cells masks a → AreStripsOf cells masks b → a ≡ b
  strips_are_one_list a b of_a of_b =
      one_list IsEarlier never_back a b (in_order cells masks a of_a) (in_order cells masks b of_b) (is_contained a b of_a of_b) (is_contained b a of_b of_a)
