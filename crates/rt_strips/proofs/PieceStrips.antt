-- The strips that touch no other are the pieces that are rectangles.
use Rattle.std.proofs.Common.{◌≡◌, ℕ, ◌<◌, ℤ, pos, ◌+ℤ◌, ◌-ℤ◌, ◌≤ℤ◌, ◌<ℤ◌, List, refl, sym, ap, subst, ◌∙◌, arith, inl, inr}
use Rattle.std.proofs.lemmas.Int.{ints, by_lt_z}
use Rattle.std.specs.Int.{int_max}
use Rattle.rt_cells.specs.Line.{Within, IsRun}
use Rattle.rt_cells.specs.Cells.{row_of, Joined}
use Rattle.rt_cells.specs.Cells.Joined.{here, onward}
use Rattle.rt_cells.specs.Rectangles.{Rectangle, Holds}
use Rattle.rt_cells.proofs.Lines.{first_place, last_place, antisymmetric, not_before, not_after, common_first, common_second}
use Rattle.rt_cells.proofs.Rectangles.{joined_inside}
use Rattle.rt_family.specs.Strips as family
use Rattle.rt_family.proofs.Strips.{neighbours_touch}
use Rattle.rt_rules.specs.Pieces.{IsPiece}
use Rattle.rt_rules.proofs.Pieces.{piece_along, stays_in, above_it, piece_row}
use Rattle.rt_strips.specs.Placed.{Placed, left_of, right_of, bottom_of, top_of}
use Rattle.rt_strips.specs.Standing.{StandsOn, Touch}
use Rattle.rt_strips.specs.StripsOf.{AreStripsOf}
use Rattle.rt_strips.specs.Untouched.{IsInPiece, IsTouched}
use Rattle.rt_strips.proofs.Family.{IsOfMask, box_of, covered_by_family, is_family, stands_from_family}
use Rattle.rt_strips.proofs.Runs.{one_run}
use Rattle.rt_strips.proofs.OneList.{run_of, holder, held_cell, unstacked_by}

pub in_piece_along : (cells others : ℤ → ℤ → Type 0) → ((x y : ℤ) → cells x y → others x y) → ((x y : ℤ) → others x y → cells x y) → (x y : ℤ) → IsInPiece cells x y → IsInPiece others x y
in_piece_along cells others there back x y c = record { piece = c.piece; is_piece = piece_along cells others there back c.piece c.is_piece; holds = c.holds }

module _ (cells : ℕ → ℤ → ℤ → Type 0) (masks : ℕ) (strips : List Placed) (are : AreStripsOf cells masks strips) (m : ℕ) (below : m < masks) where
  corner : (i : ℕ) → IsOfMask strips m i → Holds (box_of strips i) (left_of strips i) (bottom_of strips i)
  corner i h = let some = are.nonempty i (record { below_count = h.below }) in record { column = first_place _ _ some.across; row = first_place _ _ some.upwards }

  in_family : (x y : ℤ) → cells m x y → family.CoveredBy (IsOfMask strips m) (box_of strips) x y
  in_family x y c = (covered_by_family strips m x y).0 ((are.same_cells m x y below).0 c)

  -- a strip that touches no other is a piece
  pub untouched_is_piece : (i : ℕ) → IsOfMask strips m i → ¬ IsTouched strips i → IsPiece (cells m) (box_of strips i)
  untouched_is_piece i h lone = record {
    nonempty = are.nonempty i (record { below_count = h.below });
    inside = λ x y u. held_cell cells masks strips are m i x y below h u;
    alone = λ x y u v holds side c.
        let j = in_family u v c in
        elim (neighbours_touch (IsOfMask strips m) (box_of strips) (is_family cells masks strips are m) i j.number x y u v (record { strip = h; cell = holds }) j.holds side) [
          | inl e ↦ subst (λ n. Holds (box_of strips n) u v) (sym e) j.holds.cell
          | inr (inl s) ↦ absurd (lone (record { other = j.number; touch = inl (stands_from_family cells masks strips are m i j.number s) }))
          | inr (inr s) ↦ absurd (lone (record { other = j.number; touch = inr (stands_from_family cells masks strips are m j.number i s) }))
        ];
  }

  module _ (r : Rectangle) (piece : IsPiece (cells m) r) where
    at_corner : Holds r r.left r.bottom
    at_corner = record { column = first_place _ _ piece.nonempty.across; row = first_place _ _ piece.nonempty.upwards }

    -- a strip with a cell of the piece has its columns
    piece_columns : (i : ℕ) (x y : ℤ) → IsOfMask strips m i → Holds (box_of strips i) x y → Holds r x y → (left_of strips i ≡ r.left) × (right_of strips i ≡ r.right)
    piece_columns i x y h u v =
        one_run (row_of (cells m) y) (left_of strips i) (right_of strips i) r.left r.right x (run_of cells masks strips are m i below h y u.row) (piece_row (cells m) r piece y v.row) u.column v.column

    -- and lies in it
    piece_holds : (i : ℕ) (x y u v : ℤ) → IsOfMask strips m i → Holds (box_of strips i) x y → Holds r x y → Holds (box_of strips i) u v → Holds r u v
    piece_holds i x y u v h a b c =
        stays_in (cells m) r piece x y u v b (joined_inside (cells m) (box_of strips i) (λ p q k. held_cell cells masks strips are m i p q below h k) x y u v a c)

    -- the strip that begins where the piece begins
    piece_strip : (i : ℕ) × IsOfMask strips m i × Holds (box_of strips i) r.left r.bottom
    piece_strip = holder cells masks strips are m r.left r.bottom below (piece.inside r.left r.bottom at_corner)

    over_columns : (i j : ℕ) → (left_of strips i ≡ r.left) × (right_of strips i ≡ r.right) → (left_of strips j ≡ r.left) × (right_of strips j ≡ r.right)
        → (left_of strips i ≡ left_of strips j) × (right_of strips i ≡ right_of strips j)
    over_columns i j e f = (e.0 ∙ sym f.0, e.1 ∙ sym f.1)

    -- it ends where the piece ends
    piece_top : (i : ℕ) → IsOfMask strips m i → Holds (box_of strips i) r.left r.bottom → r.top ≤ℤ top_of strips i
    piece_top i h u =
        by_lt_z (top_of strips i) r.top
        (λ l.
        let v : Holds r r.left (top_of strips i) = record { column = at_corner.column; row = record { from = omega (arith, ints, u.row); to = l } } in
        let t = holder cells masks strips are m r.left (top_of strips i) below (piece.inside r.left (top_of strips i) v) in
        let same = over_columns i t.0 (piece_columns i r.left r.bottom h u at_corner) (piece_columns t.0 r.left (top_of strips i) t.1 t.2 v) in
        by_lt_z (bottom_of strips t.0) (top_of strips i)
        (λ k. absurd (twice i t.0 h t.1 u t.2 k))
        (λ k. absurd (unstacked_by cells masks strips are m i t.0 h t.1 (omega (arith, ints, k, t.2.row)) same.0 same.1)))
        (λ l. l)
      where
        beyond : (a b : ℤ) → a <ℤ b → a ≡ b → ⊥
        beyond a b h e = omega (arith, ints)

        twice : (i t : ℕ) → IsOfMask strips m i → IsOfMask strips m t → Holds (box_of strips i) r.left r.bottom → Holds (box_of strips t) r.left (top_of strips i)
            → bottom_of strips t <ℤ top_of strips i → ⊥
        twice i t h g u v k =
            let e : i ≡ t = are.once i t (record { first = record { below_count = h.below }; second = record { below_count = g.below }; one_mask = h.of_mask ∙ sym g.of_mask }) r.left (top_of strips i -ℤ pos 1)
            (record { column = u.column; row = last_place _ _ (are.nonempty i (record { below_count = h.below })).upwards })
            (record { column = v.column; row = record { from = omega (arith, ints, k); to = omega (arith, ints, v.row) } }) in
            beyond (top_of strips i) (top_of strips t) v.row.to (ap (top_of strips) e)

    same_area : (a b : Rectangle) → a.left ≡ b.left → a.right ≡ b.right → a.bottom ≡ b.bottom → a.top ≡ b.top → a ≡ b
    same_area a b l r' u v = λ i. record { left = l i; right = r' i; bottom = u i; top = v i }

    -- so it is the piece
    piece_is_strip : (i : ℕ) → IsOfMask strips m i → Holds (box_of strips i) r.left r.bottom → box_of strips i ≡ r
    piece_is_strip i h u =
        let columns = piece_columns i r.left r.bottom h u at_corner in
        let some = are.nonempty i (record { below_count = h.below }) in
        let low = piece_holds i r.left r.bottom (left_of strips i) (bottom_of strips i) h u at_corner (corner i h) in
        let high = piece_holds i r.left r.bottom (left_of strips i) (top_of strips i -ℤ pos 1) h u at_corner
        (record { column = first_place _ _ some.across; row = last_place _ _ some.upwards }) in
        same_area (box_of strips i) r columns.0 columns.1 (antisymmetric _ _ u.row.from low.row.from) (antisymmetric _ _ (ends_in (top_of strips i) r.top high.row.to) (piece_top i h u))
      where
        ends_in : (a b : ℤ) → (a -ℤ pos 1) <ℤ b → a ≤ℤ b
        ends_in a b h = omega (arith, ints)

    -- and touches no other
    none_above : (i j : ℕ) → IsOfMask strips m i → box_of strips i ≡ r → StandsOn strips i j → ⊥
    none_above i j h e s =
        let x = int_max (left_of strips i) (left_of strips j) in
        let a = common_first (left_of strips i) (right_of strips i) (left_of strips j) (right_of strips j) s.over.common in
        let b = common_second (left_of strips i) (right_of strips i) (left_of strips j) (right_of strips j) s.over.common in
        let g : IsOfMask strips m j = record { below = s.strips_of_one_mask.second.below_count; of_mask = sym s.strips_of_one_mask.one_mask ∙ h.of_mask } in
        let u : Holds (box_of strips i) x (top_of strips i -ℤ pos 1) = record { column = a; row = last_place _ _ (are.nonempty i (record { below_count = h.below })).upwards } in
        let v : Holds (box_of strips j) x (top_of strips i) = record { column = b; row = subst (λ z. Within (bottom_of strips j) (top_of strips j) z) (sym s.adjoin) (first_place _ _ (are.nonempty j (record { below_count = g.below })).upwards) } in
        let w = piece.alone x (top_of strips i -ℤ pos 1) x (top_of strips i) (subst (λ (b : Rectangle). Holds b x (top_of strips i -ℤ pos 1)) e u) (inr (refl, inl (above_it (top_of strips i))))
        (held_cell cells masks strips are m j x (top_of strips i) below g v) in
        not_after r.bottom r.top (subst (λ z. Within r.bottom r.top z) (ap (λ (b : Rectangle). b.top) e) w.row)

    none_below : (i j : ℕ) → IsOfMask strips m i → box_of strips i ≡ r → StandsOn strips j i → ⊥
    none_below i j h e s =
        let x = int_max (left_of strips j) (left_of strips i) in
        let a = common_first (left_of strips j) (right_of strips j) (left_of strips i) (right_of strips i) s.over.common in
        let b = common_second (left_of strips j) (right_of strips j) (left_of strips i) (right_of strips i) s.over.common in
        let g : IsOfMask strips m j = record { below = s.strips_of_one_mask.first.below_count; of_mask = s.strips_of_one_mask.one_mask ∙ h.of_mask } in
        let u : Holds (box_of strips i) x (bottom_of strips i) = record { column = b; row = first_place _ _ (are.nonempty i (record { below_count = h.below })).upwards } in
        let v : Holds (box_of strips j) x (bottom_of strips i -ℤ pos 1) = record { column = a; row = subst (λ z. Within (bottom_of strips j) (top_of strips j) (z -ℤ pos 1)) s.adjoin (last_place _ _ (are.nonempty j (record { below_count = g.below })).upwards) } in
        let w = piece.alone x (bottom_of strips i) x (bottom_of strips i -ℤ pos 1) (subst (λ (b : Rectangle). Holds b x (bottom_of strips i)) e u) (inr (refl, inr (above_it (bottom_of strips i))))
        (held_cell cells masks strips are m j x (bottom_of strips i -ℤ pos 1) below g v) in
        not_before r.bottom r.top (subst (λ z. Within r.bottom r.top (z -ℤ pos 1)) (ap (λ (b : Rectangle). b.bottom) e) w.row)

    not_touched : (i : ℕ) → IsOfMask strips m i → box_of strips i ≡ r → (j : ℕ) → Touch strips i j → ⊥
    not_touched i h e j (inl s) = none_above i j h e s
    not_touched i h e j (inr s) = none_below i j h e s

    -- a piece that is a rectangle is a strip that touches no other
    pub piece_is_untouched : (i : ℕ) × IsOfMask strips m i × (box_of strips i ≡ r) × ¬ IsTouched strips i
    piece_is_untouched =
        let t = piece_strip in
        let e = piece_is_strip t.0 t.1 t.2 in
        (t.0, t.1, e, λ touched. not_touched t.0 t.1 e touched.other touched.touch)
