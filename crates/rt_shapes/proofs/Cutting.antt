-- Cuts by their strips: pieces that are bent, and those that are strips.
use Rattle.std.proofs.Common.{◌≡◌, ℕ, ◌+◌, ℤ, pos, ◌-ℤ◌, ◌<ℤ◌, ◌⊎◌, List, All, length, sym, subst, ap, refl, ◌∙◌, arith, inl, inr}
use Rattle.std.proofs.lemmas.Int.{ints, clamps, by_lt_z}
use Rattle.std.proofs.lemmas.List.Elements.{All-contains}
use Rattle.std.specs.Int.{int_max, int_min}
use Rattle.rt_cells.specs.Cells.{Joined}
use Rattle.rt_cells.specs.Rectangles.{Rectangle, Holds}
use Rattle.rt_cells.proofs.Lines.{first_place, last_place}
use Rattle.rt_cells.proofs.Rectangles.{joined_inside}
use Rattle.rt_rules.specs.Pieces.{IsPiece}
use Rattle.rt_rules.proofs.Pieces.{stays_in}
use Rattle.rt_family.specs.Strips.{HoldsCell, IsFamily}
use Rattle.rt_family.proofs.Joins.{joined_ends}
use Rattle.rt_family.proofs.Strips.{connected_joined, joined_connected, held_covered}
use Rattle.rt_cuts.specs.Cuts.{AreUnstacked}
use Rattle.rt_cuts.proofs.Pieces.{stands_bent, standing_cell, strip_is_piece}
use Rattle.rt_strips.specs.Placed.{Placed, mask_of, covered_by}
use Rattle.rt_strips.specs.StripsOf.{AreStrips}
use Rattle.rt_pieces.specs.Members.{IsOf, box_of, AreOfOnePiece}
use Rattle.rt_pieces.specs.Numbering.{AreNumbersOfPieces, Stands}
use Rattle.rt_pieces.proofs.Families.{strips_family}
use Rattle.rt_pieces.proofs.Linking.{connected_both, connected_back, standing_connected, standing_seam}
use Rattle.rt_cells.proofs.Numbers.{last_or_before}
use Rattle.rt_strips.specs.declared.contact.Seam.{Seam}
use Rattle.rt_strips.specs.Seams.{AreSeamsOf}
use Rattle.rt_tech.specs.declared.table.Tech.{Tech}
use Rattle.rt_view.specs.Shapes.{IsCut, IsAroundPiece, ShowsBentCut, CutsAreRectangles}
use Rattle.rt_shapes.specs.Cutting.{cells_by, CutsStandAlone, IsInside, HasNumberOf, IsBoxOf, IsBoxAround, IsBentAt}

overlap : (l r l' r' : ℤ) → l <ℤ r → l' <ℤ r' → l <ℤ r' → l' <ℤ r → int_max l l' <ℤ int_min r r'
overlap l r l' r' a b h g = omega (arith, ints, clamps)

widened : (q r : Rectangle) (u v : ℤ) → IsInside q r → Holds q u v → Holds r u v
widened q r u v inside h = record {
  column = record { from = omega (arith, ints, inside.left, h.column.from); to = omega (arith, ints, inside.right, h.column.to) };
  row = record { from = omega (arith, ints, inside.bottom, h.row.from); to = omega (arith, ints, inside.top, h.row.to) };
}

-- the strips of a mask are a family, of which none stands on another of its columns
module _ (strips : List Placed) (are : AreStrips strips) where
  pub family_of : (m : ℕ) → IsFamily (IsOf m strips) (box_of strips)
  family_of m = strips_family (λ k. covered_by k strips) are.masks strips are.strips_are m

  pub unstacked_of : (m : ℕ) → AreUnstacked (IsOf m strips) (box_of strips)
  unstacked_of m i j stands left right =
      let low = (family_of m).nonempty i stands.lower in
      let high = (family_of m).nonempty j stands.upper in
      are.strips_are.unstacked i j (record {
        strips_of_one_mask = record { first = stands.lower.strip; second = stands.upper.strip; one_mask = stands.lower.mask ∙ sym stands.upper.mask };
        adjoin = stands.adjoin;
        over = record { common = overlap _ _ _ _ low.across high.across stands.over.first stands.over.second };
      }) left right

-- the least rectangle around the strips of a piece is that around the piece
module _ (strips : List Placed) (m : ℕ) (family : IsFamily (IsOf m strips) (box_of strips)) (numbers : List ℕ) (of_pieces : AreNumbersOfPieces m strips numbers)
    (of : ℕ) (is_of : IsOf m strips of) (r : Rectangle) (boxed : IsBoxOf m strips numbers of (length strips) r)
    (j : ℕ) (x y : ℤ) (holds : HoldsCell (IsOf m strips) (box_of strips) j x y) (connected : AreOfOnePiece m strips of j) where
  held_in : (u v : ℤ) → Joined (cells_by strips m) x y u v → Holds r u v
  held_in u v walk =
      let c = joined_ends (cells_by strips m) x y u v walk in
      let far = joined_connected (IsOf m strips) (box_of strips) family j x y holds u v walk c.number c.holds in
      let same = (of_pieces.same of c.number is_of c.holds.strip).1 (connected_both (IsOf m strips) (box_of strips) of j c.number connected far) in
      widened (box_of strips c.number) r u v (boxed.around c.number c.holds.strip.strip.below_count (record { strip = c.holds.strip; same = sym same })) c.holds.cell

  walk_to : (i : ℕ) → HasNumberOf m strips numbers of i → (u v : ℤ) → Holds (box_of strips i) u v → Joined (cells_by strips m) x y u v
  walk_to i has u v h =
      let near = (of_pieces.same of i is_of has.strip).0 (sym has.same) in
      connected_joined (IsOf m strips) (box_of strips) family j i
      (connected_both (IsOf m strips) (box_of strips) j of i (connected_back (IsOf m strips) (box_of strips) of j connected) near)
      x y u v holds (record { strip = has.strip; cell = h })

  walk_low : (i : ℕ) → HasNumberOf m strips numbers of i → Joined (cells_by strips m) x y (box_of strips i).left (box_of strips i).bottom
  walk_low i has =
      let full = family.nonempty i has.strip in
      walk_to i has (box_of strips i).left (box_of strips i).bottom (record { column = first_place _ _ full.across; row = first_place _ _ full.upwards })

  walk_high : (i : ℕ) → HasNumberOf m strips numbers of i → Joined (cells_by strips m) x y ((box_of strips i).right -ℤ pos 1) ((box_of strips i).top -ℤ pos 1)
  walk_high i has =
      let full = family.nonempty i has.strip in
      walk_to i has ((box_of strips i).right -ℤ pos 1) ((box_of strips i).top -ℤ pos 1) (record { column = last_place _ _ full.across; row = last_place _ _ full.upwards })

  pub box_around : IsAroundPiece (cells_by strips m) x y r
  box_around =
      let left = boxed.left in
      let right = boxed.right in
      let bottom = boxed.bottom in
      let top = boxed.top in
      record {
        holds = held_in;
        left = ((box_of strips left.0).bottom, subst (λ t. Joined (cells_by strips m) x y t (box_of strips left.0).bottom) left.2 (walk_low left.0 left.1));
        right = ((box_of strips right.0).top -ℤ pos 1, subst (λ t. Joined (cells_by strips m) x y (t -ℤ pos 1) ((box_of strips right.0).top -ℤ pos 1)) right.2 (walk_high right.0 right.1));
        bottom = ((box_of strips bottom.0).left, subst (λ t. Joined (cells_by strips m) x y (box_of strips bottom.0).left t) bottom.2 (walk_low bottom.0 bottom.1));
        top = ((box_of strips top.0).right -ℤ pos 1, subst (λ t. Joined (cells_by strips m) x y ((box_of strips top.0).right -ℤ pos 1) (t -ℤ pos 1)) top.2 (walk_high top.0 top.1));
      }

-- a strip of a cut that stands on another shows a piece that is no rectangle
pub bent_shown : (tech : Tech) (strips : List Placed) → AreStrips strips → (i j : ℕ) → IsCut tech (mask_of strips i) → Stands (mask_of strips i) strips i j
    → (r : Rectangle) → IsBoxAround strips i r → ShowsBentCut tech (cells_by strips) r
bent_shown tech strips are i j cut stands r boxed =
    let m = mask_of strips i in
    let family = family_of strips are m in
    let holds = standing_cell (IsOf m strips) (box_of strips) family i j stands in
    record {
      cut = m;
      x = int_max (box_of strips i).left (box_of strips j).left;
      y = (box_of strips j).bottom;
      is_cut = cut;
      cell = held_covered (IsOf m strips) (box_of strips) family j _ _ holds;
      bent = λ q at. stands_bent (IsOf m strips) (box_of strips) family (unstacked_of strips are m) i j stands q at;
      around = box_around strips m family boxed.numbers boxed.of_pieces i stands.lower r boxed.boxed j _ _ holds
          (standing_connected (IsOf m strips) (box_of strips) i j stands);
    }

-- where no strip of a cut stands on another, each is a piece
module _ (tech : Tech) (strips : List Placed) (are : AreStrips strips) (alone : CutsStandAlone tech strips) (m : ℕ) (cut : IsCut tech m) where
  pub cut_piece : (i : ℕ) → IsOf m strips i → IsPiece (cells_by strips m) (box_of strips i)
  cut_piece i of = strip_is_piece (IsOf m strips) (box_of strips) (family_of strips are m) (λ p q. alone.none m p q cut) i of

  -- the rectangle of its strip is the least one around it
  pub strip_around : (i : ℕ) (x y : ℤ) → IsOf m strips i → Holds (box_of strips i) x y → IsAroundPiece (cells_by strips m) x y (box_of strips i)
  strip_around i x y of h =
      let piece = cut_piece i of in
      let full = piece.nonempty in
      let r = box_of strips i in
      let to : (u v : ℤ) → Holds r u v → Joined (cells_by strips m) x y u v = λ u v k. joined_inside (cells_by strips m) r piece.inside x y u v h k in
      record {
        holds = λ u v walk. stays_in (cells_by strips m) r piece x y u v h walk;
        left = (r.bottom, to r.left r.bottom (record { column = first_place _ _ full.across; row = first_place _ _ full.upwards }));
        right = (r.bottom, to (r.right -ℤ pos 1) r.bottom (record { column = last_place _ _ full.across; row = first_place _ _ full.upwards }));
        bottom = (r.left, to r.left r.bottom (record { column = first_place _ _ full.across; row = first_place _ _ full.upwards }));
        top = (r.left, to r.left (r.top -ℤ pos 1) (record { column = first_place _ _ full.across; row = last_place _ _ full.upwards }));
      }

pub cuts_are_rectangles : (tech : Tech) (strips : List Placed) → AreStrips strips → CutsStandAlone tech strips → CutsAreRectangles tech (cells_by strips)
cuts_are_rectangles tech strips are alone = record {
  shaped = λ m cut x y c. (
    box_of strips c.number,
    record { piece = cut_piece tech strips are alone m cut c.number c.holds.strip; holds = c.holds.cell },
  );
}

-- where no seam is bent, no strip of a cut stands on another
pub none_bent : (tech : Tech) (strips : List Placed) (seams : List Seam) → AreSeamsOf strips seams → All (λ (seam : Seam). ¬ IsBentAt tech strips seam) seams → CutsStandAlone tech strips
none_bent tech strips seams are none = record {
  none = λ m i j cut stands.
      let seam : Seam = record { below = i; above = j } in
      All-contains (λ (s : Seam). ¬ IsBentAt tech strips s) seams seam none (are.every i j (standing_seam m strips i j stands)) (record {
        cut = subst (IsCut tech) (sym stands.lower.mask) cut;
        stands = subst (λ t. Stands t strips i j) (sym stands.lower.mask) stands;
      });
}

module _ (a b r : Rectangle) (left : r.left ≡ int_min a.left b.left) (right : r.right ≡ int_max a.right b.right)
    (bottom : r.bottom ≡ int_min a.bottom b.bottom) (top : r.top ≡ int_max a.top b.top) where
  inside_first : (q : Rectangle) → IsInside q a → IsInside q r
  inside_first q h = record {
    left = omega (arith, ints, clamps, left, h.left);
    right = omega (arith, ints, clamps, right, h.right);
    bottom = omega (arith, ints, clamps, bottom, h.bottom);
    top = omega (arith, ints, clamps, top, h.top);
  }

  inside_second : IsInside b r
  inside_second = record {
    left = omega (arith, ints, clamps, left);
    right = omega (arith, ints, clamps, right);
    bottom = omega (arith, ints, clamps, bottom);
    top = omega (arith, ints, clamps, top);
  }

least_of : (p q r : ℤ) → r ≡ int_min p q → (p ≡ r) ⊎ (q ≡ r)
least_of p q r e = by_lt_z p q (λ l. inl (omega (arith, ints, clamps))) (λ l. inr (omega (arith, ints, clamps)))

most_of : (p q r : ℤ) → r ≡ int_max p q → (p ≡ r) ⊎ (q ≡ r)
most_of p q r e = by_lt_z p q (λ l. inr (omega (arith, ints, clamps))) (λ l. inl (omega (arith, ints, clamps)))

module _ (m : ℕ) (strips : List Placed) (numbers : List ℕ) (of : ℕ) where
  -- no strip before the first
  pub box_first : IsOf m strips of → IsBoxOf m strips numbers of 0 (box_of strips of)
  box_first h =
      let mine : HasNumberOf m strips numbers of of = record { strip = h; same = refl } in
      record {
        around = λ i l. absurd (omega (arith, l));
        left = (of, mine, refl);
        right = (of, mine, refl);
        bottom = (of, mine, refl);
        top = (of, mine, refl);
      }

  side_more : (side : Rectangle → ℤ) (a b r : Rectangle) (n : ℕ) → HasNumberOf m strips numbers of n → b ≡ box_of strips n → (side a ≡ side r) ⊎ (side b ≡ side r)
      → (i : ℕ) × HasNumberOf m strips numbers of i × (side (box_of strips i) ≡ side a)
      → (i : ℕ) × HasNumberOf m strips numbers of i × (side (box_of strips i) ≡ side r)
  side_more side a b r n mine is (inl e) (i, h, f) = (i, h, f ∙ e)
  side_more side a b r n mine is (inr e) before = (n, mine, ap side (sym is) ∙ e)

  -- one strip more, which has the number
  pub box_more : (n : ℕ) (a b r : Rectangle) → HasNumberOf m strips numbers of n → b ≡ box_of strips n
      → r.left ≡ int_min a.left b.left → r.right ≡ int_max a.right b.right → r.bottom ≡ int_min a.bottom b.bottom → r.top ≡ int_max a.top b.top
      → IsBoxOf m strips numbers of n a → IsBoxOf m strips numbers of (n + 1) r
  box_more n a b r mine is left right bottom top before = record {
    around = λ i l h. elim (last_or_before n i l) [
      | inl e ↦ subst (λ t. IsInside (box_of strips t) r) (sym e) (subst (λ q. IsInside q r) is (inside_second a b r left right bottom top))
      | inr less ↦ inside_first a b r left right bottom top (box_of strips i) (before.around i less h)
    ];
    left = side_more (λ q. q.left) a b r n mine is (least_of a.left b.left r.left left) before.left;
    right = side_more (λ q. q.right) a b r n mine is (most_of a.right b.right r.right right) before.right;
    bottom = side_more (λ q. q.bottom) a b r n mine is (least_of a.bottom b.bottom r.bottom bottom) before.bottom;
    top = side_more (λ q. q.top) a b r n mine is (most_of a.top b.top r.top top) before.top;
  }

  -- one that hasn't
  pub box_same : (n : ℕ) (a : Rectangle) → (¬ HasNumberOf m strips numbers of n) → IsBoxOf m strips numbers of n a → IsBoxOf m strips numbers of (n + 1) a
  box_same n a other before = record {
    around = λ i l h. elim (last_or_before n i l) [
      | inl e ↦ absurd (other (subst (HasNumberOf m strips numbers of) e h))
      | inr less ↦ before.around i less h
    ];
    left = before.left;
    right = before.right;
    bottom = before.bottom;
    top = before.top;
  }
