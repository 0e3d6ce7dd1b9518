-- Where strips of a family meet at a corner alone.
use Rattle.std.proofs.Common.{◌≡◌, ℕ, ◌<◌, ◌≤◌, ℤ, pos, ◌+ℤ◌, ◌-ℤ◌, ◌≤ℤ◌, List, length, get_or, map, sym, subst, ◌∙◌, arith, inl, inr}
use Rattle.std.proofs.lemmas.Int.{ints, by_lt_z}
use Rattle.std.proofs.lemmas.List.{get_or_default}
use Rattle.std.specs.List.{AllWithin}
use Rattle.rt_cells.specs.Line.{Within}
use Rattle.rt_cells.specs.Cells.{Adjacent, MeetAtCornerAlone}
use Rattle.rt_cells.specs.Rectangles.{Rectangle}
use Rattle.rt_cells.proofs.Lines.{first_place, last_place}
use Rattle.rt_base.specs.Plane.{area}
use Rattle.rt_strips.specs.declared.listing.Strip.{Strip}
use Rattle.rt_strips.specs.declared.contact.Seam.{Seam}
use Rattle.rt_strips.specs.Placed.{placed}
use Rattle.rt_strips.specs.Seams.{AreSeamsOf}
use Rattle.rt_strips.proofs.Placed.{strip_below}
use Rattle.rt_family.specs.Strips.{HoldsCell, CoveredBy, IsFamily}
use Rattle.rt_family.proofs.Strips.{row_is_run}
use Rattle.rt_drc.specs.declared.rows.Witness.{Witness}
use Rattle.rt_pieces.specs.Members.{IsOf, box_of, AreOfFamily, held_by}
use Rattle.rt_drc.specs.Cornering.{IsShownAt, IsCornerOf, MeetAtNoCorner, HasNoCorner, HasNoCornerContact, ShowsCorner}
use Rattle.rt_pieces.proofs.Reading.{box_at, seam_at}

-- what holds of the cells and the number that a witness has holds of the witness
pub shown : (B : ℤ → ℤ → ℤ → ℤ → ℤ → Type 0) (x y u v number : ℤ) (witness : Witness) → IsShownAt x y u v number witness → B x y u v number
    → B witness.p.x witness.p.y witness.q.x witness.q.y witness.found
shown B x y u v number witness e b =
    subst (λ z. B witness.p.x witness.p.y witness.q.x witness.q.y z) (sym e.number_found)
    (subst (λ z. B witness.p.x witness.p.y witness.q.x z number) (sym e.q_row)
    (subst (λ z. B witness.p.x witness.p.y z v number) (sym e.q_column)
    (subst (λ z. B witness.p.x z u v number) (sym e.p_row)
    (subst (λ z. B z y u v number) (sym e.p_column) b))))

-- a place of an interval whose next one, or whose one before, isn't in it
ends_at : (low high z : ℤ) → Within low high z → ¬ Within low high (z +ℤ pos 1) → high ≡ z +ℤ pos 1
ends_at low high z h none =
    by_lt_z (z +ℤ pos 1) high
    (λ l. absurd (none (record { from = omega (arith, ints, h); to = l })))
    (λ l. omega (arith, ints, h))

begins_at : (low high z : ℤ) → Within low high (z +ℤ pos 1) → ¬ Within low high z → low ≡ z +ℤ pos 1
begins_at low high z h none =
    by_lt_z z low
    (λ l. omega (arith, ints, h))
    (λ l. absurd (none (record { from = l; to = omega (arith, ints, h) })))

module _ (member : ℕ → Type 0) (box : ℕ → Rectangle) (family : IsFamily member box) where
  -- two strips that end and begin at one row and at one column cover cells that meet at a corner alone
  right_corner : (i j : ℕ) → member i → member j → (box i).top ≡ (box j).bottom → (box i).right ≡ (box j).left
      → MeetAtCornerAlone (CoveredBy member box) ((box i).right -ℤ pos 1) ((box i).top -ℤ pos 1) (box j).left (box j).bottom
  right_corner i j m n adjoin meet =
      let a = family.nonempty i m in
      let b = family.nonempty j n in
      record {
        first = record { number = i; holds = record { strip = m; cell = record { column = last_place _ _ a.across; row = last_place _ _ a.upwards } } };
        second = record { number = j; holds = record { strip = n; cell = record { column = first_place _ _ b.across; row = first_place _ _ b.upwards } } };
        columns = inl (omega (arith, ints));
        rows = inl (omega (arith, ints));
        beside_first = λ c.
            (row_is_run member box family i ((box i).top -ℤ pos 1) m (last_place _ _ a.upwards)).after
            (subst (λ z. CoveredBy member box z ((box i).top -ℤ pos 1)) (sym meet) c);
        beside_second = λ c.
            (row_is_run member box family j (box j).bottom n (first_place _ _ b.upwards)).before
            (subst (λ z. CoveredBy member box (z -ℤ pos 1) (box j).bottom) meet c);
      }

  left_corner : (i j : ℕ) → member i → member j → (box i).top ≡ (box j).bottom → (box j).right ≡ (box i).left
      → MeetAtCornerAlone (CoveredBy member box) (box i).left ((box i).top -ℤ pos 1) ((box j).right -ℤ pos 1) (box j).bottom
  left_corner i j m n adjoin meet =
      let a = family.nonempty i m in
      let b = family.nonempty j n in
      record {
        first = record { number = i; holds = record { strip = m; cell = record { column = first_place _ _ a.across; row = last_place _ _ a.upwards } } };
        second = record { number = j; holds = record { strip = n; cell = record { column = last_place _ _ b.across; row = first_place _ _ b.upwards } } };
        columns = inr (omega (arith, ints));
        rows = inl (omega (arith, ints));
        beside_first = λ c.
            (row_is_run member box family i ((box i).top -ℤ pos 1) m (last_place _ _ a.upwards)).before
            (subst (λ z. CoveredBy member box (z -ℤ pos 1) ((box i).top -ℤ pos 1)) meet c);
        beside_second = λ c.
            (row_is_run member box family j (box j).bottom n (first_place _ _ b.upwards)).after
            (subst (λ z. CoveredBy member box z (box j).bottom) (sym meet) c);
      }

  pub corner_shows : (i j : ℕ) → member i → member j → (box i).top ≡ (box j).bottom → (witness : Witness) → IsCornerOf (box i) (box j) witness
      → ShowsCorner (CoveredBy member box) witness
  corner_shows i j m n adjoin witness (inl corner) = record {
    contact = shown (λ x y u v _. MeetAtCornerAlone (CoveredBy member box) x y u v) _ _ _ _ _ witness corner.shown (right_corner i j m n adjoin corner.meet);
    none_found = corner.shown.number_found;
  }
  corner_shows i j m n adjoin witness (inr corner) = record {
    contact = shown (λ x y u v _. MeetAtCornerAlone (CoveredBy member box) x y u v) _ _ _ _ _ witness corner.shown (left_corner i j m n adjoin corner.meet);
    none_found = corner.shown.number_found;
  }

  -- no strip meets at a corner one that begins in the row in which it ends, over its columns or beside them
  abbrev pub HasNoCorners : Type 0
  HasNoCorners = (i j : ℕ) → member i → member j → (box i).top ≡ (box j).bottom → (box i).left ≤ℤ (box j).right → (box j).left ≤ℤ (box i).right
      → MeetAtNoCorner (box i) (box j)

  -- a cell that is covered by no strip is held by none
  not_held : (i : ℕ) (x y : ℤ) → ¬ CoveredBy member box x y → ¬ HoldsCell member box i x y
  not_held i x y none h = none (record { number = i; holds = h })

  -- of two cells that meet at a corner alone the lower one's strip ends where the upper one's begins
  end_row : (i : ℕ) (x y : ℤ) → HoldsCell member box i x y → ¬ CoveredBy member box x (y +ℤ pos 1) → (box i).top ≡ y +ℤ pos 1
  end_row i x y h none = ends_at (box i).bottom (box i).top y h.cell.row (λ w. not_held i x _ none (record { strip = h.strip; cell = record { column = h.cell.column; row = w } }))

  begin_row : (i : ℕ) (x y : ℤ) → HoldsCell member box i x (y +ℤ pos 1) → ¬ CoveredBy member box x y → (box i).bottom ≡ y +ℤ pos 1
  begin_row i x y h none = begins_at (box i).bottom (box i).top y h.cell.row (λ w. not_held i x _ none (record { strip = h.strip; cell = record { column = h.cell.column; row = w } }))

  end_column : (i : ℕ) (x y : ℤ) → HoldsCell member box i x y → ¬ CoveredBy member box (x +ℤ pos 1) y → (box i).right ≡ x +ℤ pos 1
  end_column i x y h none = ends_at (box i).left (box i).right x h.cell.column (λ w. not_held i _ y none (record { strip = h.strip; cell = record { column = w; row = h.cell.row } }))

  begin_column : (i : ℕ) (x y : ℤ) → HoldsCell member box i (x +ℤ pos 1) y → ¬ CoveredBy member box x y → (box i).left ≡ x +ℤ pos 1
  begin_column i x y h none = begins_at (box i).left (box i).right x h.cell.column (λ w. not_held i _ y none (record { strip = h.strip; cell = record { column = w; row = h.cell.row } }))

  rising : HasNoCorners → (i j : ℕ) (x y : ℤ) → HoldsCell member box i x y → HoldsCell member box j (x +ℤ pos 1) (y +ℤ pos 1)
      → ¬ CoveredBy member box (x +ℤ pos 1) y → ¬ CoveredBy member box x (y +ℤ pos 1) → ⊥
  rising none i j x y h k below beside =
      let top = end_row i x y h beside in
      let bottom = begin_row j (x +ℤ pos 1) y k below in
      let right = end_column i x y h below in
      let left = begin_column j x (y +ℤ pos 1) k beside in
      (none i j h.strip k.strip (top ∙ sym bottom) (omega (arith, ints, h.cell.column, k.cell.column)) (omega (arith, ints, right, left))).right (right ∙ sym left)

  falling : HasNoCorners → (i j : ℕ) (x y : ℤ) → HoldsCell member box i (x +ℤ pos 1) y → HoldsCell member box j x (y +ℤ pos 1)
      → ¬ CoveredBy member box x y → ¬ CoveredBy member box (x +ℤ pos 1) (y +ℤ pos 1) → ⊥
  falling none i j x y h k below beside =
      let top = end_row i (x +ℤ pos 1) y h beside in
      let bottom = begin_row j x y k below in
      let left = begin_column i x y h below in
      let right = end_column j x (y +ℤ pos 1) k beside in
      (none i j h.strip k.strip (top ∙ sym bottom) (omega (arith, ints, right, left)) (omega (arith, ints, h.cell.column, k.cell.column))).left (right ∙ sym left)

  upwards_meeting : HasNoCorners → (x y u v : ℤ) → CoveredBy member box x y → CoveredBy member box u v → Adjacent x u → v ≡ y +ℤ pos 1
      → ¬ CoveredBy member box u y → ¬ CoveredBy member box x v → ⊥
  upwards_meeting none x y u v c d (inl e) f below beside =
      rising none c.number d.number x y c.holds (subst (λ t. HoldsCell member box d.number t (y +ℤ pos 1)) e (subst (λ t. HoldsCell member box d.number u t) f d.holds))
      (λ p. below (subst (λ t. CoveredBy member box t y) (sym e) p)) (λ p. beside (subst (λ t. CoveredBy member box x t) (sym f) p))
  upwards_meeting none x y u v c d (inr e) f below beside =
      falling none c.number d.number u y (subst (λ t. HoldsCell member box c.number t y) e c.holds) (subst (λ t. HoldsCell member box d.number u t) f d.holds)
      below (λ p. beside (subst (λ t. CoveredBy member box t v) (sym e) (subst (λ t. CoveredBy member box (u +ℤ pos 1) t) (sym f) p)))

  adjacent_back : (p q : ℤ) → Adjacent p q → Adjacent q p
  adjacent_back p q (inl e) = inr e
  adjacent_back p q (inr e) = inl e

  pub no_corner_contact : HasNoCorners → HasNoCornerContact (CoveredBy member box)
  no_corner_contact none x y u v meet =
      elim meet.rows [
        | inl f ↦ upwards_meeting none x y u v meet.first meet.second meet.columns f meet.beside_first meet.beside_second
        | inr f ↦ upwards_meeting none u v x y meet.second meet.first (adjacent_back x u meet.columns) f meet.beside_second meet.beside_first
      ]

-- the strips of a seam that the code read meet at no corner
pub read_no_corner : (m : ℕ) (strips : List Strip) (seams : List Seam) → AreSeamsOf (map placed strips) seams → (k : ℕ) (d e : Seam) → k < length seams → (p q : Strip)
    → MeetAtNoCorner (area (get_or strips (get_or seams k d).below p).at) (area (get_or strips (get_or seams k d).above q).at)
    → HasNoCorner m (map placed strips) (get_or seams k e).below (get_or seams k e).above
read_no_corner m strips seams all k d e h p q none =
    let s = seam_at (map placed strips) seams all k d h in
    subst (λ (t : Seam). HasNoCorner m (map placed strips) t.below t.above) (get_or_default seams k d e h) (record {
      none = λ _.
          subst (λ r. MeetAtNoCorner r (box_of (map placed strips) (get_or seams k d).above)) (sym (box_at strips (get_or seams k d).below p (strip_below strips _ s.one_mask.first)))
          (subst (λ r. MeetAtNoCorner (area (get_or strips (get_or seams k d).below p).at) r) (sym (box_at strips (get_or seams k d).above q (strip_below strips _ s.one_mask.second))) none);
    })

pub read_other_mask : (m : ℕ) (strips : List Strip) (seams : List Seam) → AreSeamsOf (map placed strips) seams → (k : ℕ) (d e : Seam) → k < length seams
    → (IsOf m (map placed strips) (get_or seams k d).below → ⊥) → HasNoCorner m (map placed strips) (get_or seams k e).below (get_or seams k e).above
read_other_mask m strips seams all k d e h other =
    subst (λ (t : Seam). HasNoCorner m (map placed strips) t.below t.above) (get_or_default seams k d e h) (record { none = λ of. absurd (other of) })

-- strips none of whose seams is a corner
pub no_corners : (m : ℕ) (strips : List Strip) (seams : List Seam) (n : ℕ) → AreOfFamily m strips → AreSeamsOf (map placed strips) seams → length seams ≤ n
    → AllWithin (λ (seam : Seam). HasNoCorner m (map placed strips) seam.below seam.above) seams 0 n → HasNoCornerContact (held_by m strips)
no_corners m strips seams n family all h none =
    no_corner_contact (IsOf m (map placed strips)) (box_of (map placed strips)) family
    (λ i j a b adjoin first second.
    let c = all.every i j (record { one_mask = record { first = a.strip; second = b.strip; one_mask = a.mask ∙ sym b.mask }; adjoin = adjoin; first = first; second = second }) in
    let at : HasNoCorner m (map placed strips) i j =
    subst (λ (t : Seam). HasNoCorner m (map placed strips) t.below t.above) c.2 (none c.0 (record { below = i; above = j }) (omega arith) (omega (arith, c.1, h))) in
    at.none a)
