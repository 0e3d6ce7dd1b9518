-- One family of strips: which strip holds a cell, the runs of rows, which strips are neighbours, and the pieces.
use Rattle.std.proofs.Common.{◌≡◌, ℕ, ℤ, pos, ◌+ℤ◌, ◌-ℤ◌, ◌≤ℤ◌, ◌<ℤ◌, ◌⊎◌, refl, sym, subst, arith, inl, inr}
use Rattle.std.proofs.lemmas.Int.{ints, clamps, by_lt_z}
use Rattle.std.specs.Int.{int_max}
use Rattle.rt_cells.specs.Line.{Within, IsRun}
use Rattle.rt_cells.specs.Cells.{row_of, Adjacent, ShareSide, Joined}
use Rattle.rt_cells.specs.Cells.Joined.{here, onward}
use Rattle.rt_cells.specs.Rectangles.{Rectangle, IsNonempty}
use Rattle.rt_cells.proofs.Lines.{within, first_place, last_place, passed_along, not_before, not_after, antisymmetric}
use Rattle.rt_cells.proofs.Rectangles.{joined_inside}
use Rattle.rt_family.specs.Strips.{ShareColumn, ShareRow, HoldsCell, CoveredBy, IsFamily, StandsOn, AreConnected}
use Rattle.rt_family.specs.Strips.AreConnected.{same, up, down}
use Rattle.rt_family.proofs.Joins.{joined_ends, joined_both, joined_next, joined_back}

-- places of a line that are one or neighbours
pub record AreClose (x u : ℤ) : Type 0 where
  pub right : u ≤ℤ (x +ℤ pos 1)
  pub left : x ≤ℤ (u +ℤ pos 1)

pub same_close : (x : ℤ) → AreClose x x
same_close x = record { right = omega (arith, ints); left = omega (arith, ints) }

pub adjacent_close : (x u : ℤ) → Adjacent x u → AreClose x u
adjacent_close x u (inl e) = record { right = omega (arith, ints); left = omega (arith, ints) }
adjacent_close x u (inr e) = record { right = omega (arith, ints); left = omega (arith, ints) }

pub common_row : (a b : Rectangle) (y : ℤ) → Within a.bottom a.top y → Within b.bottom b.top y → ShareRow a b
common_row a b y h k = record { first = omega (arith, ints); second = omega (arith, ints) }

pub common_column : (a b : Rectangle) (x : ℤ) → Within a.left a.right x → Within b.left b.right x → ShareColumn a b
common_column a b x h k = record { first = omega (arith, ints); second = omega (arith, ints) }

end_inside : (low high a b : ℤ) → Within low high a → a <ℤ b → b <ℤ high → Within low high b
end_inside low high a b h k l = record { from = omega (arith, ints); to = l }

next_inside : (low high y : ℤ) → Within low high y → (y +ℤ pos 1) <ℤ high → Within low high (y +ℤ pos 1)
next_inside low high y h l = record { from = omega (arith, ints); to = l }

-- a column that two rectangles have in common
pub common_place : (a b : Rectangle) → IsNonempty a → IsNonempty b → ShareColumn a b
    → Within a.left a.right (int_max a.left b.left) × Within b.left b.right (int_max a.left b.left)
common_place a b h k over = (within _ _ _ (omega (arith, ints, clamps)) (omega (arith, ints, clamps)), within _ _ _ (omega (arith, ints, clamps)) (omega (arith, ints, clamps)))

module _ (member : ℕ → Type 0) (box : ℕ → Rectangle) (family : IsFamily member box) where
  -- cells of a row that are one or neighbours are of one strip
  pub one_holder : (i j : ℕ) (x u y : ℤ) → HoldsCell member box i x y → HoldsCell member box j u y → AreClose x u → i ≡ j
  one_holder i j x u y h k close =
      elim (family.parted i j h.strip k.strip (common_row (box i) (box j) y h.cell.row k.cell.row)) [
        | inl e ↦ e
        | inr (inl l) ↦ absurd (omega (arith, ints, h.cell.column, k.cell.column))
        | inr (inr l) ↦ absurd (omega (arith, ints, h.cell.column, k.cell.column))
      ]

  -- a strip holds the covered neighbours in its rows
  pub held_on : (i : ℕ) (x u y : ℤ) → HoldsCell member box i x y → AreClose x u → CoveredBy member box u y → HoldsCell member box i u y
  held_on i x u y h close c = subst (λ k. HoldsCell member box k u y) (sym (one_holder i c.number x u y h c.holds close)) c.holds

  -- a strip covers its cells
  pub held_covered : (i : ℕ) (x y : ℤ) → HoldsCell member box i x y → CoveredBy member box x y
  held_covered i x y h = record { number = i; holds = h }

  -- a covered interval of a row is of one strip
  pub spanned : (a b y : ℤ) → a <ℤ b → ((x : ℤ) → Within a b x → CoveredBy member box x y)
      → (i : ℕ) × HoldsCell member box i a y × (b ≤ℤ (box i).right)
  spanned a b y l covered =
      let c = covered a (first_place a b l) in
      let last : HoldsCell member box c.number (b -ℤ pos 1) y =
      passed_along (λ x. HoldsCell member box c.number x y) a b
      (λ z t _ ht near h. held_on c.number z t y h (adjacent_close z t near) (covered t ht))
      a (b -ℤ pos 1) (first_place a b l) (last_place a b l) c.holds in
      (c.number, c.holds, omega (arith, ints, last.cell.column))

  -- a row of a strip is a run
  pub row_is_run : (i : ℕ) (y : ℤ) → member i → Within (box i).bottom (box i).top y → IsRun (row_of (CoveredBy member box) y) (box i).left (box i).right
  row_is_run i y m h =
      let across = (family.nonempty i m).across in
      let held : (x : ℤ) → Within (box i).left (box i).right x → HoldsCell member box i x y = λ x k. record { strip = m; cell = record { column = k; row = h } } in
      record {
        nonempty = across;
        inside = λ x k. held_covered i x y (held x k);
        before = λ c. not_before _ _ (held_on i _ _ y (held (box i).left (first_place _ _ across)) (record { right = omega (arith, ints); left = omega (arith, ints) }) c).cell.column;
        after = λ c. not_after _ _ (held_on i _ _ y (held ((box i).right -ℤ pos 1) (last_place _ _ across)) (record { right = omega (arith, ints); left = omega (arith, ints) }) c).cell.column;
      }

  -- a run is a row of a strip
  pub run_is_row : (y a b : ℤ) → IsRun (row_of (CoveredBy member box) y) a b
      → (i : ℕ) × member i × Within (box i).bottom (box i).top y × ((box i).left ≡ a) × ((box i).right ≡ b)
  run_is_row y a b run =
      let s = spanned a b y run.nonempty run.inside in
      let h = s.1 in
      let held : (x : ℤ) → Within (box s.0).left (box s.0).right x → CoveredBy member box x y = λ x k. held_covered s.0 x y (record { strip = h.strip; cell = record { column = k; row = h.cell.row } }) in (
        s.0,
        h.strip,
        h.cell.row,
        by_lt_z (box s.0).left a
            (λ l. absurd (run.before (held (a -ℤ pos 1) (record { from = omega (arith, ints, h.cell.column); to = omega (arith, ints, h.cell.column) }))))
            (λ l. antisymmetric _ _ h.cell.column.from l),
        by_lt_z b (box s.0).right
            (λ l. absurd (run.after (held b (end_inside _ _ a b h.cell.column run.nonempty l))))
            (λ l. antisymmetric _ _ l s.2),
      )

  -- the strip that holds a cell of a run has its columns
  pub holder_of_run : (i : ℕ) (x y a b : ℤ) → IsRun (row_of (CoveredBy member box) y) a b → Within a b x → HoldsCell member box i x y
      → ((box i).left ≡ a) × ((box i).right ≡ b)
  holder_of_run i x y a b run inside h =
      let r = run_is_row y a b run in
      let k : HoldsCell member box r.0 x y =
      record { strip = r.1; cell = record { column = same_ends _ _ a b x r.3 r.4 inside; row = r.2 } } in
      let e : r.0 ≡ i = one_holder r.0 i x x y k h (same_close x) in
      (subst (λ t. (box t).left ≡ a) e r.3, subst (λ t. (box t).right ≡ b) e r.4)
    where
      same_ends : (low high a b x : ℤ) → low ≡ a → high ≡ b → Within a b x → Within low high x
      same_ends low high a b x e f w = record { from = omega (arith, ints); to = omega (arith, ints) }

  -- of two cells one above the other, the strip of the upper one is that of the lower one or stands on it
  pub stands_above : (i j : ℕ) (x y : ℤ) → HoldsCell member box i x y → HoldsCell member box j x (y +ℤ pos 1) → (i ≡ j) ⊎ StandsOn member box i j
  stands_above i j x y h k =
      by_lt_z (y +ℤ pos 1) (box i).top
      (λ l. inl (one_holder i j x x (y +ℤ pos 1) (record { strip = h.strip; cell = record { column = h.cell.column; row = next_inside _ _ y h.cell.row l } }) k (same_close x)))
      (λ l. by_lt_z (box j).bottom (y +ℤ pos 1)
      (λ m. inl (one_holder i j x x y h (record { strip = k.strip; cell = record { column = k.cell.column; row = record { from = omega (arith, ints, k.cell.row); to = omega (arith, ints, k.cell.row) } } }) (same_close x)))
      (λ m. inr (record {
        lower = h.strip;
        upper = k.strip;
        adjoin = omega (arith, ints, h.cell.row, k.cell.row);
        over = common_column (box i) (box j) x h.cell.column k.cell.column;
      })))

  -- cells that share a side are of one strip, or of two of which one stands on the other
  pub neighbours_touch : (i j : ℕ) (x y u v : ℤ) → HoldsCell member box i x y → HoldsCell member box j u v → ShareSide x y u v
      → (i ≡ j) ⊎ (StandsOn member box i j ⊎ StandsOn member box j i)
  neighbours_touch i j x y u v h k (inl (near, e)) =
      inl (one_holder i j x u y h (subst (λ t. HoldsCell member box j u t) e k) (adjacent_close x u near))
  neighbours_touch i j x y u v h k (inr (e, inl f)) =
      elim (stands_above i j x y h (subst (λ t. HoldsCell member box j x t) f (subst (λ t. HoldsCell member box j t v) e k))) [
        | inl e' ↦ inl e'
        | inr stands ↦ inr (inl stands)
      ]
  neighbours_touch i j x y u v h k (inr (e, inr f)) =
      elim (stands_above j i u v k (subst (λ t. HoldsCell member box i u t) f (subst (λ t. HoldsCell member box i t y) (sym e) h))) [
        | inl e' ↦ inl (sym e')
        | inr stands ↦ inr (inr stands)
      ]

  -- cells of one strip are joined
  pub held_joined : (i : ℕ) (x y u v : ℤ) → HoldsCell member box i x y → HoldsCell member box i u v → Joined (CoveredBy member box) x y u v
  held_joined i x y u v h k =
      joined_inside (CoveredBy member box) (box i) (λ p q c. held_covered i p q (record { strip = h.strip; cell = c })) x y u v h.cell k.cell

  -- a cell of a strip is joined to a cell of one that stands on it
  pub standing_joined : (i j : ℕ) (x y u v : ℤ) → StandsOn member box i j → HoldsCell member box i x y → HoldsCell member box j u v
      → Joined (CoveredBy member box) x y u v
  standing_joined i j x y u v stands h k =
      let low = family.nonempty i stands.lower in
      let high = family.nonempty j stands.upper in
      let z = int_max (box i).left (box j).left in
      let column = common_place (box i) (box j) low high stands.over in
      let p : HoldsCell member box i z ((box i).top -ℤ pos 1) = record { strip = stands.lower; cell = record { column = column.0; row = last_place _ _ low.upwards } } in
      let q : HoldsCell member box j z (box j).bottom = record { strip = stands.upper; cell = record { column = column.1; row = first_place _ _ high.upwards } } in
      joined_both (CoveredBy member box) x y z ((box i).top -ℤ pos 1) u v (held_joined i x y z ((box i).top -ℤ pos 1) h p)
      (joined_both (CoveredBy member box) z ((box i).top -ℤ pos 1) z (box j).bottom u v
      (joined_next (CoveredBy member box) z ((box i).top -ℤ pos 1) z (box j).bottom (held_covered i _ _ p) (held_covered j _ _ q) (inr (refl, inl (above_seam _ _ stands.adjoin))))
      (held_joined j z (box j).bottom u v q k))
    where
      above_seam : (t b : ℤ) → t ≡ b → b ≡ (t -ℤ pos 1) +ℤ pos 1
      above_seam t b e = omega (arith, ints)

  -- a strip has a cell
  pub some_cell : (i : ℕ) → member i → HoldsCell member box i (box i).left (box i).bottom
  some_cell i m = record { strip = m; cell = record { column = first_place _ _ (family.nonempty i m).across; row = first_place _ _ (family.nonempty i m).upwards } }

  -- cells of connected strips are joined
  pub connected_joined : (i j : ℕ) → AreConnected member box i j → (x y u v : ℤ) → HoldsCell member box i x y → HoldsCell member box j u v
      → Joined (CoveredBy member box) x y u v
  connected_joined i j (same m) x y u v h k = held_joined i x y u v h k
  connected_joined i j (up l _ c stands) x y u v h k =
      let p = some_cell l stands.lower in
      joined_both (CoveredBy member box) x y (box l).left (box l).bottom u v (connected_joined i l c x y _ _ h p) (standing_joined l j _ _ u v stands p k)
  connected_joined i j (down l _ c stands) x y u v h k =
      let p = some_cell l stands.upper in
      joined_both (CoveredBy member box) x y (box l).left (box l).bottom u v (connected_joined i l c x y _ _ h p)
      (joined_back (CoveredBy member box) u v _ _ (standing_joined j l u v _ _ stands k p))

  -- the strips of joined cells are connected
  pub joined_connected : (i : ℕ) (x y : ℤ) → HoldsCell member box i x y → (u v : ℤ) → Joined (CoveredBy member box) x y u v
      → (j : ℕ) → HoldsCell member box j u v → AreConnected member box i j
  joined_connected i x y h u v (here c) j k = subst (AreConnected member box i) (one_holder i j x x y h k (same_close x)) (same h.strip)
  joined_connected i x y h u v (onward p q _ _ walk next c) j k =
      let d = joined_ends (CoveredBy member box) x y p q walk in
      let before = joined_connected i x y h p q walk d.number d.holds in
      elim (neighbours_touch d.number j p q u v d.holds k next) [
        | inl e ↦ subst (AreConnected member box i) e before
        | inr (inl stands) ↦ up d.number j before stands
        | inr (inr stands) ↦ down d.number j before stands
      ]
