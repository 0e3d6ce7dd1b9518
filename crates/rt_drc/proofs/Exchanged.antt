-- The strips of cells whose columns and rows are exchanged, mask by mask.
use Rattle.std.proofs.Common.{◌≡◌, ℕ, suc, ◌+◌, ℤ, ◌++◌, List, map, Result, Ok, Err, sym, subst, arith}
use Rattle.std.specs.Result.{OnOk}
use Rattle.std.proofs.lemmas.List.Elements.{All-weaker}
use Rattle.rt_base.specs.declared.plane.Rect.{Rect}
use Rattle.rt_base.specs.Plane.{area}
use Rattle.rt_cells.specs.Cells.{transposed}
use Rattle.rt_cells.specs.Rectangles.{Rectangle, Holds, Covers}
use Rattle.rt_cells.proofs.Lists.{mapped, mapped_from}
use Rattle.rt_rules.proofs.Alike.{AreAlike, alike_back, run_alike}
use Rattle.rt_strips.specs.declared.listing.Strip.{Strip}
use Rattle.rt_strips.specs.OneMask.{HasWholeRuns, AreAllStrips}
use Rattle.rt_strips.specs.Placed.{placed, areas_of}
use Rattle.rt_strips.specs.StripsOf.{AreStripsOf}
use Rattle.rt_strips.specs.Tallies.{at_mask}
use Rattle.rt_strips.proofs.Appended.{one_mask_strips, one_more_mask}
use Rattle.rt_drc.specs.Rows.{exchanged, turned_cells_of}

-- the strips of cells are those of the same cells
all_strips_alike : (P Q : ℤ → ℤ → Type 0) → AreAlike P Q → (areas : List Rectangle) → AreAllStrips P areas → AreAllStrips Q areas
all_strips_alike P Q alike areas are = record {
  nonempty = are.nonempty;
  same_cells = λ x y. (λ c. (are.same_cells x y).0 (alike.from x y c), λ c. alike.to x y ((are.same_cells x y).1 c));
  once = are.once;
  whole_runs = All-weaker (HasWholeRuns P) (HasWholeRuns Q) (λ r runs y h. run_alike Q P (alike_back P Q alike) y r.left r.right (runs y h)) areas are.whole_runs;
  unstacked = are.unstacked;
  in_order = are.in_order;
}

-- exchanged rectangles cover the exchanged cells
exchanged_cover : (areas : List Rectangle) → AreAlike (Covers (map exchanged areas)) (transposed (Covers areas))
exchanged_cover areas = record {
  to = λ x y c.
      let d = mapped_from exchanged areas c.0 c.1 in
      let h : Holds (exchanged d.0) x y = subst (λ (r : Rectangle). Holds r x y) (sym d.2) c.2 in
      (d.0, d.1, record { column = h.row; row = h.column });
  from = λ x y c. (exchanged c.0, mapped exchanged areas c.0 c.1, record { column = c.2.row; row = c.2.column });
}

one_more : (m : ℕ) → suc m ≡ m + 1
one_more m = omega arith

-- the strips of one more mask, with columns and rows exchanged
pub turned_more : (strips : List Strip) (m : ℕ) (before after : List Strip) (rects areas : List Rect) → AreStripsOf (turned_cells_of strips) m (map placed before)
    → map area rects ≡ map exchanged (areas_of m (map placed strips)) → AreAllStrips (Covers (map area rects)) (map area areas)
    → map placed after ≡ map placed before ++ map (at_mask m) (map area areas) → AreStripsOf (turned_cells_of strips) (m + 1) (map placed after)
turned_more strips m before after rects areas first same all added =
    let cells = turned_cells_of strips in
    let mask = areas_of m (map placed strips) in
    let given : AreAllStrips (Covers (map exchanged mask)) (map area areas) = subst (λ (z : List Rectangle). AreAllStrips (Covers z) (map area areas)) same all in
    let second = one_mask_strips m (cells m) (map area areas) (all_strips_alike (Covers (map exchanged mask)) (cells m) (exchanged_cover mask) (map area areas) given) in
    subst (AreStripsOf cells (m + 1)) (sym added)
    (subst (λ (n : ℕ). AreStripsOf cells n (map placed before ++ map (at_mask m) (map area areas))) (one_more m)
    (one_more_mask cells m (map placed before) (map (at_mask m) (map area areas)) first second))

-- what follows where a call succeeds
pub where_ok : {A E P Q : Type 0} (result : Result A E) → (P → Q) → OnOk result P → OnOk result Q
where_ok (Ok a) f h = f h
where_ok (Err e) f h = h
