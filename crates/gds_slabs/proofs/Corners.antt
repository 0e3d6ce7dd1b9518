-- A step moves the corners of a rectangle as it moves points.
use Rattle.std.proofs.Common.{◌≡◌, ℕ, zero, suc, ℤ, ◌+ℤ◌, neg_ℤ, Bool, true, false, arith}
use Rattle.std.proofs.lemmas.Int.{ints, clamps}
use Rattle.std.specs.Int.{int_min, int_max}
use Rattle.rt_base.specs.Plane.{reflected, turned_by}
use Rattle.rt_cells.specs.Rectangles.{Rectangle}
use Rattle.gds_slabs.specs.declared.step.Step.{Step}
use Rattle.gds_slabs.specs.Steps.{shifted, moved_point, rect_reflected, rect_turned, rect_shifted, moved_rect, AreCorners}

-- a least or greatest number of two, turned to the other side of 0 and shifted
least_of_negatives : (r a b : ℤ) → r ≡ int_max a b → neg_ℤ r ≡ int_min (neg_ℤ a) (neg_ℤ b)
least_of_negatives r a b e = omega (arith, ints, clamps, e)

greatest_of_negatives : (r a b : ℤ) → r ≡ int_min a b → neg_ℤ r ≡ int_max (neg_ℤ a) (neg_ℤ b)
greatest_of_negatives r a b e = omega (arith, ints, clamps, e)

least_shifted : (r a b d : ℤ) → r ≡ int_min a b → (r +ℤ d) ≡ int_min (a +ℤ d) (b +ℤ d)
least_shifted r a b d e = omega (arith, ints, clamps, e)

greatest_shifted : (r a b d : ℤ) → r ≡ int_max a b → (r +ℤ d) ≡ int_max (a +ℤ d) (b +ℤ d)
greatest_shifted r a b d e = omega (arith, ints, clamps, e)

-- corners by each part of a step
corners_reflected : (b : Bool) (p q : ℤ × ℤ) (r : Rectangle) → AreCorners p q r → AreCorners (reflected b p) (reflected b q) (rect_reflected b r)
corners_reflected true p q r h = record {
  left = h.left;
  right = h.right;
  bottom = least_of_negatives r.top p.1 q.1 h.top;
  top = greatest_of_negatives r.bottom p.1 q.1 h.bottom;
}
corners_reflected false p q r h = h

corners_turned : (n : ℕ) (p q : ℤ × ℤ) (r : Rectangle) → AreCorners p q r → AreCorners (turned_by n p) (turned_by n q) (rect_turned n r)
corners_turned zero p q r h = h
corners_turned (suc n) p q r h =
    let k = corners_turned n p q r h in
    record {
      left = least_of_negatives (rect_turned n r).top (turned_by n p).1 (turned_by n q).1 k.top;
      right = greatest_of_negatives (rect_turned n r).bottom (turned_by n p).1 (turned_by n q).1 k.bottom;
      bottom = k.left;
      top = k.right;
    }

corners_shifted : (step : Step) (p q : ℤ × ℤ) (r : Rectangle) → AreCorners p q r → AreCorners (shifted step p) (shifted step q) (rect_shifted step r)
corners_shifted step p q r h = record {
  left = least_shifted r.left p.0 q.0 step.dx h.left;
  right = greatest_shifted r.right p.0 q.0 step.dx h.right;
  bottom = least_shifted r.bottom p.1 q.1 step.dy h.bottom;
  top = greatest_shifted r.top p.1 q.1 step.dy h.top;
}

-- and so by the whole
pub corners_moved : (step : Step) (p q : ℤ × ℤ) (r : Rectangle) → AreCorners p q r → AreCorners (moved_point step p) (moved_point step q) (moved_rect step r)
corners_moved step p q r h =
    corners_shifted step _ _ _ (corners_turned step.orient.quarters _ _ _ (corners_reflected step.orient.reflect p q r h))
