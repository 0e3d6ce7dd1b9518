-- Cells and rectangles that are moved together.
use Rattle.std.proofs.Common.{◌+ℤ◌, ◌≡◌, ℕ, zero, suc, ℤ, pos, neg_ℤ, ◌-ℤ◌, Bool, true, false, refl, ◌∙◌, ap, subst, arith}
use Rattle.std.proofs.lemmas.Int.{ints}
use Rattle.rt_cells.specs.Rectangles.{Rectangle, IsNonempty, Holds}
use Rattle.gds_slabs.specs.declared.step.Step.{Step}
use Rattle.gds_slabs.specs.Steps.{shifted, cell_reflected, cell_turned, moved_cell, rect_reflected, rect_quarter, rect_turned, rect_shifted, moved_rect, IsMovedFrom, IsWithin, ShiftsWithin}

-- the rectangle goes where its cells go, and keeps its cells
record Moves (cell : ℤ × ℤ → ℤ × ℤ) (rect : Rectangle → Rectangle) : Type 0 where
  to : (r : Rectangle) (x y : ℤ) → Holds r x y → Holds (rect r) (cell (x, y)).0 (cell (x, y)).1
  from : (r : Rectangle) (u v : ℤ) → Holds (rect r) u v → (x : ℤ) × (y : ℤ) × Holds r x y × (cell (x, y) ≡ (u, v))
  nonempty : (r : Rectangle) → IsNonempty r → IsNonempty (rect r)
  apart : (p q : ℤ × ℤ) → cell p ≡ cell q → p ≡ q

one_after_another : (c d : ℤ × ℤ → ℤ × ℤ) (r s : Rectangle → Rectangle) → Moves c r → Moves d s → Moves (λ p. d (c p)) (λ t. s (r t))
one_after_another c d r s first second = record {
  to = λ t x y h. second.to (r t) (c (x, y)).0 (c (x, y)).1 (first.to t x y h);
  from = λ t u v h.
      let f = second.from (r t) u v h in
      let g = first.from t f.0 f.1 f.2 in
      (g.0, g.1, g.2, ap d g.3 ∙ f.3);
  nonempty = λ t h. second.nonempty (r t) (first.nonempty t h);
  apart = λ p q e. first.apart p q (second.apart (c p) (c q) e);
}

same_pair : (p q : ℤ × ℤ) → p.0 ≡ q.0 → p.1 ≡ q.1 → p ≡ q
same_pair p q e f = λ i. (e i, f i)

moves_nothing : Moves (λ c. c) (λ r. r)
moves_nothing = record {
  to = λ r x y h. h;
  from = λ r u v h. (u, v, h, refl);
  nonempty = λ r h. h;
  apart = λ p q e. e;
}

reflects : Moves (cell_reflected true) (rect_reflected true)
reflects = record {
  to = λ r x y h. record {
    column = h.column;
    row = record { from = omega (arith, ints, h.row.to); to = omega (arith, ints, h.row.from) };
  };
  from = λ r u v h. (
    u,
    neg_ℤ v -ℤ pos 1,
    record { column = h.column; row = record { from = omega (arith, ints, h.row.to); to = omega (arith, ints, h.row.from) } },
    same_pair _ _ refl (omega (arith, ints)),
  );
  nonempty = λ r h. record { across = h.across; upwards = omega (arith, ints, h.upwards) };
  apart = λ p q e. same_pair p q (ap (λ c. c.0) e) (let f = ap (λ c. c.1) e in omega (arith, ints));
}

quarters_once : Moves (λ d. (neg_ℤ d.1 -ℤ pos 1, d.0)) rect_quarter
quarters_once = record {
  to = λ r x y h. record {
    column = record { from = omega (arith, ints, h.row.to); to = omega (arith, ints, h.row.from) };
    row = h.column;
  };
  from = λ r u v h. (
    v,
    neg_ℤ u -ℤ pos 1,
    record { column = h.row; row = record { from = omega (arith, ints, h.column.to); to = omega (arith, ints, h.column.from) } },
    same_pair _ _ (omega (arith, ints)) refl,
  );
  nonempty = λ r h. record { across = omega (arith, ints, h.upwards); upwards = h.across };
  apart = λ p q e. same_pair p q (ap (λ c. c.1) e) (let f = ap (λ c. c.0) e in omega (arith, ints));
}

shifts : (step : Step) → Moves (shifted step) (rect_shifted step)
shifts step = record {
  to = λ r x y h. record {
    column = record { from = omega (arith, ints, h.column.from); to = omega (arith, ints, h.column.to) };
    row = record { from = omega (arith, ints, h.row.from); to = omega (arith, ints, h.row.to) };
  };
  from = λ r u v h. (
    u -ℤ step.dx,
    v -ℤ step.dy,
    record {
      column = record { from = omega (arith, ints, h.column.from); to = omega (arith, ints, h.column.to) };
      row = record { from = omega (arith, ints, h.row.from); to = omega (arith, ints, h.row.to) };
    },
    same_pair _ _ (omega (arith, ints)) (omega (arith, ints)),
  );
  nonempty = λ r h. record { across = omega (arith, ints, h.across); upwards = omega (arith, ints, h.upwards) };
  apart = λ p q e. same_pair p q (let f = ap (λ c. c.0) e in omega (arith, ints)) (let f = ap (λ c. c.1) e in omega (arith, ints));
}

reflects_or_not : (b : Bool) → Moves (cell_reflected b) (rect_reflected b)
reflects_or_not true = reflects
reflects_or_not false = moves_nothing

turns : (n : ℕ) → Moves (cell_turned n) (rect_turned n)
turns zero = moves_nothing
turns (suc n) = one_after_another (cell_turned n) (λ d. (neg_ℤ d.1 -ℤ pos 1, d.0)) (rect_turned n) rect_quarter (turns n) quarters_once

moves : (step : Step) → Moves (moved_cell step) (moved_rect step)
moves step =
    one_after_another _ (shifted step) _ (rect_shifted step)
    (one_after_another (cell_reflected step.orient.reflect) (cell_turned step.orient.quarters) (rect_reflected step.orient.reflect) (rect_turned step.orient.quarters)
    (reflects_or_not step.orient.reflect) (turns step.orient.quarters))
    (shifts step)

-- a cell is in the moved rectangle exactly where it is a moved cell of the rectangle
pub moved_holds : (step : Step) (r : Rectangle) (u v : ℤ) → Holds (moved_rect step r) u v → IsMovedFrom step r u v
moved_holds step r u v h = (moves step).from r u v h

pub moved_from : (step : Step) (r : Rectangle) (u v : ℤ) → IsMovedFrom step r u v → Holds (moved_rect step r) u v
moved_from step r u v h = subst (λ (p : ℤ × ℤ). Holds (moved_rect step r) p.0 p.1) h.3 ((moves step).to r h.0 h.1 h.2)

-- a moved rectangle has a cell where the rectangle has
pub moved_nonempty : (step : Step) (r : Rectangle) → IsNonempty r → IsNonempty (moved_rect step r)
moved_nonempty step r h = (moves step).nonempty r h

-- two cells are moved to two
pub moved_apart : (step : Step) (p q : ℤ × ℤ) → moved_cell step p ≡ moved_cell step q → p ≡ q
moved_apart step p q e = (moves step).apart p q e

-- ---- how far from the axes

reflected_within : (reach : ℤ) (b : Bool) (r : Rectangle) → IsWithin reach r → IsWithin reach (rect_reflected b r)
reflected_within reach true r h = record { left = h.left; right = h.right; bottom = omega (arith, ints, h.top); top = omega (arith, ints, h.bottom) }
reflected_within reach false r h = h

quarter_within : (reach : ℤ) (r : Rectangle) → IsWithin reach r → IsWithin reach (rect_quarter r)
quarter_within reach r h = record { left = omega (arith, ints, h.top); right = omega (arith, ints, h.bottom); bottom = h.left; top = h.right }

turned_within : (reach : ℤ) (n : ℕ) (r : Rectangle) → IsWithin reach r → IsWithin reach (rect_turned n r)
turned_within reach zero r h = h
turned_within reach (suc n) r h = quarter_within reach (rect_turned n r) (turned_within reach n r h)

shifted_within : (reach shift : ℤ) (step : Step) (r : Rectangle) → ShiftsWithin shift step → IsWithin reach r → IsWithin (reach +ℤ shift) (rect_shifted step r)
shifted_within reach shift step r s h = record {
  left = omega (arith, ints, h.left, s.left);
  right = omega (arith, ints, h.right, s.right);
  bottom = omega (arith, ints, h.bottom, s.down);
  top = omega (arith, ints, h.top, s.up);
}

-- a step moves a rectangle no further from the axes than by its shift
pub moved_within : (step : Step) (r : Rectangle) (reach shift : ℤ) → IsWithin reach r → ShiftsWithin shift step → IsWithin (reach +ℤ shift) (moved_rect step r)
moved_within step r reach shift h s =
    shifted_within reach shift step _ s (turned_within reach step.orient.quarters _ (reflected_within reach step.orient.reflect r h))
