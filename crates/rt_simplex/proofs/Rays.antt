-- The rows of a ray have no point.
use Rattle.std.proofs.Common.{◌≡◌, ℕ, zero, suc, ◌<◌, ℤ, pos, ◌+ℤ◌, ◌*ℤ◌, ◌≤ℤ◌, ◌<ℤ◌, sym, subst, ◌∙◌, arith}
use Rattle.std.proofs.lemmas.Int.{ints, by_lt_z}
use Rattle.rt_cells.proofs.Times.{times_lt, product_not_negative}
use Rattle.rt_proofs.proofs.Products.{times_comm}
use Rattle.rt_solved.specs.Lines.{total}
use Rattle.rt_solved.specs.Systems.{columns_of}
use Rattle.rt_tableau.specs.States.{IsWholeEntry}
use Rattle.rt_tableau.proofs.NewLines.{right_at, column_at}
use Rattle.rt_simplex.specs.Laws.{RayHasNoPoint, EndsExclude}
use Rattle.rt_simplex.specs.Points.{IsPoint}

-- a sum of numbers that are at least 0
pub total_not_below : (n : ℕ) (f : ℕ → ℤ) → ((j : ℕ) → j < n → pos 0 ≤ℤ f j) → pos 0 ≤ℤ total n f
total_not_below zero f h = omega (arith, ints)
total_not_below (suc n) f h = both (total n f) (f n) (total_not_below n f (λ j l. h j (omega (arith, l)))) (h n (omega arith))
  where
    both : (a b : ℤ) → pos 0 ≤ℤ a → pos 0 ≤ℤ b → pos 0 ≤ℤ (a +ℤ b)
    both a b h g = omega (arith, ints, h, g)

product_below : (a b : ℤ) → a <ℤ pos 0 → pos 0 <ℤ b → (a *ℤ b) <ℤ pos 0
product_below a b h g = none (b *ℤ a) (b *ℤ pos 0) (times_comm b (pos 0)) (times_comm a b) (times_lt b a (pos 0) (omega (arith, ints, g)) h)
  where
    none : (c d : ℤ) → d ≡ pos 0 *ℤ b → a *ℤ b ≡ c → c <ℤ d → (a *ℤ b) <ℤ pos 0
    none c d e f h = omega (arith, ints, e, f, h)

pub ray_has_no_point_each : RayHasNoPoint
ray_has_no_point_each state p point ray solution positive columns =
    clash _ _ (table.whole.solved.holds point solution p ray.leaving.there).equal
    (total_not_below (columns_of state.system) (λ j. line (suc j) *ℤ point (suc j)) (λ j h. product_not_negative (line (suc j)) (point (suc j)) (entry j h) (columns j h)))
    (product_below (line 0) (point 0) (subst (λ z. z <ℤ pos 0) (table.is ∙ (λ i. line (right_at (columns_of state.system) i))) ray.leaving.below.below) positive)
  where
    table : IsWholeEntry state p (columns_of state.system) ray.leaving.below.entry
    table = ray.leaving.below.is

    line : ℕ → ℤ
    line = table.table p

    entry : (j : ℕ) → j < columns_of state.system → pos 0 ≤ℤ line (suc j)
    entry j h =
        by_lt_z (line (suc j)) (pos 0)
        (λ l. absurd (ray.none j h (record { entry = line (suc j); is = record { table = table.table; whole = table.whole; is = λ i. line (sym (column_at (columns_of state.system) j h) i) }; below = l }))) (λ l. l)

    clash : (a b : ℤ) → a ≡ b → pos 0 ≤ℤ a → b <ℤ pos 0 → ⊥
    clash a b e h g = omega (arith, ints, e, h, g)

pub ends_exclude_each : EndsExclude
ends_exclude_each state other at shares others over times e optimum ray = ray_has_no_point_each other ray.row optimum.point ray.ended meets.solution meets.positive meets.columns
  where
    meets : IsPoint other.system optimum.point
    meets = subst (λ system. IsPoint system optimum.point) e optimum.of_basis.meets
