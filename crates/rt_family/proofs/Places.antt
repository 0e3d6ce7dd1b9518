-- Numbers that several of the lemmas need.
use Rattle.std.proofs.Common.{◌≡◌, ℕ, ℤ, pos, ◌+ℤ◌, ◌≤ℤ◌, ◌<ℤ◌, arith}
use Rattle.std.proofs.lemmas.Int.{ints, clamps}
use Rattle.rt_cells.specs.Rectangles.{Rectangle, columns_between, rows_between}
use Rattle.rt_cells.proofs.Lines.{distance}

up_to : (a b : ℤ) (n : ℕ) → b ≡ a +ℤ pos n → b ≤ℤ (a +ℤ pos n)
up_to a b n e = omega (arith, ints)

-- so many steps that one place is reached from another
pub steps_to : (a b : ℤ) → a ≤ℤ b → (n : ℕ) × (b ≤ℤ (a +ℤ pos n))
steps_to a b h = let d = distance a b h in (d.0, up_to a b d.0 d.1)

-- a place that lies some width past another one lies past it
pub by_width : (low high w : ℤ) → pos 1 ≤ℤ w → (low +ℤ w) ≤ℤ high → low <ℤ high
by_width low high w p h = omega (arith, ints)

-- a distance to the right, to the left, above and below
pub far_right : (s : ℤ) (a b : Rectangle) → (a.right +ℤ s) ≤ℤ b.left → s ≤ℤ columns_between a b
far_right s a b h = omega (arith, ints, clamps)

pub far_left : (s : ℤ) (a b : Rectangle) → (b.right +ℤ s) ≤ℤ a.left → s ≤ℤ columns_between a b
far_left s a b h = omega (arith, ints, clamps)

pub far_above : (s : ℤ) (a b : Rectangle) → (a.top +ℤ s) ≤ℤ b.bottom → s ≤ℤ rows_between a b
far_above s a b h = omega (arith, ints, clamps)

pub far_below : (s : ℤ) (a b : Rectangle) → (b.top +ℤ s) ≤ℤ a.bottom → s ≤ℤ rows_between a b
far_below s a b h = omega (arith, ints, clamps)
