-- One more quarter.
use Rattle.std.proofs.Common.{◌≡◌, ℕ, ◌+◌, ℤ, refl, add-one}
use Rattle.rt_base.specs.Plane.{turned_by, quarter_turned}

pub turned_by_more : (n : ℕ) (p : ℤ × ℤ) → turned_by (n + 1) p ≡ quarter_turned (turned_by n p)
turned_by_more n p = rw (add-one n) refl

pub ruleset more = (turned_by_more)
