-- Rounding up, without a division.
use Rattle.std.proofs.Common.{◌≡◌, ℤ, pos, ◌-ℤ◌, ◌*ℤ◌, ◌≤ℤ◌, ◌<ℤ◌, arith}
use Rattle.std.proofs.lemmas.Int.{ints}
use Rattle.rt_cells.proofs.Times.{times_le, times_cancel_lt, not_negative}
use Rattle.rt_proofs.proofs.Products.{times_comm}
use Rattle.rt_proofs.specs.Forms.{IsRoundedUp}

before_next : (a b : ℤ) → (a -ℤ pos 1) <ℤ b → a ≤ℤ b
before_next a b h = omega (arith, ints)

right_cancel_lt : (d a b : ℤ) → pos 1 ≤ℤ d → (a *ℤ d) <ℤ (b *ℤ d) → a <ℤ b
right_cancel_lt d a b h k = times_cancel_lt d a b h (omega (arith, ints, k, times_comm d a, times_comm d b))

-- a factor on the right that is not negative keeps the order
pub right_le : (d a b : ℤ) → pos 1 ≤ℤ d → a ≤ℤ b → (a *ℤ d) ≤ℤ (b *ℤ d)
right_le d a b h k = omega (arith, ints, times_le d a b (not_negative d h) k, times_comm d a, times_comm d b)

-- what is above one less, taken `d` times, is the number at least
pub at_least_from : (d c y n : ℤ) → pos 1 ≤ℤ d → ((c -ℤ pos 1) *ℤ d) <ℤ n → n ≤ℤ (y *ℤ d) → c ≤ℤ y
at_least_from d c y n h low high = before_next c y (right_cancel_lt d (c -ℤ pos 1) y h (omega (arith, ints, low, high)))

-- a whole number, taken `d` times, is n at least where it is n over d rounded up at least
pub rounded_below : (d n c y : ℤ) → pos 1 ≤ℤ d → IsRoundedUp d n c → n ≤ℤ (y *ℤ d) → c ≤ℤ y
rounded_below d n c y h r k = at_least_from d c y n h r.above k

pub rounded_reaches : (d n c y : ℤ) → pos 1 ≤ℤ d → IsRoundedUp d n c → c ≤ℤ y → n ≤ℤ (y *ℤ d)
rounded_reaches d n c y h r k = omega (arith, ints, r.within, right_le d c y h k)

-- there is one number that is n over d rounded up
pub rounded_once : (d n c e : ℤ) → pos 1 ≤ℤ d → IsRoundedUp d n c → IsRoundedUp d n e → c ≡ e
rounded_once d n c e h r s = omega (arith, ints, rounded_below d n c e h r s.within, rounded_below d n e c h s r.within)

-- the test without the rounded number
pub below_rounded : (d n c g : ℤ) → pos 1 ≤ℤ d → IsRoundedUp d n c → g ≤ℤ c → ((g -ℤ pos 1) *ℤ d) <ℤ n
below_rounded d n c g h r k = omega (arith, ints, r.above, right_le d (g -ℤ pos 1) (c -ℤ pos 1) h (omega (arith, ints, k)))

pub rounded_above : (d n c g : ℤ) → pos 1 ≤ℤ d → IsRoundedUp d n c → ((g -ℤ pos 1) *ℤ d) <ℤ n → g ≤ℤ c
rounded_above d n c g h r k = at_least_from d g c n h k r.within
