-- Each number over a positive one, rounded up, is there.
use Rattle.std.proofs.Common.{◌≡◌, ℕ, zero, suc, ℤ, pos, negsuc, ◌+ℤ◌, ◌-ℤ◌, ◌*ℤ◌, ◌≤ℤ◌, arith}
use Rattle.std.proofs.lemmas.Int.{ints, by_lt_z}
use Rattle.rt_cells.proofs.Times.{times_sum, times_sub}
use Rattle.rt_proofs.proofs.Products.{times_comm}
use Rattle.rt_proofs.specs.Forms.{IsRoundedUp}

times_one_on_right : (c d : ℤ) → (c +ℤ pos 1) *ℤ d ≡ (c *ℤ d) +ℤ d
times_one_on_right c d = omega (arith, ints, times_comm (c +ℤ pos 1) d, times_sum d c (pos 1), times_comm d c)

times_less : (c d : ℤ) → (c -ℤ pos 1) *ℤ d ≡ (c *ℤ d) -ℤ d
times_less c d = omega (arith, ints, times_comm (c -ℤ pos 1) d, times_sub d c (pos 1), times_comm d c)

one_up : (d n m : ℤ) → pos 1 ≤ℤ d → m ≡ n +ℤ pos 1 → (c : ℤ) × IsRoundedUp d n c → (c : ℤ) × IsRoundedUp d m c
one_up d n m h e r = stepped r.0 r.1
  where
    stepped : (c : ℤ) → IsRoundedUp d n c → (c : ℤ) × IsRoundedUp d m c
    stepped c r =
        by_lt_z n (c *ℤ d)
        (λ l. (c, record { above = omega (arith, ints, r.above, e); within = omega (arith, ints, l, e) }))
        (λ l. (
          c +ℤ pos 1,
          record {
            above = omega (arith, ints, times_less (c +ℤ pos 1) d, times_one_on_right c d, r.within, e);
            within = omega (arith, ints, times_one_on_right c d, r.within, h, e);
          },
        ))

one_down : (d n m : ℤ) → pos 1 ≤ℤ d → n ≡ m +ℤ pos 1 → (c : ℤ) × IsRoundedUp d n c → (c : ℤ) × IsRoundedUp d m c
one_down d n m h e r = stepped r.0 r.1
  where
    stepped : (c : ℤ) → IsRoundedUp d n c → (c : ℤ) × IsRoundedUp d m c
    stepped c r =
        by_lt_z ((c -ℤ pos 1) *ℤ d) m
        (λ l. (c, record { above = l; within = omega (arith, ints, r.within, e) }))
        (λ l. (
          c -ℤ pos 1,
          record {
            above = omega (arith, ints, times_less (c -ℤ pos 1) d, r.above, h, e);
            within = l;
          },
        ))

rounded_up_of : (d : ℤ) → pos 1 ≤ℤ d → (n : ℕ) → (c : ℤ) × IsRoundedUp d (pos n) c
rounded_up_of d h zero = (pos 0, record { above = omega (arith, ints, times_less (pos 0) d, h); within = omega (arith, ints) })
rounded_up_of d h (suc n) = one_up d (pos n) (pos (suc n)) h (omega (arith, ints)) (rounded_up_of d h n)

rounded_up_below : (d : ℤ) → pos 1 ≤ℤ d → (n : ℕ) → (c : ℤ) × IsRoundedUp d (negsuc n) c
rounded_up_below d h zero = one_down d (pos 0) (negsuc 0) h (omega (arith, ints)) (rounded_up_of d h zero)
rounded_up_below d h (suc n) = one_down d (negsuc n) (negsuc (suc n)) h (omega (arith, ints)) (rounded_up_below d h n)

pub rounded_up : (d n : ℤ) → pos 1 ≤ℤ d → (c : ℤ) × IsRoundedUp d n c
rounded_up d (pos n) h = rounded_up_of d h n
rounded_up d (negsuc n) h = rounded_up_below d h n
