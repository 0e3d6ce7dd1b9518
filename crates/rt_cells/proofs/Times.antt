-- Products of signed numbers: sums, differences, order and cancelling.
use Rattle.std.proofs.Common.{◌≡◌, zero, suc, ℤ, pos, negsuc, neg_ℤ, ◌+ℤ◌, ◌-ℤ◌, ◌*ℤ◌, ◌≤ℤ◌, ◌<ℤ◌, sym, ap, subst, ◌∙◌, arith}
use Rattle.std.proofs.lemmas.Int.{ints, clamps, by_lt_z}
use Rattle.std.specs.Int.{int_max, int_min}
use Rattle.rt_cells.specs.Line.{gap_of}
use Rattle.rt_cells.proofs.Lines.{at_most}
use lib.IntN.{*ℤ-zero, ℤ_ind, zero-*ℤ, suc_ℤ-*ℤ, pred_ℤ-*ℤ, +ℤ_one, -ℤ_one}

-- one times more
pub one_more : (a b : ℤ) → (a +ℤ pos 1) *ℤ b ≡ a *ℤ b +ℤ b
one_more a b = ap (λ z. z *ℤ b) (+ℤ_one a) ∙ suc_ℤ-*ℤ a b

-- and one times less
pub one_less : (a b : ℤ) → (a +ℤ neg_ℤ (pos 1)) *ℤ b ≡ a *ℤ b -ℤ b
one_less a b = ap (λ z. z *ℤ b) (-ℤ_one a) ∙ pred_ℤ-*ℤ a b

sum_of_none : (p q r : ℤ) → p ≡ pos 0 → q ≡ pos 0 → r ≡ pos 0 → p ≡ q +ℤ r
sum_of_none p q r e f g = omega (arith, ints)

sum_of_more : (p q r p' q' r' b c : ℤ) → p' ≡ p +ℤ (b +ℤ c) → q' ≡ q +ℤ b → r' ≡ r +ℤ c → p ≡ q +ℤ r → p' ≡ q' +ℤ r'
sum_of_more p q r p' q' r' b c e f g h = omega (arith, ints)

sum_of_less : (p q r p' q' r' b c : ℤ) → p' ≡ p -ℤ (b +ℤ c) → q' ≡ q -ℤ b → r' ≡ r -ℤ c → p ≡ q +ℤ r → p' ≡ q' +ℤ r'
sum_of_less p q r p' q' r' b c e f g h = omega (arith, ints)

-- a product with a sum is the sum of the products
pub times_sum : (a b c : ℤ) → a *ℤ (b +ℤ c) ≡ a *ℤ b +ℤ a *ℤ c
times_sum a b c =
    ℤ_ind (λ z. z *ℤ (b +ℤ c) ≡ z *ℤ b +ℤ z *ℤ c)
    (sum_of_none _ _ _ (zero-*ℤ (b +ℤ c)) (zero-*ℤ b) (zero-*ℤ c))
    (λ n h. sum_of_more _ _ _ _ _ _ b c (one_more (pos n) (b +ℤ c)) (one_more (pos n) b) (one_more (pos n) c) h)
    (λ n h. sum_of_less _ _ _ _ _ _ b c (one_less (neg_ℤ (pos n)) (b +ℤ c)) (one_less (neg_ℤ (pos n)) b) (one_less (neg_ℤ (pos n)) c) h)
    a

difference_of_sum : (p q r : ℤ) → p ≡ q +ℤ r → q ≡ p -ℤ r
difference_of_sum p q r e = omega (arith, ints)

back_again : (b c : ℤ) → (b -ℤ c) +ℤ c ≡ b
back_again b c = omega (arith, ints)

-- a product with a difference is the difference of the products
pub times_sub : (a b c : ℤ) → a *ℤ (b -ℤ c) ≡ a *ℤ b -ℤ a *ℤ c
times_sub a b c = difference_of_sum (a *ℤ b) (a *ℤ (b -ℤ c)) (a *ℤ c) (ap (λ z. a *ℤ z) (sym (back_again b c)) ∙ times_sum a (b -ℤ c) c)

-- a product of numbers that are not negative isn't negative
pub product_not_negative : (a b : ℤ) → pos 0 ≤ℤ a → pos 0 ≤ℤ b → pos 0 ≤ℤ (a *ℤ b)
product_not_negative (pos m) (pos n) h k = omega (arith, ints)
product_not_negative (pos m) (negsuc n) h k = absurd (omega (arith, ints))
product_not_negative (negsuc m) b h k = absurd (omega (arith, ints))

-- a product of positive numbers is positive
pub times_positive : (a b : ℤ) → pos 1 ≤ℤ a → pos 1 ≤ℤ b → pos 1 ≤ℤ (a *ℤ b)
times_positive (pos (suc m)) (pos (suc n)) h k = omega (arith, ints)
times_positive (pos zero) b h k = absurd (omega (arith, ints))
times_positive (pos (suc m)) (pos zero) h k = absurd (omega (arith, ints))
times_positive (pos (suc m)) (negsuc n) h k = absurd (omega (arith, ints))
times_positive (negsuc m) b h k = absurd (omega (arith, ints))

-- the same where they are said to lie above 0
pub positive_times : (a b : ℤ) → pos 0 <ℤ a → pos 0 <ℤ b → pos 0 <ℤ (a *ℤ b)
positive_times a b h k = let p = times_positive a b (omega (arith, ints, h)) (omega (arith, ints, k)) in omega (arith, ints, p)

at_most_from_rest : (p q d : ℤ) → d ≡ q -ℤ p → pos 0 ≤ℤ d → p ≤ℤ q
at_most_from_rest p q d e h = omega (arith, ints)

below_from_rest : (p q d : ℤ) → d ≡ q -ℤ p → pos 1 ≤ℤ d → p <ℤ q
below_from_rest p q d e h = omega (arith, ints)

-- a factor that is not negative keeps the order
pub times_le : (a b c : ℤ) → pos 0 ≤ℤ a → b ≤ℤ c → (a *ℤ b) ≤ℤ (a *ℤ c)
times_le a b c h k = at_most_from_rest _ _ _ (times_sub a c b) (product_not_negative a (c -ℤ b) h (omega (arith, ints)))

-- a positive factor keeps the strict order
pub times_lt : (a b c : ℤ) → pos 1 ≤ℤ a → b <ℤ c → (a *ℤ b) <ℤ (a *ℤ c)
times_lt a b c h k = below_from_rest _ _ _ (times_sub a c b) (times_positive a (c -ℤ b) h (omega (arith, ints)))

clash : (p q : ℤ) → p <ℤ q → q ≤ℤ p → ⊥
clash p q h k = omega (arith, ints)

-- a positive number isn't negative
pub not_negative : (a : ℤ) → pos 1 ≤ℤ a → pos 0 ≤ℤ a
not_negative a h = omega (arith, ints)

-- a positive factor of both sides of a strict order may be left out
pub times_cancel_lt : (a b c : ℤ) → pos 1 ≤ℤ a → (a *ℤ b) <ℤ (a *ℤ c) → b <ℤ c
times_cancel_lt a b c h k = by_lt_z b c (λ l. l) (λ l. absurd (clash _ _ k (times_le a c b (not_negative a h) l)))

-- a positive factor of both sides of an order may be left out
pub times_cancel_le : (a b c : ℤ) → pos 1 ≤ℤ a → (a *ℤ b) ≤ℤ (a *ℤ c) → b ≤ℤ c
times_cancel_le a b c h k = by_lt_z c b (λ l. absurd (clash _ _ (times_lt a c b h l) k)) (λ l. l)

max_is_first : (p q : ℤ) → q ≤ℤ p → int_max p q ≡ p
max_is_first p q h = omega (arith, ints, clamps)

max_is_second : (p q : ℤ) → p ≤ℤ q → int_max p q ≡ q
max_is_second p q h = omega (arith, ints, clamps)

min_is_first : (p q : ℤ) → p ≤ℤ q → int_min p q ≡ p
min_is_first p q h = omega (arith, ints, clamps)

min_is_second : (p q : ℤ) → q ≤ℤ p → int_min p q ≡ q
min_is_second p q h = omega (arith, ints, clamps)

-- a factor that is not negative goes into a maximum
pub times_int_max : (a b c : ℤ) → pos 0 ≤ℤ a → a *ℤ int_max b c ≡ int_max (a *ℤ b) (a *ℤ c)
times_int_max a b c h =
    by_lt_z b c
    (λ l. ap (λ z. a *ℤ z) (max_is_second b c (at_most b c l)) ∙ sym (max_is_second _ _ (times_le a b c h (at_most b c l))))
    (λ l. ap (λ z. a *ℤ z) (max_is_first b c l) ∙ sym (max_is_first _ _ (times_le a c b h l)))

-- a factor that is not negative goes into a minimum
pub times_int_min : (a b c : ℤ) → pos 0 ≤ℤ a → a *ℤ int_min b c ≡ int_min (a *ℤ b) (a *ℤ c)
times_int_min a b c h =
    by_lt_z b c
    (λ l. ap (λ z. a *ℤ z) (min_is_first b c (at_most b c l)) ∙ sym (min_is_first _ _ (times_le a b c h (at_most b c l))))
    (λ l. ap (λ z. a *ℤ z) (min_is_second b c l) ∙ sym (min_is_second _ _ (times_le a c b h l)))

-- a factor that is not negative keeps what lies beyond by a number
pub times_beyond : (a low w high : ℤ) → pos 0 ≤ℤ a → (low +ℤ w) ≤ℤ high → (a *ℤ low +ℤ a *ℤ w) ≤ℤ (a *ℤ high)
times_beyond a low w high h k = subst (λ z. z ≤ℤ (a *ℤ high)) (times_sum a low w) (times_le a (low +ℤ w) high h k)

-- a factor that is not negative goes into the gap of two intervals
pub times_gap_of : (a low high low' high' : ℤ) → pos 0 ≤ℤ a
    → a *ℤ gap_of low high low' high' ≡ gap_of (a *ℤ low) (a *ℤ high) (a *ℤ low') (a *ℤ high')
times_gap_of a low high low' high' h =
    let inner : a *ℤ int_max (low' -ℤ high) (low -ℤ high') ≡ int_max (a *ℤ low' -ℤ a *ℤ high) (a *ℤ low -ℤ a *ℤ high') =
    times_int_max a (low' -ℤ high) (low -ℤ high') h ∙ (λ i. int_max (times_sub a low' high i) (times_sub a low high' i)) in
    times_int_max a (pos 0) (int_max (low' -ℤ high) (low -ℤ high')) h ∙ (λ i. int_max (*ℤ-zero a i) (inner i))

-- a gap of s or more has s times the factor or more on the finer grid
pub times_gap : (a s low high low' high' : ℤ) → pos 0 ≤ℤ a → s ≤ℤ gap_of low high low' high'
    → (a *ℤ s) ≤ℤ gap_of (a *ℤ low) (a *ℤ high) (a *ℤ low') (a *ℤ high')
times_gap a s low high low' high' h k =
    subst (λ z. (a *ℤ s) ≤ℤ z) (times_gap_of a low high low' high' h) (times_le a s (gap_of low high low' high') h k)
