-- Sums of the first numbers, and what a line is worth at a point.
use Rattle.std.proofs.Common.{◌≡◌, ℕ, zero, suc, ◌<◌, ◌≤◌, ℤ, pos, neg_ℤ, negsuc, ◌+ℤ◌, ◌-ℤ◌, ◌*ℤ◌, refl, sym, ap, ◌∙◌, inl, inr, arith}
use Rattle.std.proofs.lemmas.Bool.{cases_lt}
use Rattle.std.proofs.lemmas.Int.{ints}
use Rattle.rt_cells.proofs.Times.{times_sum, times_sub}
use Rattle.rt_proofs.proofs.Products.{times_comm, times_assoc}
use Rattle.rt_proofs.proofs.Values.{sum_times}
use Rattle.rt_solved.specs.Lines.{total, LiesOn, worth}

-- equal numbers have equal sums
pub total_same : (n : ℕ) (f g : ℕ → ℤ) → ((j : ℕ) → j < n → f j ≡ g j) → total n f ≡ total n g
total_same zero f g h = refl
total_same (suc n) f g h = omega (arith, ints, total_same n f g (λ j l. h j (omega (arith, l))), h n (omega arith))

-- a sign goes out of a product
pub sign_out : (p q : ℤ) → neg_ℤ p *ℤ q ≡ neg_ℤ (p *ℤ q)
sign_out (pos zero) q = omega (arith, ints)
sign_out (pos (suc p)) (pos q) = omega (arith, ints)
sign_out (pos (suc p)) (negsuc q) = omega (arith, ints)
sign_out (negsuc p) (pos q) = omega (arith, ints)
sign_out (negsuc p) (negsuc q) = omega (arith, ints)

-- sums of combined numbers
pub total_combined : (n : ℕ) (f g h : ℕ → ℤ) (a b c : ℤ) → ((j : ℕ) → j < n → c *ℤ h j ≡ a *ℤ f j +ℤ b *ℤ g j)
    → c *ℤ total n h ≡ a *ℤ total n f +ℤ b *ℤ total n g
total_combined zero f g h a b c e = omega (arith, ints)
total_combined (suc n) f g h a b c e =
    omega (arith, ints, total_combined n f g h a b c (λ j l. e j (omega (arith, l))), e n (omega arith), times_sum c (total n h) (h n), times_sum a (total n f) (f n), times_sum b (total n g) (g n))

no_difference : (p q : ℤ) → p ≡ q → p -ℤ q ≡ pos 0
no_difference p q e = omega (arith, ints, e)

from_difference : (p q : ℤ) → p -ℤ q ≡ pos 0 → p ≡ q
from_difference p q e = omega (arith, ints, e)

pub worth_none : (m : ℕ) (line point : ℕ → ℤ) → LiesOn m line point → worth m line point ≡ pos 0
worth_none m line point h = no_difference _ _ h.equal

pub lies_on : (m : ℕ) (line point : ℕ → ℤ) → worth m line point ≡ pos 0 → LiesOn m line point
lies_on m line point e = record { equal = from_difference _ _ e }

place : (a b c u v w x : ℤ) → c *ℤ u ≡ a *ℤ v +ℤ b *ℤ w → c *ℤ (u *ℤ x) ≡ a *ℤ (v *ℤ x) +ℤ b *ℤ (w *ℤ x)
place a b c u v w x e = sym (times_assoc c u x) ∙ ap (λ z. z *ℤ x) e ∙ sum_times (a *ℤ v) (b *ℤ w) x ∙ (λ i. times_assoc a v x i +ℤ times_assoc b w x i)

differences : (a b c p q p' q' p'' q'' : ℤ) → c *ℤ p ≡ a *ℤ p' +ℤ b *ℤ p'' → c *ℤ q ≡ a *ℤ q' +ℤ b *ℤ q''
    → c *ℤ (p -ℤ q) ≡ a *ℤ (p' -ℤ q') +ℤ b *ℤ (p'' -ℤ q'')
differences a b c p q p' q' p'' q'' e f = omega (arith, ints, e, f, times_sub c p q, times_sub a p' q', times_sub b p'' q'')

-- a combination of lines is worth the combination of what they are worth
pub worth_combined : (m : ℕ) (u v w x : ℕ → ℤ) (a b c : ℤ) → ((s : ℕ) → s ≤ m → c *ℤ u s ≡ a *ℤ v s +ℤ b *ℤ w s)
    → c *ℤ worth m u x ≡ a *ℤ worth m v x +ℤ b *ℤ worth m w x
worth_combined m u v w x a b c e =
    differences a b c _ _ _ _ _ _
    (total_combined m (λ j. v (suc j) *ℤ x (suc j)) (λ j. w (suc j) *ℤ x (suc j)) (λ j. u (suc j) *ℤ x (suc j)) a b c
    (λ j l. place a b c (u (suc j)) (v (suc j)) (w (suc j)) (x (suc j)) (e (suc j) (omega (arith, l)))))
    (place a b c (u 0) (v 0) (w 0) (x 0) (e 0 (omega arith)))

-- a line and a point may change places
pub worth_swapped : (m : ℕ) (line point : ℕ → ℤ) → worth m line point ≡ worth m point line
worth_swapped m line point =
    let sums = total_same m (λ j. line (suc j) *ℤ point (suc j)) (λ j. point (suc j) *ℤ line (suc j)) (λ j l. times_comm (line (suc j)) (point (suc j))) in
    λ i. sums i -ℤ times_comm (line 0) (point 0) i

-- 1 at a place, and 0 everywhere else
abbrev pub unit : ℕ → ℕ → ℤ
unit zero zero = pos 1
unit zero (suc s) = pos 0
unit (suc t) zero = pos 0
unit (suc t) (suc s) = unit t s

pub unit_there : (t : ℕ) → unit t t ≡ pos 1
unit_there zero = refl
unit_there (suc t) = unit_there t

pub unit_elsewhere : (t s : ℕ) → (t ≡ s → ⊥) → unit t s ≡ pos 0
unit_elsewhere zero zero n = absurd (n refl)
unit_elsewhere zero (suc s) n = refl
unit_elsewhere (suc t) zero n = refl
unit_elsewhere (suc t) (suc s) n = unit_elsewhere t s (λ e. n (ap suc e))

nothing_more : (p v u : ℤ) → p ≡ pos 0 → u ≡ pos 0 → p +ℤ v *ℤ u ≡ pos 0
nothing_more p v u e f = omega (arith, ints, e, ap (λ z. v *ℤ z) f)

it_alone : (p v u : ℤ) → p ≡ pos 0 → u ≡ pos 1 → p +ℤ v *ℤ u ≡ v
it_alone p v u e f = omega (arith, ints, e, ap (λ z. v *ℤ z) f)

as_before : (p v u r : ℤ) → p ≡ r → u ≡ pos 0 → p +ℤ v *ℤ u ≡ r
as_before p v u r e f = omega (arith, ints, e, ap (λ z. v *ℤ z) f)

total_beyond : (n t : ℕ) (v : ℕ → ℤ) → n ≤ t → total n (λ j. v j *ℤ unit t j) ≡ pos 0
total_beyond zero t v h = refl
total_beyond (suc n) t v h = nothing_more _ (v n) (unit t n) (total_beyond n t v (omega (arith, h))) (unit_elsewhere t n (λ e. omega (arith, h, e)))

pub total_unit : (n t : ℕ) (v : ℕ → ℤ) → t < n → total n (λ j. v j *ℤ unit t j) ≡ v t
total_unit zero t v h = absurd (omega (arith, h))
total_unit (suc n) t v h =
    elim (cases_lt t n) [
      | inl l ↦ as_before _ (v n) (unit t n) (v t) (total_unit n t v l) (unit_elsewhere t n (λ e. omega (arith, l, e)))
      | inr g ↦ last (omega (arith, g, h))
    ]
  where
    last : t ≡ n → total n (λ j. v j *ℤ unit t j) +ℤ v n *ℤ unit t n ≡ v t
    last e = it_alone _ (v n) (unit t n) (total_beyond n t v (omega (arith, e))) (ap (λ k. unit t k) (sym e) ∙ unit_there t) ∙ ap v (sym e)

less_nothing : (p q v : ℤ) → p ≡ q → p -ℤ v *ℤ pos 0 ≡ q
less_nothing p q v e = omega (arith, ints, e)

-- at the point that is 1 at a column alone, a line is worth its number there
pub worth_unit : (m t : ℕ) (line : ℕ → ℤ) → t < m → worth m line (unit (suc t)) ≡ line (suc t)
worth_unit m t line h = less_nothing _ _ (line 0) (total_unit m t (λ j. line (suc j)) h)

right_alone : (p v : ℤ) → p ≡ pos 0 → p -ℤ v *ℤ pos 1 ≡ pos 0 -ℤ v
right_alone p v e = omega (arith, ints, e)

total_zeros : (n : ℕ) (v : ℕ → ℤ) → total n (λ j. v j *ℤ pos 0) ≡ pos 0
total_zeros zero v = refl
total_zeros (suc n) v = nothing_more _ (v n) (pos 0) (total_zeros n v) refl

pub worth_right : (m : ℕ) (line : ℕ → ℤ) → worth m line (unit 0) ≡ pos 0 -ℤ line 0
worth_right m line = right_alone _ (line 0) (total_zeros m (λ j. line (suc j)))
