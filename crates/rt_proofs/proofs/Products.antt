-- Products of whole numbers: their order and grouping don't matter.
use Rattle.std.proofs.Common.{◌≡◌, ℤ, pos, neg_ℤ, ◌+ℤ◌, ◌-ℤ◌, ◌*ℤ◌, sym, ap, ◌∙◌}
use Rattle.rt_cells.proofs.Times.{times_sum, times_sub, one_more, one_less}
use lib.IntN.{*ℤ_comm, ℤ_ind, zero-*ℤ}

-- two factors may change places
pub times_comm : (a b : ℤ) → a *ℤ b ≡ b *ℤ a
times_comm a b = *ℤ_comm a b

-- three factors may be grouped either way
pub times_assoc : (a b c : ℤ) → (a *ℤ b) *ℤ c ≡ a *ℤ (b *ℤ c)
times_assoc a b c =
    ℤ_ind (λ z. (z *ℤ b) *ℤ c ≡ z *ℤ (b *ℤ c))
    (ap (λ y. y *ℤ c) (zero-*ℤ b) ∙ zero-*ℤ c ∙ sym (zero-*ℤ (b *ℤ c)))
    (λ n h. ap (λ y. y *ℤ c) (one_more (pos n) b) ∙ sum_times (pos n *ℤ b) b c ∙ ap (λ y. y +ℤ b *ℤ c) h ∙ sym (one_more (pos n) (b *ℤ c)))
    (λ n h. ap (λ y. y *ℤ c) (one_less (neg_ℤ (pos n)) b) ∙ difference_times (neg_ℤ (pos n) *ℤ b) b c ∙ ap (λ y. y -ℤ b *ℤ c) h ∙ sym (one_less (neg_ℤ (pos n)) (b *ℤ c)))
    a
  where
    sum_times : (p q r : ℤ) → (p +ℤ q) *ℤ r ≡ p *ℤ r +ℤ q *ℤ r
    sum_times p q r = *ℤ_comm (p +ℤ q) r ∙ times_sum r p q ∙ ap (λ y. y +ℤ r *ℤ q) (*ℤ_comm r p) ∙ ap (λ y. p *ℤ r +ℤ y) (*ℤ_comm r q)

    difference_times : (p q r : ℤ) → (p -ℤ q) *ℤ r ≡ p *ℤ r -ℤ q *ℤ r
    difference_times p q r = *ℤ_comm (p -ℤ q) r ∙ times_sub r p q ∙ ap (λ y. y -ℤ r *ℤ q) (*ℤ_comm r p) ∙ ap (λ y. p *ℤ r -ℤ y) (*ℤ_comm r q)
