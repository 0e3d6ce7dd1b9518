-- Where a column takes the place of a basic one, the table stays solved.
use Rattle.std.proofs.Common.{◌≡◌, ℕ, zero, suc, ◌<◌, ℤ, pos, negsuc, neg_ℤ, ◌+ℤ◌, ◌*ℤ◌, ◌<ℤ◌, ◌⊎◌, sym, ap, subst, ◌∙◌, inl, inr, length, set, arith}
use Rattle.std.proofs.lemmas.List.{get_or-set_same, get_or-set_other}
use Rattle.std.proofs.lemmas.Int.{ints}
use Rattle.rt_cells.proofs.Times.{positive_times}
use Rattle.rt_proofs.proofs.Products.{times_comm}
use Rattle.rt_solved.specs.Lines.{LiesOn, worth}
use Rattle.rt_solved.specs.Systems.{columns_of, IsSolution}
use Rattle.rt_solved.specs.Tables.{IsSolvedFor, IsExchanged, basic_of}
use Rattle.rt_solved.specs.Laws.{ExchangeSolves}
use Rattle.rt_solved.proofs.Totals.{worth_none, lies_on, worth_combined, sign_out}
use Rattle.rt_solved.proofs.Proportional.{times_cancel, same_or_not}

turned_times : (n t : ℤ) → n ≡ neg_ℤ t → pos 1 *ℤ n ≡ neg_ℤ (pos 1) *ℤ t +ℤ pos 0 *ℤ t
turned_times n t e = omega (arith, ints, e)

turned_none : (n t : ℤ) → pos 1 *ℤ n ≡ neg_ℤ (pos 1) *ℤ t +ℤ pos 0 *ℤ t → t ≡ pos 0 → n ≡ pos 0
turned_none n t e f = omega (arith, ints, e, f)

back_none : (n t : ℤ) → pos 1 *ℤ n ≡ neg_ℤ (pos 1) *ℤ t +ℤ pos 0 *ℤ t → n ≡ pos 0 → t ≡ pos 0
back_none n t e f = omega (arith, ints, e, f)

no_product : (g n : ℤ) → pos 0 <ℤ g → g *ℤ n ≡ pos 0 → n ≡ pos 0
no_product g n h e = times_cancel g n (pos 0) h (e ∙ sym (zero_of g))
  where
    zero_of : (a : ℤ) → a *ℤ pos 0 ≡ pos 0
    zero_of a = omega (arith, ints)

both_none : (a b p q : ℤ) → p ≡ pos 0 → q ≡ pos 0 → a *ℤ p +ℤ b *ℤ q ≡ pos 0
both_none a b p q e f = omega (arith, ints, ap (λ z. a *ℤ z) e, ap (λ z. b *ℤ z) f)

other_none : (r a b p q : ℤ) → r ≡ a *ℤ p +ℤ b *ℤ q → r ≡ pos 0 → q ≡ pos 0 → a *ℤ p ≡ pos 0
other_none r a b p q e f g = omega (arith, ints, e, f, ap (λ z. b *ℤ z) g)

zero_times : (g n : ℤ) → n ≡ pos 0 → g *ℤ n ≡ pos 0
zero_times g n e = omega (arith, ints, ap (λ z. g *ℤ z) e)

turned_positive : (t : ℤ) → t <ℤ pos 0 → pos 0 <ℤ neg_ℤ t
turned_positive t h = omega (arith, ints, h)

-- a number with its sign turned is 0 where the number is
pub turned_zero : (n t : ℤ) → n ≡ neg_ℤ t → t ≡ pos 0 → n ≡ pos 0
turned_zero n t e f = omega (arith, ints, e, f)

cancels : (t u : ℤ) → neg_ℤ t *ℤ u +ℤ u *ℤ t ≡ pos 0
cancels t u = omega (arith, ints, times_comm u t, sign_out t u)

positive_from : (g n p : ℤ) → pos 0 <ℤ g → pos 0 <ℤ p → g *ℤ n ≡ p → pos 0 <ℤ n
positive_from g (pos zero) p h k e = absurd (omega (arith, ints, k, e))
positive_from g (pos (suc n)) p h k e = omega (arith, ints)
positive_from (pos g) (negsuc n) p h k e = absurd (omega (arith, ints, k, e))
positive_from (negsuc g) (negsuc n) p h k e = absurd (omega (arith, ints, h))

only_first : (a b p q : ℤ) → q ≡ pos 0 → a *ℤ p +ℤ b *ℤ q ≡ a *ℤ p
only_first a b p q e = omega (arith, ints, ap (λ z. b *ℤ z) e)

module _ (m count p q : ℕ) (solution : (ℕ → ℤ) → Type 0) (basis basis' : ℕ → ℕ) (table new : ℕ → ℕ → ℤ) (solved : IsSolvedFor m count solution basis table)
    (p_there : p < count) (q_there : q < m) (negative : table p (suc q) <ℤ pos 0) (now : basis' p ≡ q) (kept : (k : ℕ) → (k ≡ p → ⊥) → basis' k ≡ basis k)
    (is : IsExchanged m count p q table new) where
  a : ℤ
  a = neg_ℤ (table p (suc q))

  a_positive : pos 0 <ℤ a
  unfolding a
  a_positive = turned_positive (table p (suc q)) negative

  turned_worth : (x : ℕ → ℤ) → pos 1 *ℤ worth m (new p) x ≡ neg_ℤ (pos 1) *ℤ worth m (table p) x +ℤ pos 0 *ℤ worth m (table p) x
  turned_worth x = worth_combined m (new p) (table p) (table p) x (neg_ℤ (pos 1)) (pos 0) (pos 1) (λ s h. turned_times (new p s) (table p s) (is.turned s))

  other_worth : (i : ℕ) (h : i < count) (n : i ≡ p → ⊥) (x : ℕ → ℤ)
      → (is.others i h n).0 *ℤ worth m (new i) x ≡ a *ℤ worth m (table i) x +ℤ table i (suc q) *ℤ worth m (table p) x
  unfolding a
  other_worth i h n x = worth_combined m (new i) (table i) (table p) x (neg_ℤ (table p (suc q))) (table i (suc q)) (is.others i h n).0 (λ s l. (is.others i h n).2 s)

  holds_new : (x : ℕ → ℤ) → solution x → (i : ℕ) → i < count → LiesOn m (new i) x
  holds_new x sol i h = step (same_or_not i p)
    where
      at_p : worth m (table p) x ≡ pos 0
      at_p = worth_none m (table p) x (solved.holds x sol p p_there)

      step : (i ≡ p) ⊎ (i ≡ p → ⊥) → LiesOn m (new i) x
      step (inl e) = subst (λ k. LiesOn m (new k) x) (sym e) (lies_on m (new p) x (turned_none _ _ (turned_worth x) at_p))
      step (inr n) =
          lies_on m (new i) x
          (no_product (is.others i h n).0 _ (is.others i h n).1 (other_worth i h n x ∙ both_none a (table i (suc q)) _ _ (worth_none m (table i) x (solved.holds x sol i h)) at_p))

  enough_new : (x : ℕ → ℤ) → ((i : ℕ) → i < count → LiesOn m (new i) x) → solution x
  enough_new x all = solved.enough x (λ i h. step i h (same_or_not i p))
    where
      at_p : worth m (table p) x ≡ pos 0
      at_p = back_none _ _ (turned_worth x) (worth_none m (new p) x (all p p_there))

      step : (i : ℕ) → i < count → (i ≡ p) ⊎ (i ≡ p → ⊥) → LiesOn m (table i) x
      step i h (inl e) = subst (λ k. LiesOn m (table k) x) (sym e) (lies_on m (table p) x at_p)
      step i h (inr n) =
          lies_on m (table i) x
          (no_product a _ a_positive (other_none _ a (table i (suc q)) _ _ (other_worth i h n x) (zero_times (is.others i h n).0 _ (worth_none m (new i) x (all i h))) at_p))

  there_new : (i : ℕ) → i < count → basis' i < m
  there_new i h = step (same_or_not i p)
    where
      step : (i ≡ p) ⊎ (i ≡ p → ⊥) → basis' i < m
      step (inl e) = subst (λ k. k < m) (sym (ap basis' e ∙ now)) q_there
      step (inr n) = subst (λ k. k < m) (sym (kept i n)) (solved.there i h)

  positive_new : (i : ℕ) → i < count → pos 0 <ℤ new i (suc (basis' i))
  unfolding a
  positive_new i h = step (same_or_not i p)
    where
      at_p : pos 0 <ℤ new p (suc (basis' p))
      at_p = subst (λ z. pos 0 <ℤ z) (sym (ap (λ k. new p (suc k)) now ∙ is.turned (suc q))) (turned_positive (table p (suc q)) negative)

      step : (i ≡ p) ⊎ (i ≡ p → ⊥) → pos 0 <ℤ new i (suc (basis' i))
      step (inl e) = subst (λ k. pos 0 <ℤ new k (suc (basis' k))) (sym e) at_p
      step (inr n) =
          subst (λ k. pos 0 <ℤ new i (suc k)) (sym (kept i n))
          (positive_from (is.others i h n).0 (new i (suc (basis i))) (neg_ℤ (table p (suc q)) *ℤ table i (suc (basis i))) (is.others i h n).1
          (positive_times (neg_ℤ (table p (suc q))) (table i (suc (basis i))) (turned_positive (table p (suc q)) negative) (solved.positive i h))
          ((is.others i h n).2 (suc (basis i))
          ∙ only_first (neg_ℤ (table p (suc q))) (table i (suc q)) (table i (suc (basis i))) (table p (suc (basis i))) (solved.alone p i p_there h (λ e. n (sym e)))))

  alone_new : (i k : ℕ) → i < count → k < count → (i ≡ k → ⊥) → new i (suc (basis' k)) ≡ pos 0
  alone_new i k h g n = step (same_or_not i p) (same_or_not k p)
    where
      step : (i ≡ p) ⊎ (i ≡ p → ⊥) → (k ≡ p) ⊎ (k ≡ p → ⊥) → new i (suc (basis' k)) ≡ pos 0
      step (inl e) (inl f) = absurd (n (e ∙ sym f))
      step (inl e) (inr f) =
          ap (λ r. new r (suc (basis' k))) e ∙ ap (λ c. new p (suc c)) (kept k f)
          ∙ turned_zero _ _ (is.turned (suc (basis k))) (solved.alone p k p_there g (λ z. f (sym z)))
      step (inr e) (inl f) =
          ap (λ c. new i (suc c)) (ap basis' f ∙ now)
          ∙ no_product (is.others i h e).0 _ (is.others i h e).1 ((is.others i h e).2 (suc q) ∙ cancels (table p (suc q)) (table i (suc q)))
      step (inr e) (inr f) =
          ap (λ c. new i (suc c)) (kept k f)
          ∙ no_product (is.others i h e).0 _ (is.others i h e).1
          ((is.others i h e).2 (suc (basis k))
          ∙ both_none (neg_ℤ (table p (suc q))) (table i (suc q)) _ _ (solved.alone i k h g n) (solved.alone p k p_there g (λ z. f (sym z))))

  -- the new table is solved for the new basis
  pub exchanged_solved : IsSolvedFor m count solution basis' new
  exchanged_solved = record { there = there_new; positive = positive_new; alone = alone_new; holds = holds_new; enough = enough_new }

pub exchange_solves_each : ExchangeSolves
exchange_solves_each system basis p q table new e solved p_there q_there negative is =
    exchanged_solved (columns_of system) (length system.rows) p q (IsSolution system) (basic_of basis) (basic_of (set basis p q)) table new solved p_there q_there negative
    (get_or-set_same basis p q 0 (subst (λ n. p < n) (sym e) p_there)) (λ k n. get_or-set_other basis p k q 0 n) is
