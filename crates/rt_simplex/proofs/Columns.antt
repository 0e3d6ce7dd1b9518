-- What is chosen among the first columns.
use Rattle.std.proofs.Common.{◌≡◌, ℕ, suc, ◌+◌, ◌<◌, ◌⊎◌, ℤ, pos, neg_ℤ, ◌*ℤ◌, ◌≤ℤ◌, ◌<ℤ◌, Option, Some, None, refl, sym, ap, subst, ◌∙◌, inl, inr, arith}
use Rattle.std.proofs.lemmas.Bool.{cases_lt}
use Rattle.std.proofs.lemmas.Int.{ints, by_lt_z}
use Rattle.rt_cells.proofs.Times.{times_le, times_lt, times_cancel_lt}
use Rattle.rt_proofs.proofs.Products.{times_comm, times_assoc}
use Rattle.rt_solved.proofs.Totals.{sign_out}
use Rattle.rt_simplex.specs.Choices.{ComesFirst, IsFirstColumn}
use Rattle.rt_simplex.specs.Among.{IsFirstOrNone}

-- a sign goes out of the second factor
pub sign_out_second : (a b : ℤ) → a *ℤ neg_ℤ b ≡ neg_ℤ (a *ℤ b)
sign_out_second a b = times_comm a (neg_ℤ b) ∙ sign_out b a ∙ ap neg_ℤ (times_comm b a)

-- c over u is less than d over v, and that is at most e over w
chained : (c u d v e w : ℤ) → pos 0 <ℤ u → pos 0 <ℤ v → pos 0 <ℤ w → (c *ℤ v) <ℤ (d *ℤ u) → (d *ℤ w) ≤ℤ (e *ℤ v) → (c *ℤ w) <ℤ (e *ℤ u)
chained c u d v e w hu hv hw h g =
    times_cancel_lt v (c *ℤ w) (e *ℤ u) (one hv)
    (joined _ _ _ _ _ _ (times_lt w (c *ℤ v) (d *ℤ u) (one hw) h) (times_le u (d *ℤ w) (e *ℤ v) (nonnegative hu) g) (turn w c v) (turn' w d u) (turn'' v e u))
  where
    one : {z : ℤ} → pos 0 <ℤ z → pos 1 ≤ℤ z
    one h = omega (arith, ints, h)

    nonnegative : {z : ℤ} → pos 0 <ℤ z → pos 0 ≤ℤ z
    nonnegative h = omega (arith, ints, h)

    turn : (w c v : ℤ) → v *ℤ (c *ℤ w) ≡ w *ℤ (c *ℤ v)
    turn w c v = times_comm v (c *ℤ w) ∙ ap (λ z. z *ℤ v) (times_comm c w) ∙ times_assoc w c v

    turn' : (w d u : ℤ) → w *ℤ (d *ℤ u) ≡ u *ℤ (d *ℤ w)
    turn' w d u = turn u d w

    turn'' : (v e u : ℤ) → u *ℤ (e *ℤ v) ≡ v *ℤ (e *ℤ u)
    turn'' v e u = turn v e u

    joined : (a b c d e f : ℤ) → a <ℤ b → c ≤ℤ d → e ≡ a → b ≡ c → d ≡ f → e <ℤ f
    joined a b c d e f h g p q r = omega (arith, ints, h, g, p, q, r)

-- the magnitude of a number below 0
above : (z : ℤ) → z <ℤ pos 0 → pos 0 <ℤ neg_ℤ z
above z h = omega (arith, ints, h)

clash : (z : ℤ) → pos 0 ≤ℤ z → z <ℤ pos 0 → ⊥
clash z h g = omega (arith, ints, h, g)

module _ (line costs : ℕ → ℤ) (j : ℕ) where
  column_more : (q : ℕ) → IsFirstColumn line costs j q → (line (suc j) <ℤ pos 0 → ComesFirst line costs q j) → IsFirstColumn line costs (j + 1) q
  column_more q so here = record { there = let t = so.there in omega (arith, t); below = so.below; first = first_next }
    where
      first_next : (k : ℕ) → k < j + 1 → line (suc k) <ℤ pos 0 → ComesFirst line costs q k
      first_next k l below =
          elim (cases_lt k j) [
            | inl m ↦ so.first k m below
            | inr m ↦
                let same : k ≡ j = omega (arith, l, m) in
                subst (λ n. ComesFirst line costs q n) (sym same) (here (subst (λ n. line (suc n) <ℤ pos 0) same below))
          ]

  -- a column whose entry isn't below 0 changes nothing
  pub column_passed : (found : Option ℕ) → pos 0 ≤ℤ line (suc j) → IsFirstOrNone line costs j found → IsFirstOrNone line costs (j + 1) found
  column_passed None h so = none_next
    where
      none_next : (k : ℕ) → k < j + 1 → line (suc k) <ℤ pos 0 → ⊥
      none_next k l below =
          elim (cases_lt k j) [
            | inl m ↦ so k m below
            | inr m ↦ clash (line (suc j)) h (subst (λ n. line (suc n) <ℤ pos 0) (omega (arith, l, m)) below)
          ]
  column_passed (Some q) h so = column_more q so (λ below. absurd (clash (line (suc j)) h below))

  column_next : line (suc j) <ℤ pos 0 → ((k : ℕ) → k < j → line (suc k) <ℤ pos 0 → ComesFirst line costs j k) → IsFirstColumn line costs (j + 1) j
  column_next h before = record { there = omega arith; below = h; first = first_next }
    where
      first_next : (k : ℕ) → k < j + 1 → line (suc k) <ℤ pos 0 → ComesFirst line costs j k
      first_next k l below =
          elim (cases_lt k j) [
            | inl m ↦ before k m below
            | inr m ↦ let same : k ≡ j = omega (arith, l, m) in subst (λ n. ComesFirst line costs j n) (sym same) (inr (refl, omega arith))
          ]

  -- the first column whose entry is below 0
  pub column_begun : line (suc j) <ℤ pos 0 → IsFirstOrNone line costs j None → IsFirstColumn line costs (j + 1) j
  column_begun h so = column_next h (λ k l below. absurd (so k l below))

  -- the column that was found stays
  pub column_kept : (q : ℕ) → IsFirstColumn line costs j q → (costs (suc j) *ℤ line (suc q)) ≤ℤ (costs (suc q) *ℤ line (suc j)) → IsFirstColumn line costs (j + 1) q
  column_kept q so h = column_more q so (λ below. elim (split _ _ (at_most _ _ _ _ (sign_out_second (costs (suc q)) (line (suc j))) (sign_out_second (costs (suc j)) (line (suc q))) h)) [
    | inl l ↦ inl l
    | inr e ↦ inr (e, let t = so.there in omega (arith, t))
  ])
    where
      at_most : (a b c d : ℤ) → c ≡ neg_ℤ a → d ≡ neg_ℤ b → b ≤ℤ a → c ≤ℤ d
      at_most a b c d e f h = omega (arith, ints, e, f, h)

      split : (a b : ℤ) → a ≤ℤ b → (a <ℤ b) ⊎ (a ≡ b)
      split a b h = by_lt_z a b (λ l. inl l) (λ l. inr (omega (arith, ints, h, l)))

  -- the column is less
  pub column_taken : (q : ℕ) → IsFirstColumn line costs j q → line (suc j) <ℤ pos 0 → (costs (suc q) *ℤ line (suc j)) <ℤ (costs (suc j) *ℤ line (suc q)) → IsFirstColumn line costs (j + 1) j
  column_taken q so h less = column_next h (λ k l below.
      inl (chained (costs (suc j)) (neg_ℤ (line (suc j))) (costs (suc q)) (neg_ℤ (line (suc q))) (costs (suc k)) (neg_ℤ (line (suc k))) (above _ h) (above _ so.below) (above _ below)
      (under _ _ _ _ (sign_out_second (costs (suc j)) (line (suc q))) (sign_out_second (costs (suc q)) (line (suc j))) less)
      (merged _ _ (so.first k l below))))
    where
      under : (a b c d : ℤ) → c ≡ neg_ℤ a → d ≡ neg_ℤ b → b <ℤ a → c <ℤ d
      under a b c d e f h = omega (arith, ints, e, f, h)

      merged : {P : Type 0} (a b : ℤ) → (a <ℤ b) ⊎ ((a ≡ b) × P) → a ≤ℤ b
      merged a b (inl l) = omega (arith, ints, l)
      merged a b (inr e) = let same = e.0 in omega (arith, ints, same)
