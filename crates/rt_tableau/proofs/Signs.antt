-- Lines with their signs turned.
use Rattle.std.proofs.Common.{◌≡◌, ℕ, zero, suc, ◌<◌, ◌≤◌, ℤ, pos, negsuc, neg_ℤ, ◌-ℤ◌, ◌*ℤ◌, List, length, sym, ap, subst, ◌∙◌, inl, inr, arith}
use Rattle.std.proofs.Math.ListN.{get_or-eq_default}
use Rattle.std.proofs.lemmas.Bool.{cases_lt}
use Rattle.std.proofs.lemmas.Int.{ints}
use Rattle.rt_rows.specs.Known.{IsSmall}
use Rattle.rt_tableau.specs.Numbers.{number_of, AreSmall, HaveNoFactor}
use Rattle.rt_tableau.specs.Turned.{IsTurned}
use Rattle.rt_tableau.proofs.Divisors.{times_turned}

-- what the loop keeps: the numbers so far
pub record AreTurnedSoFar (line new : List ℤ) (i : ℕ) : Type 0 where
  pub one_each : length new ≡ i
  pub each : (s : ℕ) → s < i → number_of new s ≡ neg_ℤ (number_of line s)

negative_small : (z : ℤ) → IsSmall z → IsSmall (neg_ℤ z)
negative_small (pos zero) h = h
negative_small (pos (suc n)) h = let k = h.high in record { low = omega (arith, ints, k); high = omega (arith, ints) }
negative_small (negsuc n) h = let k = h.low in record { low = omega (arith, ints); high = omega (arith, ints, k) }

less_none : (z : ℤ) → pos 0 -ℤ z ≡ neg_ℤ z
less_none z = omega (arith, ints)

none_turned : (a b : ℤ) → a ≡ pos 0 → b ≡ pos 0 → a ≡ neg_ℤ b
none_turned a b e f = omega (arith, ints, e, f)

pub turned_at_last : (line new : List ℤ) (i : ℕ) → AreTurnedSoFar line new i → i ≤ length line → length line ≤ i → IsTurned line new
turned_at_last line new i so h g = record { one_each = so.one_each ∙ omega (arith, h, g); each = each_of }
  where
    each_of : (s : ℕ) → number_of new s ≡ neg_ℤ (number_of line s)
    each_of s =
        elim (cases_lt s i) [
          | inl l ↦ so.each s l
          | inr k ↦ none_turned _ _ (get_or-eq_default new (pos 0) (omega (arith, so.one_each, k))) (get_or-eq_default line (pos 0) (omega (arith, g, k)))
        ]

-- small lines stay small
pub turned_small : (line new : List ℤ) → AreSmall line → IsTurned line new → AreSmall new
turned_small line new small is = record { each = λ s. subst IsSmall (sym (is.each s)) (negative_small (number_of line s) (small.each s)) }

twice_turned : (z : ℤ) → z ≡ neg_ℤ (neg_ℤ z)
twice_turned z = omega (arith, ints)

-- and without a factor
pub turned_no_factor : (numbers new : ℕ → ℤ) → HaveNoFactor numbers → ((s : ℕ) → new s ≡ neg_ℤ (numbers s)) → HaveNoFactor new
turned_no_factor numbers new none are = record {
  none = λ d k all.
      none.none d k (λ s. let t = all s in
      (neg_ℤ t.0, twice_turned (k *ℤ numbers s) ∙ ap neg_ℤ (times_turned k (numbers s) ∙ ap (λ z. k *ℤ z) (sym (are s)) ∙ t.1) ∙ times_turned d t.0));
}
