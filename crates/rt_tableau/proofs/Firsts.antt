-- The first place past the limit.
use Rattle.std.proofs.Common.{◌≡◌, ℕ, zero, suc, ◌+◌, ◌<◌, ◌≤◌, ℤ, pos, negsuc, ◌*ℤ◌, List, length, get_or, sym, subst, ◌∙◌, inl, inr, arith}
use Rattle.std.proofs.Math.ListN.{get_or-eq_default}
use Rattle.std.proofs.lemmas.Bool.{cases_lt}
use Rattle.std.proofs.lemmas.Int.{ints}
use Rattle.std.proofs.lemmas.List.{get_or_default}
use Rattle.rt_rows.specs.Known.{IsSmall}
use Rattle.rt_solved.proofs.Proportional.{times_cancel}
use Rattle.rt_tableau.specs.Numbers.{number_of, IsPast, IsPastOver, IsSmallOver, SomePast, IsFirst, IsFirstOver}
use Rattle.rt_tableau.proofs.Quotients.{nothing_over}

-- what the loop keeps: the quotients behind the right side are small so far
pub record AreSmallSoFar (factor : ℕ) (values : List ℤ) (i : ℕ) : Type 0 where
  pub each : (t : ℕ) → 0 < t → t < i → (quotient : ℤ) × IsSmallOver factor (number_of values t) quotient

pub small_further : (factor : ℕ) (values : List ℤ) (i : ℕ) (d quotient : ℤ) → i < length values → AreSmallSoFar factor values i → IsSmallOver factor (get_or values i d) quotient → AreSmallSoFar factor values (i + 1)
small_further factor values i d quotient h so is = record { each = each_next }
  where
    here : IsSmallOver factor (number_of values i) quotient
    here = subst (λ z. IsSmallOver factor z quotient) (get_or_default values i d (pos 0) h) is

    each_next : (t : ℕ) → 0 < t → t < i + 1 → (quotient : ℤ) × IsSmallOver factor (number_of values t) quotient
    each_next t g l =
        elim (cases_lt t i) [
          | inl k ↦ so.each t g k
          | inr k ↦ subst (λ u. (quotient : ℤ) × IsSmallOver factor (number_of values u) quotient) (omega (arith, k, l)) (quotient, here)
        ]

pub not_both : (z : ℤ) → IsPast z → IsSmall z → ⊥
not_both (pos n) h g = omega (arith, ints, h, g.high)
not_both (negsuc n) h g = omega (arith, ints, h, g.low)

small_is : (factor : ℕ) (value z q : ℤ) → 0 < factor → IsSmallOver factor value q → value ≡ pos factor *ℤ z → IsSmall z
small_is factor value z q h is e = subst IsSmall (times_cancel (pos factor) q z (omega (arith, ints, h)) (sym is.is ∙ e)) is.small

past_is : (factor : ℕ) (value z : ℤ) → 0 < factor → IsPastOver factor value → value ≡ pos factor *ℤ z → IsPast z
past_is factor value z h is e = subst IsPast (times_cancel (pos factor) is.quotient z (omega (arith, ints, h)) (sym is.is ∙ e)) is.past

pub first_is_right : (factor : ℕ) (values : List ℤ) (i : ℕ) → 0 < factor → length values ≤ i → AreSmallSoFar factor values i → SomePast factor values → IsFirstOver factor values 0
first_is_right factor values i h g so some = record {
  there = let l = some.there in omega (arith, l);
  past = at_right some.s some.there some.past;
  before = λ t k l. absurd (omega (arith, k, l));
  last = λ e. all;
}
  where
    all : (t : ℕ) → 0 < t → (quotient : ℤ) × IsSmallOver factor (number_of values t) quotient
    all t k =
        elim (cases_lt t i) [
          | inl l ↦ so.each t k l
          | inr l ↦ subst (λ z. (quotient : ℤ) × IsSmallOver factor z quotient) (sym (get_or-eq_default values (pos 0) (omega (arith, g, l)))) (pos 0, nothing_over factor)
        ]

    at_right : (s : ℕ) → s < length values → IsPastOver factor (number_of values s) → IsPastOver factor (number_of values 0)
    at_right zero l past = past
    at_right (suc s) l past =
        let small = all (suc s) (omega arith) in
        absurd (not_both past.quotient past.past (small_is factor (number_of values (suc s)) past.quotient small.0 h small.1 past.is))

-- the same said of the quotients
pub first_of_quotients : (factor : ℕ) (values : List ℤ) (numbers : ℕ → ℤ) (s : ℕ) → 0 < factor → ((t : ℕ) → number_of values t ≡ pos factor *ℤ numbers t) → IsFirstOver factor values s → IsFirst numbers s
first_of_quotients factor values numbers s h are first = record {
  past = past_is factor (number_of values s) (numbers s) h first.past (are s);
  before = λ t k l. let z = first.before t k l in small_is factor (number_of values t) (numbers t) z.0 h z.1 (are t);
  last = λ e t k. let z = first.last e t k in small_is factor (number_of values t) (numbers t) z.0 h z.1 (are t);
}
