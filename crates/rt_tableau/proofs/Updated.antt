-- A line after an exchange: combined, and over the greatest common factor.
use Rattle.std.proofs.Common.{◌≡◌, ℕ, ◌<◌, ℤ, pos, neg_ℤ, ◌+ℤ◌, ◌*ℤ◌, ◌<ℤ◌, List, length, Option, Some, sym, ap, subst, ◌∙◌, inl, inr, arith}
use Rattle.std.specs.Option.{MatchOption}
use Rattle.std.proofs.Math.ListN.{get_or-eq_default}
use Rattle.std.proofs.lemmas.Bool.{cases_lt}
use Rattle.std.proofs.lemmas.Int.{ints}
use Rattle.rt_proofs.proofs.Products.{times_comm, times_assoc}
use Rattle.rt_solved.proofs.Proportional.{times_cancel}
use Rattle.rt_tableau.specs.Numbers.{number_of, HaveNoFactor, IsCommon, AreCombined, SomePast, AreQuotients, IsFirstOver, IsUpdated, PassesAt}
use Rattle.rt_tableau.proofs.Firsts.{first_of_quotients}

regrouped : (k c n d t : ℤ) → k *ℤ n ≡ d *ℤ t → k *ℤ (c *ℤ n) ≡ (d *ℤ c) *ℤ t
regrouped k c n d t e =
    ap (λ z. k *ℤ z) (times_comm c n) ∙ sym (times_assoc k n c) ∙ ap (λ z. z *ℤ c) e ∙ times_assoc d t c ∙ ap (λ z. d *ℤ z) (times_comm t c) ∙ sym (times_assoc d c t)

across : (k c d t : ℤ) → k *ℤ c ≡ (d *ℤ c) *ℤ t → c *ℤ k ≡ c *ℤ (d *ℤ t)
across k c d t e = times_comm c k ∙ e ∙ ap (λ z. z *ℤ t) (times_comm d c) ∙ times_assoc c d t

-- over the greatest common factor numbers have none left
pub no_factor_left : (values numbers : ℕ → ℤ) (factor : ℕ) → IsCommon values factor → ((s : ℕ) → values s ≡ pos factor *ℤ numbers s) → HaveNoFactor numbers
no_factor_left values numbers factor common are = record {
  none = λ d k all.
      let there = common.greatest (d *ℤ pos factor) k (λ s. ((all s).0, ap (λ z. k *ℤ z) (are s) ∙ regrouped k (pos factor) (numbers s) d (all s).0 (all s).1)) in
      (there.0, times_cancel (pos factor) k (d *ℤ there.0) (let p = common.positive in omega (arith, ints, p)) (across k (pos factor) d there.0 there.1));
}

turned_positive : (t : ℤ) → t <ℤ pos 0 → pos 0 <ℤ neg_ℤ t
turned_positive t h = omega (arith, ints, h)

none_of : (b y p : ℤ) → y ≡ pos 0 → p ≡ p +ℤ b *ℤ y
none_of b y p e = omega (arith, ints, ap (λ z. b *ℤ z) e)

pub there_where_positive : (values : List ℤ) (i : ℕ) → pos 0 <ℤ number_of values i → i < length values
there_where_positive values i h =
    elim (cases_lt i (length values)) [
      | inl l ↦ l
      | inr g ↦ absurd (none (number_of values i) (get_or-eq_default values (pos 0) g) h)
    ]
  where
    none : (z : ℤ) → z ≡ pos 0 → pos 0 <ℤ z → ⊥
    none z e g = omega (arith, ints, e, g)

pub updated_by : (line pivot : List ℤ) (q : ℕ) (values new : List ℤ) (factor : ℕ) → AreCombined line pivot q values → IsCommon (number_of values) factor → AreQuotients factor values new → IsUpdated line pivot q new
updated_by line pivot q values new factor are common quotients = record {
  numbers = record {
    factor = factor;
    positive = common.positive;
    each = λ s. sym (quotients.each s).is ∙ are.each s;
    reduced = no_factor_left (number_of values) (number_of new) factor common (λ s. (quotients.each s).is);
  };
  small = record { each = λ s. (quotients.each s).small };
}

pub passes_by : (line pivot : List ℤ) (q : ℕ) (values : List ℤ) (factor s : ℕ) → AreCombined line pivot q values → IsCommon (number_of values) factor → IsFirstOver factor values s → PassesAt line pivot q s
passes_by line pivot q values factor s are common first = record {
  numbers = λ t. (common.each t).0;
  are = record {
    factor = factor;
    positive = common.positive;
    each = λ t. sym (common.each t).1 ∙ are.each t;
    reduced = no_factor_left (number_of values) (λ t. (common.each t).0) factor common (λ t. (common.each t).1);
  };
  first = first_of_quotients factor values (λ t. (common.each t).0) s common.positive (λ t. (common.each t).1) first;
}

-- as code finds them
pub updated_from : (line pivot : List ℤ) (q : ℕ) (values first second new : List ℤ) (found : Option (List ℤ)) (factor : ℕ) → AreCombined line pivot q values → first ≡ values → second ≡ values
    → IsCommon (number_of first) factor → found ≡ Some new → MatchOption found (SomePast factor second) (λ new. AreQuotients factor second new) → IsUpdated line pivot q new
updated_from line pivot q values first second new found factor are e f common is told =
    updated_by line pivot q values new factor are (subst (λ xs. IsCommon (number_of xs) factor) e common)
    (subst (λ xs. AreQuotients factor xs new) f (subst (λ o. MatchOption o (SomePast factor second) (λ new. AreQuotients factor second new)) is told))

pub passes_from : (line pivot : List ℤ) (q : ℕ) (values first third : List ℤ) (factor s : ℕ) → AreCombined line pivot q values → first ≡ values → third ≡ values
    → IsCommon (number_of first) factor → IsFirstOver factor third s → PassesAt line pivot q s
passes_from line pivot q values first third factor s are e f common is =
    passes_by line pivot q values factor s are (subst (λ xs. IsCommon (number_of xs) factor) e common) (subst (λ xs. IsFirstOver factor xs s) f is)
