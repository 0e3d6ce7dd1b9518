-- The greatest common divisor keeps what divides a multiple of each number.
use Rattle.std.proofs.Common.{◌≡◌, ℕ, zero, suc, ◌+◌, ◌/◌, ◌%◌, ◌<◌, ◌≤◌, ℤ, pos, negsuc, neg_ℤ, ◌+ℤ◌, ◌-ℤ◌, ◌*ℤ◌, ◌<ℤ◌, List, length, get_or, refl, sym, ap, subst, ◌∙◌, inl, inr, to_z, of_z, arith}
use Rattle.std.proofs.Math.Nat.{div-mul_cancel, div-add-mod}
use Rattle.std.proofs.Math.ListN.{get_or-eq_default}
use Rattle.std.proofs.lemmas.Bool.{cases_lt}
use Rattle.std.proofs.lemmas.Int.{ints}
use Rattle.std.proofs.lemmas.List.{get_or_default}
use Rattle.std.proofs.lemmas.Nat.Gcd.{IsGcd-from_zero, IsGcd-from_mod, same_from_IsGcd, le_of_dvd}
use mir.Syntax.{w128}
use Rattle.std.specs.Int.{IsGcd, ◌∣◌}
use Rattle.std.specs.Int.RustNames.{unsigned_abs}
use Rattle.rt_cells.proofs.Times.{times_sum, times_sub}
use Rattle.rt_proofs.proofs.Products.{times_assoc}
use Rattle.rt_frac.proofs.Lowest.{some_divisor}
use Rattle.rt_solved.specs.Lines.{Divides}
use Rattle.rt_tableau.specs.Numbers.{number_of, AreWide, IsCommon}
use Rattle.rt_tableau.proofs.Quotients.{wide_stored}

-- what divides a multiple of both numbers divides that of the third
record Keeps (a b g : ℕ) : Type 0 where
  pub keeps : (d k : ℤ) → Divides d (k *ℤ pos a) → Divides d (k *ℤ pos b) → Divides d (k *ℤ pos g)

rest_of : (k a b q r d u v : ℤ) → b *ℤ q +ℤ r ≡ a → k *ℤ a ≡ d *ℤ u → k *ℤ b ≡ d *ℤ v → k *ℤ r ≡ d *ℤ (u -ℤ v *ℤ q)
rest_of k a b q r d u v e f g =
    let whole : k *ℤ (b *ℤ q) ≡ d *ℤ (v *ℤ q) = sym (times_assoc k b q) ∙ ap (λ z. z *ℤ q) g ∙ times_assoc d v q in
    omega (arith, ints, times_sum k (b *ℤ q) r, ap (λ z. k *ℤ z) e, f, whole, times_sub d u (v *ℤ q))

as_integers : (a b : ℕ) → pos b *ℤ pos (a / b) +ℤ pos (a % b) ≡ pos a
as_integers a b = ap pos (div-add-mod a b)

euclid : (n a b : ℕ) → b ≤ n → (g : ℕ) × IsGcd a b g × Keeps a b g
euclid zero a b h = (a, IsGcd-from_zero a b (omega (arith, h)), record { keeps = λ d k x y. x })
euclid (suc n) a zero h = (a, IsGcd-from_zero a zero refl, record { keeps = λ d k x y. x })
euclid (suc n) a (suc b) h =
    let r = euclid n (suc b) (a % suc b) (omega (arith, h)) in (
      r.0,
      IsGcd-from_mod a (suc b) r.0 r.1,
      record {
        keeps = λ d k x y.
            r.2.keeps d k y (x.0 -ℤ y.0 *ℤ pos (a / suc b), rest_of k (pos a) (pos (suc b)) (pos (a / suc b)) (pos (a % suc b)) d x.0 y.0 (as_integers a (suc b)) x.1 y.1);
      },
    )

-- the greatest common divisor is that of Euclid's steps
gcd_keeps : (a b g : ℕ) → IsGcd a b g → Keeps a b g
gcd_keeps a b g is = let r = euclid b a b (omega arith) in subst (Keeps a b) (same_from_IsGcd a b r.0 g r.1 is) r.2

turned : (k : ℤ) (n : ℕ) → k *ℤ pos (suc n) ≡ neg_ℤ (k *ℤ negsuc n)
turned (pos zero) n = omega (arith, ints)
turned (pos (suc k)) n = omega (arith, ints)
turned (negsuc k) n = omega (arith, ints)

pub times_turned : (d u : ℤ) → neg_ℤ (d *ℤ u) ≡ d *ℤ neg_ℤ u
times_turned d u = omega (arith, ints, times_sub d (pos 0) u, ap (λ z. d *ℤ z) (less_none u), times_none d)
  where
    less_none : (z : ℤ) → pos 0 -ℤ z ≡ neg_ℤ z
    less_none z = omega (arith, ints)

    times_none : (z : ℤ) → z *ℤ pos 0 ≡ pos 0
    times_none z = omega (arith, ints)

-- what divides a multiple of a number divides that of its magnitude
of_magnitude : (d k z : ℤ) → Divides d (k *ℤ z) → Divides d (k *ℤ pos (unsigned_abs z))
of_magnitude d k (pos n) x = x
of_magnitude d k (negsuc n) x = (neg_ℤ x.0, turned k n ∙ ap neg_ℤ x.1 ∙ times_turned d x.0)

divides_natural : (g n : ℕ) → g ∣ n → pos n ≡ pos g *ℤ pos (n / g)
divides_natural g n h = let e = div-mul_cancel g h in omega (arith, ints, e)

-- what divides the magnitude divides the number
whole_number : (g : ℕ) (z : ℤ) → g ∣ unsigned_abs z → Divides (pos g) z
whole_number g (pos n) h = (pos (n / g), divides_natural g n h)
whole_number g (negsuc n) h = (neg_ℤ (pos (suc n / g)), ap neg_ℤ (divides_natural g (suc n) h) ∙ times_turned (pos g) (pos (suc n / g)))

-- a divisor of a divisor divides
divides_through : (g f : ℕ) (z : ℤ) → g ∣ f → Divides (pos f) z → Divides (pos g) z
divides_through g f z h x = (pos (f / g) *ℤ x.0, x.1 ∙ ap (λ t. t *ℤ x.0) (divides_natural g f h) ∙ times_assoc (pos g) (pos (f / g)) x.0)

-- what the loop keeps: it divides the numbers so far
pub record IsCommonSoFar (values : List ℤ) (place i common : ℕ) : Type 0 where
  pub positive : 0 < common
  pub small : common ≤ unsigned_abs (number_of values place)
  pub each : (s : ℕ) → s < i → Divides (pos common) (number_of values s)
  pub greatest : (d k : ℤ) → ((s : ℕ) → Divides d (k *ℤ number_of values s)) → Divides d (k *ℤ pos common)

some_magnitude : (z : ℤ) → pos 0 <ℤ z → 0 < unsigned_abs z
some_magnitude (pos n) h = omega (arith, ints, h)
some_magnitude (negsuc n) h = absurd (omega (arith, ints, h))

pub common_at_first : (values : List ℤ) (place : ℕ) → pos 0 <ℤ number_of values place → IsCommonSoFar values place 0 (unsigned_abs (number_of values place))
common_at_first values place h = record {
  positive = some_magnitude (number_of values place) h;
  small = omega arith;
  each = λ s l. absurd (omega (arith, l));
  greatest = λ d k all. of_magnitude d k (number_of values place) (all place);
}

pub common_further : (values : List ℤ) (place i common next : ℕ) → IsCommonSoFar values place i common → IsGcd common (unsigned_abs (number_of values i)) next
    → IsCommonSoFar values place (i + 1) next
common_further values place i common next so is = record {
  positive = some_divisor common next is.0 so.positive;
  small = smaller common next (unsigned_abs (number_of values place)) (le_of_dvd so.positive is.0) so.small;
  each = each_next;
  greatest = λ d k all. (gcd_keeps common (unsigned_abs (number_of values i)) next is).keeps d k (so.greatest d k all) (of_magnitude d k (number_of values i) (all i));
}
  where
    smaller : (a b c : ℕ) → b ≤ a → a ≤ c → b ≤ c
    smaller a b c h g = omega (arith, h, g)

    each_next : (s : ℕ) → s < i + 1 → Divides (pos next) (number_of values s)
    each_next s h =
        elim (cases_lt s i) [
          | inl l ↦ divides_through next common (number_of values s) is.0 (so.each s l)
          | inr g ↦ subst (λ t. Divides (pos next) (number_of values t)) (omega (arith, g, h)) (whole_number next (number_of values i) is.1)
        ]

times_nothing : (z : ℤ) → pos 0 ≡ z *ℤ pos 0
times_nothing z = omega (arith, ints)

pub common_at_last : (values : List ℤ) (place i common : ℕ) → IsCommonSoFar values place i common → length values ≤ i → IsCommon (number_of values) common
common_at_last values place i common so h = record { positive = so.positive; each = each_of; greatest = so.greatest }
  where
    each_of : (s : ℕ) → Divides (pos common) (number_of values s)
    each_of s =
        elim (cases_lt s i) [
          | inl l ↦ so.each s l
          | inr g ↦ (pos 0, get_or-eq_default values (pos 0) (omega (arith, h, g)) ∙ times_nothing (pos common))
        ]

-- an element that code reads of wide numbers
pub read_of : (values : List ℤ) (i : ℕ) (d : ℤ) (size : ℕ) → AreWide values → i < length values → size ≡ unsigned_abs (to_z w128 (of_z w128 (get_or values i d)))
    → size ≡ unsigned_abs (number_of values i)
read_of values i d size wide h e =
    let same : get_or values i d ≡ number_of values i = get_or_default values i d (pos 0) h in
    e ∙ ap (λ z. unsigned_abs (to_z w128 (of_z w128 z))) same ∙ ap unsigned_abs (wide_stored (number_of values i) (wide.each i))
