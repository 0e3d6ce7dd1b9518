-- Values of raises fit their type.
use Rattle.std.proofs.Common.{◌≡◌, ℕ, ◌<◌, ◌^◌, true, false, ℤ, ◌+ℤ◌, ◌≤ℤ◌, ◌<ℤ◌, List, [], ◌∷◌, ◌++◌, length, ◌+◌, set, Option, Some, refl, sym, ap, subst, ◌∙◌, w64, FitsSigned, to_z, of_z, arith}
use Rattle.std.proofs.lemmas.Int.{ints, to_z-of_z}
use Rattle.std.proofs.lemmas.Option.{same_Some}
use lib.Signed.{le_z}
use Rattle.rt_path.specs.declared.event.Step.{Step}
use Rattle.rt_path.specs.declared.event.Event.{Event}
use Rattle.rt_path.specs.declared.event.Last.{Last}
use Rattle.rt_path.specs.Longest.{IsNear}
use Rattle.rt_path.specs.Raises.{IsFit, IsShort, last_at, IsQuiet, IsWanted, IsRaise}

near_fits : (by : ℤ) → IsNear by → FitsSigned w64 by
near_fits by near = omega (arith, ints, near.not_far_down, near.not_far_up)

short_fits : (places : ℕ) (last : Last) → places < 2 ^ 34 → IsShort places last → FitsSigned w64 last.value
short_fits places last few short = omega (arith, ints, short.few, short.not_far_down, short.not_far_up)

sum_fits : (places : ℕ) (last : Last) (by : ℤ) → places < 2 ^ 34 → IsShort places last → IsNear by → FitsSigned w64 (last.value +ℤ by)
sum_fits places last by few short near = omega (arith, ints, short.few, short.not_far_down, short.not_far_up, near.not_far_down, near.not_far_up)

-- what a step asks for, as the code adds it
pub asked_is : (places : ℕ) (last : Last) (by : ℤ) → places < 2 ^ 34 → IsShort places last → IsNear by
    → to_z w64 (of_z w64 last.value) +ℤ to_z w64 (of_z w64 by) ≡ last.value +ℤ by
asked_is places last by few short near =
    ap (λ z. z +ℤ to_z w64 (of_z w64 by)) (to_z-of_z w64 last.value (short_fits places last few short))
    ∙ ap (λ z. last.value +ℤ z) (to_z-of_z w64 by (near_fits by near))

pub asked_fits : (places : ℕ) (last : Last) (by : ℤ) → places < 2 ^ 34 → IsShort places last → IsNear by
    → FitsSigned w64 (to_z w64 (of_z w64 last.value) +ℤ to_z w64 (of_z w64 by))
asked_fits places last by few short near = subst (λ z. FitsSigned w64 z) (sym (asked_is places last by few short near)) (sum_fits places last by few short near)

pub sum_is : (places : ℕ) (last : Last) (by : ℤ) → places < 2 ^ 34 → IsShort places last → IsNear by
    → to_z w64 (of_z w64 (to_z w64 (of_z w64 last.value) +ℤ to_z w64 (of_z w64 by))) ≡ last.value +ℤ by
sum_is places last by few short near =
    ap (λ z. to_z w64 (of_z w64 z)) (asked_is places last by few short near) ∙ to_z-of_z w64 (last.value +ℤ by) (sum_fits places last by few short near)

pub sum_is_still : (places : ℕ) (last : Last) (by : ℤ) → places < 2 ^ 34 → IsShort places last → IsNear by
    → to_z w64 (of_z w64 (to_z w64 (of_z w64 (to_z w64 (of_z w64 last.value) +ℤ to_z w64 (of_z w64 by))))) ≡ last.value +ℤ by
sum_is_still places last by few short near =
    ap (λ z. to_z w64 (of_z w64 z)) (sum_is places last by few short near) ∙ to_z-of_z w64 (last.value +ℤ by) (sum_fits places last by few short near)

pub value_is : (places : ℕ) (last : Last) → places < 2 ^ 34 → IsShort places last → to_z w64 (of_z w64 last.value) ≡ last.value
value_is places last few short = to_z-of_z w64 last.value (short_fits places last few short)

tested : (a b : ℤ) → le_z a b ≡ true → a ≤ℤ b
tested a b e = grind (arith, ints)

not_tested : (a b : ℤ) → le_z a b ≡ false → b <ℤ a
not_tested a b e = grind (arith, ints)

module _ (places : ℕ) (now : List (Option Last)) (step : Step) (from to : Last) (few : places < 2 ^ 34) (fit : IsFit places step)
    (short_from : IsShort places from) (short_to : IsShort places to) (tail : last_at now step.tail ≡ Some from) (head : last_at now step.head ≡ Some to) where
  -- the code's test says whether the step is met
  pub quiet_by : le_z (to_z w64 (of_z w64 (to_z w64 (of_z w64 from.value) +ℤ to_z w64 (of_z w64 step.by)))) (to_z w64 (of_z w64 to.value)) ≡ true → IsQuiet now step
  quiet_by e =
      let h : to_z w64 (of_z w64 (to_z w64 (of_z w64 from.value) +ℤ to_z w64 (of_z w64 step.by))) ≤ℤ to_z w64 (of_z w64 to.value) =
      tested (to_z w64 (of_z w64 (to_z w64 (of_z w64 from.value) +ℤ to_z w64 (of_z w64 step.by)))) (to_z w64 (of_z w64 to.value)) e in
      record {
        met = λ f g.
            let is : from ≡ f = same_Some from f (sym tail ∙ g) in
            (to, head, omega (arith, ints, h, sum_is places from step.by few short_from fit.near, value_is places to few short_to, ap (λ x. x.value) is));
      }

  pub wanted_by : le_z (to_z w64 (of_z w64 (to_z w64 (of_z w64 from.value) +ℤ to_z w64 (of_z w64 step.by)))) (to_z w64 (of_z w64 to.value)) ≡ false → IsWanted now step from
  wanted_by e =
      let h : to_z w64 (of_z w64 to.value) <ℤ to_z w64 (of_z w64 (to_z w64 (of_z w64 from.value) +ℤ to_z w64 (of_z w64 step.by))) =
      not_tested (to_z w64 (of_z w64 (to_z w64 (of_z w64 from.value) +ℤ to_z w64 (of_z w64 step.by)))) (to_z w64 (of_z w64 to.value)) e in
      record {
        tail = tail;
        wanting = λ t g.
            let is : to ≡ t = same_Some to t (sym head ∙ g) in
            omega (arith, ints, h, sum_is places from step.by few short_from fit.near, value_is places to few short_to, ap (λ x. x.value) is);
      }

-- what the code writes is the raise
pub raise_is : (number : ℕ) (step : Step) (log log' : List Event) (now : List (Option Last)) (from : Last) (event : ℕ) (value value' : ℤ)
    → IsWanted now step from → value ≡ from.value +ℤ step.by → value' ≡ from.value +ℤ step.by → event ≡ length log
    → log' ≡ log ++ record { place = step.head; step = number; before = from.event; value = value'; length = from.length + 1 } ∷ []
    → IsRaise number step log now log' (set now step.head (Some (record { event = event; value = value; length = from.length + 1 })))
    (record { event = event; value = value; length = from.length + 1 })
raise_is number step log log' now from event value value' wanted is is' at logged = record {
  from = from;
  tail = wanted.tail;
  wanting = wanted.wanting;
  is = λ i. record { event = at i; value = is i; length = from.length + 1 };
  logged = logged ∙ (λ i. log ++ record { place = step.head; step = number; before = from.event; value = is' i; length = from.length + 1 } ∷ []);
  kept = refl;
}
