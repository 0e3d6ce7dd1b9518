-- How far the bars of strips reach, one bar after another.
use Rattle.std.proofs.Common.{◌≡◌, ℕ, ◌+◌, ◌-◌, ◌^◌, ◌<◌, ◌≤◌, ℤ, negsuc, ◌≤ℤ◌, ◌<ℤ◌, List, length, get_or, ap, subst, sym, ◌∙◌, refl, arith, inl, inr}
use Rattle.std.proofs.lemmas.Int.{ints}
use Rattle.rt_cells.proofs.Numbers.{last_or_before}
use Rattle.rt_sweep.specs.declared.bar.Bar.{Bar}
use Rattle.rt_cover.specs.Across.{IsReachUpTo, Takes}

farther : (a b c : ℤ) → a ≤ℤ b → b ≤ℤ c → a ≤ℤ c
farther a b c h k = omega (arith, ints)

sooner : (a b : ℤ) → a <ℤ b → a ≤ℤ b
sooner a b h = omega (arith, ints)

self : (a : ℤ) → a ≤ℤ a
self a = omega (arith, ints)

-- before the first bar
pub no_reach : (bars : List Bar) (count : ℕ) (left : ℤ) → IsReachUpTo bars count left 0 (negsuc (2 ^ 63 - 1))
no_reach bars count left = record {
  inside = omega arith;
  begun = λ k d h. absurd (omega arith);
  most = λ k d h. absurd (omega arith);
  of_one = inr refl;
}

-- the bars that begin at a column or to the left of it do so for every column to the right
pub reach_onward : (bars : List Bar) (count : ℕ) (left left' : ℤ) (next : ℕ) (right : ℤ) → left ≤ℤ left' → IsReachUpTo bars count left next right
    → IsReachUpTo bars count left' next right
reach_onward bars count left left' next right h reach = record {
  inside = reach.inside;
  begun = λ k d l. farther _ _ _ (reach.begun k d l) h;
  most = reach.most;
  of_one = reach.of_one;
}

module _ (bars : List Bar) (count : ℕ) (left : ℤ) (next : ℕ) (right : ℤ) (bar : Bar) (at : (d : Bar) → get_or bars next d ≡ bar)
    (there : next < length bars) (low : bar.at.x1 ≤ℤ left) (so_far : IsReachUpTo bars count left next right) where
  begun_more : (k : ℕ) (d : Bar) → k < next + 1 → (get_or bars k d).at.x1 ≤ℤ left
  begun_more k d h = elim (last_or_before next k h) [
    | inl e ↦ subst (λ (b : Bar). b.at.x1 ≤ℤ left) (sym (ap (λ i. get_or bars i d) e ∙ at d)) low
    | inr l ↦ so_far.begun k d l
  ]

  most_more : (right' : ℤ) → (count ≤ bar.tag → bar.at.x2 ≤ℤ right') → right ≤ℤ right' → (k : ℕ) (d : Bar) → k < next + 1 → count ≤ (get_or bars k d).tag
      → (get_or bars k d).at.x2 ≤ℤ right'
  most_more right' mine onward k d h = elim (last_or_before next k h) [
    | inl e ↦ subst (λ (b : Bar). count ≤ b.tag → b.at.x2 ≤ℤ right') (sym (ap (λ i. get_or bars i d) e ∙ at d)) mine
    | inr l ↦ λ t. farther _ _ _ (so_far.most k d l t) onward
  ]

  taken_on : count ≤ bar.tag → right <ℤ bar.at.x2 → IsReachUpTo bars count left (next + 1) bar.at.x2
  taken_on e l = record {
    inside = omega arith;
    begun = begun_more;
    most = most_more bar.at.x2 (λ t. self bar.at.x2) (sooner right bar.at.x2 l);
    of_one = inl (record { place = next; before = omega arith; tagged = λ d. subst (λ (b : Bar). count ≤ b.tag) (sym (at d)) e; at = λ d. ap (λ (b : Bar). b.at.x2) (at d) });
  }

  passed_by : (count ≤ bar.tag → bar.at.x2 ≤ℤ right) → IsReachUpTo bars count left (next + 1) right
  passed_by f = record {
    inside = omega arith;
    begun = begun_more;
    most = most_more right f (self right);
    of_one = elim so_far.of_one [
      | inl e ↦ inl (record { place = e.place; before = omega (arith, e.before); tagged = e.tagged; at = e.at })
      | inr e ↦ inr e
    ];
  }

  -- one bar more
  pub taken : (next' : ℕ) (right' : ℤ) → Takes bar count next right next' right' → IsReachUpTo bars count left next' right'
  taken next' right' takes =
      subst (λ n. IsReachUpTo bars count left n right') (sym takes.onward)
      (elim takes.either [
        | inl t ↦ subst (IsReachUpTo bars count left (next + 1)) (sym t.2) (taken_on t.0 t.1)
        | inr t ↦ subst (IsReachUpTo bars count left (next + 1)) (sym t.1) (passed_by t.0)
      ])
