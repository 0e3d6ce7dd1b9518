-- The least and the greatest top of bars, one bar after the other.
use Rattle.std.proofs.Common.{◌≡◌, ℕ, ◌+◌, ◌<◌, ℤ, ◌≤ℤ◌, ◌<ℤ◌, ◌⊎◌, List, length, get_or, All, refl, sym, subst, ap, ◌∙◌, arith, inl, inr}
use Rattle.std.proofs.lemmas.Int.{ints}
use Rattle.std.proofs.lemmas.List.Elements.{at_read}
use Rattle.rt_cells.proofs.Numbers.{below_or_at}
use Rattle.rt_sweep.specs.declared.bar.Bar.{Bar}

-- the element at a place, whatever stands for none
pub read_at : (bars : List Bar) (i : ℕ) (bar : Bar) → i < length bars → bar ≡ get_or bars i bar → (d : Bar) → get_or bars i d ≡ bar
read_at bars i bar lt is = at_read bars (λ b. b ≡ bar) i bar lt is refl

-- the least of the height and of the tops of the bars before a place
pub record IsLeastTo (bars : List Bar) (i : ℕ) (height least : ℤ) : Type 0 where
  pub at_most : least ≤ℤ height
  pub tops : (k : ℕ) (d : Bar) → k < i → least ≤ℤ (get_or bars k d).at.y2
  pub greatest : (low : ℤ) → low <ℤ height → All (λ (bar : Bar). low <ℤ bar.at.y2) bars → low <ℤ least

pub less : (bars : List Bar) (i : ℕ) (height least new : ℤ) (bar : Bar) → i < length bars → bar ≡ get_or bars i bar
    → new ≤ℤ least → new ≤ℤ bar.at.y2 → (least ≤ℤ new) ⊎ (bar.at.y2 ≤ℤ new) → IsLeastTo bars i height least → IsLeastTo bars (i + 1) height new
less bars i height least new bar lt is low lower one before = record {
  at_most = omega (arith, ints, before.at_most);
  tops = λ k d h. elim (below_or_at k i h) [
    | inl l ↦ omega (arith, ints, before.tops k d l)
    | inr e ↦ subst (λ (b : Bar). new ≤ℤ b.at.y2) (sym (ap (λ n. get_or bars n d) e ∙ read_at bars i bar lt is d)) lower
  ];
  greatest = λ z h all.
      let first = before.greatest z h all in
      let second : z <ℤ bar.at.y2 = subst (λ (b : Bar). z <ℤ b.at.y2) (read_at bars i bar lt is bar) (all i bar lt) in
      elim one [ inl l ↦ omega (arith, ints, first) | inr l ↦ omega (arith, ints, second) ];
}

-- a height at which the bars before a place have ended
pub record IsGreatestTo (bars : List Bar) (i : ℕ) (height greatest : ℤ) : Type 0 where
  pub from : height ≤ℤ greatest
  pub tops : (k : ℕ) (d : Bar) → k < i → (get_or bars k d).at.y2 ≤ℤ greatest

pub greater : (bars : List Bar) (i : ℕ) (height greatest new : ℤ) (bar : Bar) → i < length bars → bar ≡ get_or bars i bar
    → greatest ≤ℤ new → bar.at.y2 ≤ℤ new → IsGreatestTo bars i height greatest → IsGreatestTo bars (i + 1) height new
greater bars i height greatest new bar lt is more high before = record {
  from = omega (arith, ints, before.from);
  tops = λ k d h. elim (below_or_at k i h) [
    | inl l ↦ omega (arith, ints, before.tops k d l)
    | inr e ↦ subst (λ (b : Bar). b.at.y2 ≤ℤ new) (sym (ap (λ n. get_or bars n d) e ∙ read_at bars i bar lt is d)) high
  ];
}
