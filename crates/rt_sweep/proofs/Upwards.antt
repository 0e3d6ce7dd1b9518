-- What a sort by bottom, then left, gives.
use Rattle.std.proofs.Common.{◌≡◌, ◌<ℤ◌, false, List, get_or, refl, arith, Ordering, Less, Equal, Greater, int_cmp, is_lt}
use Rattle.std.proofs.lemmas.Int.{ints}
use Rattle.std.proofs.lemmas.Cmp.{int_ranked, int_cmp_total, on_total, then_total}
use Rattle.std.proofs.lemmas.List.Sorted.{sorted_far, ranks_by}
use Rattle.std.specs.List.Sorted.{IsSortedBy}
use Rattle.std.specs.Ordering.{ordering_then, MatchOrdering}
use Rattle.std.specs.Cmp.{IsTotalOrder}
use Rattle.rt_sweep.specs.declared.bar.Bar.{Bar}
use Rattle.rt_sweep.specs.Rows.{ComesUp, AreUpwards}

-- how two bars compare by bottom, then left
abbrev compare_bars : Bar → Bar → Ordering
compare_bars a b = ordering_then (int_cmp a.at.y1 b.at.y1) (int_cmp a.at.x1 b.at.x1)

by_two : (p q : Bar) (r s : Ordering) → MatchOrdering r (q.at.y1 <ℤ p.at.y1) (q.at.y1 ≡ p.at.y1) (p.at.y1 <ℤ q.at.y1)
    → MatchOrdering s (q.at.x1 <ℤ p.at.x1) (q.at.x1 ≡ p.at.x1) (p.at.x1 <ℤ q.at.x1) → is_lt (ordering_then r s) ≡ false → ComesUp p q
by_two p q Less s h g e = cc
by_two p q Greater s h g e = record { bottoms = omega (arith, ints, h); lefts = λ l. absurd (omega (arith, ints, h, l)) }
by_two p q Equal Less h g e = cc
by_two p q Equal Greater h g e = record { bottoms = omega (arith, ints, h); lefts = λ l. omega (arith, ints, g) }
by_two p q Equal Equal h g e = record { bottoms = omega (arith, ints, h); lefts = λ l. omega (arith, ints, g) }

bars_total : IsTotalOrder compare_bars
bars_total = then_total (on_total (λ (b : Bar). b.at.y1) int_cmp_total) (on_total (λ (b : Bar). b.at.x1) int_cmp_total)

pub upwards_by_sort : (bars : List Bar) → IsSortedBy (λ a b. is_lt (compare_bars a b)) bars → AreUpwards bars
upwards_by_sort bars sorted = λ i j d h below.
    let p = get_or bars i d in
    let q = get_or bars j d in
    by_two p q (int_cmp q.at.y1 p.at.y1) (int_cmp q.at.x1 p.at.x1) (int_ranked q.at.y1 p.at.y1 _ refl) (int_ranked q.at.x1 p.at.x1 _ refl)
    (sorted_far (λ a b. is_lt (compare_bars a b)) (ranks_by bars_total (λ b. b)) bars sorted i j d (omega arith) below)
