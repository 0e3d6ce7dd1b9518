-- What a sort by group, then by the first place, gives.
use Rattle.std.proofs.Common.{◌≡◌, ◌<ℤ◌, ◌<◌, false, List, get_or, refl, arith, Ordering, Less, Equal, Greater, nat_cmp, int_cmp, is_lt}
use Rattle.std.proofs.lemmas.Int.{ints}
use Rattle.std.proofs.lemmas.Cmp.{ranked, int_ranked, nat_cmp_total, int_cmp_total, on_total, then_total}
use Rattle.std.proofs.lemmas.List.Sorted.{sorted_far, ranks_by}
use Rattle.std.specs.List.Sorted.{IsSortedBy}
use Rattle.std.specs.Ordering.{ordering_then, MatchOrdering}
use Rattle.std.specs.Cmp.{IsTotalOrder}
use Rattle.rt_near.specs.declared.entry.Entry.{Entry}
use Rattle.rt_near.specs.Entries.{IsUpTo, AreInOrder}

-- how two entries compare by group, then by the first place
abbrev pub compare_entries : Entry → Entry → Ordering
compare_entries a b = ordering_then (nat_cmp a.at.group b.at.group) (int_cmp a.at.low b.at.low)

by_two : (p q : Entry) (r s : Ordering) → MatchOrdering r (q.at.group < p.at.group) (q.at.group ≡ p.at.group) (p.at.group < q.at.group)
    → MatchOrdering s (q.at.low <ℤ p.at.low) (q.at.low ≡ p.at.low) (p.at.low <ℤ q.at.low) → is_lt (ordering_then r s) ≡ false → IsUpTo p q
by_two p q Less s h g e = cc
by_two p q Greater s h g e = record { groups = omega (arith, h); lows = λ l. absurd (omega (arith, h, l)) }
by_two p q Equal Less h g e = cc
by_two p q Equal Greater h g e = record { groups = omega (arith, h); lows = λ l. omega (arith, ints, g) }
by_two p q Equal Equal h g e = record { groups = omega (arith, h); lows = λ l. omega (arith, ints, g) }

entries_total : IsTotalOrder compare_entries
entries_total = then_total (on_total (λ (e : Entry). e.at.group) nat_cmp_total) (on_total (λ (e : Entry). e.at.low) int_cmp_total)

pub order_by_sort : (entries : List Entry) → IsSortedBy (λ a b. is_lt (compare_entries a b)) entries → AreInOrder entries
order_by_sort entries sorted = record {
  in_order = λ i j d h below.
      let p = get_or entries i d in
      let q = get_or entries j d in
      by_two p q (nat_cmp q.at.group p.at.group) (int_cmp q.at.low p.at.low) (ranked q.at.group p.at.group _ refl) (int_ranked q.at.low p.at.low _ refl)
      (sorted_far (λ a b. is_lt (compare_entries a b)) (ranks_by entries_total (λ e. e)) entries sorted i j d (omega arith) below);
}
