-- Edges of strips in order.
use Rattle.std.proofs.Common.{◌≡◌, ◌≢◌, ℕ, ◌<◌, ◌≤◌, ℤ, pos, ◌-ℤ◌, ◌≤ℤ◌, ◌<ℤ◌, false, List, length, get_or, refl, sym, subst, subst₂, ◌∙◌, arith, inl, inr, Ordering, Less, Equal, Greater, nat_cmp, int_cmp, is_lt}
use Rattle.std.specs.Prelude.{AllPairs}
use Rattle.std.proofs.lemmas.Int.{ints}
use Rattle.std.proofs.lemmas.Cmp.{ranked, int_ranked, nat_cmp_total, int_cmp_total, on_total, then_total}
use Rattle.std.proofs.lemmas.List.Sorted.{sorted_far, ranks_by}
use Rattle.std.specs.List.Sorted.{IsPermutation, IsSortedBy}
use Rattle.std.specs.Ordering.{ordering_then, MatchOrdering}
use Rattle.std.specs.Cmp.{IsTotalOrder}
use Rattle.rt_cells.specs.Line.{Within}
use Rattle.rt_cells.proofs.Lines.{first_place, last_place}
use Rattle.rt_strips.specs.declared.meeting.Edge.{Edge}
use Rattle.rt_strips.specs.declared.meeting.Side.TheVariants.{Top, Bottom}
use Rattle.rt_strips.specs.Placed.{Placed, strip_at, left_of, right_of, bottom_of, top_of, covered_by}
use Rattle.rt_strips.specs.Standing.{IsStrip, AreOfOneMask}
use Rattle.rt_strips.specs.StripsOf.{ComesBefore, AreStrips}
use Rattle.rt_strips.specs.Meetings.{edge_of, AreEdgesOf, IsEdgeBefore, EndsNoLater, Meet}
use Rattle.rt_strips.specs.Meetings.IsEdgeBefore.{on_lower_mask, in_lower_row, on_the_left}
use Rattle.rt_strips.specs.Meetings.EndsNoLater.{ends_on_lower_mask, ends_in_lower_row, ends_no_further}
use Rattle.rt_strips.specs.Edges.{compare_places, IsSortedByPlace}
use Rattle.rt_strips.proofs.Family.{parted_in_row}
use Rattle.rt_strips.proofs.Renumbering.{renumbered}

pub by_mask : (a b : Edge) → a.mask < b.mask → EndsNoLater a b
by_mask a b h = ends_on_lower_mask h

pub by_row : (a b : Edge) → a.mask ≤ b.mask → b.mask ≤ a.mask → a.height <ℤ b.height → EndsNoLater a b
by_row a b h g l = ends_in_lower_row (omega (arith, h, g)) l

pub by_right : (a b : Edge) → a.mask ≤ b.mask → b.mask ≤ a.mask → a.height ≤ℤ b.height → b.height ≤ℤ a.height → a.right ≤ℤ b.right → EndsNoLater a b
by_right a b h g k l m = ends_no_further (omega (arith, h, g)) (omega (arith, ints, k, l)) m

pub ruleset ending = (by_mask, by_row, by_right)

-- an edge that ends no later than another doesn't meet one behind that one
pub passed : (a b d : Edge) → EndsNoLater a b → IsEdgeBefore b d → ¬ Meet a d
passed a b d (ends_on_lower_mask h) (on_lower_mask g) m = omega (arith, h, g, m.one_mask)
passed a b d (ends_on_lower_mask h) (in_lower_row g _) m = omega (arith, h, g, m.one_mask)
passed a b d (ends_on_lower_mask h) (on_the_left g _ _) m = omega (arith, h, g, m.one_mask)
passed a b d (ends_in_lower_row h _) (on_lower_mask g) m = omega (arith, h, g, m.one_mask)
passed a b d (ends_in_lower_row _ h) (in_lower_row _ g) m = omega (arith, ints, h, g, m.one_row)
passed a b d (ends_in_lower_row _ h) (on_the_left _ g _) m = omega (arith, ints, h, g, m.one_row)
passed a b d (ends_no_further h _ _) (on_lower_mask g) m = omega (arith, h, g, m.one_mask)
passed a b d (ends_no_further _ h _) (in_lower_row _ g) m = omega (arith, ints, h, g, m.one_row)
passed a b d (ends_no_further _ _ h) (on_the_left _ _ g) m = omega (arith, ints, h, g, m.second)

-- the same for one behind it, of which the other is the first
pub passed_back : (a b d : Edge) → EndsNoLater b a → IsEdgeBefore a d → ¬ Meet d b
passed_back a b d h g m = passed b a d h g (record { one_mask = sym m.one_mask; one_row = sym m.one_row; first = m.second; second = m.first })

-- the first place comes before the second, or is the same: how, by mask, then height, then left end
data IsUpTo (a b : Edge) : Type 0 where
  lower_mask : a.mask < b.mask → IsUpTo a b
  lower_height : a.mask ≡ b.mask → a.height <ℤ b.height → IsUpTo a b
  no_later_left : a.mask ≡ b.mask → a.height ≡ b.height → a.left ≤ℤ b.left → IsUpTo a b

at_most : (l l' : ℤ) → l <ℤ l' → l ≤ℤ l'
at_most l l' h = omega (arith, ints)

at_most_same : (l l' : ℤ) → l' ≡ l → l ≤ℤ l'
at_most_same l l' h = omega (arith, ints)

by_three : (a b : Edge) (r s t : Ordering)
    → MatchOrdering r (b.mask < a.mask) (b.mask ≡ a.mask) (a.mask < b.mask)
    → MatchOrdering s (b.height <ℤ a.height) (b.height ≡ a.height) (a.height <ℤ b.height)
    → MatchOrdering t (b.left <ℤ a.left) (b.left ≡ a.left) (a.left <ℤ b.left)
    → is_lt (ordering_then (ordering_then r s) t) ≡ false → IsUpTo a b
by_three a b Less s t h g k e = cc
by_three a b Greater s t h g k e = lower_mask h
by_three a b Equal Less t h g k e = cc
by_three a b Equal Greater t h g k e = lower_height (sym h) g
by_three a b Equal Equal Less h g k e = cc
by_three a b Equal Equal Greater h g k e = no_later_left (sym h) (sym g) (at_most a.left b.left k)
by_three a b Equal Equal Equal h g k e = no_later_left (sym h) (sym g) (at_most_same a.left b.left k)

by_places : (a b : Edge) → is_lt (compare_places b a) ≡ false → IsUpTo a b
by_places a b h =
    by_three a b (nat_cmp b.mask a.mask) (int_cmp b.height a.height) (int_cmp b.left a.left)
    (ranked b.mask a.mask _ refl) (int_ranked b.height a.height _ refl) (int_ranked b.left a.left _ refl) h

places_total : IsTotalOrder compare_places
places_total =
    then_total (then_total (on_total (λ (e : Edge). e.mask) nat_cmp_total) (on_total (λ (e : Edge). e.height) int_cmp_total)) (on_total (λ (e : Edge). e.left) int_cmp_total)

no_later : (i j : ℕ) → i < j → i ≤ j
no_later i j h = omega arith

-- what a sort by the key ensures
pub sorted_by_place : (edges : List Edge) → IsSortedBy (λ a b. is_lt (compare_places a b)) edges → IsSortedByPlace edges
sorted_by_place edges sorted = record {
  sorted = λ i j d h below. sorted_far (λ a b. is_lt (compare_places a b)) (ranks_by places_total (λ e. e)) edges sorted i j d (no_later i j h) below;
}

not_left_of : (l r l' r' : ℤ) → l ≤ℤ l' → l' <ℤ r' → r' <ℤ l → ⊥
not_left_of l r l' r' h g k = omega (arith, ints)

below_itself : (i : ℕ) → i < i → ⊥
below_itself i h = omega arith

module _ (strips : List Placed) (are : AreStrips strips) where
  -- of two strips of a mask with a common row, of which the first begins no later, a column lies between
  left_of_other : (i j : ℕ) → i ≢ j → AreOfOneMask strips i j → (y : ℤ) → Within (bottom_of strips i) (top_of strips i) y → Within (bottom_of strips j) (top_of strips j) y
      → left_of strips i ≤ℤ left_of strips j → right_of strips i <ℤ left_of strips j
  left_of_other i j other one y h g l =
      elim (parted_in_row (λ m. covered_by m strips) are.masks strips are.strips_are i j one y h g) [
        | inl e ↦ absurd (other e)
        | inr (inl k) ↦ k
        | inr (inr k) ↦ absurd (not_left_of (left_of strips i) (right_of strips i) (left_of strips j) (right_of strips j) l (are.strips_are.nonempty j one.second).across k)
      ]

  bottoms_by : (i j : ℕ) → i < j → IsStrip strips i → IsStrip strips j → ComesBefore strips i j → IsEdgeBefore (edge_of Bottom (strip_at strips i) i) (edge_of Bottom (strip_at strips j) j)
  bottoms_by i j h p q (inl m) = on_lower_mask m
  bottoms_by i j h p q (inr (m, inl b)) = in_lower_row m b
  bottoms_by i j h p q (inr (m, inr (b, l))) =
      on_the_left m b (left_of_other i j (λ e. below_itself i (subst (λ k. i < k) (sym e) h)) (record { first = p; second = q; one_mask = m }) (bottom_of strips j)
      (subst (λ y. Within (bottom_of strips i) (top_of strips i) y) b (first_place _ _ (are.strips_are.nonempty i p).upwards))
      (first_place _ _ (are.strips_are.nonempty j q).upwards) (at_most (left_of strips i) (left_of strips j) l))

  -- the bottoms of strips are in order
  pub bottoms_in_order : (edges : List Edge) → AreEdgesOf Bottom strips edges → AllPairs IsEdgeBefore edges
  bottoms_in_order edges of i j d h g =
      let below : j < length strips = subst (λ n. j < n) of.count g in
      let p : IsStrip strips i = record { below_count = omega (arith, h, below) } in
      let q : IsStrip strips j = record { below_count = below } in
      subst₂ IsEdgeBefore (sym (of.each i d p.below_count)) (sym (of.each j d below)) (bottoms_by i j h p q (are.strips_are.in_order i j h q))

  -- and of strips with numbers that rise
  pub bottoms_numbered : (edges : List Edge) → AreEdgesOf Bottom strips edges → AllPairs (λ (a b : Edge). a.strip ≤ b.strip) edges
  bottoms_numbered edges of i j d h g =
      let below : j < length strips = subst (λ n. j < n) of.count g in
      subst₂ (λ (a b : Edge). a.strip ≤ b.strip) (sym (of.each i d (omega (arith, h, below)))) (sym (of.each j d below)) (no_later i j h)

  tops_by : (i j : ℕ) → i ≢ j → IsStrip strips i → IsStrip strips j → IsUpTo (edge_of Top (strip_at strips i) i) (edge_of Top (strip_at strips j) j)
      → IsEdgeBefore (edge_of Top (strip_at strips i) i) (edge_of Top (strip_at strips j) j)
  tops_by i j other p q (lower_mask m) = on_lower_mask m
  tops_by i j other p q (lower_height m t) = in_lower_row m t
  tops_by i j other p q (no_later_left m t l) =
      on_the_left m t (left_of_other i j other (record { first = p; second = q; one_mask = m }) (top_of strips j -ℤ pos 1)
      (subst (λ y. Within (bottom_of strips i) (top_of strips i) (y -ℤ pos 1)) t (last_place _ _ (are.strips_are.nonempty i p).upwards))
      (last_place _ _ (are.strips_are.nonempty j q).upwards) l)

  -- the tops of strips, sorted, are in order
  pub tops_in_order : (edges sorted : List Edge) → AreEdgesOf Top strips edges → IsPermutation edges sorted → IsSortedByPlace sorted → AllPairs IsEdgeBefore sorted
  tops_in_order edges sorted of moved up i j d h g =
      let r = renumbered edges sorted moved in
      let below : (k : ℕ) → k < length sorted → r.number k < length strips = λ k l. subst (λ n. r.number k < n) of.count (r.within k l) in
      let l : i < length sorted = omega (arith, h, g) in
      let is : (k : ℕ) → k < length sorted → get_or sorted k d ≡ edge_of Top (strip_at strips (r.number k)) (r.number k) = λ k l. r.same k d l ∙ of.each (r.number k) d (below k l) in
      subst₂ IsEdgeBefore (sym (is i l)) (sym (is j g))
      (tops_by (r.number i) (r.number j) (λ e. below_itself i (subst (λ k. i < k) (sym (r.distinct i j e)) h))
      (record { below_count = below i l }) (record { below_count = below j g })
      (subst₂ IsUpTo (is i l) (is j g) (by_places (get_or sorted i d) (get_or sorted j d) (up.sorted i j d h g))))
