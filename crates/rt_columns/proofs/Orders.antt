-- Numbers that rise, and ranks among them.
use Rattle.std.proofs.Common.{◌≡◌, ℕ, ◌+◌, ◌^◌, ◌<◌, ◌≤◌, ℤ, pos, ◌≤ℤ◌, ◌<ℤ◌, false, List, [], ◌∷◌, ◌++◌, length, refl, sym, ap, subst, ◌∙◌, arith, inl, inr, zero, suc, length-append, Ordering, Less, Equal, Greater, int_cmp, is_lt}
use Rattle.std.specs.List.{Contains}
use Rattle.std.specs.Cmp.{int_ranks}
use Rattle.std.specs.Ordering.{MatchOrdering}
use Rattle.std.specs.List.Sorted.{IsPermutation, IsSortedBy}
use Rattle.std.proofs.lemmas.Int.{ints, by_lt_z}
use Rattle.std.proofs.lemmas.Cmp.{int_cmp_total}
use Rattle.std.proofs.lemmas.Bool.{cases_lt}
use Rattle.std.proofs.lemmas.List.{get_or_default}
use Rattle.std.proofs.lemmas.List.Sorted.{sorted_far, ranks_by, length_permutation, Contains-permutation}
use Rattle.std.proofs.lemmas.List.Elements.{Contains-append_left, Contains-push}
use Rattle.rt_cells.proofs.Numbers.{below_or_at}
use Rattle.rt_base.specs.Plane.{IsSide}
use Rattle.rt_columns.specs.Sides.{side_of, HaveSides}
use Rattle.rt_columns.specs.Ranking.{AreRising, IsRankIn, AreSides, AreRisingSides, AreRanksOf}

not_less : (a b : ℤ) (r : Ordering) → MatchOrdering r (b <ℤ a) (b ≡ a) (a <ℤ b) → is_lt r ≡ false → a ≤ℤ b
not_less a b Less h e = absurd (cc)
not_less a b Equal h e = omega (arith, ints)
not_less a b Greater h e = omega (arith, ints)

pub rising_by_sort : (sorted : List ℤ) → IsSortedBy (λ a b. is_lt (int_cmp a b)) sorted → AreRising sorted
rising_by_sort sorted up = record {
  rises = λ i j h l.
      not_less (side_of sorted i) (side_of sorted j) (int_cmp (side_of sorted j) (side_of sorted i)) (int_ranks (side_of sorted j) (side_of sorted i))
      (sorted_far (λ a b. is_lt (int_cmp a b)) (ranks_by int_cmp_total (λ z. z)) sorted up i j (pos 0) h l);
}

-- the sides in another order
pub sides_in_order : (count : ℕ) (lefts rights sides others : List ℤ) → IsPermutation sides others → AreSides count lefts rights sides → AreSides count lefts rights others
sides_in_order count lefts rights sides others same are = record {
  long = length_permutation sides others same ∙ are.long;
  left = λ i h. Contains-permutation sides others (side_of lefts i) same (are.left i h);
  right = λ i h. Contains-permutation sides others (side_of rights i) same (are.right i h);
}

pub no_sides : (lefts rights sides : List ℤ) → sides ≡ [] → AreSides 0 lefts rights sides
no_sides lefts rights sides e = subst (AreSides 0 lefts rights) (sym e) (record { long = refl; left = λ i h. absurd (omega arith); right = λ i h. absurd (omega arith) })

length_two : (before between after : List ℤ) (x y : ℤ) → between ≡ before ++ x ∷ [] → after ≡ between ++ y ∷ [] → length after ≡ length before + 2
length_two before between after x y e f = ap length f ∙ simp length-append (omega (arith, simp length-append at (ap length e)))

pub two_sides : (count : ℕ) (lefts rights before between after : List ℤ) (x y : ℤ) → between ≡ before ++ x ∷ [] → after ≡ between ++ y ∷ []
    → x ≡ side_of lefts count → y ≡ side_of rights count → AreSides count lefts rights before → AreSides (count + 1) lefts rights after
two_sides count lefts rights before between after x y e f is js are =
    let kept : (z : ℤ) → Contains before z → Contains after z = λ z c.
    subst (λ l. Contains l z) (sym f) (Contains-append_left between (y ∷ []) z (subst (λ l. Contains l z) (sym e) (Contains-append_left before (x ∷ []) z c))) in
    record {
      long = length_two before between after x y e f ∙ omega (arith, are.long);
      left = λ i h. elim (below_or_at i count h) [
        | inl l ↦ kept (side_of lefts i) (are.left i l)
        | inr s ↦ subst (Contains after) (is ∙ ap (side_of lefts) (sym s))
            (subst (λ l. Contains l x) (sym f) (Contains-append_left between (y ∷ []) x (subst (λ l. Contains l x) (sym e) (Contains-push before x))))
      ];
      right = λ i h. elim (below_or_at i count h) [
        | inl l ↦ kept (side_of rights i) (are.right i l)
        | inr s ↦ subst (Contains after) (js ∙ ap (side_of rights) (sym s)) (subst (λ l. Contains l y) (sym f) (Contains-push between y))
      ];
    }

module _ (sorted : List ℤ) (rising : AreRising sorted) where
  pub below_middle : (v : ℤ) (middle : ℕ) → middle < length sorted → side_of sorted middle <ℤ v → (j : ℕ) → j < middle + 1 → side_of sorted j <ℤ v
  below_middle v middle l h j g = let up = rising.rises j middle (omega arith) l in omega (arith, ints)

  pub above_middle : (v : ℤ) (middle : ℕ) → v ≤ℤ side_of sorted middle → (j : ℕ) → middle ≤ j → j < length sorted → v ≤ℤ side_of sorted j
  above_middle v middle h j g l = let up = rising.rises middle j g l in omega (arith, ints)

  -- a number that is listed stands at its rank or behind it
  pub listed_from : (v : ℤ) (k : ℕ) → IsRankIn sorted v k → (c : Contains sorted v) → (k ≤ c.0) × (side_of sorted c.0 ≡ v)
  listed_from v k rank c =
      let is : side_of sorted c.0 ≡ v = get_or_default sorted c.0 (pos 0) v c.1 ∙ c.2 in
      (elim (cases_lt c.0 k) [ inl l ↦ absurd (let low = rank.below c.0 l in omega (arith, ints)) | inr l ↦ l ], is)

  -- of two numbers the lesser one, if it is listed, has the lesser rank
  pub ranks_apart : (v w : ℤ) (k r : ℕ) → IsRankIn sorted v k → IsRankIn sorted w r → Contains sorted v → v <ℤ w → k < r
  ranks_apart v w k r a b c h =
      let at = listed_from v k a c in
      elim (cases_lt k r) [
        | inl l ↦ l
        | inr l ↦ absurd (let high = b.above c.0 (omega (arith, at.0)) c.1 in let is = at.1 in omega (arith, ints))
      ]

  -- each number has a rank: that among the first of them
  record IsRankTo (v : ℤ) (end k : ℕ) : Type 0 where
    inside : k ≤ end
    below : (j : ℕ) → j < k → side_of sorted j <ℤ v
    above : (j : ℕ) → k ≤ j → j < end → v ≤ℤ side_of sorted j

  rank_to : (v : ℤ) (end : ℕ) → end ≤ length sorted → (k : ℕ) × IsRankTo v end k
  rank_to v zero h = (0, record { inside = omega arith; below = λ j g. absurd (omega arith); above = λ j g l. absurd (omega arith) })
  rank_to v (suc n) h =
      let before = rank_to v n (omega arith) in
      let k = before.0 in
      let known = before.1 in
      elim (cases_lt k n) [
        | inl l ↦ (
          k,
          record {
            inside = omega arith;
            below = known.below;
            above = λ j g m. let first = known.above k (omega arith) l in let up = rising.rises k j g (omega arith) in omega (arith, ints);
          },
        )
        | inr l ↦ by_lt_z (side_of sorted n) v
            (λ low. (
              suc n,
              record {
                inside = omega arith;
                below = λ j g. let up = rising.rises j n (omega arith) (omega arith) in omega (arith, ints);
                above = λ j g m. absurd (omega arith);
              },
            ))
            (λ high. (
              n,
              record {
                inside = omega arith;
                below = λ j g. known.below j (omega (arith, known.inside));
                above = λ j g m. let up = rising.rises n j g (omega arith) in omega (arith, ints);
              },
            ))
      ]

  pub rank_of : (v : ℤ) → (k : ℕ) × IsRankIn sorted v k
  rank_of v = let r = rank_to v (length sorted) (omega arith) in (r.0, record { inside = r.1.inside; below = r.1.below; above = r.1.above })

rank_is_side : (sorted : List ℤ) (count : ℕ) (z : ℤ) (k : ℕ) → z ≡ pos k → k ≤ length sorted → length sorted ≡ count + count → count < 2 ^ 32 → IsSide z
rank_is_side sorted count z k e h long few = subst IsSide (sym e) (record { low = omega (arith, ints); high = omega (arith, ints) })

-- the ranks of sides are sides, and as many
pub ranks_are_sides : (count : ℕ) (lefts rights sorted left_ranks right_ranks : List ℤ) → count < 2 ^ 32 → AreRisingSides count lefts rights sorted
    → AreRanksOf sorted count lefts left_ranks → AreRanksOf sorted count rights right_ranks → ((i : ℕ) → i < count → side_of lefts i <ℤ side_of rights i)
    → HaveSides count left_ranks right_ranks
ranks_are_sides count lefts rights sorted left_ranks right_ranks few are ls rs apart = record {
  all_lefts = omega (arith, ls.long);
  all_rights = omega (arith, rs.long);
  apart = λ i h.
      let l = ls.each i h in
      let r = rs.each i h in
      let lt = ranks_apart sorted are.rising (side_of lefts i) (side_of rights i) l.rank r.rank l.ranked r.ranked (are.sides.left i h) (apart i h) in
      let a = l.is in
      let b = r.is in
      omega (arith, ints);
  from = λ i h. rank_is_side sorted count (side_of left_ranks i) (ls.each i h).rank (ls.each i h).is (ls.each i h).ranked.inside are.sides.long few;
  to = λ i h. rank_is_side sorted count (side_of right_ranks i) (rs.each i h).rank (rs.each i h).is (rs.each i h).ranked.inside are.sides.long few;
}
