-- Two drawings whose sides have one order show the same names.
use Rattle.std.proofs.Common.{◌≡◌, ℕ, ◌+◌, ◌<◌, ◌≤◌, ℤ, pos, negsuc, ◌+ℤ◌, ◌-ℤ◌, ◌≤ℤ◌, ◌<ℤ◌, List, length, refl, sym, ap, subst, ◌∙◌, arith, inl, inr}
use Rattle.std.specs.List.{Contains}
use Rattle.std.proofs.lemmas.Int.{ints, by_lt_z}
use Rattle.std.proofs.lemmas.Bool.{cases_lt}
use Rattle.rt_cells.specs.Line.{Within}
use Rattle.rt_rows.specs.declared.name.Name.{Name}
use Rattle.rt_strips.specs.Placed.{Placed}
use Rattle.rt_strips.specs.Standing.{IsStrip}
use Rattle.rt_columns.specs.Sides.{side_of}
use Rattle.rt_columns.specs.Ranking.{AreRising, IsRankIn, HasRank}
use Rattle.rt_columns.specs.Columns.IsChainIn.{one as alone, onward as and_on}
use Rattle.rt_columns.specs.Columns.IsShownWhere.{gap, run}
use Rattle.rt_columns.specs.Columns.{IsGapIn, IsChainIn, IsRunIn, IsOver, IsShownSomewhere}
use Rattle.rt_columns.proofs.Orders.{listed_from, ranks_apart, rank_of}
use Rattle.rt_columns.proofs.Sets.{first_over}

-- one set of strips has the names of another that has the same strips
module _ (strips : List Placed) (Over Other : ℕ → Type 0) (to : (i : ℕ) → Over i → Other i) (back : (i : ℕ) → Other i → Over i) where
  pub gap_same : (name : Name) → IsGapIn strips Over name → IsGapIn strips Other name
  gap_same name g = record {
    i = g.i;
    j = g.j;
    lower = to g.i g.lower;
    upper = to g.j g.upper;
    above = g.above;
    none_between = λ k h. g.none_between k (back k h);
    apart = g.apart;
    named = g.named;
  }

  chain_same : (i j : ℕ) → IsChainIn strips Over i j → IsChainIn strips Other i j
  chain_same i _ (alone o) = alone (to i o)
  chain_same i _ (and_on j k chain on o) = and_on j k (chain_same i j chain) on (to k o)

  pub run_same : (name : Name) → IsRunIn strips Over name → IsRunIn strips Other name
  run_same name g = record {
    i = g.i;
    j = g.j;
    chain = chain_same g.i g.j g.chain;
    lowest = λ k h. g.lowest k (back k h);
    highest = λ k h. g.highest k (back k h);
    named = g.named;
  }

-- a number is a place below another
record IsPlaceTo (end : ℕ) (z : ℤ) : Type 0 where
  a : ℕ
  is : z ≡ pos a
  inside : a < end

place_of_ints : (end : ℕ) (z low high : ℤ) (k r : ℕ) → low ≡ pos k → high ≡ pos r → low ≤ℤ z → z <ℤ high → r ≤ end → IsPlaceTo end z
place_of_ints end (pos a) low high k r e f h g l = record { a = a; is = refl; inside = omega (arith, ints) }
place_of_ints end (negsuc a) low high k r e f h g l = absurd (omega (arith, ints))

next_place : (z w : ℤ) (a b : ℕ) → z ≡ pos a → w ≡ pos b → w ≡ z +ℤ pos 1 → b ≡ a + 1
next_place z w a b e f g = omega (arith, ints)

module _ (sorted : List ℤ) (rising : AreRising sorted) where
  -- the numbers that are listed and aren't beyond x are those whose rank isn't beyond another
  pub record IsCut (x rank : ℤ) : Type 0 where
    pub up : (v z : ℤ) → Contains sorted v → HasRank sorted v z → v ≤ℤ x → z ≤ℤ rank
    pub down : (v z : ℤ) → Contains sorted v → HasRank sorted v z → z ≤ℤ rank → v ≤ℤ x

  -- a number that is listed has no rank as far as all are
  rank_there : (v z : ℤ) → Contains sorted v → (h : HasRank sorted v z) → h.rank < length sorted
  rank_there v z c h = let at = listed_from sorted rising v h.rank h.ranked c in omega (arith, at.0, c.1)

  at_rank : (v z : ℤ) → Contains sorted v → (h : HasRank sorted v z) → v ≤ℤ side_of sorted h.rank
  at_rank v z c h = h.ranked.above h.rank (omega arith) (rank_there v z c h)

  -- of any column
  cut_before : (x : ℤ) (p : ℕ) → IsRankIn sorted (x +ℤ pos 1) p → IsCut x (pos p -ℤ pos 1)
  cut_before x p rank = record {
    up = λ v z c h low.
        let lt = ranks_apart sorted rising v (x +ℤ pos 1) h.rank p h.ranked rank c (omega (arith, ints)) in
        let e = h.is in
        omega (arith, ints);
    down = λ v z c h low.
        let e = h.is in
        let lt : h.rank < p = omega (arith, ints) in
        let first = at_rank v z c h in
        let less = rank.below h.rank lt in
        omega (arith, ints);
  }

  -- of the column that is listed at a place
  cut_at : (a : ℕ) → a < length sorted → IsCut (side_of sorted a) (pos a)
  cut_at a l = record {
    up = λ v z c h low.
        let e = h.is in
        elim (cases_lt a h.rank) [
          | inl m ↦ absurd (let less = h.ranked.below a m in omega (arith, ints))
          | inr m ↦ omega (arith, ints)
        ];
    down = λ v z c h low.
        let e = h.is in
        let le : h.rank ≤ a = omega (arith, ints) in
        let first = at_rank v z c h in
        let up = rising.rises h.rank a le l in
        omega (arith, ints);
  }

  -- of the column before one that is listed behind that place
  cut_between : (a : ℕ) → a + 1 < length sorted → side_of sorted a <ℤ side_of sorted (a + 1) → IsCut (side_of sorted (a + 1) -ℤ pos 1) (pos a)
  cut_between a l lt = record {
    up = λ v z c h low.
        let e = h.is in
        elim (cases_lt a h.rank) [
          | inl m ↦ absurd (
              let at = listed_from sorted rising v h.rank h.ranked c in
              let up = rising.rises (a + 1) c.0 (omega (arith, at.0)) c.1 in
              let is = at.1 in
              omega (arith, ints))
          | inr m ↦ omega (arith, ints)
        ];
    down = λ v z c h low.
        let e = h.is in
        let le : h.rank ≤ a = omega (arith, ints) in
        let first = at_rank v z c h in
        let up = rising.rises h.rank a le (omega arith) in
        omega (arith, ints);
  }

  -- of the column behind another
  cut_next : (x : ℤ) (p q : ℕ) → IsRankIn sorted (x +ℤ pos 1) p → IsRankIn sorted ((x +ℤ pos 1) +ℤ pos 1) q → p < q → IsCut (x +ℤ pos 1) (pos p)
  cut_next x p q rank next lt = record {
    up = λ v z c h low.
        let e = h.is in
        elim (cases_lt p h.rank) [
          | inl m ↦ absurd (let less = h.ranked.below p m in let more = rank.above p (omega arith) (omega (arith, next.inside)) in omega (arith, ints))
          | inr m ↦ omega (arith, ints)
        ];
    down = λ v z c h low.
        let e = h.is in
        let le : h.rank ≤ p = omega (arith, ints) in
        let first = at_rank v z c h in
        let less = next.below h.rank (omega arith) in
        omega (arith, ints);
  }

  same_ranks : (x : ℤ) (p q : ℕ) → IsRankIn sorted (x +ℤ pos 1) p → IsRankIn sorted ((x +ℤ pos 1) +ℤ pos 1) q → q ≤ p → p ≡ q
  same_ranks x p q rank next h = elim (cases_lt q p) [
    | inl l ↦ absurd (let less = rank.below q l in let more = next.above q (omega arith) (omega (arith, rank.inside)) in omega (arith, ints))
    | inr l ↦ omega arith
  ]

  module _ (strips : List Placed) (left right lower upper : ℕ → ℤ) (m : ℕ)
      (left_listed : (i : ℕ) → IsStrip strips i → Contains sorted (left i)) (right_listed : (i : ℕ) → IsStrip strips i → Contains sorted (right i))
      (left_rank : (i : ℕ) → IsStrip strips i → HasRank sorted (left i) (lower i)) (right_rank : (i : ℕ) → IsStrip strips i → HasRank sorted (right i) (upper i)) where
    within_to : (x z : ℤ) → IsCut x z → (i : ℕ) → IsStrip strips i → Within (left i) (right i) x → Within (lower i) (upper i) z
    within_to x z cut i s w = record {
      from = cut.up (left i) (lower i) (left_listed i s) (left_rank i s) w.from;
      to = by_lt_z z (upper i) (λ h. h) (λ h. absurd (
          let low = cut.down (right i) (upper i) (right_listed i s) (right_rank i s) h in
          let high = w.to in
          omega (arith, ints)));
    }

    within_back : (x z : ℤ) → IsCut x z → (i : ℕ) → IsStrip strips i → Within (lower i) (upper i) z → Within (left i) (right i) x
    within_back x z cut i s w = record {
      from = cut.down (left i) (lower i) (left_listed i s) (left_rank i s) w.from;
      to = by_lt_z x (right i) (λ h. h) (λ h. absurd (
          let low = cut.up (right i) (upper i) (right_listed i s) (right_rank i s) h in
          let high = w.to in
          omega (arith, ints)));
    }

    over_to : (x u z w : ℤ) → IsCut x z → IsCut u w → (i : ℕ) → IsOver strips left right m x u i → IsOver strips lower upper m z w i
    over_to x u z w a b i h = record { strip = h.strip; of_mask = h.of_mask; first = within_to x z a i h.strip h.first; second = within_to u w b i h.strip h.second }

    over_back : (x u z w : ℤ) → IsCut x z → IsCut u w → (i : ℕ) → IsOver strips lower upper m z w i → IsOver strips left right m x u i
    over_back x u z w a b i h = record { strip = h.strip; of_mask = h.of_mask; first = within_back x z a i h.strip h.first; second = within_back u w b i h.strip h.second }

    gap_by : (x z : ℤ) → IsCut x z → (name : Name) → IsGapIn strips (IsOver strips left right m x x) name → IsGapIn strips (IsOver strips lower upper m z z) name
    gap_by x z a = gap_same strips _ _ (over_to x x z z a a) (over_back x x z z a a)

    gap_back : (x z : ℤ) → IsCut x z → (name : Name) → IsGapIn strips (IsOver strips lower upper m z z) name → IsGapIn strips (IsOver strips left right m x x) name
    gap_back x z a = gap_same strips _ _ (over_back x x z z a a) (over_to x x z z a a)

    run_by : (x u z w : ℤ) → IsCut x z → IsCut u w → (name : Name) → IsRunIn strips (IsOver strips left right m x u) name → IsRunIn strips (IsOver strips lower upper m z w) name
    run_by x u z w a b = run_same strips _ _ (over_to x u z w a b) (over_back x u z w a b)

    run_back : (x u z w : ℤ) → IsCut x z → IsCut u w → (name : Name) → IsRunIn strips (IsOver strips lower upper m z w) name → IsRunIn strips (IsOver strips left right m x u) name
    run_back x u z w a b = run_same strips _ _ (over_back x u z w a b) (over_to x u z w a b)

    run_onward : (x u : ℤ) → u ≡ x +ℤ pos 1 → (name : Name) → IsRunIn strips (IsOver strips left right m x u) name → IsShownSomewhere strips lower upper m name
    run_onward x u e name g =
        let p = rank_of sorted rising (x +ℤ pos 1) in
        let q = rank_of sorted rising ((x +ℤ pos 1) +ℤ pos 1) in
        let first = cut_before x p.0 p.1 in
        elim (cases_lt p.0 q.0) [
          | inl l ↦ run (pos p.0 -ℤ pos 1) (pos p.0) tt (inr (omega (arith, ints)))
              (run_by x u (pos p.0 -ℤ pos 1) (pos p.0) first (subst (λ c. IsCut c (pos p.0)) (sym e) (cut_next x p.0 q.0 p.1 q.1 l)) name g)
          | inr l ↦
              let second : IsCut u (pos q.0 -ℤ pos 1) = subst (λ c. IsCut c (pos q.0 -ℤ pos 1)) (sym e) (cut_before (x +ℤ pos 1) q.0 q.1) in
              let same : p.0 ≡ q.0 = same_ranks x p.0 q.0 p.1 q.1 l in
              run (pos p.0 -ℤ pos 1) (pos q.0 -ℤ pos 1) tt (inl (ap (λ n. pos n -ℤ pos 1) (sym same))) (run_by x u _ _ first second name g)
        ]

    pub shown_to : (name : Name) → IsShownSomewhere strips left right m name → IsShownSomewhere strips lower upper m name
    shown_to name (gap x _ g) =
        let p = rank_of sorted rising (x +ℤ pos 1) in
        gap (pos p.0 -ℤ pos 1) tt (gap_by x (pos p.0 -ℤ pos 1) (cut_before x p.0 p.1) name g)
    shown_to name (run x u _ (inl e) g) =
        let p = rank_of sorted rising (x +ℤ pos 1) in
        let first = cut_before x p.0 p.1 in
        run (pos p.0 -ℤ pos 1) (pos p.0 -ℤ pos 1) tt (inl refl) (run_by x u _ _ first (subst (λ c. IsCut c (pos p.0 -ℤ pos 1)) (sym e) first) name g)
    shown_to name (run x u _ (inr e) g) = run_onward x u e name g

    place_at : (z : ℤ) (i : ℕ) → IsStrip strips i → Within (lower i) (upper i) z → IsPlaceTo (length sorted) z
    place_at z i s w =
        let low = left_rank i s in
        let high = right_rank i s in
        place_of_ints (length sorted) z (lower i) (upper i) low.rank high.rank low.is high.is w.from w.to high.ranked.inside

    run_at_two : (a : ℕ) → a + 1 < length sorted → (z w : ℤ) → z ≡ pos a → w ≡ pos (a + 1) → (name : Name) → IsRunIn strips (IsOver strips lower upper m z w) name
        → IsShownSomewhere strips left right m name
    run_at_two a l z w e f name g =
        let b = side_of sorted (a + 1) in
        let second : IsCut b w = subst (IsCut b) (sym f) (cut_at (a + 1) l) in
        by_lt_z (side_of sorted a) b
        (λ lt. run (b -ℤ pos 1) b tt (inr (omega (arith, ints))) (run_back (b -ℤ pos 1) b z w (subst (IsCut (b -ℤ pos 1)) (sym e) (cut_between a l lt)) second name g))
        (λ ge.
        let up = rising.rises a (a + 1) (omega arith) l in
        let first : IsCut (side_of sorted a) z = subst (IsCut (side_of sorted a)) (sym e) (cut_at a (omega arith)) in
        run (side_of sorted a) b tt (inl (omega (arith, ints))) (run_back (side_of sorted a) b z w first second name g))

    pub shown_back : (name : Name) → IsShownSomewhere strips lower upper m name → IsShownSomewhere strips left right m name
    shown_back name (gap z _ g) =
        let p = place_at z g.i g.lower.strip g.lower.first in
        gap (side_of sorted p.a) tt (gap_back (side_of sorted p.a) z (subst (IsCut (side_of sorted p.a)) (sym p.is) (cut_at p.a p.inside)) name g)
    shown_back name (run z w _ (inl e) g) =
        let o = first_over strips (IsOver strips lower upper m z w) g.i g.j g.chain in
        let p = place_at z g.i o.strip o.first in
        let cut : IsCut (side_of sorted p.a) z = subst (IsCut (side_of sorted p.a)) (sym p.is) (cut_at p.a p.inside) in
        run (side_of sorted p.a) (side_of sorted p.a) tt (inl refl) (run_back _ _ z w cut (subst (IsCut (side_of sorted p.a)) (sym e) cut) name g)
    shown_back name (run z w _ (inr e) g) =
        let o = first_over strips (IsOver strips lower upper m z w) g.i g.j g.chain in
        let p = place_at z g.i o.strip o.first in
        let q = place_at w g.i o.strip o.second in
        let next : q.a ≡ p.a + 1 = next_place z w p.a q.a p.is q.is e in
        run_at_two p.a (subst (λ n. n < length sorted) next q.inside) z w p.is (q.is ∙ ap pos next) name g
