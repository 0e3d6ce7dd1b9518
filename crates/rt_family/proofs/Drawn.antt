-- A carried mask: the mixed family, what climbing and common columns lift, the family of the drawing, and its neighbours and pieces.
use Rattle.std.proofs.Common.{◌≡◌, ℕ, zero, suc, ℤ, pos, ◌+ℤ◌, ◌-ℤ◌, ◌≤ℤ◌, ◌<ℤ◌, ◌⊎◌, sym, subst, arith, inl, inr}
use Rattle.std.proofs.lemmas.Int.{ints, clamps, by_lt_z}
use Rattle.rt_cells.specs.Line.{Within, IsGap, between, gap_of}
use Rattle.rt_cells.specs.Cells.{row_of, transposed, ShareSide, Joined}
use Rattle.rt_cells.specs.Rectangles.{Rectangle, IsNonempty}
use Rattle.rt_cells.proofs.Lines.{at_most, first_place}
use Rattle.rt_family.specs.Strips.{ShareColumn, ShareRow, HoldsCell, CoveredBy, IsFamily, StandsOn, IsClimbed, AreConnected}
use Rattle.rt_family.specs.Strips.IsClimbed.{step, onward}
use Rattle.rt_family.specs.Strips.AreConnected.{same, up, down}
use Rattle.rt_family.specs.Carried.{mixed, AreFar, LiesBetween, IsCarried}
use Rattle.rt_family.proofs.Strips.{common_place, common_column, held_covered, held_joined, neighbours_touch, connected_joined, joined_connected}
use Rattle.rt_family.proofs.Places.{steps_to, by_width, far_right, far_left}
use Rattle.rt_family.proofs.Joins.{joined_back}

at_seam : (top bottom : ℤ) → top ≡ bottom → top ≤ℤ bottom
at_seam top bottom e = omega (arith, ints)

past_seam : (a low high bottom : ℤ) → a ≤ℤ low → low <ℤ high → high ≡ bottom → a <ℤ bottom
past_seam a low high bottom h k e = omega (arith, ints)

turned_rows : (a b : Rectangle) → ShareRow a b → ShareRow b a
turned_rows a b h = record { first = h.second; second = h.first }

columns_far : (s low high low' high' : ℤ) → pos 1 ≤ℤ s → s ≤ℤ gap_of low high low' high' → ((high +ℤ s) ≤ℤ low') ⊎ ((high' +ℤ s) ≤ℤ low)
columns_far s low high low' high' p g =
    by_lt_z low' (high +ℤ s) (λ l. inr (omega (arith, ints, clamps))) (λ l. inl l)

turned_far : (s : ℤ) (a b : Rectangle) → AreFar s b a → AreFar s a b
turned_far s a b (inl g) = inl (omega (arith, ints, clamps))
turned_far s a b (inr g) = inr (omega (arith, ints, clamps))

at_gap : (low high a : ℤ) → Within low high (a -ℤ pos 1) → a <ℤ high → Within low high a
at_gap low high a h l = record { from = omega (arith, ints); to = l }

first_of_gap : (a b : ℤ) → a <ℤ b → Within a b a
first_of_gap a b h = record { from = omega (arith, ints); to = h }

-- two intervals on both sides of a gap
pub record AreBeside (low high low' high' a b : ℤ) : Type 0 where
  pub gap : a <ℤ b
  pub first : Within low high (a -ℤ pos 1)
  pub second : Within low' high' b
  pub ends : high ≤ℤ a
  pub begins : b ≤ℤ low'

module _ (member : ℕ → Type 0) (source drawn : ℕ → Rectangle) (w : ℤ) (s : ℕ → ℕ → ℤ) (carried : IsCarried member source drawn w s) where
  -- a drawn strip is nonempty
  pub drawn_nonempty : (i : ℕ) → member i → IsNonempty (drawn i)
  drawn_nonempty i m = record { across = by_width _ _ w carried.numbers.some_width (carried.wide i m); upwards = carried.tall i m }

  drawn_right : (i j : ℕ) → member i → member j → ShareRow (source i) (source j) → (source i).right <ℤ (source j).left → (drawn i).right <ℤ (drawn j).left
  drawn_right i j m n rows l = by_width _ _ (s i j) (carried.numbers.some_space i j m n) (carried.across i j m n rows (at_most _ _ l))

  -- the drawn columns over the rows of the source are a family
  pub mixed_family : IsFamily member (mixed source drawn)
  mixed_family = record {
    nonempty = λ i m. record { across = (drawn_nonempty i m).across; upwards = (carried.family.nonempty i m).upwards };
    parted = λ i j m n rows.
        let row : ShareRow (source i) (source j) = record { first = rows.first; second = rows.second } in
        elim (carried.family.parted i j m n row) [
          | inl e ↦ inl e
          | inr (inl l) ↦ inr (inl (drawn_right i j m n row l))
          | inr (inr l) ↦ inr (inr (drawn_right j i n m (turned_rows _ _ row) l))
        ];
  }

  -- a strip that is climbed from another lies above it, in the source and drawn
  pub climbing_lifts : (i j : ℕ) → IsClimbed member source i j → ((source i).top ≤ℤ (source j).bottom) × ((drawn i).top ≤ℤ (drawn j).bottom)
  climbing_lifts i j (step _ stands) = (at_seam _ _ stands.adjoin, at_seam _ _ (carried.adjoin i j stands))
  climbing_lifts i j (onward k _ climbed stands) =
      let h = climbing_lifts i k climbed in (
        at_most _ _ (past_seam _ _ _ _ h.0 (carried.family.nonempty k stands.lower).upwards stands.adjoin),
        at_most _ _ (past_seam _ _ _ _ h.1 (carried.tall k stands.lower) (carried.adjoin k j stands)),
      )

  -- it stands on the other, or is drawn with rows between
  pub climbing_parts : (i j : ℕ) → IsClimbed member source i j → StandsOn member source i j ⊎ ((drawn i).top <ℤ (drawn j).bottom)
  climbing_parts i j (step _ stands) = inl stands
  climbing_parts i j (onward k _ climbed stands) =
      inr (past_seam _ _ _ _ (climbing_lifts i k climbed).1 (carried.tall k stands.lower) (carried.adjoin k j stands))

  column_rises : (n : ℕ) (i j : ℕ) (x : ℤ) → member i → member j → (source i).top ≤ℤ (source j).bottom → (source j).bottom ≤ℤ ((source i).top +ℤ pos n)
      → Within (drawn i).left (drawn i).right x → Within (drawn j).left (drawn j).right x → (drawn i).top ≤ℤ (drawn j).bottom
  column_rises zero i j x m o above near h k =
      elim (carried.seen i j x m o above h k) [
        | inl stands ↦ at_seam _ _ (carried.adjoin i j stands)
        | inr (inl far) ↦ at_most _ _ (by_width _ _ (s i j) (carried.numbers.some_space i j m o) far)
        | inr (inr (l, b)) ↦ absurd (omega (arith, ints, b.above, (carried.family.nonempty l b.strip).upwards, b.below))
      ]
  column_rises (suc n) i j x m o above near h k =
      elim (carried.seen i j x m o above h k) [
        | inl stands ↦ at_seam _ _ (carried.adjoin i j stands)
        | inr (inl far) ↦ at_most _ _ (by_width _ _ (s i j) (carried.numbers.some_space i j m o) far)
        | inr (inr (l, b)) ↦ at_most _ _ (omega (arith, ints, column_rises n i l x m b.strip b.above (omega (arith, ints, (carried.family.nonempty l b.strip).upwards, b.below)) h b.column, carried.tall l b.strip, column_rises n l j x b.strip o b.below (omega (arith, ints, b.above, (carried.family.nonempty l b.strip).upwards)) b.column k))
      ]

  -- of two strips that are drawn over one column, the one above in the source is drawn above
  pub column_order : (i j : ℕ) (x : ℤ) → member i → member j → (source i).top ≤ℤ (source j).bottom
      → Within (drawn i).left (drawn i).right x → Within (drawn j).left (drawn j).right x → (drawn i).top ≤ℤ (drawn j).bottom
  column_order i j x m o above h k =
      let d = steps_to (source i).top (source j).bottom above in
      column_rises d.0 i j x m o above d.1 h k

  -- it stands on the other, or is drawn the space above it, or a third strip is drawn over that column between the two
  pub column_seen : (i j : ℕ) (x : ℤ) → member i → member j → (source i).top ≤ℤ (source j).bottom
      → Within (drawn i).left (drawn i).right x → Within (drawn j).left (drawn j).right x
      → StandsOn member source i j ⊎ ((((drawn i).top +ℤ s i j) ≤ℤ (drawn j).bottom)
      ⊎ ((k : ℕ) × LiesBetween member source drawn i j x k × ((drawn i).top ≤ℤ (drawn k).bottom) × ((drawn k).top ≤ℤ (drawn j).bottom)))
  column_seen i j x m o above h k =
      elim (carried.seen i j x m o above h k) [
        | inl stands ↦ inl stands
        | inr (inl far) ↦ inr (inl far)
        | inr (inr (l, b)) ↦ inr (inr (l, b, column_order i l x m b.strip b.above h b.column, column_order l j x b.strip o b.below b.column k))
      ]

  -- two strips have a common row in the source, or one lies above the other
  pub by_rows : {P : Type 0} (i j : ℕ) → (ShareRow (source i) (source j) → P) → ((source i).top ≤ℤ (source j).bottom → P) → ((source j).top ≤ℤ (source i).bottom → P) → P
  by_rows {P} i j p q r =
      by_lt_z (source i).bottom (source j).top
      (λ l. by_lt_z (source j).bottom (source i).top (λ m. p (record { first = l; second = m })) q)
      r

  -- two strips are one, or one is climbed from the other, or the space is drawn between them
  pub climbed_or_far : (i j : ℕ) → member i → member j
      → (i ≡ j) ⊎ ((IsClimbed member source i j ⊎ IsClimbed member source j i) ⊎ AreFar (s i j) (drawn i) (drawn j))
  climbed_or_far i j m n =
      by_rows i j
      (λ row. elim (carried.family.parted i j m n row) [
        | inl e ↦ inl e
        | inr (inl l) ↦ inr (inr (inl (far_right (s i j) (drawn i) (drawn j) (carried.across i j m n row (at_most _ _ l)))))
        | inr (inr l) ↦ inr (inr (inl (far_left (s i j) (drawn i) (drawn j) (subst (λ t. ((drawn j).right +ℤ t) ≤ℤ (drawn i).left) (carried.numbers.even_space j i n m) (carried.across j i n m (turned_rows _ _ row) (at_most _ _ l))))))
      ])
      (λ above. elim (carried.apart i j m n above) [ inl c ↦ inr (inl (inl c)) | inr f ↦ inr (inr f) ])
      (λ above. elim (carried.apart j i n m above) [
        | inl c ↦ inr (inl (inr c))
        | inr f ↦ inr (inr (turned_far (s i j) (drawn i) (drawn j) (subst (λ t. AreFar t (drawn j) (drawn i)) (carried.numbers.even_space j i n m) f)))
      ])

  -- two drawn strips with a common row are one, or the space lies between their columns
  pub drawn_rows : (i j : ℕ) → member i → member j → ShareRow (drawn i) (drawn j)
      → (i ≡ j) ⊎ ((((drawn i).right +ℤ s i j) ≤ℤ (drawn j).left) ⊎ (((drawn j).right +ℤ s i j) ≤ℤ (drawn i).left))
  drawn_rows i j m n row =
      elim (climbed_or_far i j m n) [
        | inl e ↦ inl e
        | inr (inl (inl c)) ↦ absurd (omega (arith, ints, (climbing_lifts i j c).1))
        | inr (inl (inr c)) ↦ absurd (omega (arith, ints, turned_rows _ _ row, (climbing_lifts j i c).1))
        | inr (inr (inl g)) ↦ inr (columns_far (s i j) (drawn i).left (drawn i).right (drawn j).left (drawn j).right (carried.numbers.some_space i j m n) g)
        | inr (inr (inr g)) ↦ absurd (omega (arith, ints, clamps, carried.numbers.some_space i j m n, drawn_nonempty i m, drawn_nonempty j n))
      ]

  -- the drawn strips are a family
  pub drawn_family : IsFamily member drawn
  drawn_family = record {
    nonempty = drawn_nonempty;
    parted = λ i j m n row. elim (drawn_rows i j m n row) [
      | inl e ↦ inl e
      | inr (inl l) ↦ inr (inl (by_width _ _ (s i j) (carried.numbers.some_space i j m n) l))
      | inr (inr l) ↦ inr (inr (by_width _ _ (s i j) (carried.numbers.some_space i j m n) l))
    ];
  }

  -- what stands in the source stands in the drawing
  pub drawn_stands : (i j : ℕ) → StandsOn member source i j → StandsOn member drawn i j
  drawn_stands i j stands = record {
    lower = stands.lower;
    upper = stands.upper;
    adjoin = carried.adjoin i j stands;
    over = record { first = omega (arith, ints, clamps, carried.numbers.some_width, carried.share i j stands); second = omega (arith, ints, clamps, carried.numbers.some_width, carried.share i j stands) };
  }

  -- two strips that are drawn over one column and have a common row in the source are one
  pub one_in_mixed : (i j : ℕ) → member i → member j → ShareColumn (drawn i) (drawn j) → ShareRow (source i) (source j) → i ≡ j
  one_in_mixed i j m n over row =
      elim (mixed_family.parted i j m n (record { first = row.first; second = row.second })) [
        | inl e ↦ e
        | inr (inl l) ↦ absurd (omega (arith, ints))
        | inr (inr l) ↦ absurd (omega (arith, ints))
      ]

  -- what stands in the drawing stands in the source
  pub source_stands : (i j : ℕ) → StandsOn member drawn i j → StandsOn member source i j
  source_stands i j stands =
      let m = stands.lower in
      let n = stands.upper in
      let column = common_place (drawn i) (drawn j) (drawn_nonempty i m) (drawn_nonempty j n) stands.over in
      by_rows i j
      (λ row. absurd (omega (arith, ints, carried.tall i m, subst (λ t. (drawn i).top ≡ (drawn t).bottom) (sym (one_in_mixed i j m n stands.over row)) stands.adjoin)))
      (λ above. elim (column_seen i j _ m n above column.0 column.1) [
        | inl below ↦ below
        | inr (inl far) ↦ absurd (omega (arith, ints, carried.numbers.some_space i j m n, stands.adjoin))
        | inr (inr (l, b, h, k)) ↦ absurd (omega (arith, ints, stands.adjoin, carried.tall l b.strip))
      ])
      (λ above. absurd (omega (arith, ints, carried.tall i m, carried.tall j n, stands.adjoin, column_order j i _ n m above column.1 column.0)))

  -- drawn cells that share a side are of one strip, or of two of which one stands on the other in the source
  pub drawn_neighbours : (i j : ℕ) (x y u v : ℤ) → HoldsCell member drawn i x y → HoldsCell member drawn j u v → ShareSide x y u v
      → (i ≡ j) ⊎ (StandsOn member source i j ⊎ StandsOn member source j i)
  drawn_neighbours i j x y u v h k next =
      elim (neighbours_touch member drawn drawn_family i j x y u v h k next) [
        | inl e ↦ inl e
        | inr (inl stands) ↦ inr (inl (source_stands i j stands))
        | inr (inr stands) ↦ inr (inr (source_stands j i stands))
      ]

  beside_apart : (i j : ℕ) (x a b : ℤ) → HoldsCell member drawn i x (a -ℤ pos 1) → HoldsCell member drawn j x b
      → ((y : ℤ) → Within a b y → ¬ CoveredBy member drawn x y)
      → AreBeside (drawn i).bottom (drawn i).top (drawn j).bottom (drawn j).top a b → s i j ≤ℤ (b -ℤ a)
  beside_apart i j x a b h k empty beside =
      let m = h.strip in
      let n = k.strip in
      by_rows i j
      (λ row. absurd (omega (arith, ints, subst (λ t. AreBeside (drawn i).bottom (drawn i).top (drawn t).bottom (drawn t).top a b) (sym (one_in_mixed i j m n (common_column (drawn i) (drawn j) x h.cell.column k.cell.column) row)) beside)))
      (λ above. elim (column_seen i j x m n above h.cell.column k.cell.column) [
        | inl stands ↦ absurd (omega (arith, ints, carried.adjoin i j stands))
        | inr (inl far) ↦ omega (arith, ints)
        | inr (inr (l, c, p, q)) ↦ absurd (empty (drawn l).bottom (record { from = omega (arith, ints, carried.tall l c.strip); to = omega (arith, ints, carried.tall l c.strip) })
            (held_covered member drawn drawn_family l x (drawn l).bottom (record { strip = c.strip; cell = record { column = c.column; row = first_place _ _ (carried.tall l c.strip) } })))
      ])
      (λ above. absurd (omega (arith, ints, column_order j i x n m above k.cell.column h.cell.column)))

  -- a gap of a drawn column is as high as the space of the strips beside it
  pub drawn_column_gap : (i j : ℕ) (x a b : ℤ) → IsGap (row_of (transposed (CoveredBy member drawn)) x) a b
      → HoldsCell member drawn i x (a -ℤ pos 1) → HoldsCell member drawn j x b → s i j ≤ℤ (b -ℤ a)
  drawn_column_gap i j x a b gap h k =
      let covers : (l : ℕ) (y : ℤ) → member l → Within (drawn l).left (drawn l).right x → Within (drawn l).bottom (drawn l).top y → CoveredBy member drawn x y =
      λ l y m c r. record { number = l; holds = record { strip = m; cell = record { column = c; row = r } } } in
      beside_apart i j x a b h k gap.empty (record {
        gap = gap.nonempty;
        first = h.cell.row;
        second = k.cell.row;
        ends = by_lt_z a (drawn i).top
            (λ l. absurd (gap.empty a (first_of_gap a b gap.nonempty) (covers i a h.strip h.cell.column (at_gap _ _ a h.cell.row l))))
            (λ l. l);
        begins = by_lt_z (drawn j).bottom b
            (λ l. absurd (gap.empty (b -ℤ pos 1) (record { from = omega (arith, ints, gap.nonempty); to = omega (arith, ints, gap.nonempty) }) (covers j (b -ℤ pos 1) k.strip k.cell.column (record { from = omega (arith, ints, k.cell.row); to = omega (arith, ints, k.cell.row) }))))
            (λ l. l);
      })

  connected_drawn : (i j : ℕ) → AreConnected member source i j → AreConnected member drawn i j
  connected_drawn i j (same m) = same m
  connected_drawn i j (up l _ c stands) = up l j (connected_drawn i l c) (drawn_stands l j stands)
  connected_drawn i j (down l _ c stands) = down l j (connected_drawn i l c) (drawn_stands j l stands)

  connected_source : (i j : ℕ) → AreConnected member drawn i j → AreConnected member source i j
  connected_source i j (same m) = same m
  connected_source i j (up l _ c stands) = up l j (connected_source i l c) (source_stands l j stands)
  connected_source i j (down l _ c stands) = down l j (connected_source i l c) (source_stands j l stands)

  climbed_connected : (i j : ℕ) → IsClimbed member source i j → AreConnected member source i j
  climbed_connected i j (step _ stands) = up i j (same stands.lower) stands
  climbed_connected i j (onward l _ c stands) = up l j (climbed_connected i l c) stands

  -- drawn cells of strips that are connected in the source are joined
  pub pieces_joined : (i j : ℕ) (x y u v : ℤ) → AreConnected member source i j → HoldsCell member drawn i x y → HoldsCell member drawn j u v
      → Joined (CoveredBy member drawn) x y u v
  pieces_joined i j x y u v c h k = connected_joined member drawn drawn_family i j (connected_drawn i j c) x y u v h k

  -- the strips of joined drawn cells are connected in the source
  pub pieces_connected : (i j : ℕ) (x y u v : ℤ) → HoldsCell member drawn i x y → HoldsCell member drawn j u v → Joined (CoveredBy member drawn) x y u v
      → AreConnected member source i j
  pieces_connected i j x y u v h k walk = connected_source i j (joined_connected member drawn drawn_family i x y h u v walk j k)

  -- two drawn cells are joined, or the space of their strips apart
  pub pieces_apart : (i j : ℕ) (x y u v : ℤ) → HoldsCell member drawn i x y → HoldsCell member drawn j u v
      → Joined (CoveredBy member drawn) x y u v ⊎ ((s i j ≤ℤ between x u) ⊎ (s i j ≤ℤ between y v))
  pieces_apart i j x y u v h k =
      elim (climbed_or_far i j h.strip k.strip) [
        | inl e ↦ inl (held_joined member drawn drawn_family i x y u v h (subst (λ t. HoldsCell member drawn t u v) (sym e) k))
        | inr (inl (inl c)) ↦ inl (pieces_joined i j x y u v (climbed_connected i j c) h k)
        | inr (inl (inr c)) ↦ inl (joined_back (CoveredBy member drawn) u v x y (pieces_joined j i u v x y (climbed_connected j i c) k h))
        | inr (inr (inl g)) ↦ inr (inl (omega (arith, ints, clamps, h.cell.column, k.cell.column)))
        | inr (inr (inr g)) ↦ inr (inr (omega (arith, ints, clamps, h.cell.row, k.cell.row)))
      ]
