-- A cell for each part, its seat: all cells of the part are joined to it, and the seats of parts that adjoin are joined.
use Rattle.std.proofs.Common.{◌≡◌, ℕ, zero, suc, ◌<◌, ◌≤◌, Bool, true, false, ℤ, pos, ◌+ℤ◌, ◌-ℤ◌, ◌≤ℤ◌, ◌<ℤ◌, ◌⊎◌, refl, sym, subst, ap, arith, ◌∙◌}
use Rattle.std.proofs.lemmas.Int.{ints, by_lt_z}
use mathlib.Core.Logic.{inl, inr}
use Rattle.rt_cells.specs.Line.{Within}
use Rattle.rt_cells.specs.Cells.{Joined}
use Rattle.rt_cells.specs.Rectangles.{Rectangle, IsNonempty}
use Rattle.rt_cells.proofs.Lines.{first_place, last_place, antisymmetric}
use Rattle.rt_cells.proofs.Rectangles.{joined_inside}
use Rattle.rt_family.specs.Strips.{HoldsCell}
use Rattle.rt_family.proofs.Joins.{joined_both, joined_next, joined_back, joined_ends}
use Rattle.rt_parts.specs.Parts.{Part, Cuts, IsSlot, along, low_of, high_of, Adjoin, CutsLying, IsBare, IsInPart, IsCutting}
use Rattle.rt_parts.proofs.Slots.{ended, begun, slot_after, slot_first}
use Rattle.rt_parts.proofs.Inside.{part, part_bare, part_joined}
use Rattle.rt_parts.proofs.Touching.{truth, lined, IsAtColumn}
use Rattle.rt_parts.proofs.Spans.{left_end, is_low, has_high, between_ends, ends_of_one, follow_as, common_column}

-- the row of the seat of a part, where the channels of its strip lie or stand upright
unfoldable pub row_end : (box channel : ℕ → Rectangle) → Cuts → Bool → ℕ → ℕ → ℤ
row_end box channel cuts false a k = (box a).bottom
row_end box channel cuts true a zero = (channel (cuts.number a 0)).bottom -ℤ pos 1
row_end box channel cuts true a (suc k) = (channel (cuts.number a k)).top

abbrev pub seat_x : (box channel : ℕ → Rectangle) → Cuts → Part → ℤ
seat_x box channel cuts u = left_end box channel cuts (cuts.lies u.strip) u.strip u.place

abbrev pub seat_y : (box channel : ℕ → Rectangle) → Cuts → Part → ℤ
seat_y box channel cuts u = row_end box channel cuts (cuts.lies u.strip) u.strip u.place

reflexive : (a : ℤ) → a ≤ℤ a
reflexive a = omega (arith, ints)

above_channel : (strip cut : Rectangle) → CutsLying strip cut → IsNonempty cut → cut.top <ℤ strip.top → Within strip.bottom strip.top cut.top
above_channel strip cut c n h = record { from = omega (arith, ints, c, n); to = h }

below_channel : (strip cut : Rectangle) → CutsLying strip cut → IsNonempty cut → strip.bottom <ℤ cut.bottom → Within strip.bottom strip.top (cut.bottom -ℤ pos 1)
below_channel strip cut c n h = record { from = omega (arith, ints); to = omega (arith, ints, c, n) }

lower_top : (t y top : ℤ) → t ≤ℤ y → y <ℤ top → t <ℤ top
lower_top t y top h k = omega (arith, ints)

up_to_last : (t s top : ℤ) → t ≤ℤ s → s <ℤ top → t ≤ℤ (top -ℤ pos 1)
up_to_last t s top h k = omega (arith, ints)

pub on_channel : (strip cut : Rectangle) (x : ℤ) → CutsLying strip cut → Within strip.left strip.right x → Within cut.left cut.right x
on_channel strip cut x c w = record { from = omega (arith, ints, c, w); to = omega (arith, ints, c, w) }

before_it : (n : ℕ) → 0 < n → (j : ℕ) × (n ≡ suc j)
before_it zero h = absurd (omega (arith, h))
before_it (suc n) h = (n, refl)

only_row : (y q : ℤ) → Within y (y +ℤ pos 1) q → y ≡ q
only_row y q w = omega (arith, ints, w)

one_row : (y : ℤ) → Within y (y +ℤ pos 1) y
one_row y = record { from = omega (arith, ints); to = omega (arith, ints) }

above_seam : (t b : ℤ) → t ≡ b → b ≡ (t -ℤ pos 1) +ℤ pos 1
above_seam t b e = omega (arith, ints)

below_seam : (t b d : ℤ) → t ≡ b → d ≡ b → (d -ℤ pos 1) ≡ (t -ℤ pos 1)
below_seam t b d e f = omega (arith, ints)

module _ (member : ℕ → Type 0) (box channel : ℕ → Rectangle) (gate : ℤ → ℤ → Type 0) (stands : ℕ → ℕ → Type 0) (cuts : Cuts)
    (cutting : IsCutting member box channel gate stands cuts) where
  abbrev Bare : ℤ → ℤ → Type 0
  Bare = IsBare member box channel gate stands cuts

  abbrev InPart : Part → ℤ → ℤ → Type 0
  InPart = IsInPart member box channel gate stands cuts

  in_part : (u : Part) (x y : ℤ) → HoldsCell member box u.strip x y → (b : Bool) → cuts.lies u.strip ≡ b
      → IsSlot (λ j. low_of b (channel (cuts.number u.strip j))) (λ j. high_of b (channel (cuts.number u.strip j))) (cuts.count u.strip) u.place (along b x y) → InPart u x y
  in_part u x y h b e slot = record {
    holds = h;
    slot = subst (λ t. IsSlot (λ j. low_of t (channel (cuts.number u.strip j))) (λ j. high_of t (channel (cuts.number u.strip j))) (cuts.count u.strip) u.place (along t x y)) (sym e) slot;
  }

  pub seat_upright : (a k : ℕ) → member a → k ≤ cuts.count a → cuts.lies a ≡ false → InPart (part a k) (left_end box channel cuts false a k) (box a).bottom
  seat_upright a k m few e =
      let low = left_end box channel cuts false a k in
      let h = is_low member box channel gate stands cuts cutting false a k m e few in
      let r = has_high member box channel gate stands cuts cutting a k m few in
      let at = between_ends member box channel gate stands cuts cutting (part a k) low r.0 low few h r.1 (reflexive low)
      (ends_of_one member box channel gate stands cuts cutting (part a k) low r.0 m h r.1) in
      in_part (part a k) low (box a).bottom
      (record { strip = m; cell = record { column = at.column; row = first_place _ _ (cutting.family.nonempty a m).upwards } }) false e (at.slot e)

  pub seat_after : (a k : ℕ) → member a → k < cuts.count a → cuts.lies a ≡ true → (channel (cuts.number a k)).top <ℤ (box a).top
      → InPart (part a (suc k)) (box a).left (channel (cuts.number a k)).top
  seat_after a k m l e h =
      in_part (part a (suc k)) (box a).left (channel (cuts.number a k)).top
      (record {
        strip = m;
        cell = record {
          column = first_place _ _ (cutting.family.nonempty a m).across;
          row = above_channel (box a) (channel (cuts.number a k)) (cutting.lying a k m e l) (cutting.nonempty a k m l) h;
        };
      })
      true e
      (slot_after (λ j. (channel (cuts.number a j)).bottom) (λ j. (channel (cuts.number a j)).top) (cuts.count a)
      (follow_as member box channel gate stands cuts cutting a m true e) k l)

  pub seat_first : (a : ℕ) → member a → cuts.lies a ≡ true → (box a).bottom <ℤ (channel (cuts.number a 0)).bottom
      → InPart (part a 0) (box a).left ((channel (cuts.number a 0)).bottom -ℤ pos 1)
  seat_first a m e h =
      let l = cutting.some a m e in
      in_part (part a 0) (box a).left ((channel (cuts.number a 0)).bottom -ℤ pos 1)
      (record {
        strip = m;
        cell = record {
          column = first_place _ _ (cutting.family.nonempty a m).across;
          row = below_channel (box a) (channel (cuts.number a 0)) (cutting.lying a 0 m e l) (cutting.nonempty a 0 m l) h;
        };
      })
      true e
      (slot_first (λ j. (channel (cuts.number a j)).bottom) (λ j. (channel (cuts.number a j)).top) (cuts.count a)
      (follow_as member box channel gate stands cuts cutting a m true e) l)

  few_after : (k n : ℕ) → suc k ≤ n → k < n
  few_after k n h = omega arith

  reach_as : (b : Bool) (a k : ℕ) (x y : ℤ) → cuts.lies a ≡ b → InPart (part a k) x y
      → Joined Bare x y (left_end box channel cuts b a k) (row_end box channel cuts b a k)
  unfolding left_end row_end
  reach_as false a k x y e h =
      part_joined member box channel gate stands cuts cutting (part a k) x y _ _ h (seat_upright a k h.holds.strip h.slot.few e)
  reach_as true a zero x y e h =
      let m = h.holds.strip in
      let l = cutting.some a m e in
      let low = (lined member box channel gate stands cuts cutting (part a 0) x y h true e).ahead 0 (omega arith) l in
      part_joined member box channel gate stands cuts cutting (part a 0) x y _ _ h (seat_first a m e (lower_top _ _ _ h.holds.cell.row.from low))
  reach_as true a (suc k) x y e h =
      let m = h.holds.strip in
      let l = few_after k (cuts.count a) h.slot.few in
      let high = (lined member box channel gate stands cuts cutting (part a (suc k)) x y h true e).past k (omega arith) in
      part_joined member box channel gate stands cuts cutting (part a (suc k)) x y _ _ h (seat_after a k m l e (lower_top _ _ _ high h.holds.cell.row.to))

  -- a cell of a part is joined to its seat
  pub reach : (u : Part) (x y : ℤ) → InPart u x y → Joined Bare x y (seat_x box channel cuts u) (seat_y box channel cuts u)
  reach u x y h = reach_as (cuts.lies u.strip) u.strip u.place x y refl h

  row_joined : (y low high x p : ℤ) → ((z : ℤ) → Within low high z → Bare z y) → Within low high x → Within low high p → Joined Bare x y p y
  row_joined y low high x p bare h k =
      joined_inside Bare (record { left = low; right = high; bottom = y; top = y +ℤ pos 1 })
      (λ z q c. subst (Bare z) (only_row y q c.row) (bare z c.column)) x y p y
      (record { column = h; row = one_row y }) (record { column = k; row = one_row y })

  -- the channel that lies highest in a strip reaches its top, and the part is behind it
  pub record TouchesTop (u : Part) : Type 0 where
    pub lies : cuts.lies u.strip ≡ true
    pub number : ℕ
    pub place : u.place ≡ suc number
    pub below : number < cuts.count u.strip
    pub top : (channel (cuts.number u.strip number)).top ≡ (box u.strip).top

  -- the channel that lies lowest in a strip reaches its bottom, and the part is before it
  pub record TouchesBottom (u : Part) : Type 0 where
    pub lies : cuts.lies u.strip ≡ true
    pub place : u.place ≡ 0
    pub some : 0 < cuts.count u.strip
    pub bottom : (channel (cuts.number u.strip 0)).bottom ≡ (box u.strip).bottom

  top_case : (u : Part) (x : ℤ) → member u.strip → IsAtColumn member box channel gate stands cuts cutting u x → (cuts.lies u.strip ≡ true → u.place ≡ cuts.count u.strip)
      → InPart u x ((box u.strip).top -ℤ pos 1) ⊎ TouchesTop u
  top_case u x m at last =
      let holds : HoldsCell member box u.strip x ((box u.strip).top -ℤ pos 1) =
      record { strip = m; cell = record { column = at.column; row = last_place _ _ (cutting.family.nonempty u.strip m).upwards } } in
      elim (truth (cuts.lies u.strip)) [
        | inr e ↦ inl (in_part u x ((box u.strip).top -ℤ pos 1) holds false e (at.slot e))
        | inl e ↦
            let p = before_it (cuts.count u.strip) (cutting.some u.strip m e) in
            let l : p.0 < cuts.count u.strip = below_suc p.0 (cuts.count u.strip) p.1 in
            let c = channel (cuts.number u.strip p.0) in
            by_lt_z c.top (box u.strip).top
            (λ less. inl (in_part u x ((box u.strip).top -ℤ pos 1) holds true e (record {
              few = at.few;
              past = λ i b. up_to_last _ _ _
                  (ended (λ j. (channel (cuts.number u.strip j)).bottom) (λ j. (channel (cuts.number u.strip j)).top) (cuts.count u.strip)
                  (follow_as member box channel gate stands cuts cutting u.strip m true e) i p.0 (before_last i u.place (cuts.count u.strip) p.0 b (last e) p.1) l)
                  less;
              ahead = λ i b o. absurd (none_behind i u.place (cuts.count u.strip) b o (last e));
            })))
            (λ more. inr (record {
              lies = e;
              number = p.0;
              place = last e ∙ p.1;
              below = l;
              top = antisymmetric _ _ (cutting.lying u.strip p.0 m e l).top more;
            }))
      ]
    where
      below_suc : (j n : ℕ) → n ≡ suc j → j < n
      below_suc j n e = omega arith

      before_last : (i k n j : ℕ) → i < k → k ≡ n → n ≡ suc j → i ≤ j
      before_last i k n j h e f = omega arith

      none_behind : (i k n : ℕ) → k ≤ i → i < n → k ≡ n → ⊥
      none_behind i k n h l e = omega arith

  bottom_case : (u : Part) (x : ℤ) → member u.strip → IsAtColumn member box channel gate stands cuts cutting u x → (cuts.lies u.strip ≡ true → u.place ≡ 0)
      → InPart u x (box u.strip).bottom ⊎ TouchesBottom u
  bottom_case u x m at first =
      let holds : HoldsCell member box u.strip x (box u.strip).bottom =
      record { strip = m; cell = record { column = at.column; row = first_place _ _ (cutting.family.nonempty u.strip m).upwards } } in
      elim (truth (cuts.lies u.strip)) [
        | inr e ↦ inl (in_part u x (box u.strip).bottom holds false e (at.slot e))
        | inl e ↦
            let l = cutting.some u.strip m e in
            by_lt_z (box u.strip).bottom (channel (cuts.number u.strip 0)).bottom
            (λ less. inl (in_part u x (box u.strip).bottom holds true e (record {
              few = at.few;
              past = λ i b. absurd (none_before i u.place b (first e));
              ahead = λ i b o. after (box u.strip).bottom _ _ less
                  (begun (λ j. (channel (cuts.number u.strip j)).bottom) (λ j. (channel (cuts.number u.strip j)).top) (cuts.count u.strip)
                  (follow_as member box channel gate stands cuts cutting u.strip m true e) 0 i (omega arith) o);
            })))
            (λ more. inr (record { lies = e; place = first e; some = l; bottom = antisymmetric _ _ more (cutting.lying u.strip 0 m e l).bottom }))
      ]
    where
      none_before : (i k : ℕ) → i < k → k ≡ 0 → ⊥
      none_before i k h e = omega arith

      after : (a b c : ℤ) → a <ℤ b → b ≤ℤ c → a <ℤ c
      after a b c h k = omega (arith, ints)

  lying_x : (a k : ℕ) → cuts.lies a ≡ true → left_end box channel cuts (cuts.lies a) a k ≡ (box a).left
  unfolding left_end
  lying_x a k e = ap (λ b. left_end box channel cuts b a k) e

  lying_y : (a k j : ℕ) → cuts.lies a ≡ true → k ≡ suc j → row_end box channel cuts (cuts.lies a) a k ≡ (channel (cuts.number a j)).top
  unfolding row_end
  lying_y a k j e f = ap (λ b. row_end box channel cuts b a k) e ∙ ap (row_end box channel cuts true a) f

  lying_y_first : (a k : ℕ) → cuts.lies a ≡ true → k ≡ 0 → row_end box channel cuts (cuts.lies a) a k ≡ (channel (cuts.number a 0)).bottom -ℤ pos 1
  unfolding row_end
  lying_y_first a k e f = ap (λ b. row_end box channel cuts b a k) e ∙ ap (row_end box channel cuts true a) f

  to_cell : (x y p q v w : ℤ) → Joined Bare x y p q → v ≡ p → w ≡ q → Joined Bare x y v w
  to_cell x y p q v w j e f = subst (λ t. Joined Bare x y t w) (sym e) (subst (λ t. Joined Bare x y p t) (sym f) j)

  -- along the row above a strip that a channel fills up to its top
  above_joined : (u : Part) (x : ℤ) → member u.strip → TouchesTop u → Within (box u.strip).left (box u.strip).right x
      → Joined Bare x (box u.strip).top (seat_x box channel cuts u) (seat_y box channel cuts u)
  above_joined u x m t w =
      let walk = row_joined (channel (cuts.number u.strip t.number)).top (box u.strip).left (box u.strip).right x (box u.strip).left
      (λ z k. cutting.above u.strip t.number z m t.lies t.below (on_channel (box u.strip) (channel (cuts.number u.strip t.number)) z (cutting.lying u.strip t.number m t.lies t.below) k))
      w (first_place _ _ (cutting.family.nonempty u.strip m).across) in
      subst (λ y. Joined Bare x y (seat_x box channel cuts u) (seat_y box channel cuts u)) t.top
      (to_cell x (channel (cuts.number u.strip t.number)).top _ _ _ _ walk (lying_x u.strip u.place t.lies) (lying_y u.strip u.place t.number t.lies t.place))

  -- along the row below a strip that a channel fills down to its bottom
  below_joined : (u : Part) (x : ℤ) → member u.strip → TouchesBottom u → Within (box u.strip).left (box u.strip).right x
      → Joined Bare x ((channel (cuts.number u.strip 0)).bottom -ℤ pos 1) (seat_x box channel cuts u) (seat_y box channel cuts u)
  below_joined u x m t w =
      let walk = row_joined ((channel (cuts.number u.strip 0)).bottom -ℤ pos 1) (box u.strip).left (box u.strip).right x (box u.strip).left
      (λ z k. cutting.below u.strip 0 z m t.lies t.some (on_channel (box u.strip) (channel (cuts.number u.strip 0)) z (cutting.lying u.strip 0 m t.lies t.some) k))
      w (first_place _ _ (cutting.family.nonempty u.strip m).across) in
      to_cell x ((channel (cuts.number u.strip 0)).bottom -ℤ pos 1) _ _ _ _ walk (lying_x u.strip u.place t.lies) (lying_y_first u.strip u.place t.lies t.place)

  -- the cell of a channel at the bottom or the top of a strip is gate
  gate_at_bottom : (v : Part) (x : ℤ) → member v.strip → TouchesBottom v → Within (box v.strip).left (box v.strip).right x → gate x (box v.strip).bottom
  gate_at_bottom v x m t w =
      cutting.crossing v.strip 0 x (box v.strip).bottom (record { strip = m; cell = record { column = w; row = first_place _ _ (cutting.family.nonempty v.strip m).upwards } }) t.some
      (record {
        column = on_channel (box v.strip) (channel (cuts.number v.strip 0)) x (cutting.lying v.strip 0 m t.lies t.some) w;
        row = subst (Within (channel (cuts.number v.strip 0)).bottom (channel (cuts.number v.strip 0)).top) t.bottom
            (first_place _ _ (cutting.nonempty v.strip 0 m t.some).upwards);
      })

  -- the seats of parts that adjoin are joined
  pub seats_joined : (u v : Part) → Adjoin stands cuts u v
      → Joined Bare (seat_x box channel cuts u) (seat_y box channel cuts u) (seat_x box channel cuts v) (seat_y box channel cuts v)
  seats_joined u v a =
      let s = cutting.stands_there u.strip v.strip a.stand in
      let c = common_column member box channel gate stands cuts cutting u v a in
      let x = c.0 in
      let ux = seat_x box channel cuts u in
      let uy = seat_y box channel cuts u in
      let vx = seat_x box channel cuts v in
      let vy = seat_y box channel cuts v in
      let low = (box u.strip).top -ℤ pos 1 in
      let high = (box v.strip).bottom in
      elim (top_case u x s.lower c.1 a.last) [
        | inl p ↦ elim (bottom_case v x s.upper c.2 a.first) [
          | inl q ↦
              joined_both Bare ux uy x low vx vy (joined_back Bare x low ux uy (reach u x low p))
              (joined_both Bare x low x high vx vy
              (joined_next Bare x low x high (part_bare member box channel gate stands cuts cutting u x low p) (part_bare member box channel gate stands cuts cutting v x high q)
              (inr (refl, inl (above_seam _ _ s.adjoin))))
              (reach v x high q))
          | inr t ↦
              joined_both Bare ux uy x low vx vy (joined_back Bare x low ux uy (reach u x low p))
              (subst (λ y. Joined Bare x y vx vy) (below_seam _ _ _ s.adjoin t.bottom) (below_joined v x s.upper t c.2.column))
        ]
        | inr t ↦
            let up = subst (λ y. Joined Bare x y ux uy) s.adjoin (above_joined u x s.lower t c.1.column) in
            elim (bottom_case v x s.upper c.2 a.first) [
              | inl q ↦ joined_both Bare ux uy x high vx vy (joined_back Bare x high ux uy up) (reach v x high q)
              | inr b ↦ absurd ((joined_ends Bare ux uy x high (joined_back Bare x high ux uy up)).no_gate (gate_at_bottom v x s.upper b c.2.column))
            ]
      ]
