-- What the strips of a layout are: those of its masks cover what these cover, and those behind them are the channels that are rectangles.
use Rattle.std.proofs.Common.{◌≡◌, ℕ, suc, ◌<◌, ℤ, ◌↔◌, List, refl, sym, ap, subst, ◌∙◌, arith, inr}
use Rattle.rt_cells.specs.Rectangles.{Rectangle, Holds}
use Rattle.rt_cells.proofs.Lines.{first_place}
use Rattle.rt_layout.specs.declared.layout.Layout.{Layout}
use Rattle.rt_layout.specs.Covering.{MaskCovers}
use Rattle.rt_tech.specs.declared.table.Tech.{Tech}
use Rattle.rt_tech.specs.Tech.{mask_count}
use Rattle.rt_strips.specs.Placed.{Placed, left_of, bottom_of, covered_by}
use Rattle.rt_rules.specs.Pieces.{IsPiece}
use Rattle.rt_strips.specs.Channels.{IsChannelCell, IsStripCell, AreLayoutStrips}
use Rattle.rt_strips.specs.Laws.{IsChannelStrip}
use Rattle.rt_strips.proofs.Family.{IsOfMask, box_of}
use Rattle.rt_strips.proofs.OneList.{held_cell}
use Rattle.rt_strips.proofs.PieceStrips.{piece_is_untouched}
use Rattle.rt_strips.proofs.Tallied.{mask_cells, channel_cells}

one_more : (m n : ℕ) → m < n → m < suc n
one_more m n h = omega (arith, h)

module _ (layout : Layout) (tech : Tech) (strips : List Placed) (are : AreLayoutStrips layout tech strips) where
  pub mask_covers : (m : ℕ) (x y : ℤ) → m < mask_count tech → MaskCovers layout m x y ↔ covered_by m strips x y
  mask_covers m x y below =
      let same = mask_cells layout tech m x y below in
      let cells = are.same_cells m x y (one_more m (mask_count tech) below) in
      (λ c. cells.0 (same.0 c), λ c. same.1 (cells.1 c))

  -- a channel that is a rectangle is a piece of the cells of such channels
  own_piece : (r : Rectangle) → IsPiece (IsChannelCell layout tech) r → IsPiece (IsStripCell layout tech (mask_count tech)) r
  own_piece r piece = record {
    nonempty = piece.nonempty;
    inside = λ x y h. record { of_mask_or_channel = inr (refl, record { channel = r; piece = piece; holds = h }) };
    alone = λ x y u v h side c. let d = channel_cells layout tech u v c in piece.alone x y u v h side (d.piece.inside u v d.holds);
  }

  -- a channel that is a rectangle is a strip
  pub channel_is_strip : (r : Rectangle) → IsPiece (IsChannelCell layout tech) r → IsChannelStrip tech strips r
  channel_is_strip r piece =
      let t = piece_is_untouched (IsStripCell layout tech) (suc (mask_count tech)) strips are (mask_count tech) (omega arith) r (own_piece r piece) in
      record { number = t.0; strip = record { below_count = t.1.below }; behind_masks = t.1.of_mask; area_is = t.2 }

  -- a strip behind the masks is a channel
  pub strip_is_channel : (r : Rectangle) → IsChannelStrip tech strips r → IsPiece (IsChannelCell layout tech) r
  strip_is_channel r s =
      let i = s.number in
      let h : IsOfMask strips (mask_count tech) i = record { below = s.strip.below_count; of_mask = s.behind_masks } in
      let some = are.nonempty i s.strip in
      let x = left_of strips i in
      let y = bottom_of strips i in
      let u : Holds (box_of strips i) x y = record { column = first_place _ _ some.across; row = first_place _ _ some.upwards } in
      let c = channel_cells layout tech x y (held_cell (IsStripCell layout tech) (suc (mask_count tech)) strips are (mask_count tech) i x y (omega arith) h u) in
      let t = piece_is_untouched (IsStripCell layout tech) (suc (mask_count tech)) strips are (mask_count tech) (omega arith) c.channel (own_piece c.channel c.piece) in
      let same : t.0 ≡ i = are.once t.0 i (record { first = record { below_count = t.1.below }; second = s.strip; one_mask = t.1.of_mask ∙ sym s.behind_masks }) x y
      (subst (λ (b : Rectangle). Holds b x y) (sym t.2) c.holds) u in
      subst (IsPiece (IsChannelCell layout tech)) (sym t.2 ∙ ap (box_of strips) same ∙ s.area_is) c.piece
