-- A channel in the source: its one strip of the single mask, and its strips of the many mask.
use Rattle.std.proofs.Common.{◌≡◌, ℕ, ℤ, pos, ◌+ℤ◌, ◌-ℤ◌, ◌≤ℤ◌, ◌<ℤ◌, ◌⊎◌, List, [], Contains, sym, subst, ◌∙◌, arith}
use Rattle.std.proofs.lemmas.Int.{ints, clamps, by_lt_z}
use Rattle.std.proofs.lemmas.List.Elements.{All-contains}
use Rattle.std.specs.Int.{int_max}
use mathlib.Core.Logic.{inl, inr}
use Rattle.rt_cells.specs.Line.{Within, IsRun}
use Rattle.rt_cells.specs.Cells.{row_of, Adjacent}
use Rattle.rt_cells.specs.Rectangles.{Rectangle, IsNonempty}
use Rattle.rt_cells.proofs.Lines.{within, first_place, last_place, passed_along, antisymmetric}
use Rattle.rt_family.specs.Strips.{ShareColumn, ShareRow, SpansColumns, HoldsCell, CoveredBy, IsFamily, IsHost}
use Rattle.rt_family.proofs.Strips.{AreClose, same_close, common_place, one_holder, held_on, run_is_row, stands_above}
use Rattle.rt_family.specs.Strips.{IsChain}
use Rattle.rt_family.specs.Strips.IsChain.{one, more}
use Rattle.rt_family.proofs.Chains.{Contains-head, Contains-rest, head_of, has_hosts}
use Rattle.rt_channels.specs.Channels.{widened, stretched, SpansRows, HasNoStack, IsFilled, IsChannel, IsSingleStrip, AreManyStrips}

-- the last strip of a chain is in it
pub end_of : (member : ℕ → Type 0) (box : ℕ → Rectangle) (first : ℕ) (chain : List ℕ) (last : ℕ) → IsChain member box first chain last → Contains chain last
end_of member box i _ _ (one _ m) = Contains-head i []
end_of member box i _ last (more _ j _ rest stands c) = Contains-rest i rest last (end_of member box j rest last c)

pub row_below : (low high bottom : ℤ) → low <ℤ bottom → bottom <ℤ high → Within low high (bottom -ℤ pos 1)
row_below low high bottom h k = record { from = omega (arith, ints); to = omega (arith, ints) }

pub row_above : (low high top : ℤ) → low <ℤ top → top <ℤ high → Within low high top
row_above low high top h k = record { from = omega (arith, ints); to = k }

begins_in : (low high bottom top : ℤ) → bottom ≤ℤ low → low <ℤ top → Within bottom top low
begins_in low high bottom top h k = record { from = h; to = k }

spans_first : (a b : Rectangle) → SpansColumns a b → b.left <ℤ b.right → Within a.left a.right b.left
spans_first a b h k = record { from = omega (arith, ints); to = omega (arith, ints) }

spans_last : (a b : Rectangle) → SpansColumns a b → b.left <ℤ b.right → Within a.left a.right (b.right -ℤ pos 1)
spans_last a b h k = record { from = omega (arith, ints); to = omega (arith, ints) }

pub close_before : (x : ℤ) → AreClose x (x -ℤ pos 1)
close_before x = record { right = omega (arith, ints); left = omega (arith, ints) }

pub close_after : (x : ℤ) → AreClose (x -ℤ pos 1) x
close_after x = record { right = omega (arith, ints); left = omega (arith, ints) }

past_last : (low high x : ℤ) → Within low high x → (x +ℤ pos 1) ≤ℤ high
past_last low high x h = omega (arith, ints)

spans_shares : (a b : Rectangle) → SpansColumns a b → b.left <ℤ b.right → ShareColumn a b
spans_shares a b h k = record { first = omega (arith, ints); second = omega (arith, ints) }

pub same_first : (low high a b : ℤ) → low ≡ a → high ≡ b → a <ℤ b → Within low high a
same_first low high a b e f h = record { from = omega (arith, ints); to = omega (arith, ints) }

module _ (member : ℕ → Type 0) (box : ℕ → Rectangle) (family : IsFamily member box) (area : Rectangle) (nonempty : IsNonempty area) (filled : IsFilled (CoveredBy member box) area) where
  -- every host of a covered rectangle spans its columns
  pub host_spans : (i : ℕ) → IsHost member box area i → SpansColumns (box i) area
  host_spans i host =
      let h = has_hosts member box family area nonempty filled.covered in
      All-contains (λ k. SpansColumns (box k) area) h.2 i h.3.wide (h.3.every i host)

module _ (single many : ℕ → Type 0) (box : ℕ → Rectangle) (area : Rectangle) (channel : IsChannel (CoveredBy single box) (CoveredBy many box) area) where
  row_is_channel : (y : ℤ) → Within area.bottom area.top y → IsRun (row_of (CoveredBy single box) y) area.left area.right
  row_is_channel y h = record {
    nonempty = channel.nonempty.across;
    inside = λ x k. channel.of_single.covered x y (record { column = k; row = h });
    before = channel.left_single y h;
    after = channel.right_single y h;
  }

  module _ (family : IsFamily single box) (unstacked : HasNoStack single box) where
    -- a strip of the single mask with the columns of the channel and a row of it has its next row
    next_row : (o : ℕ) → single o → (box o).left ≡ area.left → (box o).right ≡ area.right → (z t : ℤ) → Within area.bottom area.top z → Within area.bottom area.top t
        → Adjacent z t → Within (box o).bottom (box o).top z → Within (box o).bottom (box o).top t
    next_row o m e f z t hz ht near h =
        let r = run_is_row single box family t area.left area.right (row_is_channel t ht) in
        let low : HoldsCell single box o area.left z = record { strip = m; cell = record { column = same_first _ _ _ _ e f channel.nonempty.across; row = h } } in
        let high : HoldsCell single box r.0 area.left t = record { strip = r.1; cell = record { column = same_first _ _ _ _ r.3 r.4 channel.nonempty.across; row = r.2 } } in
        elim near [
          | inl a ↦ elim (stands_above single box family o r.0 area.left z low (subst (λ y. HoldsCell single box r.0 area.left y) a high)) [
            | inl same ↦ subst (λ k. Within (box k).bottom (box k).top t) (sym same) r.2
            | inr stands ↦ absurd (unstacked.differ o r.0 stands (e ∙ sym r.3) (f ∙ sym r.4))
          ]
          | inr a ↦ elim (stands_above single box family r.0 o area.left t high (subst (λ y. HoldsCell single box o area.left y) a low)) [
            | inl same ↦ subst (λ k. Within (box k).bottom (box k).top t) same r.2
            | inr stands ↦ absurd (unstacked.differ r.0 o stands (r.3 ∙ sym e) (r.4 ∙ sym f))
          ]
        ]

    -- one strip of the single mask runs through the channel
    pub single_strip : (o : ℕ) × IsSingleStrip single many box area o
    single_strip =
        let low = first_place _ _ channel.nonempty.upwards in
        let high = last_place _ _ channel.nonempty.upwards in
        let r = run_is_row single box family area.bottom area.left area.right (row_is_channel area.bottom low) in
        let runs : (y : ℤ) → Within area.bottom area.top y → Within (box r.0).bottom (box r.0).top y =
        λ y h. passed_along (λ z. Within (box r.0).bottom (box r.0).top z) area.bottom area.top (next_row r.0 r.1 r.3 r.4) area.bottom y low h r.2 in (
          r.0,
          record {
            strip = r.1;
            left = r.3;
            right = r.4;
            rows = record { bottom = r.2.from; top = up_to_last (box r.0).top area.top (runs (area.top -ℤ pos 1) high).to };
            only = λ i host.
                let x = common_place (box i) area (family.nonempty i host.strip) channel.nonempty host.columns in
                let y = common_rows (box i) area (family.nonempty i host.strip) channel.nonempty host.rows in
                one_holder single box family i r.0 _ _ _ (record { strip = host.strip; cell = record { column = x.0; row = y.0 } })
                (record { strip = r.1; cell = record { column = same_columns _ _ _ _ _ r.3 r.4 x.1; row = runs _ y.1 } }) (same_close _);
          },
        )
      where
        up_to_last : (high top : ℤ) → (top -ℤ pos 1) <ℤ high → top ≤ℤ high
        up_to_last high top h = omega (arith, ints)

        same_columns : (low high a b x : ℤ) → low ≡ a → high ≡ b → Within a b x → Within low high x
        same_columns low high a b x e f h = record { from = omega (arith, ints); to = omega (arith, ints) }

        common_rows : (a b : Rectangle) → IsNonempty a → IsNonempty b → ShareRow a b
            → Within a.bottom a.top (int_max a.bottom b.bottom) × Within b.bottom b.top (int_max a.bottom b.bottom)
        common_rows a b h k over = (within _ _ _ (omega (arith, ints, clamps)) (omega (arith, ints, clamps)), within _ _ _ (omega (arith, ints, clamps)) (omega (arith, ints, clamps)))

    -- a host of what the channel reaches upwards is that strip, or lies below or above the channel
    pub single_hosts : (near : ℤ) → pos 1 ≤ℤ near → IsFilled (CoveredBy single box) (stretched near area) → (o : ℕ) → IsSingleStrip single many box area o
        → (i : ℕ) → IsHost single box (stretched near area) i → (i ≡ o) ⊎ (((box i).top ≤ℤ area.bottom) ⊎ (area.top ≤ℤ (box i).bottom))
    single_hosts near p filled o strip i host =
        by_lt_z (box i).bottom area.top
        (λ l. by_lt_z area.bottom (box i).top
        (λ m. inl (strip.only i (record {
          strip = host.strip;
          columns = record { first = host.columns.first; second = host.columns.second };
          rows = record { first = l; second = m };
        })))
        (λ m. inr (inl m)))
        (λ l. inr (inr l))

  module _ (family : IsFamily many box) where
    -- a strip of the many mask that meets the channel keeps to its rows
    many_rows : (i : ℕ) → IsHost many box area i → SpansRows area (box i)
    many_rows i host =
        let x = common_place (box i) area (family.nonempty i host.strip) channel.nonempty host.columns in
        let covers : (y : ℤ) → Within (box i).bottom (box i).top y → CoveredBy many box (int_max (box i).left area.left) y =
        λ y h. record { number = i; holds = record { strip = host.strip; cell = record { column = x.0; row = h } } } in
        record {
          bottom = by_lt_z (box i).bottom area.bottom
              (λ l. absurd (channel.below_many _ x.1 (covers _ (row_below _ _ _ l host.rows.second))))
              (λ l. l);
          top = by_lt_z area.top (box i).top
              (λ l. absurd (channel.above_many _ x.1 (covers _ (row_above _ _ _ host.rows.first l))))
              (λ l. l);
        }

    -- it juts out on both sides
    many_columns : (i : ℕ) → IsHost many box area i → SpansColumns (box i) (widened (pos 1) area)
    many_columns i host =
        let wide = host_spans many box family area channel.nonempty channel.of_many i host in
        let row = begins_in (box i).bottom (box i).top area.bottom area.top (many_rows i host).bottom host.rows.first in
        let own = first_place _ _ (family.nonempty i host.strip).upwards in
        let across = channel.nonempty.across in
        let first : HoldsCell many box i area.left (box i).bottom = record { strip = host.strip; cell = record { column = spans_first (box i) area wide across; row = own } } in
        let last : HoldsCell many box i (area.right -ℤ pos 1) (box i).bottom = record { strip = host.strip; cell = record { column = spans_last (box i) area wide across; row = own } } in
        record {
          left = (held_on many box family i _ _ _ first (close_before _) (channel.left_many _ row)).cell.column.from;
          right = past_last _ _ _ (held_on many box family i _ _ _ last (close_after _) (channel.right_many _ row)).cell.column;
        }

    -- the strips of the many mask that meet the channel
    pub many_strips : (first : ℕ) × (last : ℕ) × (chain : List ℕ) × AreManyStrips single many box area first last chain
    many_strips =
        let h = has_hosts many box family area channel.nonempty channel.of_many.covered in
        let head = All-contains (IsHost many box area) h.2 h.0 h.3.hosts (head_of many box h.0 h.2 h.1 h.3.stacked) in
        let end : IsHost many box area h.1 = All-contains (IsHost many box area) h.2 h.1 h.3.hosts (end_of many box h.0 h.2 h.1 h.3.stacked) in (
          h.0,
          h.1,
          h.2,
          record {
            hosts = h.3;
            bottom = antisymmetric _ _ h.3.lowest.from (many_rows h.0 head).bottom;
            top = antisymmetric _ _ (many_rows h.1 end).top h.3.highest_ends;
            across = many_columns;
            rows = many_rows;
          },
        )

    -- the strips that meet what the channel reaches across are those that meet the channel
    pub many_hosts : (near : ℤ) → pos 1 ≤ℤ near → IsFilled (CoveredBy many box) (widened near area) → (i : ℕ) → IsHost many box (widened near area) i → IsHost many box area i
    many_hosts near p filled i host =
        let wide = host_spans many box family (widened near area) (widened_nonempty near area p channel.nonempty) filled i host in
        record {
          strip = host.strip;
          columns = spans_shares (box i) area (spans_inner near (box i) area p wide) channel.nonempty.across;
          rows = record { first = host.rows.first; second = host.rows.second };
        }
      where
        widened_nonempty : (near : ℤ) (a : Rectangle) → pos 1 ≤ℤ near → IsNonempty a → IsNonempty (widened near a)
        widened_nonempty near a p h = record { across = omega (arith, ints); upwards = h.upwards }

        spans_inner : (near : ℤ) (a b : Rectangle) → pos 1 ≤ℤ near → SpansColumns a (widened near b) → SpansColumns a b
        spans_inner near a b p h = record { left = omega (arith, ints); right = omega (arith, ints) }
