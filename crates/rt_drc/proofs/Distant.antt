-- Counted strips that are near strips of another mask, and their nearest cells.
use Rattle.std.proofs.Common.{◌≡◌, ◌≢◌, ℕ, ◌<◌, pos, ◌≤ℤ◌, ◌+ℤ◌, ◌<ℤ◌, List, [], ◌∷◌, length, get_or, slice_index, map, sym, ap, subst, ◌∙◌, arith, inl, inr}
use Rattle.std.proofs.lemmas.Int.{by_lt_z}
use Rattle.std.proofs.lemmas.List.{get_or-map, length-map}
use Rattle.std.specs.Int.{int_max}
use Rattle.rt_cells.specs.Line.{between, nearest_place}
use Rattle.rt_cells.specs.Rectangles.{columns_between, rows_between}
use Rattle.rt_cells.proofs.Lines.{nearest_within, nearest_between}
use Rattle.rt_rules.specs.Cuts.{KeepsApart, ApartBreach}
use Rattle.rt_strips.specs.declared.listing.Strip.{Strip}
use Rattle.rt_strips.specs.Placed.{Placed, placed, mask_of}
use Rattle.rt_strips.proofs.Placed.{placed_at, strip_below}
use Rattle.rt_family.specs.Strips.{CoveredBy, IsFamily}
use Rattle.rt_drc.specs.declared.counting.Counted.{Counted}
use Rattle.rt_drc.specs.declared.reach.Reach.{Reach}
use Rattle.rt_drc.specs.declared.rows.Witness.{Witness}
use Rattle.rt_pieces.specs.Members.{IsOf, box_of}
use Rattle.rt_drc.specs.Counting.{IsCounted}
use Rattle.rt_drc.specs.Cornering.{HasNearestCells}
use Rattle.rt_drc.specs.Nearness.{AreNear, NearAreGrouped, AreNearStrangers}
use Rattle.rt_drc.specs.Distances.{TakesPart, AreNearAcross, AreNearPair, AreFarAcross, ShowsApart}
use Rattle.rt_drc.proofs.Cornered.{shown}
use Rattle.rt_drc.proofs.Nearby.{near_ends, short_gap, both_short}

-- nearness goes both ways
turned_near : (reach : Reach) (strips : List Placed) (i j : ℕ) → AreNear reach (box_of strips i) (box_of strips j) → AreNear reach (box_of strips j) (box_of strips i)
turned_near reach strips i j near = record { left = near.right; right = near.left; below = near.above; above = near.below }

-- the numbers are those of the strips' masks
pub record AreMasks (strips : List Placed) (masks : List ℕ) : Type 0 where
  pub each : (i : ℕ) → i < length strips → slice_index masks i ≡ mask_of strips i

same_mask : (strips : List Strip) (i : ℕ) → i < length strips → get_or (map (λ (strip : Strip). strip.mask) strips) i 0 ≡ mask_of (map placed strips) i
same_mask [] i h = absurd (omega (arith, h))
same_mask (strip ∷ strips) i h =
    get_or-map (λ (s : Strip). s.mask) (strip ∷ strips) i strip 0 h
    ∙ sym (ap (λ (p : Placed). p.mask) (placed_at (strip ∷ strips) i strip h))

pub masks_are : (strips : List Strip) (masks : List ℕ) → masks ≡ map (λ (strip : Strip). strip.mask) strips → AreMasks (map placed strips) masks
masks_are strips masks e = record {
  each = λ i h. ap (λ (z : List ℕ). get_or z i 0) e ∙ same_mask strips i (subst (λ n. i < n) (length-map strips placed) h);
}

-- strips that take part are strips
pub part_below : (counted : Counted) (other : ℕ) (strips : List Strip) (i : ℕ) → TakesPart counted other (map placed strips) i → i < length strips
part_below counted other strips i part = elim part.either [
  | inl a ↦ strip_below strips i a.strip.strip
  | inr b ↦ strip_below strips i b.strip
]

module _ (counted : Counted) (other : ℕ) (reach : Reach) (strips : List Placed) (different : counted.mask ≢ other) where
  module _ (masks : List ℕ) (are : AreMasks strips masks) where
    one_mask : (i j m : ℕ) → IsOf m strips i → IsOf m strips j → slice_index masks i ≡ slice_index masks j
    one_mask i j m h k = are.each i h.strip.below_count ∙ (h.mask ∙ (sym k.mask ∙ sym (are.each j k.strip.below_count)))

    -- near strips of different masks
    pub strangers_pair : (i j : ℕ) → AreNearStrangers (TakesPart counted other strips) reach strips masks i j → AreNearPair counted other reach strips i j
    strangers_pair i j near = record {
      either = elim near.first.either [
        | inl a ↦ elim near.second.either [
          | inl b ↦ absurd (near.different (one_mask i j counted.mask a.strip b.strip))
          | inr b ↦ inl (record { first = a; second = b; near = near.near })
        ]
        | inr a ↦ elim near.second.either [
          | inl b ↦ inr (record { first = b; second = a; near = turned_near reach strips i j near.near })
          | inr b ↦ absurd (near.different (one_mask i j other a b))
        ]
      ];
    }

    -- where near strips are of one mask, none are near across
    pub grouped_far : NearAreGrouped (TakesPart counted other strips) reach strips masks → AreFarAcross counted other reach strips
    grouped_far grouped = record {
      far = λ i j across.
          different (sym across.first.strip.mask
          ∙ (sym (are.each i across.first.strip.strip.below_count)
          ∙ (grouped.grouped i j (record { either = inl across.first }) (record { either = inr across.second }) across.near
          ∙ (are.each j across.second.strip.below_count ∙ across.second.mask))));
    }

  -- the counted one of two is the one that isn't of the other mask
  pub first_is_counted : (i j : ℕ) → AreNearPair counted other reach strips i j → ¬ (mask_of strips i ≡ other) → AreNearAcross counted other reach strips i j
  first_is_counted i j pair isnt = elim pair.either [
    | inl across ↦ across
    | inr across ↦ absurd (isnt across.second.mask)
  ]

  pub second_is_counted : (i j : ℕ) → AreNearPair counted other reach strips i j → mask_of strips i ≡ other → AreNearAcross counted other reach strips j i
  second_is_counted i j pair is = elim pair.either [
    | inl across ↦ absurd (different (sym across.first.strip.mask ∙ is))
    | inr across ↦ across
  ]

module _ (counted : Counted) (other : ℕ) (reach : Reach) (strips : List Placed) (family : IsFamily (IsOf counted.mask strips) (box_of strips))
    (others : IsFamily (IsOf other strips) (box_of strips)) (positive : pos 1 ≤ℤ reach.across) (level : reach.upwards ≡ reach.across) where
  -- where none are near across, the cells are apart
  pub far_keep : AreFarAcross counted other reach strips → KeepsApart reach.across (CoveredBy (IsCounted counted strips) (box_of strips)) (CoveredBy (IsOf other strips) (box_of strips))
  far_keep far x y u v c d =
      by_lt_z (between x u) reach.across
      (λ across. by_lt_z (between y v) reach.across
      (λ upwards.
      let h = c.holds in
      let k = d.holds in
      let columns = near_ends _ _ _ _ x u reach.across h.cell.column k.cell.column across in
      let rows = near_ends _ _ _ _ y v reach.upwards h.cell.row k.cell.row (subst (λ t. between y v <ℤ t) (sym level) upwards) in
      absurd (far.far c.number d.number (record {
        first = h.strip;
        second = k.strip;
        near = record { left = columns.0; right = columns.1; below = rows.0; above = rows.1 };
      })))
      (λ upwards. inr upwards))
      (λ across. inl across)

  near_cells : (i j : ℕ) → AreNearAcross counted other reach strips i j
      → ApartBreach reach.across (CoveredBy (IsCounted counted strips) (box_of strips)) (CoveredBy (IsOf other strips) (box_of strips))
      (nearest_place (box_of strips i).left (box_of strips i).right (box_of strips j).left)
      (nearest_place (box_of strips i).bottom (box_of strips i).top (box_of strips j).bottom)
      (nearest_place (box_of strips j).left (box_of strips j).right (box_of strips i).left)
      (nearest_place (box_of strips j).bottom (box_of strips j).top (box_of strips i).bottom)
      (int_max (columns_between (box_of strips i) (box_of strips j)) (rows_between (box_of strips i) (box_of strips j)))
  near_cells i j across =
      let a = family.nonempty i across.first.strip in
      let b = others.nonempty j across.second in
      let near = across.near in
      record {
        first = record { number = i; holds = record { strip = across.first; cell = record { column = nearest_within _ _ _ a.across; row = nearest_within _ _ _ a.upwards } } };
        second = record { number = j; holds = record { strip = across.second; cell = record { column = nearest_within _ _ _ b.across; row = nearest_within _ _ _ b.upwards } } };
        gap_found = λ t. int_max
            (nearest_between (box_of strips i).left (box_of strips i).right (box_of strips j).left (box_of strips j).right a.across b.across t)
            (nearest_between (box_of strips i).bottom (box_of strips i).top (box_of strips j).bottom (box_of strips j).top a.upwards b.upwards t);
        short = both_short _ _ _
            (short_gap _ _ _ _ _ positive near.left near.right)
            (short_gap _ _ _ _ _ positive (subst (λ t. (box_of strips i).bottom <ℤ ((box_of strips j).top +ℤ t)) level near.below)
            (subst (λ t. (box_of strips j).bottom <ℤ ((box_of strips i).top +ℤ t)) level near.above));
      }

  -- the nearest cells of two that are near across show that the cells are too near
  pub apart_shown : (i j : ℕ) → AreNearAcross counted other reach strips i j → (witness : Witness) → HasNearestCells (box_of strips i) (box_of strips j) witness
      → ShowsApart reach.across (CoveredBy (IsCounted counted strips) (box_of strips)) (CoveredBy (IsOf other strips) (box_of strips)) witness
  apart_shown i j across witness at =
      shown (ApartBreach reach.across (CoveredBy (IsCounted counted strips) (box_of strips)) (CoveredBy (IsOf other strips) (box_of strips))) _ _ _ _ _ witness at (near_cells i j across)
