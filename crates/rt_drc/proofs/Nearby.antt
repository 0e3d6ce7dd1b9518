-- Strips that are near share a cell as bars; the pieces that are near.
use Rattle.std.proofs.Common.{◌≡◌, ℕ, ◌+◌, ◌<◌, ℤ, pos, ◌+ℤ◌, ◌≤ℤ◌, ◌<ℤ◌, List, [], ◌∷◌, ◌++◌, length, get_or, map, All, sym, ap, subst, ◌∙◌, arith, inl, inr}
use Rattle.std.proofs.lemmas.Int.{ints, clamps, by_lt_z}
use Rattle.std.proofs.lemmas.List.Elements.{Contains-get_or, Contains-push, Contains-push_cases, Contains-append_left}
use Rattle.std.specs.Int.{int_max, int_min}
use Rattle.rt_cells.specs.Line.{Within, between, gap_of, nearest_place}
use Rattle.rt_cells.specs.Rectangles.{Rectangle}
use Rattle.rt_cells.proofs.Lines.{nearest_within, nearest_between}
use Rattle.rt_rules.specs.Space.{KeepsPiecesApart, AreNearPieces}
use Rattle.rt_base.specs.Plane.{area}
use Rattle.rt_sweep.specs.declared.bar.Bar.{Bar}
use Rattle.rt_strips.specs.declared.listing.Strip.{Strip}
use Rattle.rt_strips.specs.Placed.{Placed, placed}
use Rattle.rt_strips.proofs.Placed.{strip_is}
use Rattle.rt_family.specs.Strips.{HoldsCell, CoveredBy, IsFamily}
use Rattle.rt_family.proofs.Strips.{connected_joined, joined_connected}
use Rattle.rt_drc.specs.declared.clash.Clash.{Clash}
use Rattle.rt_drc.specs.declared.reach.Reach.{Reach}
use Rattle.rt_drc.specs.declared.rows.Witness.{Witness}
use Rattle.rt_pieces.specs.Members.{IsOf, box_of}
use Rattle.rt_drc.specs.Clashing.{ShareCell, HasGroup, AreGrouped, DoClash}
use Rattle.rt_drc.specs.Cornering.{HasNearestCells, ShowsNearPieces}
use Rattle.rt_drc.specs.Nearness.{farthest, grown, AreNear, IsBarOf, IsBarBefore, AreBarsBefore, NearAreGrouped, AreNearStrangers}
use Rattle.rt_pieces.specs.Numbering.{AreNumbersOfPieces}
use Rattle.rt_drc.proofs.Cornered.{shown}
use Rattle.rt_cells.proofs.Numbers.{last_or_before}

below_end : (low high by far : ℤ) → low <ℤ far → low <ℤ (high +ℤ by) → low <ℤ int_min (high +ℤ by) far
below_end low high by far h k = omega (arith, ints, clamps)

below_sum : (low high by far : ℤ) → low <ℤ int_min (high +ℤ by) far → low <ℤ (high +ℤ by)
below_sum low high by far h = omega (arith, ints, clamps)

-- a strip of a bar begins before the farthest place
begins_left : (reach : Reach) (strips : List Placed) (i : ℕ) (bar : Bar) → IsBarOf reach strips i bar → (box_of strips i).left <ℤ farthest
begins_left reach strips i bar of =
    let e : bar.at.x1 ≡ (box_of strips i).left = ap (λ (r : Rectangle). r.left) of.at in
    let h : bar.at.x1 <ℤ bar.at.x2 = bar.at.across in
    let k : bar.at.x2 ≤ℤ farthest = bar.at.to_right in
    omega (arith, ints, e, h, k)

begins_below : (reach : Reach) (strips : List Placed) (i : ℕ) (bar : Bar) → IsBarOf reach strips i bar → (box_of strips i).bottom <ℤ farthest
begins_below reach strips i bar of =
    let e : bar.at.y1 ≡ (box_of strips i).bottom = ap (λ (r : Rectangle). r.bottom) of.at in
    let h : bar.at.y1 <ℤ bar.at.y2 = bar.at.upwards in
    let k : bar.at.y2 ≤ℤ farthest = bar.at.to_top in
    omega (arith, ints, e, h, k)

-- the bars of near strips share a cell
near_share : (reach : Reach) (strips : List Placed) (i j : ℕ) (a b : Bar) → IsBarOf reach strips i a → IsBarOf reach strips j b
    → AreNear reach (box_of strips i) (box_of strips j) → ShareCell (area a.at) (area b.at)
near_share reach strips i j a b of of' near =
    let p = box_of strips i in
    let q = box_of strips j in
    subst (λ r. ShareCell r (area b.at)) (sym of.at)
    (subst (λ r. ShareCell (grown reach p) r) (sym of'.at) (record {
      columns = record {
        first = below_end p.left q.right reach.across farthest (begins_left reach strips i a of) near.left;
        second = below_end q.left p.right reach.across farthest (begins_left reach strips j b of') near.right;
      };
      rows = record {
        first = below_end p.bottom q.top reach.upwards farthest (begins_below reach strips i a of) near.below;
        second = below_end q.bottom p.top reach.upwards farthest (begins_below reach strips j b of') near.above;
      };
    }))

-- strips whose bars share a cell are near
share_near : (reach : Reach) (strips : List Placed) (i j : ℕ) (a b : Bar) → IsBarOf reach strips i a → IsBarOf reach strips j b
    → ShareCell (area a.at) (area b.at) → AreNear reach (box_of strips i) (box_of strips j)
share_near reach strips i j a b of of' share =
    let p = box_of strips i in
    let q = box_of strips j in
    let moved : ShareCell (grown reach p) (grown reach q) = subst (λ r. ShareCell r (grown reach q)) of.at (subst (λ r. ShareCell (area a.at) r) of'.at share) in
    record {
      left = below_sum p.left q.right reach.across farthest moved.columns.first;
      right = below_sum q.left p.right reach.across farthest moved.columns.second;
      below = below_sum p.bottom q.top reach.upwards farthest moved.rows.first;
      above = below_sum q.bottom p.top reach.upwards farthest moved.rows.second;
    }

module _ (member : ℕ → Type 0) (reach : Reach) where
  before_more : (strips : List Placed) (n : ℕ) (bar : Bar) → IsBarBefore member reach strips n bar → IsBarBefore member reach strips (n + 1) bar
  before_more strips n bar h = record { before = omega (arith, h.before); strip = h.strip; of_strip = h.of_strip }

  -- the bar of one strip more
  pub bars_more : (strips : List Strip) (n : ℕ) (strip : Strip) (bars : List Bar) (bar : Bar) → n < length strips → strip ≡ get_or strips n strip
      → member n → bar.tag ≡ n → area bar.at ≡ grown reach (area strip.at) → AreBarsBefore member reach (map placed strips) n bars
      → AreBarsBefore member reach (map placed strips) (n + 1) (bars ++ bar ∷ [])
  bars_more strips n strip bars bar h is on tag at before =
      let e = strip_is strips n strip h is in
      let of_strip : IsBarOf reach (map placed strips) n bar = record { number = tag; at = at ∙ ap (λ (p : Placed). grown reach p.area) (sym e) } in
      let mine : IsBarBefore member reach (map placed strips) (n + 1) bar = record {
        before = omega (arith, tag);
        strip = subst member (sym tag) on;
        of_strip = subst (λ t. IsBarOf reach (map placed strips) t bar) (sym tag) of_strip;
      } in
      record {
        each = λ x c. elim (Contains-push_cases bars bar x c) [
          | inl old ↦ before_more (map placed strips) n x (before.each x old)
          | inr same ↦ subst (IsBarBefore member reach (map placed strips) (n + 1)) same mine
        ];
        every = λ i b of. elim (last_or_before n i b) [
          | inl same ↦ record { bar = bar; listed = Contains-push bars bar; of_strip = subst (λ t. IsBarOf reach (map placed strips) t bar) (sym same) of_strip }
          | inr less ↦
              let old = before.every i less of in
              record { bar = old.bar; listed = Contains-append_left bars (bar ∷ []) old.bar old.listed; of_strip = old.of_strip }
        ];
      }

  -- another strip has no bar
  pub bars_same : (strips : List Placed) (n : ℕ) (bars : List Bar) → ¬ member n → AreBarsBefore member reach strips n bars → AreBarsBefore member reach strips (n + 1) bars
  bars_same strips n bars other before = record {
    each = λ x c. before_more strips n x (before.each x c);
    every = λ i b of. elim (last_or_before n i b) [
      | inl same ↦ absurd (other (subst member same of))
      | inr less ↦ before.every i less of
    ];
  }

  -- each bar has a group where each strip has one
  pub bars_have_groups : (strips : List Placed) (n : ℕ) (bars : List Bar) (groups : List ℕ) → AreBarsBefore member reach strips n bars → length groups ≡ n
      → All (HasGroup groups) bars
  bars_have_groups strips n bars groups are e k d h =
      let b = (are.each (get_or bars k d) (Contains-get_or bars k d h)).before in
      record { below = omega (arith, b, e) }

  -- strips of bars that clash are near and of different groups
  pub clash_near : (strips : List Placed) (n : ℕ) (bars : List Bar) (groups : List ℕ) (clash : Clash) → AreBarsBefore member reach strips n bars
      → DoClash groups bars clash → AreNearStrangers member reach strips groups clash.first.tag clash.second.tag
  clash_near strips n bars groups clash are clashing =
      let a = are.each clash.first clashing.first in
      let b = are.each clash.second clashing.second in
      record {
        first = a.strip;
        second = b.strip;
        near = share_near reach strips clash.first.tag clash.second.tag clash.first clash.second a.of_strip b.of_strip clashing.share;
        different = clashing.different;
      }

  -- where bars that share a cell are of one group, so are near strips
  pub grouped_near : (strips : List Placed) (n : ℕ) (bars : List Bar) (groups : List ℕ) → AreBarsBefore member reach strips n bars → ((i : ℕ) → member i → i < n)
      → AreGrouped groups bars → NearAreGrouped member reach strips groups
  grouped_near strips n bars groups are below grouped = record {
    grouped = λ i j h k near.
        let a = are.every i (below i h) h in
        let b = are.every j (below j k) k in
        sym (ap (λ t. get_or groups t 0) a.of_strip.number)
        ∙ (grouped.grouped a.bar b.bar a.listed b.listed (near_share reach strips i j a.bar b.bar a.of_strip b.of_strip near) ∙ ap (λ t. get_or groups t 0) b.of_strip.number);
  }

pub near_ends : (low high low' high' x u s : ℤ) → Within low high x → Within low' high' u → between x u <ℤ s → (low <ℤ (high' +ℤ s)) × (low' <ℤ (high +ℤ s))
near_ends low high low' high' x u s h k l = (omega (arith, ints, clamps), omega (arith, ints, clamps))

pub short_gap : (low high low' high' s : ℤ) → pos 1 ≤ℤ s → low <ℤ (high' +ℤ s) → low' <ℤ (high +ℤ s) → gap_of low high low' high' <ℤ s
short_gap low high low' high' s p h k = omega (arith, ints, clamps)

pub both_short : (a b s : ℤ) → a <ℤ s → b <ℤ s → int_max a b <ℤ s
both_short a b s h k = omega (arith, ints, clamps)

module _ (m : ℕ) (reach : Reach) (strips : List Placed) (numbers : List ℕ) (family : IsFamily (IsOf m strips) (box_of strips)) (positive : pos 1 ≤ℤ reach.across)
    (level : reach.upwards ≡ reach.across) (pieces : AreNumbersOfPieces m strips numbers) where
  -- where near strips are of one piece, pieces are apart
  pub pieces_keep : NearAreGrouped (IsOf m strips) reach strips numbers → KeepsPiecesApart reach.across (CoveredBy (IsOf m strips) (box_of strips))
  pieces_keep grouped x y u v c d =
      by_lt_z (between x u) reach.across
      (λ across. by_lt_z (between y v) reach.across
      (λ upwards.
      let h = c.holds in
      let k = d.holds in
      let columns = near_ends _ _ _ _ x u reach.across h.cell.column k.cell.column across in
      let rows = near_ends _ _ _ _ y v reach.upwards h.cell.row k.cell.row (subst (λ t. between y v <ℤ t) (sym level) upwards) in
      let one = grouped.grouped c.number d.number h.strip k.strip (record { left = columns.0; right = columns.1; below = rows.0; above = rows.1 }) in
      inl (connected_joined (IsOf m strips) (box_of strips) family c.number d.number ((pieces.same c.number d.number h.strip k.strip).0 one) x y u v h k))
      (λ far. inr (inr far)))
      (λ far. inr (inl far))

  near_cells : (i j : ℕ) → AreNearStrangers (IsOf m strips) reach strips numbers i j
      → AreNearPieces reach.across (CoveredBy (IsOf m strips) (box_of strips))
      (nearest_place (box_of strips i).left (box_of strips i).right (box_of strips j).left) (nearest_place (box_of strips i).bottom (box_of strips i).top (box_of strips j).bottom)
      (nearest_place (box_of strips j).left (box_of strips j).right (box_of strips i).left) (nearest_place (box_of strips j).bottom (box_of strips j).top (box_of strips i).bottom)
      (int_max (gap_of (box_of strips i).left (box_of strips i).right (box_of strips j).left (box_of strips j).right)
      (gap_of (box_of strips i).bottom (box_of strips i).top (box_of strips j).bottom (box_of strips j).top))
  near_cells i j near =
      let a = family.nonempty i near.first in
      let b = family.nonempty j near.second in
      let h : HoldsCell (IsOf m strips) (box_of strips) i (nearest_place (box_of strips i).left (box_of strips i).right (box_of strips j).left)
      (nearest_place (box_of strips i).bottom (box_of strips i).top (box_of strips j).bottom) =
      record { strip = near.first; cell = record { column = nearest_within _ _ _ a.across; row = nearest_within _ _ _ a.upwards } } in
      let k : HoldsCell (IsOf m strips) (box_of strips) j (nearest_place (box_of strips j).left (box_of strips j).right (box_of strips i).left)
      (nearest_place (box_of strips j).bottom (box_of strips j).top (box_of strips i).bottom) =
      record { strip = near.second; cell = record { column = nearest_within _ _ _ b.across; row = nearest_within _ _ _ b.upwards } } in
      record {
        first = record { number = i; holds = h };
        second = record { number = j; holds = k };
        different = λ walk. near.different ((pieces.same i j near.first near.second).1
            (joined_connected (IsOf m strips) (box_of strips) family i _ _ h _ _ walk j k));
        gap_found = λ t. int_max
            (nearest_between (box_of strips i).left (box_of strips i).right (box_of strips j).left (box_of strips j).right a.across b.across t)
            (nearest_between (box_of strips i).bottom (box_of strips i).top (box_of strips j).bottom (box_of strips j).top a.upwards b.upwards t);
        short = both_short _ _ _
            (short_gap _ _ _ _ _ positive near.near.left near.near.right)
            (short_gap _ _ _ _ _ positive (subst (λ t. (box_of strips i).bottom <ℤ ((box_of strips j).top +ℤ t)) level near.near.below)
            (subst (λ t. (box_of strips j).bottom <ℤ ((box_of strips i).top +ℤ t)) level near.near.above));
      }

  -- the nearest cells of near strips of different pieces show that the pieces are too near
  pub near_shown : (i j : ℕ) → AreNearStrangers (IsOf m strips) reach strips numbers i j → (witness : Witness) → HasNearestCells (box_of strips i) (box_of strips j) witness
      → ShowsNearPieces reach.across (CoveredBy (IsOf m strips) (box_of strips)) witness
  near_shown i j near witness at = shown (AreNearPieces reach.across (CoveredBy (IsOf m strips) (box_of strips))) _ _ _ _ _ witness at (near_cells i j near)
