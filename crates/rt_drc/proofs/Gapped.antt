-- The gap behind a strip that another one follows, and gaps that are wide enough.
use Rattle.std.proofs.Common.{◌≡◌, ℕ, ◌+◌, ◌<◌, ℤ, pos, ◌+ℤ◌, ◌-ℤ◌, ◌≤ℤ◌, ◌<ℤ◌, List, length, get_or, map, refl, sym, ap, subst, ◌∙◌, arith, inl, inr}
use Rattle.std.proofs.lemmas.Int.{ints, clamps, by_lt_z}
use Rattle.std.specs.Int.{int_max}
use Rattle.rt_cells.specs.Line.{Within, IsGap}
use Rattle.rt_cells.specs.Cells.{row_of}
use Rattle.rt_cells.proofs.Lines.{first_place}
use Rattle.rt_rules.specs.Space.{KeepsGapsAlongRows, IsNarrowGap}
use Rattle.rt_base.specs.declared.plane.Cell.{Cell}
use Rattle.rt_strips.specs.declared.listing.Strip.{Strip}
use Rattle.rt_strips.specs.Placed.{Placed, placed, strip_at, left_of}
use Rattle.rt_strips.proofs.Placed.{strip_is, strip_there}
use Rattle.rt_family.specs.Strips.{ShareRow, HoldsCell, CoveredBy, IsFamily}
use Rattle.rt_family.proofs.Strips.{common_row}
use Rattle.rt_drc.specs.declared.rows.Witness.{Witness}
use Rattle.rt_drc.specs.declared.reach.Reach.{Reach}
use Rattle.rt_pieces.specs.Members.{IsOf, box_of}
use Rattle.rt_drc.specs.Cornering.{IsShownAt}
use Rattle.rt_drc.specs.Following.{BeginsAfter, ComesSooner, ComesNoSooner, IsAfter, IsNextBefore, Follows, AreNeighbours, ShowsGap}
use Rattle.rt_drc.specs.Nearness.{AreNear, NearAreGrouped, AreNearStrangers}
use Rattle.rt_pieces.specs.Numbering.{AreOwnNumbers}
use Rattle.rt_cells.proofs.Numbers.{last_or_before}
use Rattle.rt_drc.proofs.Cornered.{shown}

below_trans : (a b c : ℤ) → a <ℤ b → b ≤ℤ c → a ≤ℤ c
below_trans a b c h k = omega (arith, ints)

-- one strip more, which comes sooner than the one known, or doesn't
pub next_taken : (m : ℕ) (cell : Cell) (strips : List Strip) (n k : ℕ) (p q : Strip) → n < length strips → k < length strips
    → p ≡ get_or strips n p → q ≡ get_or strips k q → ComesSooner m cell (placed p) (placed q)
    → IsNextBefore m cell (map placed strips) n k → IsNextBefore m cell (map placed strips) (n + 1) n
next_taken m cell strips n k p q h l is_p is_q sooner next =
    let e = strip_is strips n p h is_p in
    let f = strip_is strips k q l is_q in
    let less : left_of (map placed strips) n <ℤ left_of (map placed strips) k =
    subst (λ (t : Placed). t.area.left <ℤ left_of (map placed strips) k) (sym e) (subst (λ (t : Placed). (placed p).area.left <ℤ t.area.left) (sym f) sooner.sooner) in
    record {
      after = record { strip = strip_there strips n h; begins = subst (BeginsAfter m cell) (sym e) sooner.begins };
      least = λ i b after. elim (last_or_before n i b) [
        | inl g ↦ subst (λ t. left_of (map placed strips) n ≤ℤ left_of (map placed strips) t) (sym g) (omega (arith, ints))
        | inr c ↦ below_trans _ _ _ less (next.least i c after)
      ];
    }

pub next_kept : (m : ℕ) (cell : Cell) (strips : List Strip) (n k : ℕ) (p q : Strip) → n < length strips → k < length strips
    → p ≡ get_or strips n p → q ≡ get_or strips k q → ComesNoSooner m cell (placed p) (placed q)
    → IsNextBefore m cell (map placed strips) n k → IsNextBefore m cell (map placed strips) (n + 1) k
next_kept m cell strips n k p q h l is_p is_q no_sooner next =
    let e = strip_is strips n p h is_p in
    let f = strip_is strips k q l is_q in
    let there : ComesNoSooner m cell (strip_at (map placed strips) n) (strip_at (map placed strips) k) =
    subst (λ (t : Placed). ComesNoSooner m cell t (strip_at (map placed strips) k)) (sym e) (subst (λ (t : Placed). ComesNoSooner m cell (placed p) t) (sym f) no_sooner) in
    record {
      after = next.after;
      least = λ i b after. elim (last_or_before n i b) [
        | inl g ↦
            subst (λ t. left_of (map placed strips) k ≤ℤ left_of (map placed strips) t) (sym g)
            (there.no_sooner (subst (λ t. BeginsAfter m cell (strip_at (map placed strips) t)) g after.begins))
        | inr c ↦ next.least i c after
      ];
    }

common_row_within : (low high low' high' : ℤ) → low <ℤ high → low' <ℤ high' → low <ℤ high' → low' <ℤ high
    → Within low high (int_max low low') × Within low' high' (int_max low low')
common_row_within low high low' high' h k l n = (record { from = omega (arith, ints, clamps); to = omega (arith, ints, clamps) }, record { from = omega (arith, ints, clamps); to = omega (arith, ints, clamps) })

-- the one that follows begins behind the other one
pub second_after : (m : ℕ) (s : ℤ) (strips : List Placed) → IsFamily (IsOf m strips) (box_of strips) → (i j : ℕ) → Follows m s strips i j → (cell : Cell)
    → cell.x ≡ (box_of strips i).right → cell.y ≡ int_max (box_of strips i).bottom (box_of strips j).bottom → IsAfter m cell strips j
second_after m s strips family i j follows cell e f =
    let a = family.nonempty i follows.first in
    let b = family.nonempty j follows.second in
    let rows = common_row_within _ _ _ _ a.upwards b.upwards follows.rows.first follows.rows.second in
    record {
      strip = follows.second.strip;
      begins = record { mask = follows.second.mask; row = subst (Within (box_of strips j).bottom (box_of strips j).top) (sym f) rows.1; after = omega (arith, ints, e, follows.beyond) };
    }

module _ (m : ℕ) (s : ℤ) (strips : List Placed) (family : IsFamily (IsOf m strips) (box_of strips)) (i j k : ℕ) (follows : Follows m s strips i j) (cell : Cell)
    (column : cell.x ≡ (box_of strips i).right) (row : cell.y ≡ int_max (box_of strips i).bottom (box_of strips j).bottom)
    (next : IsNextBefore m cell strips (length strips) k) where
  first_row : Within (box_of strips i).bottom (box_of strips i).top cell.y
  first_row =
      let a = family.nonempty i follows.first in
      let b = family.nonempty j follows.second in
      let rows = common_row_within _ _ _ _ a.upwards b.upwards follows.rows.first follows.rows.second in
      subst (Within (box_of strips i).bottom (box_of strips i).top) (sym row) rows.0

  next_of : IsOf m strips k
  next_of = record { strip = next.after.strip; mask = next.after.begins.mask }

  next_beyond : cell.x <ℤ (box_of strips k).left
  next_beyond =
      let across = (family.nonempty i follows.first).across in
      let across' = (family.nonempty k next_of).across in
      elim (family.parted i k follows.first next_of (common_row (box_of strips i) (box_of strips k) cell.y first_row next.after.begins.row)) [
        | inl e ↦ absurd (behind_itself (box_of strips i).left (box_of strips i).right (box_of strips k).left cell.x across column next.after.begins.after (ap (λ t. (box_of strips t).left) e))
        | inr (inl l) ↦ omega (arith, ints, l, column)
        | inr (inr l) ↦ absurd (omega (arith, ints, l, across, across', column, next.after.begins.after))
      ]
    where
      behind_itself : (low high low' x : ℤ) → low <ℤ high → x ≡ high → x ≤ℤ low' → low ≡ low' → ⊥
      behind_itself low high low' x h e l f = omega (arith, ints)

  none_between : (z : ℤ) → Within cell.x (box_of strips k).left z → ¬ CoveredBy (IsOf m strips) (box_of strips) z cell.y
  none_between z h covered =
      let l = covered.number in
      let held = covered.holds in
      by_lt_z (box_of strips l).left cell.x
      (λ b. elim (family.parted i l follows.first held.strip (common_row (box_of strips i) (box_of strips l) cell.y first_row held.cell.row)) [
        | inl e ↦ before_own_end (box_of strips i).right (box_of strips l).right cell.x z column h.from held.cell.column.to (ap (λ t. (box_of strips t).right) e)
        | inr (inl q) ↦ omega (arith, ints, q, b, column)
        | inr (inr q) ↦ omega (arith, ints, q, (family.nonempty i follows.first).across, held.cell.column, h, column)
      ])
      (λ b.
      let least = next.least l held.strip.strip.below_count (record { strip = held.strip.strip; begins = record { mask = held.strip.mask; row = held.cell.row; after = b } }) in
      omega (arith, ints, least, h, held.cell.column))
    where
      before_own_end : (high high' x z : ℤ) → x ≡ high → x ≤ℤ z → z <ℤ high' → high ≡ high' → ⊥
      before_own_end high high' x z e l n f = omega (arith, ints)

  short_gap : ((box_of strips k).left -ℤ cell.x) <ℤ s
  short_gap =
      let least = next.least j follows.second.strip.below_count (second_after m s strips family i j follows cell column row) in
      omega (arith, ints, least, column, follows.near)

  gap_there : IsNarrowGap s (CoveredBy (IsOf m strips) (box_of strips)) (cell.x -ℤ pos 1) cell.y (box_of strips k).left cell.y ((box_of strips k).left -ℤ cell.x)
  gap_there =
      let across = (family.nonempty i follows.first).across in
      let across' = (family.nonempty k next_of).across in
      let same : (cell.x -ℤ pos 1) +ℤ pos 1 ≡ cell.x = omega (arith, ints) in
      record {
        one_row = refl;
        gap = subst (λ t. IsGap (row_of (CoveredBy (IsOf m strips) (box_of strips)) cell.y) t (box_of strips k).left) (sym same) (record {
          nonempty = next_beyond;
          empty = none_between;
          before = record { number = i; holds = record { strip = follows.first; cell = record { column = record { from = omega (arith, ints, across, column); to = omega (arith, ints, column) }; row = first_row } } };
          after = record { number = k; holds = record { strip = next_of; cell = record { column = record { from = omega (arith, ints); to = across' }; row = next.after.begins.row } } };
        });
        cells_found = ap (λ t. (box_of strips k).left -ℤ t) (sym same);
        short = short_gap;
      }

  -- the gap up to the next strip is too narrow
  pub gap_shown : (witness : Witness) → IsShownAt (cell.x -ℤ pos 1) cell.y (box_of strips k).left cell.y ((box_of strips k).left -ℤ cell.x) witness
      → ShowsGap s (CoveredBy (IsOf m strips) (box_of strips)) witness
  gap_shown witness at = shown (IsNarrowGap s (CoveredBy (IsOf m strips) (box_of strips))) _ _ _ _ _ witness at gap_there

-- neighbours are strips of the mask
pub neighbours_there : (m : ℕ) (s : ℤ) (strips : List Placed) (i j : ℕ) → AreNeighbours m s strips i j → IsOf m strips i × IsOf m strips j
neighbours_there m s strips i j (inl follows) = (follows.first, follows.second)
neighbours_there m s strips i j (inr follows) = (follows.second, follows.first)

-- which of two neighbours follows the other
pub follows_first : (m : ℕ) (s : ℤ) (strips : List Placed) → IsFamily (IsOf m strips) (box_of strips) → (i j : ℕ) → AreNeighbours m s strips i j
    → (box_of strips i).left <ℤ (box_of strips j).left → Follows m s strips i j
follows_first m s strips family i j (inl follows) l = follows
follows_first m s strips family i j (inr follows) l = absurd (omega (arith, ints, follows.beyond, (family.nonempty j follows.first).across))

pub follows_second : (m : ℕ) (s : ℤ) (strips : List Placed) → IsFamily (IsOf m strips) (box_of strips) → (i j : ℕ) → AreNeighbours m s strips i j
    → (box_of strips j).left ≤ℤ (box_of strips i).left → Follows m s strips j i
follows_second m s strips family i j (inl follows) l = absurd (omega (arith, ints, follows.beyond, (family.nonempty i follows.first).across))
follows_second m s strips family i j (inr follows) l = follows

-- two strips with a common row that are near are neighbours
pub near_neighbours : (m : ℕ) (reach : Reach) (strips : List Placed) (own : List ℕ) → IsFamily (IsOf m strips) (box_of strips) → reach.upwards ≡ pos 0 → (i j : ℕ)
    → AreNearStrangers (IsOf m strips) reach strips own i j → AreNeighbours m reach.across strips i j
near_neighbours m reach strips own family level i j near =
    let rows : ShareRow (box_of strips i) (box_of strips j) = record { first = omega (arith, ints, level, near.near.below); second = omega (arith, ints, level, near.near.above) } in
    elim (family.parted i j near.first near.second rows) [
      | inl e ↦ absurd (near.different (ap (λ t. get_or own t 0) e))
      | inr (inl l) ↦ inl (record { first = near.first; second = near.second; rows = rows; beyond = l; near = near.near.right })
      | inr (inr l) ↦ inr (record { first = near.second; second = near.first; rows = record { first = rows.second; second = rows.first }; beyond = l; near = near.near.left })
    ]

module _ (m : ℕ) (reach : Reach) (strips : List Placed) (own : List ℕ) (family : IsFamily (IsOf m strips) (box_of strips)) (positive : pos 1 ≤ℤ reach.across)
    (level : reach.upwards ≡ pos 0) (numbers : AreOwnNumbers (length strips) own) (grouped : NearAreGrouped (IsOf m strips) reach strips own) where
  too_near : (i j : ℕ) (y low high : ℤ) → HoldsCell (IsOf m strips) (box_of strips) i (low -ℤ pos 1) y → HoldsCell (IsOf m strips) (box_of strips) j high y
      → low <ℤ high → (high -ℤ low) <ℤ reach.across → i ≡ j
  too_near i j y low high h k l short =
      let near : AreNear reach (box_of strips i) (box_of strips j) = record {
        left = omega (arith, ints, h.cell.column, k.cell.column);
        right = omega (arith, ints, h.cell.column, k.cell.column);
        below = omega (arith, ints, h.cell.row, k.cell.row);
        above = omega (arith, ints, h.cell.row, k.cell.row);
      } in
      sym (numbers.own i h.strip.strip.below_count) ∙ (grouped.grouped i j h.strip k.strip near ∙ numbers.own j k.strip.strip.below_count)

  -- where strips of a row that are near are one, no gap is too narrow
  pub gaps_keep : KeepsGapsAlongRows reach.across (CoveredBy (IsOf m strips) (box_of strips))
  gaps_keep y low high gap =
      by_lt_z (high -ℤ low) reach.across
      (λ short.
      let i = gap.before.number in
      let h = gap.before.holds in
      let e : i ≡ gap.after.number = too_near i gap.after.number y low high h gap.after.holds gap.nonempty short in
      let k : HoldsCell (IsOf m strips) (box_of strips) i high y = subst (λ t. HoldsCell (IsOf m strips) (box_of strips) t high y) (sym e) gap.after.holds in
      absurd (gap.empty low (first_place low high gap.nonempty)
      (record { number = i; holds = record { strip = h.strip; cell = record { column = record { from = omega (arith, ints, h.cell.column); to = omega (arith, ints, k.cell.column, gap.nonempty) }; row = h.cell.row } } })))
      (λ far. far)
