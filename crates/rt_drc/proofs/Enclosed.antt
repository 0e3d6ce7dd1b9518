-- Counted strips grown on all sides: where they lie in a mask, and what shows that they don't.
use Rattle.std.proofs.Common.{◌≡◌, ℕ, ◌+◌, ◌<◌, ℤ, pos, ◌+ℤ◌, ◌-ℤ◌, ◌≤ℤ◌, ◌<ℤ◌, ◌⊎◌, List, [], ◌∷◌, ◌++◌, length, get_or, map, Option, Some, None, MatchOption, sym, ap, subst, refl, ◌∙◌, arith, inl, inr}
use Rattle.std.proofs.lemmas.Int.{ints, clamps, by_lt_z}
use Rattle.std.proofs.lemmas.Option.{MatchOption-at_some, MatchOption-at_none}
use Rattle.std.proofs.lemmas.List.Elements.{Contains-push, Contains-push_cases, Contains-append_left}
use Rattle.std.specs.Int.{int_max}
use Rattle.rt_cells.specs.Line.{Within, between, nearest_place}
use Rattle.rt_cells.specs.Rectangles.{Rectangle, IsNonempty, Holds}
use Rattle.rt_cells.proofs.Rectangles.{same_sides}
use Rattle.rt_cells.proofs.Lines.{nearest_within}
use Rattle.rt_rules.specs.Cuts.{KeepsEnclosed, EnclosureBreach}
use Rattle.rt_base.specs.declared.plane.Cell.{Cell}
use Rattle.rt_base.specs.declared.plane.Rect.{Rect}
use Rattle.rt_base.specs.Plane.{area}
use Rattle.rt_tech.specs.Tech.{IsReach}
use Rattle.rt_tech.specs.declared.limits.TheConstants.{LENGTH_LIMIT}
use Rattle.rt_strips.specs.declared.listing.Strip.{Strip}
use Rattle.rt_strips.specs.Placed.{Placed, placed, covered_by}
use Rattle.rt_strips.proofs.Placed.{strip_below}
use Rattle.rt_cover.specs.Covering.{IsWhole, IsMissing, AreMissing, found_at}
use Rattle.rt_cuts.specs.Cuts.{grown}
use Rattle.rt_cuts.proofs.Inside.{near_grown, nearest_near}
use Rattle.rt_drc.specs.declared.counting.Counted.{Counted}
use Rattle.rt_drc.specs.declared.rows.Witness.{Witness}
use Rattle.rt_pieces.specs.Members.{box_of, held_by}
use Rattle.rt_drc.specs.Counting.{IsCounted, counted_cells, LieIn}
use Rattle.rt_drc.specs.Enclosing.{lowest, HasRoom, HaveRoom, IsOutside, IsSeenBeyond, IsSeenFrom, IsGrownRect, ShowsBeyond, IsGrownOf, AreGrownOf, AreWhole, ShowsBare, ShowsEnclosure}
use Rattle.rt_drc.specs.Nearness.{farthest}
use Rattle.rt_drc.proofs.Cornered.{shown}
use Rattle.rt_pieces.proofs.Families.{held_alike}
use Rattle.rt_drc.proofs.Nearby.{both_short}
use Rattle.rt_cells.proofs.Numbers.{last_or_before}
use Rattle.rt_pieces.proofs.Reading.{box_at}

-- the first of two numbers is the larger one
pub wider_first : (a b p q : ℤ) → p ≡ a → q ≡ b → q ≤ℤ p → p ≡ int_max a b
wider_first a b p q e f h = omega (arith, ints, clamps, e, f, h)

-- the rectangle of a strip, as the code has it
pub record IsRectOf (strips : List Strip) (i : ℕ) : Type 0 where
  pub at : Rect
  pub same : box_of (map placed strips) i ≡ area at

pub rect_of : (strips : List Strip) (i : ℕ) → i < length strips → IsRectOf strips i
rect_of [] i h = absurd (omega (arith, h))
rect_of (strip ∷ strips) i h = record { at = (get_or (strip ∷ strips) i strip).at; same = box_at (strip ∷ strips) i strip h }

rect_full : (at : Rect) → IsNonempty (area at)
rect_full at = record { across = at.across; upwards = at.upwards }

place_inside : (low high x : ℤ) → lowest ≤ℤ low → high ≤ℤ farthest → Within low high x → IsOutside x → ⊥
place_inside low high x a b h (inl l) = omega (arith, ints, h.from)
place_inside low high x a b h (inr l) = omega (arith, ints, h.to)

-- no rectangle has a cell beyond the sides
none_outside : (at : Rect) (x y : ℤ) → Holds (area at) x y → IsOutside x ⊎ IsOutside y → ⊥
none_outside at x y h (inl out) = place_inside at.x1 at.x2 x at.from_left at.to_right h.column out
none_outside at x y h (inr out) = place_inside at.y1 at.y2 y at.from_bottom at.to_top h.row out

none_covered : (m : ℕ) (strips : List Strip) (x y : ℤ) → IsOutside x ⊎ IsOutside y → ¬ covered_by m (map placed strips) x y
none_covered m strips x y out c =
    let held = (held_alike m (map placed strips)).from x y c in
    let rect = rect_of strips held.number (strip_below strips held.number held.holds.strip.strip) in
    none_outside rect.at x y (subst (λ r. Holds r x y) rect.same held.holds.cell) out

-- what lies beyond is bare
pub beyond_bare : (counted : Counted) (m : ℕ) (strips : List Strip) (number : ℤ) (witness : Witness) → ShowsBeyond counted (map placed strips) number witness
    → ShowsBare counted (map placed strips) number (covered_by m (map placed strips)) witness
beyond_bare counted m strips number witness shows = record {
  strip = shows.strip;
  is_counted = shows.is_counted;
  missing = record { inside = shows.beyond.beyond.inside; bare = none_covered m strips witness.q.x witness.q.y shows.beyond.beyond.outside };
  seen = shows.beyond.seen;
}

-- each counted strip before number n has room
pub record HaveRoomBefore (counted : Counted) (strips : List Placed) (number : ℤ) (n : ℕ) : Type 0 where
  pub room : (i : ℕ) → i < n → IsCounted counted strips i → HasRoom number (box_of strips i)

module _ (counted : Counted) (strips : List Strip) (number : ℤ) where
  -- one counted strip more that has room
  pub room_more : (n : ℕ) (d : Strip) → n < length strips → HasRoom number (area (get_or strips n d).at)
      → HaveRoomBefore counted (map placed strips) number n → HaveRoomBefore counted (map placed strips) number (n + 1)
  room_more n d h room before = record {
    room = λ i b of. elim (last_or_before n i b) [
      | inl same ↦ subst (λ j. HasRoom number (box_of (map placed strips) j)) (sym same) (subst (HasRoom number) (sym (box_at strips n d h)) room)
      | inr less ↦ before.room i less of
    ];
  }

  -- a strip that doesn't count
  pub room_same : (n : ℕ) → ¬ IsCounted counted (map placed strips) n → HaveRoomBefore counted (map placed strips) number n → HaveRoomBefore counted (map placed strips) number (n + 1)
  room_same n other before = record {
    room = λ i b of. elim (last_or_before n i b) [
      | inl same ↦ absurd (other (subst (IsCounted counted (map placed strips)) same of))
      | inr less ↦ before.room i less of
    ];
  }

  pub room_all : HaveRoomBefore counted (map placed strips) number (length strips) → HaveRoom counted (map placed strips) number
  room_all before = record { room = λ i of. before.room i (strip_below strips i of.strip.strip) of }

  -- a counted strip that hasn't
  pub beyond_shows : (i : ℕ) (d : Strip) (witness : Witness) → i < length strips → IsCounted counted (map placed strips) i
      → IsSeenBeyond number (area (get_or strips i d).at) witness → ShowsBeyond counted (map placed strips) number witness
  beyond_shows i d witness h of beyond = record {
    strip = i;
    is_counted = of;
    beyond = subst (λ r. IsSeenBeyond number r witness) (sym (box_at strips i d h)) beyond;
  }

-- a cell within a number is one within the largest of a table
pub grown_most : (number : ℤ) (r : Rectangle) (x y : ℤ) → IsReach number → Holds (grown number r) x y → Holds (grown LENGTH_LIMIT r) x y
grown_most number r x y reach h = record {
  column = record { from = omega (arith, ints, reach.high, h.column.from); to = omega (arith, ints, reach.high, h.column.to) };
  row = record { from = omega (arith, ints, reach.high, h.row.from); to = omega (arith, ints, reach.high, h.row.to) };
}

short_beside : (low high number u : ℤ) → low <ℤ high → pos 0 <ℤ number → Within (low -ℤ number) (high +ℤ number) u → between (nearest_place low high u) u <ℤ number
short_beside low high number u l p h = omega (arith, ints, clamps, h.from, h.to)

not_grown : (low high number u : ℤ) → pos 0 ≤ℤ number → number ≤ℤ pos 0 → Within (low -ℤ number) (high +ℤ number) u → Within low high u
not_grown low high number u p q h = record { from = omega (arith, ints, h.from); to = omega (arith, ints, h.to) }

-- a bare cell of a grown rectangle shows that its cells aren't enclosed, and the nearest one of them is as near as the number asks
bare_breach : (number : ℤ) (r : Rectangle) (cells mask : ℤ → ℤ → Type 0) → IsReach number → IsNonempty r → ((x y : ℤ) → Holds r x y → cells x y)
    → ((x y : ℤ) → cells x y → mask x y) → (u v : ℤ) → Holds (grown number r) u v → ¬ mask u v
    → EnclosureBreach number cells mask (nearest_place r.left r.right u) (nearest_place r.bottom r.top v) u v
    (int_max (between (nearest_place r.left r.right u) u) (between (nearest_place r.bottom r.top v) v))
bare_breach number r cells mask reach full covered inside u v h bare =
    let c = nearest_near r.left r.right number u reach.low full.across h.column in
    let d = nearest_near r.bottom r.top number v reach.low full.upwards h.row in
    record {
      first = covered _ _ (record { column = nearest_within _ _ _ full.across; row = nearest_within _ _ _ full.upwards });
      within = record { columns = record { from = c.0; to = c.1 }; rows = record { from = d.0; to = d.1 } };
      missing = bare;
      gap_found = refl;
      short = by_lt_z (pos 0) number
          (λ some. both_short _ _ number (short_beside _ _ number u full.across some h.column) (short_beside _ _ number v full.upwards some h.row))
          (λ none. absurd (bare (inside u v (covered u v (record {
            column = not_grown _ _ number u reach.low none h.column;
            row = not_grown _ _ number v reach.low none h.row;
          })))));
    }

-- what is bare shows that the enclosure is broken
pub bare_shows : (counted : Counted) (m : ℕ) (strips : List Strip) (number : ℤ) (witness : Witness) → IsReach number → LieIn counted m strips
    → ShowsBare counted (map placed strips) number (covered_by m (map placed strips)) witness
    → ShowsEnclosure number (counted_cells counted strips) (held_by m strips) witness
bare_shows counted m strips number witness reach inside bare =
    let alike = held_alike m (map placed strips) in
    let i = bare.strip in
    let r = box_of (map placed strips) i in
    let rect = rect_of strips i (strip_below strips i bare.is_counted.strip.strip) in
    shown (EnclosureBreach number (counted_cells counted strips) (held_by m strips)) _ _ _ _ _ witness bare.seen.shown
    (bare_breach number r (counted_cells counted strips) (held_by m strips) reach (subst IsNonempty (sym rect.same) (rect_full rect.at))
    (λ x y h. record { number = i; holds = record { strip = bare.is_counted; cell = h } }) inside.lies witness.q.x witness.q.y bare.missing.inside
    (λ c. bare.missing.bare (alike.to witness.q.x witness.q.y c)))

-- grown strips that a mask covers whole are enclosed
pub whole_keeps : (counted : Counted) (m : ℕ) (strips : List Strip) (number : ℤ) → AreWhole counted (map placed strips) number (covered_by m (map placed strips))
    → KeepsEnclosed number (counted_cells counted strips) (held_by m strips)
whole_keeps counted m strips number all x y u v c near =
    (held_alike m (map placed strips)).from u v
    ((all.whole c.number c.holds.strip).covered u v (near_grown number (box_of (map placed strips) c.number) x y u v c.holds.cell near))

-- a rectangle is known by what it is when it is grown
grown_once : (number : ℤ) (a b : Rectangle) → grown number a ≡ grown number b → a ≡ b
grown_once number a b e =
    let left : a.left ≡ b.left = omega (arith, ints, ap (λ (r : Rectangle). r.left) e) in
    let right : a.right ≡ b.right = omega (arith, ints, ap (λ (r : Rectangle). r.right) e) in
    let bottom : a.bottom ≡ b.bottom = omega (arith, ints, ap (λ (r : Rectangle). r.bottom) e) in
    let top : a.top ≡ b.top = omega (arith, ints, ap (λ (r : Rectangle). r.top) e) in
    same_sides a b left right bottom top

module _ (counted : Counted) (strips : List Strip) (number : ℤ) where
  before_more : (n : ℕ) (at : Rect) → IsGrownOf counted (map placed strips) number n at → IsGrownOf counted (map placed strips) number (n + 1) at
  before_more n at h = record { strip = h.strip; before = omega (arith, h.before); is_counted = h.is_counted; core = h.core; core_is = h.core_is; at_is = h.at_is }

  -- one counted strip more
  pub areas_more : (n : ℕ) (d : Strip) (areas : List Rect) (at : Rect) → n < length strips → IsCounted counted (map placed strips) n
      → area at ≡ grown number (area (get_or strips n d).at) → AreGrownOf counted (map placed strips) number n areas
      → AreGrownOf counted (map placed strips) number (n + 1) (areas ++ at ∷ [])
  areas_more n d areas at h of at_is before =
      let e : box_of (map placed strips) n ≡ area (get_or strips n d).at = box_at strips n d h in
      let here : area at ≡ grown number (box_of (map placed strips) n) = at_is ∙ ap (grown number) (sym e) in
      let mine : IsGrownOf counted (map placed strips) number (n + 1) at = record {
        strip = n;
        before = omega arith;
        is_counted = of;
        core = (get_or strips n d).at;
        core_is = sym e;
        at_is = here;
      } in
      record {
        each = λ x c. elim (Contains-push_cases areas at x c) [
          | inl old ↦ before_more n x (before.each x old)
          | inr same ↦ subst (IsGrownOf counted (map placed strips) number (n + 1)) same mine
        ];
        every = λ i b k. elim (last_or_before n i b) [
          | inl same ↦ record { at = at; listed = Contains-push areas at; at_is = subst (λ j. area at ≡ grown number (box_of (map placed strips) j)) (sym same) here }
          | inr less ↦
              let old = before.every i less k in
              record { at = old.at; listed = Contains-append_left areas (at ∷ []) old.at old.listed; at_is = old.at_is }
        ];
      }

  -- a strip that doesn't count
  pub areas_same : (n : ℕ) (areas : List Rect) → ¬ IsCounted counted (map placed strips) n → AreGrownOf counted (map placed strips) number n areas
      → AreGrownOf counted (map placed strips) number (n + 1) areas
  areas_same n areas other before = record {
    each = λ x c. before_more n x (before.each x c);
    every = λ i b k. elim (last_or_before n i b) [
      | inl same ↦ absurd (other (subst (IsCounted counted (map placed strips)) same k))
      | inr less ↦ before.every i less k
    ];
  }

  module _ (areas : List Rect) (are : AreGrownOf counted (map placed strips) number (length strips) areas) where
    grown_at : (k : ℕ) (at : Rect) → k < length areas → at ≡ get_or areas k at → IsGrownOf counted (map placed strips) number (length strips) at
    grown_at k at h is = are.each at (k, h, sym is)

    -- each of the rectangles was grown
    pub was_grown : (k : ℕ) (at : Rect) → k < length areas → at ≡ get_or areas k at → IsGrownRect number at
    was_grown k at h is =
        let g = grown_at k at h is in
        record { core = g.core; core_grown = g.at_is ∙ ap (grown number) (sym g.core_is) }

    module _ (cells : ℤ → ℤ → Type 0) (missing : List (Option Cell)) (are_missing : AreMissing cells areas missing) where
      -- where no cell is missing, all are whole
      pub all_whole : ((k : ℕ) → k < length areas → found_at missing k ≡ None) → AreWhole counted (map placed strips) number cells
      all_whole none = record {
        whole = λ i of.
            let g = are.every i (strip_below strips i of.strip.strip) of in
            let (k, h, e) = g.listed in
            subst (IsWhole cells) g.at_is
            (subst (λ (at : Rect). IsWhole cells (area at)) e
            (MatchOption-at_none (IsWhole cells (area (get_or areas k g.at))) (IsMissing cells (area (get_or areas k g.at))) (none k h) (are_missing.each k g.at h)));
      }

      -- the missing cell of a rectangle
      missing_at : (k : ℕ) (at : Rect) (cell : Cell) → k < length areas → at ≡ get_or areas k at → found_at missing k ≡ Some cell → IsMissing cells (area at) cell
      missing_at k at cell h is found =
          subst (λ (z : Rect). IsMissing cells (area z) cell) (sym is)
          (MatchOption-at_some (IsWhole cells (area (get_or areas k at))) (IsMissing cells (area (get_or areas k at))) cell found (are_missing.each k at h))

      -- lies near the strip
      pub missing_near : (k : ℕ) (at : Rect) (cell : Cell) (core : Rect) → IsReach number → k < length areas → at ≡ get_or areas k at → found_at missing k ≡ Some cell
          → grown number (area core) ≡ area at → Holds (grown LENGTH_LIMIT (area core)) cell.x cell.y
      missing_near k at cell core reach h is found e =
          grown_most number (area core) cell.x cell.y reach (subst (λ r. Holds r cell.x cell.y) (sym e) (missing_at k at cell h is found).inside)

      -- seen from the strip it shows that the mask leaves it bare
      pub missing_shows : (k : ℕ) (at : Rect) (cell : Cell) (core : Rect) (witness : Witness) → k < length areas → at ≡ get_or areas k at → found_at missing k ≡ Some cell
          → grown number (area core) ≡ area at → IsSeenFrom (area core) witness → witness.q ≡ cell
          → ShowsBare counted (map placed strips) number cells witness
      missing_shows k at cell core witness h is found e seen same =
          let g = grown_at k at h is in
          let at_box : area core ≡ box_of (map placed strips) g.strip = grown_once number (area core) (box_of (map placed strips) g.strip) (e ∙ g.at_is) in
          record {
            strip = g.strip;
            is_counted = g.is_counted;
            missing = subst (IsMissing cells (grown number (box_of (map placed strips) g.strip))) (sym same)
                (subst (λ r. IsMissing cells r cell) g.at_is (missing_at k at cell h is found));
            seen = subst (λ r. IsSeenFrom r witness) at_box seen;
          }

-- whether grown strips are covered whole decides whether they are enclosed
pub bare_decides : (counted : Counted) (m : ℕ) (strips : List Strip) (number : ℤ) (found : Option Witness) → IsReach number → LieIn counted m strips
    → MatchOption found (AreWhole counted (map placed strips) number (covered_by m (map placed strips))) (ShowsBare counted (map placed strips) number (covered_by m (map placed strips)))
    → MatchOption found (KeepsEnclosed number (counted_cells counted strips) (held_by m strips)) (ShowsEnclosure number (counted_cells counted strips) (held_by m strips))
bare_decides counted m strips number None reach inside whole = whole_keeps counted m strips number whole
bare_decides counted m strips number (Some witness) reach inside bare = bare_shows counted m strips number witness reach inside bare
