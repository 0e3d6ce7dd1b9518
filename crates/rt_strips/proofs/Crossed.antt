-- What a slab of a sweep says of the cells of its bars.
use Rattle.std.proofs.Common.{◌≡◌, ℕ, ℤ, ◌≤ℤ◌, ◌<ℤ◌, List, ◌++◌, map, refl, sym, ap, subst, arith, inl, inr}
use Rattle.std.specs.List.{All}
use Rattle.std.proofs.lemmas.Int.{ints}
use Rattle.std.proofs.lemmas.List.Elements.{All-contains, Contains-append_left, Contains-append_right, Contains-append_cases}
use Rattle.std.proofs.lemmas.List.Sorted.{Contains-permutation, IsPermutation-sym}
use Rattle.std.specs.List.Sorted.{IsPermutation}
use Rattle.std.proofs.Math.Logic.{◌↔◌}
use Rattle.rt_cells.specs.Line.{Within}
use Rattle.rt_cells.specs.Rectangles.{Rectangle, Holds, Covers}
use Rattle.rt_cells.proofs.Lines.{within}
use Rattle.rt_cells.proofs.Lists.{mapped, mapped_from}
use Rattle.rt_base.specs.declared.plane.Rect.{Rect}
use Rattle.rt_base.specs.Plane.{area}
use Rattle.rt_sweep.specs.declared.bar.Bar.{Bar}
use Rattle.rt_sweep.specs.Slabs.{Crosses, IsActive, Passing, IsAtStart, AreBelow, PassesSlab}
use Rattle.rt_strips.specs.OneMask.{BothCover}
use Rattle.rt_strips.specs.Stacks.{Pile, PutsRow}
use Rattle.rt_strips.specs.Pieces.{IsColumnOf, IsBothColumn, ArePieces}
use Rattle.rt_strips.specs.Heights.{IsBarCell, IsBothBarCell, tagged_bar, IsBuiltTo}
use Rattle.rt_strips.proofs.Built.{built_on}

module _ (before after : Passing) (bottom top : ℤ) (passes : PassesSlab before bottom top after) where
  pub no_cell_between : (tag : ℕ) (x y : ℤ) → Within before.height bottom y → IsBarCell before.bars tag x y → ⊥
  no_cell_between tag x y h c = passes.free.free c.bar c.listed y h c.holds.row

  pub all_cross : All (λ bar. Crosses bottom top (area bar.at)) after.active
  all_cross k d h = (passes.slab.are_active k d h).crosses

  pub cells_of_slab : (tag : ℕ) (x y : ℤ) → Within bottom top y → IsBarCell before.bars tag x y ↔ IsColumnOf after.active tag x
  cells_of_slab tag x y h = (
    λ c. elim (passes.slab.each c.bar c.listed) [
      | inl a ↦ record { bar = c.bar; listed = a.0; tagged = c.tagged; within = c.holds.column }
      | inr (inl m) ↦ absurd (omega (arith, ints, h.from, c.holds.row.to))
      | inr (inr m) ↦ absurd (omega (arith, ints, h.to, c.holds.row.from))
    ],
    λ c.
        let a : IsActive before.bars bottom top c.bar = All-contains (IsActive before.bars bottom top) after.active c.bar passes.slab.are_active c.listed in
        record {
          bar = c.bar;
          listed = a.listed;
          tagged = c.tagged;
          holds = record { column = c.within; row = within _ _ _ (omega (arith, ints, a.crosses.from, h.from)) (omega (arith, ints, a.crosses.to, h.to)) };
        },
  )

  -- the strips of the bars of one tag
  pub one_slab : (most : ℕ) (pile pile' : Pile) (pieces : List Rectangle) → IsBuiltTo (IsBarCell before.bars 0) most before.height pile
      → ArePieces (IsColumnOf after.active 0) bottom top pieces → PutsRow most pieces pile pile' → IsBuiltTo (IsBarCell before.bars 0) most after.height pile'
  one_slab most pile pile' pieces built are puts =
      subst (λ h. IsBuiltTo (IsBarCell before.bars 0) most h pile') (sym passes.at_top)
      (built_on (IsBarCell before.bars 0) most before.height bottom top pile pile' built passes.onward passes.slab.some_rows (no_cell_between 0)
      (IsColumnOf after.active 0) (cells_of_slab 0) pieces are puts)

  -- the strips of what bars of both tags have
  pub one_slab_of_both : (most : ℕ) (pile pile' : Pile) (pieces : List Rectangle) → IsBuiltTo (IsBothBarCell before.bars) most before.height pile
      → ArePieces (IsBothColumn after.active) bottom top pieces → PutsRow most pieces pile pile' → IsBuiltTo (IsBothBarCell before.bars) most after.height pile'
  one_slab_of_both most pile pile' pieces built are puts =
      subst (λ h. IsBuiltTo (IsBothBarCell before.bars) most h pile') (sym passes.at_top)
      (built_on (IsBothBarCell before.bars) most before.height bottom top pile pile' built passes.onward passes.slab.some_rows (λ x y h c. no_cell_between 0 x y h c.0)
      (IsBothColumn after.active)
      (λ x y h. (
        λ c. ((cells_of_slab 0 x y h).0 c.0, (cells_of_slab 1 x y h).0 c.1),
        λ c. ((cells_of_slab 0 x y h).1 c.0, (cells_of_slab 1 x y h).1 c.1),
      )) pieces are puts)

-- all cells lie below where all bars end
pub cells_below : (bars : List Bar) (height : ℤ) → AreBelow bars height → (tag : ℕ) (x y : ℤ) → IsBarCell bars tag x y → y <ℤ height
cells_below bars height below tag x y c =
    let end = All-contains (λ (bar : Bar). bar.at.y2 ≤ℤ height) bars c.bar below c.listed in
    omega (arith, ints, c.holds.row.to)

-- and none below where all begin
pub cells_above : (bars : List Bar) (height : ℤ) → All (λ bar. height ≤ℤ bar.at.y1) bars → (tag : ℕ) (x y : ℤ) → IsBarCell bars tag x y → height ≤ℤ y
cells_above bars height above tag x y c =
    let low = All-contains (λ (bar : Bar). height ≤ℤ bar.at.y1) bars c.bar above c.listed in
    omega (arith, ints, c.holds.row.from)

-- the cells don't hang on the order of the bars
pub same_bar_cells : (bars others : List Bar) → IsPermutation bars others → (tag : ℕ) (x y : ℤ) → IsBarCell bars tag x y ↔ IsBarCell others tag x y
same_bar_cells bars others same tag x y = (
  λ c. record { bar = c.bar; listed = Contains-permutation bars others c.bar same c.listed; tagged = c.tagged; holds = c.holds },
  λ c. record { bar = c.bar; listed = Contains-permutation others bars c.bar (IsPermutation-sym bars others same) c.listed; tagged = c.tagged; holds = c.holds },
)

-- rectangles as bars have their cells
pub cells_of_rects : (rects : List Rect) (tag : ℕ) (x y : ℤ) → IsBarCell (map (tagged_bar tag) rects) tag x y ↔ Covers (map area rects) x y
cells_of_rects rects tag x y = (
  λ c.
      let r = mapped_from (tagged_bar tag) rects c.bar c.listed in
      (area r.0, mapped area rects r.0 r.1, subst (λ (b : Bar). Holds (area b.at) x y) (sym r.2) c.holds),
  λ c.
      let r = mapped_from area rects c.0 c.1 in
      record { bar = tagged_bar tag r.0; listed = mapped (tagged_bar tag) rects r.0 r.1; tagged = refl; holds = subst (λ s. Holds s x y) (sym r.2) c.2 },
)

-- no cell of a sweep lies below its start
pub start_above : (given : List Bar) (sweep : Passing) → IsAtStart given sweep → (tag : ℕ) (x y : ℤ) → IsBarCell sweep.bars tag x y → sweep.height ≤ℤ y
start_above given sweep start tag x y c = cells_above given sweep.height start.above tag x y ((same_bar_cells given sweep.bars start.same_bars tag x y).1 c)

-- a sweep of rectangles has their cells
pub cells_of_sweep : (rects : List Rect) (given : List Bar) (sweep : Passing) → given ≡ map (tagged_bar 0) rects → IsAtStart given sweep
    → (x y : ℤ) → IsBarCell sweep.bars 0 x y ↔ Covers (map area rects) x y
cells_of_sweep rects given sweep e start x y =
    let same = same_bar_cells given sweep.bars start.same_bars 0 x y in
    let rest = cells_of_rects rects 0 x y in (
      λ c. rest.0 (subst (λ bars. IsBarCell bars 0 x y) e (same.1 c)),
      λ c. same.0 (subst (λ bars. IsBarCell bars 0 x y) (sym e) (rest.1 c)),
    )

-- bars of two lists, of tag 0 and of tag 1
module _ (first second : List Rect) where
  abbrev two_lists : List Bar
  two_lists = map (tagged_bar 0) first ++ map (tagged_bar 1) second

  cells_of_first : (x y : ℤ) → IsBarCell two_lists 0 x y ↔ Covers (map area first) x y
  cells_of_first x y = (
    λ c. elim (Contains-append_cases (map (tagged_bar 0) first) (map (tagged_bar 1) second) c.bar c.listed) [
      | inl l ↦ (cells_of_rects first 0 x y).0 (record { bar = c.bar; listed = l; tagged = c.tagged; holds = c.holds })
      | inr l ↦
          let r = mapped_from (tagged_bar 1) second c.bar l in
          let one : c.bar.tag ≡ 1 = ap (λ (b : Bar). b.tag) (sym r.2) in
          absurd (omega (arith, c.tagged))
    ],
    λ c.
        let b = (cells_of_rects first 0 x y).1 c in
        record { bar = b.bar; listed = Contains-append_left (map (tagged_bar 0) first) (map (tagged_bar 1) second) b.bar b.listed; tagged = b.tagged; holds = b.holds },
  )

  cells_of_second : (x y : ℤ) → IsBarCell two_lists 1 x y ↔ Covers (map area second) x y
  cells_of_second x y = (
    λ c. elim (Contains-append_cases (map (tagged_bar 0) first) (map (tagged_bar 1) second) c.bar c.listed) [
      | inl l ↦
          let r = mapped_from (tagged_bar 0) first c.bar l in
          let zero : c.bar.tag ≡ 0 = ap (λ (b : Bar). b.tag) (sym r.2) in
          absurd (omega (arith, c.tagged))
      | inr l ↦ (cells_of_rects second 1 x y).0 (record { bar = c.bar; listed = l; tagged = c.tagged; holds = c.holds })
    ],
    λ c.
        let b = (cells_of_rects second 1 x y).1 c in
        record { bar = b.bar; listed = Contains-append_right (map (tagged_bar 0) first) (map (tagged_bar 1) second) b.bar b.listed; tagged = b.tagged; holds = b.holds },
  )

  -- a sweep of both has the cells that both cover
  pub cells_of_both : (given : List Bar) (sweep : Passing) → given ≡ two_lists → IsAtStart given sweep
      → (x y : ℤ) → IsBothBarCell sweep.bars x y ↔ BothCover (map area first) (map area second) x y
  cells_of_both given sweep e start x y =
      let in_first = same_bar_cells given sweep.bars start.same_bars 0 x y in
      let in_second = same_bar_cells given sweep.bars start.same_bars 1 x y in (
        λ c. (
          (cells_of_first x y).0 (subst (λ bars. IsBarCell bars 0 x y) e (in_first.1 c.0)),
          (cells_of_second x y).0 (subst (λ bars. IsBarCell bars 1 x y) e (in_second.1 c.1)),
        ),
        λ c. (
          in_first.0 (subst (λ bars. IsBarCell bars 0 x y) (sym e) ((cells_of_first x y).1 c.0)),
          in_second.0 (subst (λ bars. IsBarCell bars 1 x y) (sym e) ((cells_of_second x y).1 c.1)),
        ),
      )
