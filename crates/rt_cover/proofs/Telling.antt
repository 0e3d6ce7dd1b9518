-- What a sweep over rectangles and strips has told of the rows below a height.
use Rattle.std.proofs.Common.{◌≡◌, ℕ, ◌<◌, ◌≤◌, ℤ, ◌≤ℤ◌, ◌<ℤ◌, List, length, get_or, Contains, sym, ap, subst, ◌∙◌, refl, arith, inl, inr, [], ◌∷◌, ◌++◌, ◌+◌, suc, zero}
use Rattle.std.specs.Prelude.{Option, None, Some, MatchOption}
use Rattle.std.proofs.lemmas.Int.{ints, by_lt_z}
use Rattle.std.proofs.lemmas.List.{length-append}
use Rattle.std.proofs.lemmas.List.Elements.{All-contains}
use Rattle.rt_cells.specs.Line.{Within}
use Rattle.rt_cells.specs.Rectangles.{Rectangle, Holds}
use Rattle.rt_base.specs.declared.plane.Rect.{Rect}
use Rattle.rt_base.specs.declared.plane.Cell.{Cell}
use Rattle.rt_base.specs.Plane.{area}
use Rattle.rt_sweep.specs.declared.bar.Bar.{Bar}
use Rattle.rt_sweep.specs.Slabs.{IsActive, IsSlab, Passing, AreAbove, AreBelow, PassesSlab}
use Rattle.rt_strips.specs.Placed.{Placed, strip_at, covered_by}
use Rattle.rt_strips.specs.StripsOf.{AreStrips}
use Rattle.rt_strips.proofs.Family.{covered_from, covered_at}
use Rattle.rt_cover.specs.Covering.{IsWhole, IsMissing, found_at, AreMissing, AreNone}
use Rattle.rt_cover.specs.Bars.{IsStripBar, AreBarsOf}
use Rattle.rt_cover.specs.Across.{IsColumnOf, EndRuns, IsBare, HasColumns, AreLookedAt}
use Rattle.rt_cover.proofs.Reading.{not_none}

-- cells that are noted are missing, and the rectangles that have none noted are covered below the height
pub record AreToldBelow (cells : ℤ → ℤ → Type 0) (areas : List Rect) (height : ℤ) (found : List (Option Cell)) : Type 0 where
  pub counted : length found ≡ length areas
  pub missing : (t : ℕ) (d : Rect) (p : Cell) → t < length areas → found_at found t ≡ Some p → IsMissing cells (area (get_or areas t d)) p
  pub covered : (t : ℕ) (d : Rect) → t < length areas → found_at found t ≡ None → (x y : ℤ) → Holds (area (get_or areas t d)) x y → y <ℤ height → cells x y

between : (low bottom top high y : ℤ) → low ≤ℤ bottom → top ≤ℤ high → Within bottom top y → Within low high y
between low bottom top high y h k w = record { from = omega (arith, ints, h, w.from); to = omega (arith, ints, k, w.to) }

module _ (m : ℕ) (strips : List Placed) (areas : List Rect) (bars : List Bar) (are : AreBarsOf m strips (length strips) areas (length areas) bars) where
  abbrev bar_of_area : (t : ℕ) (d : Rect) → Bar
  bar_of_area t d = record { at = get_or areas t d; tag = t }

  -- below all bars nothing is told
  pub told_first : (height : ℤ) (found : List (Option Cell)) → AreAbove bars height → AreNone (length areas) found
      → AreToldBelow (covered_by m strips) areas height found
  told_first height found above none = record {
    counted = none.counted;
    missing = λ t d p h e. absurd (not_none p (sym e ∙ none.no_cell t));
    covered = λ t d h e x y holds below.
        let low : height ≤ℤ (get_or areas t d).y1 = All-contains (λ (bar : Bar). height ≤ℤ bar.at.y1) bars (bar_of_area t d) above (are.each_area t d h) in
        absurd (omega (arith, ints, low, holds.row.from, below));
  }

  -- above all bars all is told
  pub told_all : (height : ℤ) (found : List (Option Cell)) → AreBelow bars height → AreToldBelow (covered_by m strips) areas height found
      → AreMissing (covered_by m strips) areas found
  told_all height found below told = record {
    counted = told.counted;
    each = λ t d h.
        by_option (found_at found t) (IsWhole (covered_by m strips) (area (get_or areas t d))) (IsMissing (covered_by m strips) (area (get_or areas t d)))
        (λ e. record {
          covered = λ x y holds.
              let high : (get_or areas t d).y2 ≤ℤ height = All-contains (λ (bar : Bar). bar.at.y2 ≤ℤ height) bars (bar_of_area t d) below (are.each_area t d h) in
              told.covered t d h e x y holds (omega (arith, ints, high, holds.row.to));
        })
        (λ p e. told.missing t d p h e);
  }
    where
      by_option : (found : Option Cell) (N : Type 0) (S : Cell → Type 0) → (found ≡ None → N) → ((p : Cell) → found ≡ Some p → S p) → MatchOption found N S
      by_option None N S f g = f refl
      by_option (Some p) N S f g = g p refl

  module _ (active : List Bar) (bottom top : ℤ) (slab : IsSlab bars bottom top active) where
    active_there : (y : ℤ) → Within bottom top y → (a : Bar) → Contains bars a → Within a.at.y1 a.at.y2 y → Contains active a
    active_there y w a c h = elim (slab.each a c) [
      | inl there ↦ there.0
      | inr (inl below) ↦ absurd (omega (arith, ints, w.from, h.to, below))
      | inr (inr above) ↦ absurd (omega (arith, ints, w.to, h.from, above))
    ]

    is_active : (bar : Bar) → Contains active bar → IsActive bars bottom top bar
    is_active bar c = All-contains (IsActive bars bottom top) active bar slab.are_active c

    strip_bar : (bar : Bar) → Contains active bar → length areas ≤ bar.tag → IsStripBar m strips (length strips) (length areas) bar
    strip_bar bar c e = elim (are.each bar (is_active bar c).listed) [
      | inl a ↦ absurd (omega (arith, a.below, e))
      | inr s ↦ s
    ]

    -- the mask covers the columns of the bars of strips, in each row of the slab, and no others
    column_covered : (x y : ℤ) → Within bottom top y → IsColumnOf active (length areas) x → covered_by m strips x y
    column_covered x y w c =
        let s = strip_bar c.bar c.listed c.tagged in
        let crosses = (is_active c.bar c.listed).crosses in
        covered_at strips m s.number x y s.of_mask
        (subst (λ r. Holds r x y) s.at (record { column = c.within; row = between c.bar.at.y1 bottom top c.bar.at.y2 y crosses.from crosses.to w }))

    covered_column : (x y : ℤ) → Within bottom top y → covered_by m strips x y → IsColumnOf active (length areas) x
    covered_column x y w c =
        let d = covered_from strips m x y c in
        let b = are.each_strip d.0 d.1.below d.1 in
        let holds : Holds (area b.bar.at) x y = subst (λ r. Holds r x y) (sym b.at) d.2 in
        record { bar = b.bar; listed = active_there y w b.bar b.listed holds.row; tagged = omega (arith, b.tagged); within = holds.column }

    lowest : Within bottom top bottom
    lowest = record { from = omega (arith, ints); to = slab.some_rows }

    -- strips end where runs end
    pub strips_end : AreStrips strips → EndRuns active (length areas)
    strips_end are_strips = record {
      ends = λ bar c e column.
          let s = strip_bar bar c e in
          let crosses = (is_active bar c).crosses in
          let row : Within (strip_at strips s.number).area.bottom (strip_at strips s.number).area.top bottom =
          subst (λ (r : Rectangle). Within r.bottom r.top bottom) s.at (between bar.at.y1 bottom top bar.at.y2 bottom crosses.from crosses.to lowest) in
          let run = are_strips.strips_are.whole_runs s.number (record { below_count = s.of_mask.below }) bottom row in
          run.after (subst (λ n. covered_by n strips (strip_at strips s.number).area.right bottom) (sym s.of_mask.of_mask)
          (subst (λ (r : Rectangle). covered_by m strips r.right bottom) s.at (column_covered bar.at.x2 bottom lowest column)));
    }

    bare_missing : (t : ℕ) (d : Rect) (p : Cell) → t < length areas → IsBare active (length areas) t bottom p → IsMissing (covered_by m strips) (area (get_or areas t d)) p
    bare_missing t d p h b = elim (are.each b.bar (is_active b.bar b.listed).listed) [
      | inl a ↦
          let at : get_or areas t d ≡ b.bar.at = ap (λ k. get_or areas k d) (sym b.numbered) ∙ a.at d in
          let crosses = (is_active b.bar b.listed).crosses in
          subst (λ (r : Rect). IsMissing (covered_by m strips) (area r) p) (sym at) (record {
            inside = record {
              column = b.column;
              row = subst (Within b.bar.at.y1 b.bar.at.y2) (sym b.in_row) (between b.bar.at.y1 bottom top b.bar.at.y2 bottom crosses.from crosses.to lowest);
            };
            bare = λ c. b.bare (covered_column p.x p.y (subst (Within bottom top) (sym b.in_row) lowest) c);
          })
      | inr s ↦ absurd (omega (arith, h, s.tagged, b.numbered))
    ]

    looked_covered : (before after : List (Option Cell)) (t : ℕ) (d : Rect) → t < length areas → length before ≡ length areas
        → AreLookedAt active (length areas) bottom (length active) before after → found_at after t ≡ None
        → (x y : ℤ) → Holds (area (get_or areas t d)) x y → Within bottom top y → covered_by m strips x y
    looked_covered before after t d h counted looked e x y holds w =
        let bar = bar_of_area t d in
        let c = active_there y w bar (are.each_area t d h) holds.row in
        let is : get_or active c.0 bar ≡ bar = c.2 in
        let tag_is : (get_or active c.0 bar).tag ≡ t = ap (λ (b : Bar). b.tag) is in
        let has = looked.whole c.0 bar c.1 (omega (arith, tag_is, h, counted)) (ap (found_at after) tag_is ∙ e) in
        let mine : HasColumns active (length areas) bar = subst (HasColumns active (length areas)) is has in
        column_covered x y w (mine.columns x holds.column)

-- one slab more
pub told_more : (m : ℕ) (strips : List Placed) (areas : List Rect) (before after : Passing) (bottom top : ℤ) (found found' : List (Option Cell))
    → AreBarsOf m strips (length strips) areas (length areas) before.bars → PassesSlab before bottom top after
    → AreToldBelow (covered_by m strips) areas before.height found → AreLookedAt after.active (length areas) bottom (length after.active) found found'
    → AreToldBelow (covered_by m strips) areas after.height found'
told_more m strips areas before after bottom top found found' are passes told looked = record {
  counted = looked.counted ∙ told.counted;
  missing = λ t d p h e. elim (looked.noted t p (omega (arith, h, told.counted)) e) [
    | inl old ↦ told.missing t d p h old
    | inr bare ↦ bare_missing m strips areas before.bars are after.active bottom top passes.slab t d p h bare
  ];
  covered = λ t d h e x y holds below.
      by_lt_z y before.height
      (λ l. told.covered t d h (looked.kept t e) x y holds l)
      (λ l.
      by_lt_z y bottom
      (λ o. absurd (passes.free.free (record { at = get_or areas t d; tag = t }) (are.each_area t d h) y (record { from = l; to = o }) holds.row))
      (λ o.
      looked_covered m strips areas before.bars are after.active bottom top passes.slab found found' t d h told.counted looked e x y holds
      (record { from = o; to = omega (arith, ints, passes.at_top, below) })));
}

-- one place more with no cell
none_pushed : (found : List (Option Cell)) → ((t : ℕ) → found_at found t ≡ None) → (t : ℕ) → found_at (found ++ None ∷ []) t ≡ None
none_pushed [] h zero = refl
none_pushed [] h (suc t) = refl
none_pushed (x ∷ xs) h zero = h 0
none_pushed (x ∷ xs) h (suc t) = none_pushed xs (λ k. h (suc k)) t

pub none_more : (count : ℕ) (found : List (Option Cell)) → AreNone count found → AreNone (count + 1) (found ++ None ∷ [])
none_more count found none = record { counted = omega (arith, none.counted, length-append found (None ∷ [])); no_cell = none_pushed found none.no_cell }
