-- The names of a drawing at the columns that a sweep has passed.
use Rattle.std.proofs.Common.{◌≡◌, ℕ, ℤ, pos, ◌+ℤ◌, ◌-ℤ◌, ◌≤ℤ◌, ◌<ℤ◌, ◌⊎◌, List, refl, sym, ap, subst, ◌∙◌, arith, inl, inr}
use Rattle.std.specs.List.{Contains}
use Rattle.std.proofs.lemmas.Int.{ints, by_lt_z}
use Rattle.std.proofs.lemmas.List.Elements.{All-contains, All-weaker}
use Rattle.rt_cells.specs.Line.{Within}
use Rattle.rt_base.specs.Plane.{area}
use Rattle.rt_sweep.specs.declared.bar.Bar.{Bar}
use Rattle.rt_sweep.specs.Slabs.{Passing, Crosses, IsActive, IsSlab, AreRowsFree, AreBelow, AreAbove, PassesSlab}
use Rattle.rt_rows.specs.declared.name.Name.{Name}
use Rattle.rt_strips.specs.Placed.{Placed}
use Rattle.rt_columns.specs.Adding.{Adds}
use Rattle.rt_columns.specs.Bars.{IsBarOf, AreBarsOf, ArePassing, IsRunAmong}
use Rattle.rt_columns.specs.Columns.IsShownWhere.{gap, run}
use Rattle.rt_columns.specs.Columns.{IsGapIn, IsRunIn, AreBarsOver, IsOver, IsShownTo, IsShownSomewhere, IsColumnBar, AreColumnBars}
use Rattle.rt_columns.specs.Slabs.{IsSlabName, AddsSlab}
use Rattle.rt_columns.proofs.Adding.{adds_none, adds_both, adds_as}
use Rattle.rt_columns.proofs.Sets.{gap_to, gap_from, run_to, run_from, first_over}

module _ (strips : List Placed) (left right : ℕ → ℤ) (m : ℕ) (bars : List Bar) (all : AreColumnBars strips left right m bars) where
  column_bar : (bar : Bar) → Contains bars bar → IsColumnBar strips left right m bar
  column_bar bar listed = All-contains (IsColumnBar strips left right m) bars bar all.each listed

  -- the bar of a strip over two columns
  record HasBarAt (x u : ℤ) (i : ℕ) : Type 0 where
    bar : Bar
    listed : Contains bars bar
    of : bar.tag ≡ i
    first : Within bar.at.y1 bar.at.y2 x
    second : Within bar.at.y1 bar.at.y2 u

  bar_over : (x u : ℤ) (i : ℕ) → IsOver strips left right m x u i → HasBarAt x u i
  bar_over x u i h =
      let b = all.every i h.strip h.of_mask in
      let c = column_bar b.bar b.listed in
      let from : b.bar.at.y1 ≡ left i = c.from ∙ ap left b.of in
      let to : b.bar.at.y2 ≡ right i = c.to ∙ ap right b.of in
      record {
        bar = b.bar;
        listed = b.listed;
        of = b.of;
        first = record { from = omega (arith, ints, h.first.from); to = omega (arith, ints, h.first.to) };
        second = record { from = omega (arith, ints, h.second.from); to = omega (arith, ints, h.second.to) };
      }

  over_of : (x u : ℤ) (bar : Bar) → Contains bars bar → Within bar.at.y1 bar.at.y2 x → Within bar.at.y1 bar.at.y2 u → IsOver strips left right m x u bar.tag
  over_of x u bar listed a b =
      let c = column_bar bar listed in
      let from = c.from in
      let to = c.to in
      record {
        strip = c.of_strip.strip;
        of_mask = c.of_mask;
        first = record { from = omega (arith, ints, a.from); to = omega (arith, ints, a.to) };
        second = record { from = omega (arith, ints, b.from); to = omega (arith, ints, b.to) };
      }

  -- at a column over which no bar is, nothing is shown
  no_gap : (x : ℤ) (name : Name) → ((bar : Bar) → Contains bars bar → ¬ Within bar.at.y1 bar.at.y2 x) → ¬ IsGapIn strips (IsOver strips left right m x x) name
  no_gap x name none g = let b = bar_over x x g.i g.lower in none b.bar b.listed b.first

  no_run : (x u : ℤ) (name : Name) → ((bar : Bar) → Contains bars bar → ¬ Within bar.at.y1 bar.at.y2 x) → ¬ IsRunIn strips (IsOver strips left right m x u) name
  no_run x u name none g =
      let b = bar_over x u g.i (first_over strips (IsOver strips left right m x u) g.i g.j g.chain) in
      none b.bar b.listed b.first

  -- below all bars
  pub none_at_start : (height : ℤ) → AreAbove bars height → (names : List Name) → Adds (IsShownTo strips left right m height) names names
  none_at_start height above names = adds_none _ names (λ name shown. elim shown [
    | gap x low g ↦ no_gap x name (λ bar listed w. let a = All-contains (λ (b : Bar). height ≤ℤ b.at.y1) bars bar above listed in omega (arith, ints, w.from)) g
    | run x u low e g ↦ no_run x u name (λ bar listed w. let a = All-contains (λ (b : Bar). height ≤ℤ b.at.y1) bars bar above listed in omega (arith, ints, w.from)) g
  ])

  ended : (height : ℤ) → AreBelow bars height → (x : ℤ) → height ≤ℤ x → (bar : Bar) → Contains bars bar → ¬ Within bar.at.y1 bar.at.y2 x
  ended height below x h bar listed w = let a = All-contains (λ (b : Bar). b.at.y2 ≤ℤ height) bars bar below listed in omega (arith, ints, w.to)

  -- above all bars
  pub all_at_end : (height : ℤ) → AreBelow bars height → (before after : List Name) → Adds (IsShownTo strips left right m height) before after
      → Adds (IsShownSomewhere strips left right m) before after
  all_at_end height below before after adds = adds_as _ _ before after adds
      (λ name shown. elim shown [ gap x low g ↦ gap x tt g | run x u low e g ↦ run x u tt e g ])
      (λ name shown. elim shown [
        | gap x low g ↦ gap x (by_lt_z x height (λ h. h) (λ h. absurd (no_gap x name (ended height below x h) g))) g
        | run x u low e g ↦ run x u (by_lt_z x height (λ h. h) (λ h. absurd (no_run x u name (ended height below x h) g))) e g
      ])

  -- over one slab
  module _ (bottom top : ℤ) (active : List Bar) (slab : IsSlab bars bottom top active) where
    of_active : (bar : Bar) → Contains active bar → IsActive bars bottom top bar
    of_active bar listed = All-contains (IsActive bars bottom top) active bar slab.are_active listed

    pub active_bars : AreBarsOf strips active
    active_bars = record {
      each = All-weaker (IsActive bars bottom top) (IsBarOf strips) (λ bar a. (column_bar bar a.listed).of_strip) active slab.are_active;
      in_order = slab.in_order;
    }

    crosses_at : (bar : Bar) → Crosses bottom top (area bar.at) → (x : ℤ) → bottom ≤ℤ x → x <ℤ top → Within bar.at.y1 bar.at.y2 x
    crosses_at bar c x h g = let a = c.from in let b = c.to in record { from = omega (arith, ints); to = omega (arith, ints) }

    is_active : (x : ℤ) → bottom ≤ℤ x → x <ℤ top → (bar : Bar) → Contains bars bar → Within bar.at.y1 bar.at.y2 x → Contains active bar
    is_active x h g bar listed w = elim (slab.each bar listed) [
      | inl a ↦ a.0
      | inr misses ↦ absurd (elim misses [ inl l ↦ omega (arith, ints, w.to, l) | inr l ↦ omega (arith, ints, w.from, l) ])
    ]

    pub active_over : (x u : ℤ) → bottom ≤ℤ x → x <ℤ top → bottom ≤ℤ u → u <ℤ top → AreBarsOver strips (IsOver strips left right m x u) active
    active_over x u a b c d = record {
      bars = active_bars;
      each = All-weaker (IsActive bars bottom top) (λ bar. IsOver strips left right m x u bar.tag)
          (λ bar is. over_of x u bar is.listed (crosses_at bar is.crosses x a b) (crosses_at bar is.crosses u c d)) active slab.are_active;
      every = λ i h. let o = bar_over x u i h in record { bar = o.bar; listed = is_active x a b o.bar o.listed o.first; of = o.of };
    }

    module _ (through : List Bar) (passing : ArePassing active top through) where
      pub through_over : (x u : ℤ) → bottom ≤ℤ x → x <ℤ top → u ≡ top → AreBarsOver strips (IsOver strips left right m x u) through
      through_over x u a b e = record {
        bars = record {
          each = All-weaker (λ (bar : Bar). Contains active bar × (top <ℤ bar.at.y2)) (IsBarOf strips) (λ bar h. (column_bar bar (of_active bar h.0).listed).of_strip) through passing.each;
          in_order = passing.in_order;
        };
        each = All-weaker (λ (bar : Bar). Contains active bar × (top <ℤ bar.at.y2)) (λ bar. IsOver strips left right m x u bar.tag)
            (λ bar h.
            let is = of_active bar h.0 in
            let low = is.crosses.from in
            let far = h.1 in
            over_of x u bar is.listed (crosses_at bar is.crosses x a b) (record { from = omega (arith, ints, slab.some_rows); to = omega (arith, ints) })) through passing.each;
        every = λ i h.
            let o = bar_over x u i h in
            let high = o.second.to in
            record { bar = o.bar; listed = passing.every o.bar (is_active x a b o.bar o.listed o.first) (omega (arith, ints)); of = o.of };
      }

    -- the names up to the slab's top are those up to a height at or below its bottom, with no bar between, and those of the slab
    module _ (height : ℤ) (onward : height ≤ℤ bottom) (free : AreRowsFree bars height bottom) (through : List Bar) (passing : ArePassing active top through) where
      to_more : (name : Name) → IsShownTo strips left right m height name → IsShownTo strips left right m top name
      to_more name shown = elim shown [
        | gap x low g ↦ gap x (omega (arith, ints, slab.some_rows)) g
        | run x u low e g ↦ run x u (omega (arith, ints, slab.some_rows)) e g
      ]

      of_slab : (name : Name) → IsSlabName strips active through name → IsShownTo strips left right m top name
      of_slab name (inl g) =
          let low : bottom ≤ℤ bottom = omega (arith, ints) in
          gap bottom slab.some_rows (gap_to strips _ active (active_over bottom bottom low slab.some_rows low slab.some_rows) name g)
      of_slab name (inr (inl g)) =
          let low : bottom ≤ℤ bottom = omega (arith, ints) in
          run bottom bottom slab.some_rows (inl refl) (run_to strips _ active (active_over bottom bottom low slab.some_rows low slab.some_rows) name g)
      of_slab name (inr (inr g)) =
          let below : (top -ℤ pos 1) <ℤ top = omega (arith, ints) in
          let from : bottom ≤ℤ (top -ℤ pos 1) = omega (arith, ints, slab.some_rows) in
          run (top -ℤ pos 1) top below (inr (omega (arith, ints))) (run_to strips _ through (through_over through passing (top -ℤ pos 1) top from below refl) name g)

      none_in_gap : (x : ℤ) → height ≤ℤ x → x <ℤ bottom → (bar : Bar) → Contains bars bar → ¬ Within bar.at.y1 bar.at.y2 x
      none_in_gap x h g bar listed = free.free bar listed x (record { from = h; to = g })

      run_either : (x u : ℤ) (name : Name) → bottom ≤ℤ x → x <ℤ top → (u ≡ x) ⊎ (u ≡ x +ℤ pos 1) → IsRunIn strips (IsOver strips left right m x u) name
          → IsRunAmong strips active name ⊎ IsRunAmong strips through name
      run_either x u name a b (inl e) g =
          inl (run_from strips _ active (active_over x u a b (omega (arith, ints)) (omega (arith, ints))) name g)
      run_either x u name a b (inr e) g =
          by_lt_z u top
          (λ h. inl (run_from strips _ active (active_over x u a b (omega (arith, ints)) h) name g))
          (λ h. inr (run_from strips _ through (through_over through passing x u a b (omega (arith, ints))) name g))

      either_name : (name : Name) → IsShownTo strips left right m top name → IsShownTo strips left right m height name ⊎ IsSlabName strips active through name
      either_name name (gap x low g) =
          by_lt_z x height
          (λ h. inl (gap x h g))
          (λ h. by_lt_z x bottom
          (λ l. absurd (no_gap x name (none_in_gap x h l) g))
          (λ l. inr (inl (gap_from strips _ active (active_over x x l low l low) name g))))
      either_name name (run x u low e g) =
          by_lt_z x height
          (λ h. inl (run x u h e g))
          (λ h. by_lt_z x bottom
          (λ l. absurd (no_run x u name (none_in_gap x h l) g))
          (λ l. inr (inr (run_either x u name l low e g))))

      pub one_step : (names between more : List Name) → Adds (IsShownTo strips left right m height) names between → Adds (IsSlabName strips active through) between more
          → Adds (IsShownTo strips left right m top) names more
      one_step names between more first second = adds_both _ _ _ names between more first second to_more of_slab either_name

  -- a sweep passes a slab
  pub one_slab : (before after : Passing) (bottom top : ℤ) → before.bars ≡ bars → PassesSlab before bottom top after → (names between more : List Name)
      → Adds (IsShownTo strips left right m before.height) names between → AddsSlab strips after.active top between more
      → Adds (IsShownTo strips left right m after.height) names more
  one_slab before after bottom top same passes names between more first second =
      let slab = subst (λ bs. IsSlab bs bottom top after.active) same passes.slab in
      let free = subst (λ bs. AreRowsFree bs before.height bottom) same passes.free in
      subst (λ z. Adds (IsShownTo strips left right m z) names more) (sym passes.at_top)
      (one_step bottom top after.active slab before.height passes.onward free second.through second.passing names between more first second.adds)
