-- From the least positions along an axis to those of a template, and from a refutation to that none meet it.
use Rattle.std.proofs.Common.{◌≡◌, ℕ, zero, suc, ◌<◌, ◌≤◌, ℤ, ◌⊎◌, inl, inr, List, length, refl, sym, ◌∙◌, subst, arith}
use Rattle.rt_cells.proofs.Lines.{past}
use Rattle.rt_base.specs.declared.plane.Axis.{Axis}
use Rattle.rt_base.specs.declared.plane.Axis.TheVariants.{Across, Upwards}
use Rattle.rt_rows.specs.declared.name.Name.{Name}
use Rattle.rt_rows.specs.declared.row.Row.{Row}
use Rattle.rt_rows.specs.declared.row.Var.{Var}
use Rattle.rt_rows.specs.declared.row.Var.TheVariants.{L, R, B, T, Width, Height}
use Rattle.rt_rows.specs.declared.positions.Positions.{Positions}
use Rattle.rt_rows.specs.Rows.{MeetsRow}
use Rattle.rt_rows.specs.Places.{places}
use Rattle.rt_rows.specs.declared.proof.Node.{Node}
use Rattle.rt_rows.proofs.Rows.{beyond_met}
use Rattle.rt_proofs.specs.Forms.{Sum, Meets}
use Rattle.rt_proofs.specs.Trees.{Proof}
use Rattle.rt_proofs.specs.Trees.Goal.{Refute}
use Rattle.rt_proofs.proofs.Bounds.{refuted}
use Rattle.rt_proofs.proofs.Given.{meets_sum}
use Rattle.rt_view.specs.declared.job.Job.{Job}
use Rattle.rt_view.specs.Job.{strips_of}
use Rattle.rt_rules.specs.Pairs.{HasMeasuredPairs}
use Rattle.rt_tech.specs.Tech.{IsMeasured}
use Rattle.rt_tech.proofs.Lengths.{width_is_length}
use Rattle.rt_template.specs.Horizontal.{RowAcross, width_across, IsLeastAcross}
use Rattle.rt_template.specs.Vertical.{RowUpwards, MeetsUpwards, IsLeastUpwards, HaveColumns, HaveSameSides}
use Rattle.rt_template.proofs.Columns.{row_moved, meets_moved}
use Rattle.rt_path.specs.Longest.{IsOfAxis, CountsStrips, IsLeastOf, Listed, AreDifferences}
use Rattle.rt_place.specs.Placing.{HoldsRows, AreColumnsOf, AreHeightsOf, ArePositionsOf, NoneMeetOf, joined_of}
use Rattle.rt_place.proofs.Templates.{IsTemplate, named_below, names_strip, mentions_low, mentions_high, mentions_extent, all_met, met_all, differences}
use Rattle.rt_place.proofs.Instances.{template_across, template_upwards}

last_or_none : (n : ℕ) → (n ≡ 0) ⊎ ((i : ℕ) × (n ≡ suc i))
last_or_none zero = inl refl
last_or_none (suc i) = inr (i, refl)

exactly : (n count : ℕ) → (n < count → ⊥) → (count < n → ⊥) → n ≡ count
exactly n count a b = omega (arith, a, b)

itself : (n : ℕ) → n < n → ⊥
itself n h = omega (arith, h)

too_far : (i n count : ℕ) → n ≡ suc i → count < n → i < count → ⊥
too_far i n count e h g = omega (arith, e, h, g)

none_more : (n count : ℕ) → n ≡ 0 → count < n → ⊥
none_more n count e h = omega (arith, e, h)

module _ (axis : Axis) (count : ℕ) (template : Name → Row → Type 0) (is : IsTemplate axis count template) (rows : List (Name × Row)) (holds : HoldsRows template rows) where
  -- the rows name as many strips as the template is over
  counted : (n : ℕ) → CountsStrips axis rows n → n ≡ count
  counted n c = exactly n count not_fewer not_more
    where
      not_fewer : n < count → ⊥
      not_fewer h = itself n (c.within n (names_strip axis count template is rows holds n h))

      not_more : count < n → ⊥
      not_more h =
          elim (last_or_none n) [
            | inl e ↦ none_more n count e h
            | inr (i, e) ↦ too_far i n count e h (named_below axis count template is rows holds i (c.last i e))
          ]

  -- a refutation says that no values meet the template
  none_meet : (nodes : List Node) → Proof (Listed rows) Refute nodes → (at : Var → ℤ) → ((name : Name) (row : Row) → template name row → MeetsRow at row) → ⊥
  none_meet nodes proof at m = refuted (Listed rows) at met nodes proof
    where
      met : (name : Name) (sum : Sum) → Listed rows name sum → Meets at sum
      met name sum l = subst (Meets at) (sym l.is) (meets_sum at l.row (m name l.row ((holds.exact name l.row).0 l.has)))

-- the least values along the axis are the columns of a job
pub columns_placed : (job : Job) → IsMeasured job.target → HasMeasuredPairs job.target → (rows : List (Name × Row)) → HoldsRows (RowAcross job) rows
    → (at : Positions) → IsLeastOf Across rows at → AreColumnsOf job at
columns_placed job target pairs rows holds at least =
    let count = length (strips_of job) in
    let is = template_across job target pairs in
    let lefts = counted Across count (RowAcross job) is rows holds (length at.l) least.counted in
    record {
      lefts = lefts;
      rights = least.even ∙ lefts;
      least = record {
        extent = record {
          meets = record { meets = met_all Across count (RowAcross job) is rows holds (places at) least.meets };
          width = λ other m. least.least other (all_met Across count (RowAcross job) is rows holds other m.meets) Width (IsOfAxis.is_extent refl)
              (mentions_extent Across count (RowAcross job) is rows holds);
        };
        left = λ other m i s. least.least other (all_met Across count (RowAcross job) is rows holds other m.meets) (L i) (IsOfAxis.is_low i refl)
            (mentions_low Across count (RowAcross job) is rows holds i s.below_count);
        right = λ other m i s. least.least other (all_met Across count (RowAcross job) is rows holds other m.meets) (R i) (IsOfAxis.is_high i refl)
            (mentions_high Across count (RowAcross job) is rows holds i s.below_count);
      };
    }

-- and those upwards its bottoms and tops
pub heights_placed : (job : Job) (columns : Positions) → IsMeasured job.target → HasMeasuredPairs job.target → (rows : List (Name × Row))
    → HoldsRows (RowUpwards job (places columns)) rows → (at : Positions) → IsLeastOf Upwards rows at → AreHeightsOf job columns at
heights_placed job columns target pairs rows holds at least =
    let count = length (strips_of job) in
    let template = RowUpwards job (places columns) in
    let is = template_upwards job (places columns) target pairs in
    let bottoms = counted Upwards count template is rows holds (length at.b) least.counted in
    record {
      bottoms = bottoms;
      tops = least.even ∙ bottoms;
      least = record {
        extent = record {
          meets = record { meets = met_all Upwards count template is rows holds (places at) least.meets };
          height = λ other m. least.least other (all_met Upwards count template is rows holds other m.meets) Height (IsOfAxis.is_extent refl)
              (mentions_extent Upwards count template is rows holds);
        };
        bottom = λ other m i s. least.least other (all_met Upwards count template is rows holds other m.meets) (B i) (IsOfAxis.is_low i refl)
            (mentions_low Upwards count template is rows holds i s.below_count);
        top_side = λ other m i s. least.least other (all_met Upwards count template is rows holds other m.meets) (T i) (IsOfAxis.is_high i refl)
            (mentions_high Upwards count template is rows holds i s.below_count);
      };
    }

-- a refutation says that none meet the template
pub none_across : (job : Job) → IsMeasured job.target → HasMeasuredPairs job.target → (rows : List (Name × Row)) → HoldsRows (RowAcross job) rows
    → (nodes : List Node) → Proof (Listed rows) Refute nodes → NoneMeetOf job Across
none_across job target pairs rows holds nodes proof =
    NoneMeetOf.across (λ other m. none_meet Across (length (strips_of job)) (RowAcross job) (template_across job target pairs) rows holds nodes proof other m.meets)

pub none_upwards : (job : Job) (columns : Positions) → IsMeasured job.target → HasMeasuredPairs job.target → IsLeastAcross job (places columns)
    → (rows : List (Name × Row)) → HoldsRows (RowUpwards job (places columns)) rows → (nodes : List Node) → Proof (Listed rows) Refute nodes → NoneMeetOf job Upwards
none_upwards job columns target pairs least rows holds nodes proof =
    NoneMeetOf.upwards (places columns) least (λ other m. none_meet Upwards (length (strips_of job)) (RowUpwards job (places columns))
    (template_upwards job (places columns) target pairs) rows holds nodes proof other m.meets)

-- the rows are differences that have least positions
pub differences_across : (job : Job) → IsMeasured job.target → HasMeasuredPairs job.target → (rows : List (Name × Row)) → HoldsRows (RowAcross job) rows
    → AreDifferences Across rows
differences_across job target pairs rows holds = differences Across (length (strips_of job)) (RowAcross job) (template_across job target pairs) rows holds

pub differences_upwards : (job : Job) (columns : Positions) → IsMeasured job.target → HasMeasuredPairs job.target → (rows : List (Name × Row))
    → HoldsRows (RowUpwards job (places columns)) rows → AreDifferences Upwards rows
differences_upwards job columns target pairs rows holds =
    differences Upwards (length (strips_of job)) (RowUpwards job (places columns)) (template_upwards job (places columns) target pairs) rows holds

same_length : (n m : ℕ) → n ≡ m → m ≤ n
same_length n m e = omega (arith, e)

-- the columns of a job can be taken for columns
pub are_columns : (job : Job) (at : Positions) → IsMeasured job.target → AreColumnsOf job at → HaveColumns job at
are_columns job at target c = record {
  lefts = same_length _ _ c.lefts;
  rights = same_length _ _ c.rights;
  apart = λ i s. past _ _ _ (width_is_length job.target target _).low (beyond_met (places at) (L i) (R i) (width_across job i) (c.least.extent.meets.meets _ _ (RowAcross.wide i s)));
}

-- columns and heights joined are positions of the job
pub joined_placed : (job : Job) (columns heights : Positions) → AreColumnsOf job columns → AreHeightsOf job columns heights
    → ArePositionsOf job (joined_of columns heights)
joined_placed job columns heights c h = record {
  columns = record { lefts = c.lefts; rights = c.rights; least = joined_least c.least };
  heights = record { bottoms = h.bottoms; tops = h.tops; least = joined_heights h.least };
}
  where
    across_same : (name : Name) (row : Row) → RowAcross job name row → MeetsRow (places columns) row → MeetsRow (places (joined_of columns heights)) row
    across_same name row (RowAcross.lo i s) m = record { holds = m.holds }
    across_same name row (RowAcross.hi i s) m = record { holds = m.holds }
    across_same name row RowAcross.zero m = record { holds = m.holds }
    across_same name row RowAcross.top m = record { holds = m.holds }
    across_same name row (RowAcross.wide i s) m = record { holds = m.holds }
    across_same name row (RowAcross.ll i j t g) m = record { holds = m.holds }
    across_same name row (RowAcross.rr i j t g) m = record { holds = m.holds }
    across_same name row (RowAcross.share i j t g k) m = record { holds = m.holds }
    across_same name row (RowAcross.gap i j k) m = record { holds = m.holds }
    across_same name row (RowAcross.size i c) m = record { holds = m.holds }
    across_same name row (RowAcross.off q i j k) m = record { holds = m.holds }
    across_same name row (RowAcross.inl q i h k) m = record { holds = m.holds }
    across_same name row (RowAcross.inr q i h k) m = record { holds = m.holds }

    joined_least : IsLeastAcross job (places columns) → IsLeastAcross job (places (joined_of columns heights))
    joined_least l = record {
      extent = record { meets = record { meets = λ name row r. across_same name row r (l.extent.meets.meets name row r) }; width = l.extent.width };
      left = l.left;
      right = l.right;
    }

    sides : HaveSameSides job (places columns) (places (joined_of columns heights))
    sides = record { left = λ i s. refl; right = λ i s. refl }

    sides_back : HaveSameSides job (places (joined_of columns heights)) (places columns)
    sides_back = record { left = λ i s. refl; right = λ i s. refl }

    upwards_same : (name : Name) (row : Row) → RowUpwards job (places columns) name row → MeetsRow (places heights) row → MeetsRow (places (joined_of columns heights)) row
    upwards_same name row (RowUpwards.lo i s) m = record { holds = m.holds }
    upwards_same name row (RowUpwards.hi i s) m = record { holds = m.holds }
    upwards_same name row RowUpwards.zero m = record { holds = m.holds }
    upwards_same name row RowUpwards.top m = record { holds = m.holds }
    upwards_same name row (RowUpwards.tall i s) m = record { holds = m.holds }
    upwards_same name row (RowUpwards.on i j s) m = record { holds = m.holds }
    upwards_same name row (RowUpwards.under i j s) m = record { holds = m.holds }
    upwards_same name row (RowUpwards.gap i j k) m = record { holds = m.holds }
    upwards_same name row (RowUpwards.run i j k) m = record { holds = m.holds }
    upwards_same name row (RowUpwards.size i c) m = record { holds = m.holds }
    upwards_same name row (RowUpwards.off q i j k) m = record { holds = m.holds }
    upwards_same name row (RowUpwards.inb q i h k) m = record { holds = m.holds }
    upwards_same name row (RowUpwards.int q i h k) m = record { holds = m.holds }

    met_upwards : (name : Name) (row : Row) → MeetsUpwards job (places columns) (places heights) → RowUpwards job (places (joined_of columns heights)) name row
        → MeetsRow (places (joined_of columns heights)) row
    met_upwards name row m r =
        let back = row_moved job (places (joined_of columns heights)) (places columns) sides_back name row r in
        upwards_same name row back (m.meets name row back)

    joined_heights : IsLeastUpwards job (places columns) (places heights) → IsLeastUpwards job (places (joined_of columns heights)) (places (joined_of columns heights))
    joined_heights l = record {
      extent = record {
        meets = record { meets = λ name row r. met_upwards name row l.extent.meets r };
        height = λ other m. l.extent.height other (meets_moved job (places columns) (places (joined_of columns heights)) sides other m);
      };
      bottom = λ other m i s. l.bottom other (meets_moved job (places columns) (places (joined_of columns heights)) sides other m) i s;
      top_side = λ other m i s. l.top_side other (meets_moved job (places columns) (places (joined_of columns heights)) sides other m) i s;
    }
