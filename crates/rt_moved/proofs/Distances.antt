-- The rows of a distance keep its two sides clear.
use Rattle.std.proofs.Common.{◌≡◌, ℕ, ℤ, ◌⊎◌, Some, IsSomeAnd, sym, ap, subst, inl, inr}
use Rattle.rt_cells.specs.Rectangles.{Rectangle}
use Rattle.rt_cells.proofs.Lines.{gap_back}
use Rattle.rt_tech.specs.declared.table.Apart.{Apart as Distance}
use Rattle.rt_rules.specs.Pairs.{apart_at, apart_number as number_of_apart}
use Rattle.rt_family.specs.Carried.{IsKeptClear}
use Rattle.rt_view.specs.declared.job.Job.{Job}
use Rattle.rt_view.specs.Job.{strips_of}
use Rattle.rt_rows.specs.declared.row.Var.{Var}
use Rattle.rt_rows.specs.declared.row.Var.TheVariants.{L, R, B, T}
use Rattle.rt_rows.specs.declared.name.Name.TheVariants.{Off}
use Rattle.rt_rows.proofs.Rows.{beyond_met}
use Rattle.rt_strips.specs.Placed.{bottom_of, top_of}
use Rattle.rt_template.specs.Between.{apart_number, IsStripOf, IsStripIn, source_area, AreKeptApart, AreOnTwoSides}
use Rattle.rt_template.specs.Horizontal.{RowAcross, MeetsAcross}
use Rattle.rt_template.specs.Vertical.{RowUpwards, MeetsUpwards}
use Rattle.rt_moved.proofs.Drawn.{in_steps}

-- what is kept clear of a mask is so strip by strip
pub clear_of_these : (these first second : ℕ → Type 0) (source drawn : ℕ → Rectangle) (near clear : ℤ) → ((i : ℕ) → these i → first i)
    → IsKeptClear first second source drawn near clear → IsKeptClear these second source drawn near clear
clear_of_these these first second source drawn near clear of kept = record {
  right = λ i j f s. kept.right i j (of i f) s;
  left = λ i j f s. kept.left i j (of i f) s;
  above = λ i j f s. kept.above i j (of i f) s;
  below = λ i j f s. kept.below i j (of i f) s;
}

module _ (job : Job) (at : Var → ℤ) (across : MeetsAcross job at) (upwards : MeetsUpwards job at at)
    (q : ℕ) (a other : Distance) (there : apart_at job.source q ≡ Some a) (there' : apart_at job.target q ≡ Some other) where
  sides_of : (i j : ℕ) → AreKeptApart job a i j ⊎ AreKeptApart job a j i → AreOnTwoSides job q i j
  sides_of i j kept = subst (λ o. IsSomeAnd o (λ apart. AreKeptApart job apart i j ⊎ AreKeptApart job apart j i)) (sym there) kept

  clear_by_rows : IsKeptClear (IsStripIn job a.a a.on) (IsStripOf job a.b) (source_area job) (in_steps at) (apart_number job.source q) (apart_number job.target q)
  clear_by_rows = record {
    right = λ i j f s beside rows.
        beyond_met at (R i) (L j) (apart_number job.target q)
        (across.meets (Off q i j) _ (RowAcross.off q i j (record { sides = sides_of i j (inl (record { first = f; second = s })); beside = beside; near = rows })));
    left = λ i j f s beside rows.
        beyond_met at (R j) (L i) (apart_number job.target q)
        (across.meets (Off q j i) _ (RowAcross.off q j i (record {
          sides = sides_of j i (inr (record { first = f; second = s }));
          beside = beside;
          near = gap_back (bottom_of (strips_of job) i) (top_of (strips_of job) i) (bottom_of (strips_of job) j) (top_of (strips_of job) j) (apart_number job.source q) rows;
        })));
    above = λ i j f s above columns.
        beyond_met at (T i) (B j) (apart_number job.target q)
        (upwards.meets (Off q i j) _ (RowUpwards.off q i j (record { sides = sides_of i j (inl (record { first = f; second = s })); above = above; near = columns })));
    below = λ i j f s below columns.
        beyond_met at (T j) (B i) (apart_number job.target q)
        (upwards.meets (Off q j i) _ (RowUpwards.off q j i (record {
          sides = sides_of j i (inr (record { first = f; second = s }));
          above = below;
          near = gap_back (at (L i)) (at (R i)) (at (L j)) (at (R j)) (apart_number job.target q) columns;
        })));
  }

  -- in steps
  pub sides_clear : IsKeptClear (IsStripIn job a.a a.on) (IsStripOf job a.b) (source_area job) (in_steps at) a.number other.number
  sides_clear =
      subst (λ near. IsKeptClear (IsStripIn job a.a a.on) (IsStripOf job a.b) (source_area job) (in_steps at) near other.number) (ap number_of_apart there)
      (subst (IsKeptClear (IsStripIn job a.a a.on) (IsStripOf job a.b) (source_area job) (in_steps at) (apart_number job.source q)) (ap number_of_apart there') clear_by_rows)
