-- Which strips are near in rows.
use Rattle.std.proofs.Common.{◌≡◌, ℕ, ◌<ℤ◌, Bool, true, false, sym, subst₂, inl, inr}
use Rattle.std.specs.Bool.{MatchBool}
use Rattle.rt_view.specs.declared.job.Job.{Job}
use Rattle.rt_view.specs.Job.{strips_of}
use Rattle.rt_strips.specs.Placed.{Placed, strip_at}
use Rattle.rt_strips.specs.Standing.{ShareRow, rows_apart}
use Rattle.rt_template.specs.Horizontal.{AreNear, near_between}
use Rattle.rt_htemplate.specs.Asked.{HaveRow, AreFewRowsApart, IsNeitherClimbed}

module _ (job : Job) (i j : ℕ) (a b : Placed) (e : strip_at (strips_of job) i ≡ a) (f : strip_at (strips_of job) j ≡ b) where
  row_of_both : ShareRow (strips_of job) i j → HaveRow a b
  row_of_both s = subst₂ HaveRow e f (record { common = s.common })

  few_rows : rows_apart (strips_of job) i j <ℤ near_between job i j → AreFewRowsApart job.source a b
  few_rows h = subst₂ (AreFewRowsApart job.source) e f (record { few = h })

  few_rows_back : AreFewRowsApart job.source a b → rows_apart (strips_of job) i j <ℤ near_between job i j
  few_rows_back h = (subst₂ (AreFewRowsApart job.source) (sym e) (sym f) h).few

  climbed_none : (¬ HaveRow a b) → (¬ IsNeitherClimbed (strips_of job) i j) → ¬ AreNear job i j
  climbed_none n m (inl s) = n (row_of_both s)
  climbed_none n m (inr (_, there, back)) = m (record { there = there; back = back })

  pub far_apart : (¬ HaveRow a b) → (¬ AreFewRowsApart job.source a b) → ¬ AreNear job i j
  far_apart n m (inl s) = n (row_of_both s)
  far_apart n m (inr (h, _, _)) = m (few_rows h)

  pub near_by : (¬ HaveRow a b) → AreFewRowsApart job.source a b → (v : Bool) → MatchBool v (IsNeitherClimbed (strips_of job) i j) (¬ IsNeitherClimbed (strips_of job) i j)
      → MatchBool v (AreNear job i j) (¬ AreNear job i j)
  near_by n h true c = inr (few_rows_back h, c.there, c.back)
  near_by n h false m = climbed_none n m
