-- Whole chains, as the code tests them.
use Rattle.std.specs.Prelude.{◌≡◌, ℕ, ℤ, pos, ◌+ℤ◌, ◌⊎◌}
use Rattle.rt_rows.specs.declared.row.Var.{Var}
use Rattle.rt_rows.specs.declared.row.Var.TheVariants.{L, R}
use Rattle.rt_vtemplate.specs.declared.chains.Span.{Span}
use Rattle.rt_strips.specs.Standing.{StandsOn}
use Rattle.rt_view.specs.declared.job.Job.{Job}
use Rattle.rt_view.specs.Job.{strips_of}
use Rattle.rt_template.specs.Vertical.{CoversBoth, IsChain}

-- the span begins and ends at these columns
pub record IsSpan (x u : ℤ) (span : Span) : Type 0 where
  pub first : span.x ≡ x
  pub last : span.u ≡ u

module _ (job : Job) (columns : Var → ℤ) where
  -- the one strip stands on the other, and strip k covers both columns
  pub record StandsThere (x u : ℤ) (below above k : ℕ) : Type 0 where
    pub covers : CoversBoth job columns x u k
    pub stands : StandsOn (strips_of job) below above

  -- strip i stands on no strip that covers both columns
  pub record IsLowest (x u : ℤ) (i : ℕ) : Type 0 where
    pub none : (k : ℕ) → CoversBoth job columns x u k → ¬ StandsOn (strips_of job) k i

  -- no strip that covers both columns stands on strip j
  pub record IsHighest (x u : ℤ) (j : ℕ) : Type 0 where
    pub none : (k : ℕ) → CoversBoth job columns x u k → ¬ StandsOn (strips_of job) j k

  -- a chain from strip i to strip j over both columns, to which no strip can be added at either end
  pub record IsWholeAt (x u : ℤ) (i j : ℕ) : Type 0 where
    pub chain : IsChain job columns x u i j
    pub lowest : IsLowest x u i
    pub highest : IsHighest x u j

  -- the same at columns that begin where strip k does, or of which the last is the one behind strip k
  pub record IsWholeBeside (k i j : ℕ) : Type 0 where
    pub x : ℤ
    pub u : ℤ
    pub one_or_two : (u ≡ x) ⊎ (u ≡ x +ℤ pos 1)
    pub beside : (x ≡ columns (L k)) ⊎ (u ≡ columns (R k))
    pub whole : IsWholeAt x u i j
