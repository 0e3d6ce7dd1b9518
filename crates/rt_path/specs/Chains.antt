-- Sums of rows of differences along a chain: what is left of them is the last variable less the first one.
use Rattle.std.specs.Prelude.{◌≡◌, Bool, false, ℤ, pos, ◌+ℤ◌, ◌-ℤ◌, ◌≤ℤ◌, List, [], Option, Some, None}
use Rattle.rt_rows.specs.declared.row.Var.{Var}
use Rattle.rt_rows.specs.declared.row.Row.{Row}
use Rattle.rt_rows.specs.declared.name.Name.{Name}
use Rattle.rt_rows.specs.declared.proof.Of.TheVariants.{Template}
use Rattle.rt_rows.specs.declared.proof.Share.{Share}
use Rattle.rt_rows.specs.Rows.{MeetsRow}
use Rattle.rt_proofs.specs.Forms.{same_var, only_if, coefficient, Sum}
use Rattle.rt_proofs.specs.Rows.{sum_of}
use Rattle.rt_proofs.specs.Trees.{Combined}

-- a variable or the origin, which has none
abbrev pub is_at : Var → Option Var → Bool
is_at w None = false
is_at w (Some v) = same_var w v

-- its value; that of the origin is 0
abbrev pub worth : (Var → ℤ) → Option Var → ℤ
worth at None = pos 0
worth at (Some v) = at v

-- the inequality says that the head is beyond the tail by the number
pub record IsArc (sum : Sum) (tail head : Option Var) (by : ℤ) : Type 0 where
  pub left : (w : Var) → coefficient w sum.terms ≡ only_if (is_at w head) (pos 1) -ℤ only_if (is_at w tail) (pos 1)
  pub right : sum.least ≡ by

-- so does the row
pub record IsArcOf (row : Row) (tail head : Option Var) (by : ℤ) : Type 0 where
  pub arc : IsArc (sum_of row) tail head by
  pub met : (at : Var → ℤ) → MeetsRow at row → (worth at tail +ℤ by) ≤ℤ worth at head
  pub meets : (at : Var → ℤ) → (worth at tail +ℤ by) ≤ℤ worth at head → MeetsRow at row

-- the row of this name, taken once
abbrev pub once : Name → Share
once name = record { times = pos 1; of = Template name }

-- the shares add up to this: the head is beyond the tail by the gain
pub record AddUp (has : Name → Sum → Type 0) (shares : List Share) (tail head : Option Var) (gain : ℤ) : Type 0 where
  pub combined : Sum
  pub adds : Combined has [] shares combined
  pub arc : IsArc combined tail head gain
