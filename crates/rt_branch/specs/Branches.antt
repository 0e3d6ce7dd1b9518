-- The variable of a column.
use Rattle.std.specs.Prelude.{ℕ, ◌*◌, ◌/◌, ◌%◌, ◌==◌, nat_lt, Bool, true, false, if◌then◌else◌}
use Rattle.rt_rows.specs.declared.row.Var.{Var}
use Rattle.rt_rows.specs.declared.row.Var.TheVariants.{L, R, B, T, Width, Height, Axis}
use Rattle.rt_tableau.specs.States.{State}

-- whether a variable is along the vertical axis
abbrev pub is_upwards : Var → Bool
is_upwards (L i) = false
is_upwards (R i) = false
is_upwards (B i) = true
is_upwards (T i) = true
is_upwards Width = false
is_upwards Height = true
is_upwards Axis = false

-- the lower side of a strip along that axis
abbrev pub low_side : Bool → ℕ → Var
low_side false i = L i
low_side true i = B i

-- the upper side
abbrev pub high_side : Bool → ℕ → Var
high_side false i = R i
high_side true i = T i

-- the extent
abbrev pub extent_along : Bool → Var
extent_along false = Width
extent_along true = Height

-- the variable of a column: the sides of strip 0, those of strip 1, and so on, then the extent, then the mirror axis
abbrev pub variable_of : ℕ → Bool → ℕ → Var
variable_of strips upwards j =
    if nat_lt j (2 * strips) then (if (j % 2) == 0 then low_side upwards (j / 2) else high_side upwards (j / 2)) else (if j == (2 * strips) then extent_along upwards else Axis)

-- the same along the goal's axis
abbrev pub variable_at : State → ℕ → Var
variable_at state j = variable_of state.system.strips (is_upwards state.goal) j
