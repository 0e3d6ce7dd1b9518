-- Why a pivot isn't made.
use Rattle.std.specs.Prelude.{◌≡◌, ℕ}
use Rattle.rt_tableau.specs.declared.pivot_error.PivotError.{PivotError}
use Rattle.rt_tableau.specs.declared.pivot_error.PivotError.TheVariants.{Overflow, OutOfMemory}
use Rattle.rt_tableau.specs.States.{State, PassesFirst}

-- an Overflow tells the basis, the pivot, and the first place that would be past the limit
abbrev pub IsRefused : State → ℕ → ℕ → PivotError → Type 0
IsRefused state p q (Overflow basis row column i j) = (basis ≡ state.basis) × (row ≡ p) × (column ≡ q) × PassesFirst state p q i j
IsRefused state p q OutOfMemory = Unit {0}
