-- Places of a line. A place is a whole number: the unit between that number and the next one.
use Rattle.std.specs.Prelude.{ℤ, pos, ◌-ℤ◌, ◌≤ℤ◌, ◌<ℤ◌}
use Rattle.std.specs.Int.{int_max, int_min}

-- the place lies in the interval from low up to, and without, high
pub record Within (low high place : ℤ) : Type 0 where
  pub from : low ≤ℤ place
  pub to : place <ℤ high

-- a run: a longest interval of places that the line has
pub record IsRun (line : ℤ → Type 0) (low high : ℤ) : Type 0 where
  pub nonempty : low <ℤ high
  pub inside : (place : ℤ) → Within low high place → line place
  pub before : ¬ line (low -ℤ pos 1)
  pub after : ¬ line high

-- a gap: a longest interval of places that the line lacks, between two that it has
pub record IsGap (line : ℤ → Type 0) (low high : ℤ) : Type 0 where
  pub nonempty : low <ℤ high
  pub empty : (place : ℤ) → Within low high place → ¬ line place
  pub before : line (low -ℤ pos 1)
  pub after : line high

-- how many places lie strictly between two places
abbrev pub between : ℤ → ℤ → ℤ
between p q = int_max (pos 0) (int_max ((q -ℤ p) -ℤ pos 1) ((p -ℤ q) -ℤ pos 1))

-- how many places lie strictly between two intervals, 0 where they meet or adjoin
abbrev pub gap_of : ℤ → ℤ → ℤ → ℤ → ℤ
gap_of low high low' high' = int_max (pos 0) (int_max (low' -ℤ high) (low -ℤ high'))

-- the place of an interval that is nearest to another place
abbrev pub nearest_place : ℤ → ℤ → ℤ → ℤ
nearest_place low high other = int_max low (int_min (high -ℤ pos 1) other)
