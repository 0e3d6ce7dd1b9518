-- The gap of two intervals, by cases.
use Rattle.std.proofs.Common.{◌≡◌, ℤ, pos, ◌-ℤ◌, ◌≤ℤ◌, ◌<ℤ◌, arith}
use Rattle.std.proofs.lemmas.Int.{ints, clamps}
use Rattle.rt_cells.specs.Line.{gap_of}

-- the second lies beyond the first
pub gap_beyond : (low high low' high' : ℤ) → low <ℤ high → low' <ℤ high' → high <ℤ low' → gap_of low high low' high' ≡ low' -ℤ high
gap_beyond low high low' high' a b h = omega (arith, ints, clamps)

-- the first lies beyond the second
pub gap_before : (low high low' high' : ℤ) → low <ℤ high → low' <ℤ high' → high' <ℤ low → gap_of low high low' high' ≡ low -ℤ high'
gap_before low high low' high' a b h = omega (arith, ints, clamps)

-- neither
pub gap_none : (low high low' high' : ℤ) → low' ≤ℤ high → low ≤ℤ high' → gap_of low high low' high' ≡ pos 0
gap_none low high low' high' a b = omega (arith, ints, clamps)

pub ruleset gaps = (gap_beyond, gap_before, gap_none)
