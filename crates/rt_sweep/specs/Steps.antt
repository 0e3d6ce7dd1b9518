-- One step of a sweep.
use Rattle.std.specs.Prelude.{ℕ, ℤ, List}
use Rattle.rt_sweep.specs.declared.bar.Bar.{Bar}
use Rattle.rt_sweep.specs.Rows.{IsSwept}
use Rattle.rt_sweep.specs.Slabs.{PassesSlab}

-- the sweep passes a slab, and can go on above it
pub record IsStep (bars : List Bar) (height highest : ℤ) (active : List Bar) (bottom top : ℤ) (end : ℕ) (crossing : List Bar) : Type 0 where
  pub passes : PassesSlab (record { bars = bars; height = height; highest = highest; active = active }) bottom top
      (record { bars = bars; height = top; highest = highest; active = crossing })
  pub swept : IsSwept bars end top highest crossing
