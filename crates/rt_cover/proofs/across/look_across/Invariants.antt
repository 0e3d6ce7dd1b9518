use Rattle.std.proofs.Common.{ℕ, ◌≤◌, ◌<◌, length, get_or}
use Rattle.rt_sweep.specs.declared.bar.Bar.{Bar}
use Rattle.rt_cover.specs.Across.{IsReachUpTo, AreLookedAt}
use Rattle.rt_cover.proofs.across.look_across.Given as goal

abbrev pub invariant-loop-bar : goal.invariant-loop-bar
invariant-loop-bar l = record {
  reach : (j : ℕ) (d : Bar) → l.bar-index ≤ j → j < length l.active → IsReachUpTo l.active l.count (get_or l.active j d).at.x1 l.reach.next l.reach.right;
  looked : AreLookedAt l.active l.count l.slab.bottom l.bar-index l.fn.found l.found;
}
