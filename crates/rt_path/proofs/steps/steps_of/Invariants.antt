use Rattle.std.proofs.Common.{◌≡◌, map, take}
use Rattle.rt_path.specs.Steps.{step_for}
use Rattle.rt_path.proofs.steps.steps_of.Given as goal

abbrev pub invariant-loop-named : goal.invariant-loop-named
invariant-loop-named l = l.steps ≡ map (step_for l.count) (take l.named-index l.rows)
