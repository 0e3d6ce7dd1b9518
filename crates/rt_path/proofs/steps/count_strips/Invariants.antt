use Rattle.std.proofs.Common.{◌≡◌, ◌≤◌, ◌^◌, max, drop}
use Rattle.rt_path.specs.Steps.{strips_for_rows}
use Rattle.rt_path.proofs.steps.count_strips.Given as goal

abbrev pub invariant-loop-named : goal.invariant-loop-named
invariant-loop-named l = record {
  value : max l.count (strips_for_rows (drop l.named-index l.rows)) ≡ strips_for_rows l.rows;
  few : l.count ≤ 2 ^ 32;
}
