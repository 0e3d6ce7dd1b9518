use Rattle.std.proofs.Common.{◌≡◌, ◌≤◌, ◌^◌, max, drop}
use Rattle.rt_path.specs.Steps.{strips_for_terms}
use Rattle.rt_path.proofs.steps.count_in.Given as goal

abbrev pub invariant-loop-term : goal.invariant-loop-term
invariant-loop-term l = record {
  value : max l.count (strips_for_terms (drop l.term-index l.row.terms)) ≡ strips_for_terms l.row.terms;
  few : l.count ≤ 2 ^ 32;
}
