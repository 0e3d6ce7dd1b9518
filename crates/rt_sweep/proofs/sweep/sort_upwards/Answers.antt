use Rattle.std.proofs.Common.{rules}
use Rattle.std.proofs.lemmas.List.Sorted.{answers_always}
use Rattle.rt_sweep.specs.declared.bar.Bar.{Bar}
use Rattle.rt_sweep.proofs.Upwards.{upwards_by_sort}
use Rattle.rt_sweep.proofs.sweep.sort_upwards.Goals as goal

pub returns-clause-sorted : goal.returns-clause-sorted
returns-clause-sorted c =
    upwards_by_sort _ (c.in_ok-sort_by_key.ensures.sorted (λ (b : Bar). (b.at.y1, b.at.x1)) (answers_always _ _ _ (λ f a r g h. search rules)))
