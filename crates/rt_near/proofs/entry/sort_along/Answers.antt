use Rattle.std.proofs.Common.{rules}
use Rattle.std.proofs.lemmas.List.Sorted.{answers_always}
use Rattle.rt_near.specs.declared.entry.Entry.{Entry}
use Rattle.rt_near.proofs.Along.{order_by_sort}
use Rattle.rt_near.proofs.entry.sort_along.Goals as goal

pub returns-clause-sorted : goal.returns-clause-sorted
returns-clause-sorted c =
    order_by_sort _ (c.in_ok-sort_by_key.ensures.sorted (λ (e : Entry). (e.at.group, e.at.low)) (answers_always _ _ _ (λ f a r g h. search rules)))
