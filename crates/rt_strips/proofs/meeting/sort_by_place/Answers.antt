use Rattle.std.proofs.Common.{rules}
use Rattle.std.proofs.lemmas.List.Sorted.{answers_always}
use Rattle.rt_strips.specs.declared.meeting.Edge.{Edge}
use Rattle.rt_strips.proofs.Edges.{sorted_by_place}
use Rattle.rt_strips.proofs.meeting.sort_by_place.Goals as goal

pub returns-clause-sorted : goal.returns-clause-sorted
returns-clause-sorted c =
    sorted_by_place _ (c.in_ok-sort_by_key.ensures.sorted (λ (e : Edge). (e.mask, e.height, e.left)) (answers_always _ _ _ (λ f a r g h. search rules)))
