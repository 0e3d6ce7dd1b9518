use Rattle.std.proofs.Common.{map, List, subst, sym, arith}
use Rattle.std.proofs.lemmas.Grind.{common_steps}
use Rattle.std.proofs.lemmas.Result.{IfOk-weaker}
use Rattle.std.specs.List.Sorted.{IsPermutation}
use Rattle.rt_strips.specs.declared.meeting.Side.TheVariants.{Bottom}
use Rattle.rt_strips.specs.declared.meeting.Edge.{Edge}
use Rattle.rt_strips.specs.Placed.{placed}
use Rattle.rt_strips.specs.Edges.{IsSortedByPlace}
use Rattle.rt_strips.specs.Meetings.{AreEdgesOf}
use Rattle.rt_strips.proofs.Edges.{bottoms_in_order, bottoms_numbered, tops_in_order}
use Rattle.rt_strips.proofs.Meetings.{are_meetings_of}
use Rattle.rt_strips.proofs.meeting.meetings_of.Goals as goal
use Rattle.rt_strips.proofs.meeting.meetings_of.Goals.{After-as_slice-2}

moved : (c : After-as_slice-2) → IsPermutation c.in_ok-ends.ends.items c.as_slice.result.now
moved c = grind (arith, common_steps)

sorted : (c : After-as_slice-2) → IsSortedByPlace c.as_slice.result.now
sorted c = grind (arith, common_steps)

bottoms : (c : After-as_slice-2) → AreEdgesOf Bottom (map placed c.args.strips.now) c.as_slice-2.result.now
bottoms c = subst (λ (l : List Edge). AreEdgesOf Bottom (map placed c.args.strips.now) l) (sym c.as_slice-2.ensures.value) c.in_ok-begins.ensures

pub meetings-requires-clause-ends : goal.meetings-requires-clause-ends
meetings-requires-clause-ends c =
    tops_in_order (map placed c.args.strips.now) c.requires c.in_ok-ends.ends.items c.as_slice.result.now c.in_ok-ends.ensures (moved c) (sorted c)

pub meetings-requires-clause-begins : goal.meetings-requires-clause-begins
meetings-requires-clause-begins c = bottoms_in_order (map placed c.args.strips.now) c.requires c.as_slice-2.result.now (bottoms c)

pub meetings-requires-clause-numbered : goal.meetings-requires-clause-numbered
meetings-requires-clause-numbered c = bottoms_numbered (map placed c.args.strips.now) c.requires c.as_slice-2.result.now (bottoms c)

pub returns : goal.returns
returns c =
    let d = (goal.at.returns c).After-as_slice-2 in
    IfOk-weaker c.meetings.result _ _
    (λ found are. are_meetings_of (map placed c.args.strips.now) c.in_ok-ends.ends.items c.as_slice.result.now c.as_slice-2.result.now found.items
    c.in_ok-ends.ensures (moved d) (bottoms d) are) c.meetings.ensures
