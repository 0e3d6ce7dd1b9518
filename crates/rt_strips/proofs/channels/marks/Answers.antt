use Rattle.std.proofs.Common.{◌≡◌, ◌++◌, map, take, drop, length, List, Bool, subst, sym, arith}
use Rattle.std.proofs.lemmas.Grind.{common_steps}
use Rattle.rt_strips.specs.declared.meeting.Meeting.{Meeting}
use Rattle.rt_strips.specs.Placed.{placed}
use Rattle.rt_strips.specs.Meetings.{AreMeetingsOf}
use Rattle.rt_strips.proofs.Marks.{AreMarksSoFar, marked_more, all_marked}
use Rattle.rt_strips.proofs.channels.marks.Goals as goal

pub loop-meeting-preserved : goal.loop-meeting-preserved
loop-meeting-preserved c =
    let same : take c.loop-meeting.touched.len (c.mark.new.touched ++ drop (length c.mark.new.touched) c.loop-meeting.touched.items) ≡ c.mark.new.touched = grind (arith, common_steps) in
    rw same
    (marked_more (map placed c.args.strips.now) c.deref-meeting-items.result.now c.loop-meeting.meeting-index _ c.loop-meeting-test.true c.as_mut_slice.result.now
    (subst (λ (l : List Bool). AreMarksSoFar (map placed c.args.strips.now) c.deref-meeting-items.result.now c.loop-meeting.meeting-index l) (sym c.as_mut_slice.ensures.value) c.loop-meeting.invariant)
    c.mark.new.touched c.mark.ensures)

pub returns : goal.returns
returns c =
    all_marked (map placed c.args.strips.now) c.deref-meeting-items.result.now c.loop-meeting.meeting-index c.loop-meeting.touched.items
    (subst (λ (l : List Meeting). AreMeetingsOf (map placed c.args.strips.now) l) (sym c.deref-meeting-items.ensures.value) c.in_ok-found.ensures)
    c.loop-meeting-test.false c.loop-meeting.invariant
