use Rattle.std.proofs.Common.{◌≡◌, map, take, arith}
use Rattle.std.proofs.lemmas.List.{take_all}
use Rattle.rt_strips.proofs.Meetings.{still_found}
use Rattle.rt_strips.specs.Placed.{placed}
use Rattle.rt_strips.proofs.SeamList.{are_seams, numbers_fit}
use Rattle.rt_strips.proofs.contact.seams.Goals as goal

pub overflow_cast-meeting : goal.overflow_cast-meeting
overflow_cast-meeting c =
    record { fits = (numbers_fit c.args.strips.now c.deref-meeting-items.result.now c.loop-meeting.meeting-index _ (still_found _ _ _ c.deref-meeting-items.ensures.value c.in_ok-found.ensures) c.loop-meeting-test.true c.requires.few).0 }

pub overflow_cast-meeting-in-loop-meeting : goal.overflow_cast-meeting-in-loop-meeting
overflow_cast-meeting-in-loop-meeting c =
    record { fits = (numbers_fit c.args.strips.now c.deref-meeting-items.result.now c.loop-meeting.meeting-index _ (still_found _ _ _ c.deref-meeting-items.ensures.value c.in_ok-found.ensures) c.loop-meeting-test.true c.requires.few).1 }

pub returns : goal.returns
returns c =
    let items = c.deref-meeting-items.result.now in
    let all : take c.loop-meeting.meeting-index items ≡ items = take_all c.loop-meeting.meeting-index items (omega arith) in
    rw c.loop-meeting.invariant (rw all (are_seams (map placed c.args.strips.now) items (still_found _ _ _ c.deref-meeting-items.ensures.value c.in_ok-found.ensures)))
