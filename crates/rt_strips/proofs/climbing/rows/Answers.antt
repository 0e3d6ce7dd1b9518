use Rattle.std.proofs.Common.{◌≡◌, ℕ, ◌++◌, map, take, drop, length, List, subst, sym, arith}
use Rattle.std.proofs.lemmas.Grind.{common_steps}
use Rattle.std.proofs.lemmas.List.{length-map}
use Rattle.rt_strips.proofs.Meetings.{still_found}
use Rattle.rt_strips.specs.Placed.{placed}
use Rattle.rt_strips.proofs.Chains.{AreClimbsSoFar, climbs_more, all_climbs, meeting_order}
use Rattle.rt_strips.proofs.climbing.rows.Goals as goal

pub climb-requires-clause-order : goal.climb-requires-clause-order
climb-requires-clause-order c = meeting_order c.args.strips.now c.requires.strips _

pub loop-meeting-preserved : goal.loop-meeting-preserved
loop-meeting-preserved c =
    let same : take c.loop-meeting.words.len (c.climb.new.words ++ drop (length c.climb.new.words) c.loop-meeting.words.items) ≡ c.climb.new.words = grind (arith, common_steps) in
    let strips = map placed c.args.strips.now in
    rw same
    (climbs_more strips c.requires.strips c.deref-meeting-items.result.now (still_found _ _ _ c.deref-meeting-items.ensures.value c.in_ok-found.ensures) c.args.width c.loop-meeting.meeting-index
    (omega (arith, c.requires.wide, length-map c.args.strips.now placed)) _ c.loop-meeting-test.true c.as_mut_slice.result.now
    (subst (λ (l : List ℕ). AreClimbsSoFar strips c.deref-meeting-items.result.now c.args.width c.loop-meeting.meeting-index l) (sym c.as_mut_slice.ensures.value) c.loop-meeting.invariant)
    c.climb.new.words c.climb.ensures)

pub returns : goal.returns
returns c =
    all_climbs (map placed c.args.strips.now) c.deref-meeting-items.result.now c.args.width c.loop-meeting.meeting-index c.loop-meeting.words.items
    (still_found _ _ _ c.deref-meeting-items.ensures.value c.in_ok-found.ensures) c.loop-meeting-test.false c.loop-meeting.invariant
