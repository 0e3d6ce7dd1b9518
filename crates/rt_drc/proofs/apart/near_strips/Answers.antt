use Rattle.std.proofs.Common.{ap, length, map, ◌∙◌}
use Rattle.std.proofs.lemmas.List.{length-map}
use Rattle.std.proofs.lemmas.Option.{MatchOption-at_some, MatchOption-at_none}
use Rattle.rt_strips.specs.declared.listing.Strip.{Strip}
use Rattle.rt_strips.specs.Placed.{placed}
use Rattle.rt_drc.specs.Clashing.{AreGrouped, DoClash}
use Rattle.rt_drc.specs.Distances.{TakesPart}
use Rattle.rt_drc.proofs.Nearby.{bars_have_groups, clash_near, grouped_near}
use Rattle.rt_drc.proofs.Distant.{masks_are, part_below, strangers_pair, grouped_far}
use Rattle.rt_drc.proofs.apart.near_strips.Goals as goal

pub first_clash-requires : goal.first_clash-requires
first_clash-requires c =
    let strips = c.args.strips.now in
    bars_have_groups (TakesPart c.args.counted.now c.args.other (map placed strips)) c.args.reach.now (map placed strips) (length strips) c.in_ok-bars.bars.items
    c.as_slice.result.now c.in_ok-bars.ensures
    (ap length (c.as_slice.ensures.value ∙ c.in_ok-masks.ensures) ∙ length-map strips (λ (strip : Strip). strip.mask))

pub returns-in-Some : goal.returns-in-Some
returns-in-Some c =
    let strips = c.args.strips.now in
    let masks = c.as_slice.result.now in
    let bars = c.in_ok-bars.bars.items in
    strangers_pair c.args.counted.now c.args.other c.args.reach.now (map placed strips) c.requires.different masks
    (masks_are strips masks (c.as_slice.ensures.value ∙ c.in_ok-masks.ensures)) c.in-Some.clash.first.tag c.in-Some.clash.second.tag
    (clash_near (TakesPart c.args.counted.now c.args.other (map placed strips)) c.args.reach.now (map placed strips) (length strips) bars masks c.in-Some.clash
    c.in_ok-bars.ensures
    (MatchOption-at_some (AreGrouped masks bars) (DoClash masks bars) c.in-Some.clash c.in-Some.is c.in_ok-clash.ensures))

pub returns : goal.returns
returns c =
    let strips = c.args.strips.now in
    let masks = c.as_slice.result.now in
    let bars = c.in_ok-bars.bars.items in
    grouped_far c.args.counted.now c.args.other c.args.reach.now (map placed strips) c.requires.different masks
    (masks_are strips masks (c.as_slice.ensures.value ∙ c.in_ok-masks.ensures))
    (grouped_near (TakesPart c.args.counted.now c.args.other (map placed strips)) c.args.reach.now (map placed strips) (length strips) bars masks
    c.in_ok-bars.ensures (part_below c.args.counted.now c.args.other strips)
    (MatchOption-at_none (AreGrouped masks bars) (DoClash masks bars) c.in-None.is c.in_ok-clash.ensures))
