use Rattle.std.proofs.Common.{length, map}
use Rattle.std.proofs.lemmas.Option.{MatchOption-at_some, MatchOption-at_none}
use Rattle.rt_strips.specs.Placed.{placed}
use Rattle.rt_strips.proofs.Placed.{strip_below}
use Rattle.rt_pieces.specs.Members.{IsOf}
use Rattle.rt_drc.specs.Clashing.{AreGrouped, DoClash}
use Rattle.rt_drc.proofs.Nearby.{bars_have_groups, clash_near, grouped_near}
use Rattle.rt_drc.proofs.near.first_near.Goals as goal

pub first_clash-requires : goal.first_clash-requires
first_clash-requires c =
    bars_have_groups (IsOf c.args.m (map placed c.args.strips.now)) c.args.reach.now (map placed c.args.strips.now) (length c.args.strips.now) c.in_ok-bars.bars.items
    c.args.groups.now c.in_ok-bars.ensures c.requires.groups

pub returns-in-Some : goal.returns-in-Some
returns-in-Some c =
    let bars = c.in_ok-bars.bars.items in
    clash_near (IsOf c.args.m (map placed c.args.strips.now)) c.args.reach.now (map placed c.args.strips.now) (length c.args.strips.now) bars c.args.groups.now c.in-Some.clash
    c.in_ok-bars.ensures
    (MatchOption-at_some (AreGrouped c.args.groups.now bars) (DoClash c.args.groups.now bars) c.in-Some.clash c.in-Some.is c.in_ok-clash.ensures)

pub returns-in-None : goal.returns-in-None
returns-in-None c =
    let bars = c.in_ok-bars.bars.items in
    let strips = c.args.strips.now in
    grouped_near (IsOf c.args.m (map placed strips)) c.args.reach.now (map placed strips) (length strips) bars c.args.groups.now c.in_ok-bars.ensures
    (λ i h. strip_below strips i h.strip)
    (MatchOption-at_none (AreGrouped c.args.groups.now bars) (DoClash c.args.groups.now bars) c.in-None.is c.in_ok-clash.ensures)
