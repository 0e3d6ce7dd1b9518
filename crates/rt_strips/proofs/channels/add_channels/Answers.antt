use Rattle.std.proofs.Common.{length, map, List, sym, ap, subst}
use Rattle.std.proofs.lemmas.Result.{on_ok_weaker}
use Rattle.rt_base.specs.declared.plane.Rect.{Rect}
use Rattle.rt_base.specs.Plane.{area}
use Rattle.rt_tech.specs.declared.table.Role.TheVariants.{Gate, Active}
use Rattle.rt_tech.specs.Tech.{mask_count}
use Rattle.rt_strips.specs.OneMask.{AreAllStrips, BothCover}
use Rattle.rt_strips.specs.Channels.{IsInChannel}
use Rattle.rt_strips.specs.Tallies.{AddsStrips}
use Rattle.rt_strips.specs.Roles.{AreOfRole}
use Rattle.rt_strips.proofs.Roles.{own_cells, channels_added}
use Rattle.rt_strips.proofs.channels.add_channels.Goals as goal
use Rattle.rt_strips.proofs.channels.add_channels.Goals.{After-as_slice-4}

both_strips : (c : After-as_slice-4) → AreAllStrips (BothCover (map area c.as_slice.result.now) (map area c.as_slice-2.result.now)) (map area c.as_slice-4.result.now)
both_strips c =
    subst (λ (l : List Rect). AreAllStrips (BothCover (map area c.as_slice.result.now) (map area c.as_slice-2.result.now)) (map area l)) (sym c.as_slice-4.ensures.value) c.in_ok-both.ensures

pub add_pieces-requires : goal.add_pieces-requires
add_pieces-requires c =
    own_cells c.args.layout.now c.args.tech.now c.as_slice.result.now c.as_slice-2.result.now (map area c.as_slice-4.result.now) (both_strips (goal.at.add_pieces-requires c).After-as_slice-4)

pub returns : goal.returns
returns c =
    let layout = c.args.layout.now in
    let tech = c.args.tech.now in
    subst (λ n. Rattle.std.specs.Result.OnOk c.add_pieces.result (AddsStrips (IsInChannel layout tech) n c.args.most c.args.tally.now c.add_pieces.new.tally)) (ap length c.as_slice-3.ensures)
    (on_ok_weaker c.add_pieces.result
    (channels_added layout tech c.as_slice.result.now c.as_slice-2.result.now (map area c.as_slice-4.result.now)
    (subst (λ (l : List Rect). AreOfRole layout tech (mask_count tech) Gate l) (sym c.as_slice.ensures.value) c.in_ok-gates.ensures)
    (subst (λ (l : List Rect). AreOfRole layout tech (mask_count tech) Active l) (sym c.as_slice-2.ensures.value) c.in_ok-actives.ensures)
    (both_strips (goal.at.returns c).After-as_slice-4) (length c.as_slice-3.result.now) c.args.most c.args.tally.now c.add_pieces.new.tally)
    c.add_pieces.ensures)
