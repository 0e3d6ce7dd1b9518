use Rattle.std.proofs.Common.{length, ap, arith}
use Rattle.std.proofs.lemmas.List.{length-map}
use Rattle.rt_rows.specs.Places.{places}
use Rattle.rt_strips.specs.Placed.{placed}
use Rattle.rt_vtemplate.proofs.Distances.{hold_between}
use Rattle.rt_vtemplate.proofs.between.offered.Goals as goal

pub returns : goal.returns
returns c =
    let job = c.args.job.now in
    let same = ap length c.as_slice.ensures in
    hold_between job (places c.args.columns.now) (length c.as_slice.result.now) _ _ _ _ (omega (arith, same, length-map job.view.strips.list placed))
    c.in_ok-add_of_cuts.ensures c.in_ok-add_of_distances.ensures c.in_ok-add_of_enclosures.ensures
