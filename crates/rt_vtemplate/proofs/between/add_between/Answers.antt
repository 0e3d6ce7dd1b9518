use Rattle.std.proofs.Common.{List, length, subst}
use Rattle.std.proofs.lemmas.Result.{on_ok_weaker}
use Rattle.rt_rows.specs.declared.name.Name.{Name}
use Rattle.rt_rows.specs.Places.{places}
use Rattle.rt_vtemplate.specs.Between.{AreThoseAdded, AreBetweenAdded}
use Rattle.rt_vtemplate.proofs.Distances.{between_added}
use Rattle.rt_vtemplate.proofs.between.add_between.Goals as goal

pub returns : goal.returns
returns c =
    let job = c.args.job.now in
    let columns = places c.args.columns.now in
    let list = c.as_slice.result.now in
    on_ok_weaker {P = AreThoseAdded job columns list (length list) c.args.names.now c.add_those_there.new.names} {Q = AreBetweenAdded job columns c.args.names.now c.add_those_there.new.names}
    c.add_those_there.result
    (λ added. between_added job columns c.in_ok-offered.offered c.args.names.now c.add_those_there.new.names c.in_ok-offered.ensures
    (subst (λ (l : List Name). AreThoseAdded job columns l (length l) c.args.names.now c.add_those_there.new.names) c.as_slice.ensures added)) c.add_those_there.ensures
