use Rattle.std.proofs.Common.{map}
use Rattle.std.proofs.lemmas.Option.{MatchOption-at_none}
use Rattle.rt_strips.specs.Placed.{placed}
use Rattle.rt_drc.specs.declared.near.Pair.{Pair}
use Rattle.rt_drc.specs.Distances.{AreNearPair, AreFarAcross}
use Rattle.rt_drc.proofs.Distant.{far_keep, apart_shown}
use Rattle.rt_drc.proofs.apart.breach_within.Goals as goal

pub returns-in-Some : goal.returns-in-Some
returns-in-Some c =
    apart_shown c.args.counted.now c.args.other c.args.reach.now (map placed c.args.strips.now) c.requires.first c.requires.second c.requires.across c.requires.upwards
    c.counted_first.result.first c.counted_first.result.second c.counted_first.ensures c.cells_of_pair.result c.cells_of_pair.ensures

pub returns-in-None : goal.returns-in-None
returns-in-None c =
    let strips = map placed c.args.strips.now in
    far_keep c.args.counted.now c.args.other c.args.reach.now strips c.requires.first c.requires.second c.requires.across c.requires.upwards
    (MatchOption-at_none (AreFarAcross c.args.counted.now c.args.other c.args.reach.now strips)
    (λ (pair : Pair). AreNearPair c.args.counted.now c.args.other c.args.reach.now strips pair.first pair.second) c.in-None.is c.in_ok-pair.ensures)
