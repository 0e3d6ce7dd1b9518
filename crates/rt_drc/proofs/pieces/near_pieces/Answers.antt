use Rattle.std.proofs.Common.{map, subst, sym}
use Rattle.std.proofs.lemmas.Option.{MatchOption-at_some, MatchOption-at_none}
use Rattle.rt_strips.specs.Placed.{placed}
use Rattle.rt_drc.specs.declared.near.Pair.{Pair}
use Rattle.rt_pieces.specs.Members.{IsOf}
use Rattle.rt_drc.specs.Nearness.{NearAreGrouped, AreNearStrangers}
use Rattle.rt_pieces.specs.Numbering.{AreNumbersOfPieces}
use Rattle.rt_drc.proofs.Nearby.{near_shown, pieces_keep}
use Rattle.rt_drc.proofs.pieces.near_pieces.Goals as goal

pub returns-in-Some : goal.returns-in-Some
returns-in-Some c =
    let strips = map placed c.args.rows.now.strips.now in
    let numbers = c.as_slice.result.now in
    near_shown c.args.m c.args.reach.now strips numbers c.requires.family c.requires.across c.requires.upwards
    (subst (AreNumbersOfPieces c.args.m strips) (sym c.as_slice.ensures.value) c.in_ok-numbers.ensures) c.in-Some.pair.first c.in-Some.pair.second
    (MatchOption-at_some (NearAreGrouped (IsOf c.args.m strips) c.args.reach.now strips numbers)
    (λ (pair : Pair). AreNearStrangers (IsOf c.args.m strips) c.args.reach.now strips numbers pair.first pair.second) c.in-Some.pair c.in-Some.is c.in_ok-pair.ensures)
    c.cells_of_pair.result c.cells_of_pair.ensures

pub returns : goal.returns
returns c =
    let strips = map placed c.args.rows.now.strips.now in
    let numbers = c.as_slice.result.now in
    pieces_keep c.args.m c.args.reach.now strips numbers c.requires.family c.requires.across c.requires.upwards
    (subst (AreNumbersOfPieces c.args.m strips) (sym c.as_slice.ensures.value) c.in_ok-numbers.ensures)
    (MatchOption-at_none (NearAreGrouped (IsOf c.args.m strips) c.args.reach.now strips numbers)
    (λ (pair : Pair). AreNearStrangers (IsOf c.args.m strips) c.args.reach.now strips numbers pair.first pair.second) c.in-None.is c.in_ok-pair.ensures)
