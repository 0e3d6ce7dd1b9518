use Rattle.std.proofs.Common.{length, map, subst, sym}
use Rattle.std.proofs.lemmas.List.{length-map}
use Rattle.std.proofs.lemmas.Option.{MatchOption-at_some, MatchOption-at_none}
use Rattle.rt_strips.specs.Placed.{placed}
use Rattle.rt_drc.specs.declared.near.Pair.{Pair}
use Rattle.rt_pieces.specs.Members.{IsOf}
use Rattle.rt_drc.specs.Nearness.{NearAreGrouped, AreNearStrangers}
use Rattle.rt_pieces.specs.Numbering.{AreOwnNumbers}
use Rattle.rt_drc.proofs.Gapped.{near_neighbours, gaps_keep}
use Rattle.rt_drc.proofs.gaps.narrow_gap.Goals as goal

pub gap_of-requires-clause-pair : goal.gap_of-requires-clause-pair
gap_of-requires-clause-pair c =
    let strips = map placed c.args.strips.now in
    let own = c.as_slice.result.now in
    near_neighbours c.args.m c.args.reach.now strips own c.requires.family c.requires.upwards c.in-Some.pair.first c.in-Some.pair.second
    (MatchOption-at_some (NearAreGrouped (IsOf c.args.m strips) c.args.reach.now strips own)
    (λ (pair : Pair). AreNearStrangers (IsOf c.args.m strips) c.args.reach.now strips own pair.first pair.second) c.in-Some.pair c.in-Some.is c.in_ok-pair.ensures)

pub returns : goal.returns
returns c =
    let strips = map placed c.args.strips.now in
    let own = c.as_slice.result.now in
    gaps_keep c.args.m c.args.reach.now strips own c.requires.family c.requires.across c.requires.upwards
    (subst (λ n. AreOwnNumbers n own) (sym (length-map c.args.strips.now placed))
    (subst (AreOwnNumbers (length c.args.strips.now)) (sym c.as_slice.ensures.value) c.in_ok-own.ensures))
    (MatchOption-at_none (NearAreGrouped (IsOf c.args.m strips) c.args.reach.now strips own)
    (λ (pair : Pair). AreNearStrangers (IsOf c.args.m strips) c.args.reach.now strips own pair.first pair.second) c.in-None.is c.in_ok-pair.ensures)
