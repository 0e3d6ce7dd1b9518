use Rattle.std.proofs.Common.{length, map, List, ap, subst, arith}
use Rattle.std.specs.Bool.{MatchBool}
use Rattle.rt_strips.specs.declared.listing.Strip.{Strip}
use Rattle.rt_strips.specs.Placed.{placed}
use Rattle.rt_strips.specs.Standing.{StandsOn}
use Rattle.rt_strips.proofs.Standing.{stands_by_number}
use Rattle.rt_strips.proofs.contact.touching.Goals as goal

pub returns : goal.returns
returns c =
    let same = c.as_slice-list.ensures in
    subst (λ (l : List Strip). MatchBool c.stands_on.result (StandsOn (map placed l) c.args.below c.args.above) (¬ StandsOn (map placed l) c.args.below c.args.above)) same
    (stands_by_number c.as_slice-list.result.now c.args.below c.args.above c.index-list-below.result c.index-list-above.result
    (omega (arith, ap length same, c.requires.lower)) (omega (arith, ap length same, c.requires.upper))
    c.index-list-below.is c.index-list-above.is c.stands_on.result c.stands_on.ensures)
