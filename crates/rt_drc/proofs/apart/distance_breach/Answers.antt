use Rattle.std.proofs.Common.{◌≡◌, IfOk, MatchOption, arith, of_z, subst, to_z, w64}
use Rattle.std.proofs.lemmas.Int.{ints}
use Rattle.rt_rules.specs.Cuts.{KeepsApart}
use Rattle.rt_pieces.specs.Members.{held_by}
use Rattle.rt_drc.specs.Counting.{counted_cells}
use Rattle.rt_drc.specs.Distances.{ShowsApart}
use Rattle.rt_drc.proofs.apart.distance_breach.Goals as goal

pub returns : goal.returns
returns c =
    let same : to_z w64 (of_z w64 c.args.number.now) ≡ c.args.number.now = omega (arith, ints) in
    let cells = counted_cells c.args.counted.now c.args.strips.now in
    let others = held_by c.args.other c.args.strips.now in
    subst (λ s. IfOk c.breach_within.result (λ found. MatchOption found (KeepsApart s cells others) (ShowsApart s cells others))) same c.breach_within.ensures
