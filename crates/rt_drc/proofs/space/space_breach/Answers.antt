use Rattle.std.proofs.Common.{◌≡◌, arith, to_z, of_z, w64}
use Rattle.std.proofs.lemmas.Int.{ints}
use Rattle.rt_drc.proofs.Breaching.{rows_families, strips_decide}
use Rattle.rt_drc.proofs.space.space_breach.Goals as goal

pub breach_of-requires-clause-family : goal.breach_of-requires-clause-family
breach_of-requires-clause-family c = rows_families c.args.masks c.args.m c.args.rows.now c.args.columns.now c.requires.mask c.requires.rows c.requires.columns

pub returns : goal.returns
returns c =
    let same : to_z w64 (of_z w64 c.args.space) ≡ c.args.space = omega (arith, ints) in
    strips_decide c.args.m c.args.rows.now c.args.space (to_z w64 (of_z w64 c.args.space)) same c.breach_of.result c.breach_of.ensures
