use Rattle.std.proofs.Common.{subst₂}
use Rattle.rt_frac.specs.Fracs.{HasNoFrac}
use Rattle.rt_frac.proofs.Stored.{always}
use Rattle.rt_tableau.proofs.Combined.{wide_read, small_fits}
use Rattle.rt_tableau.proofs.entries.ratio.Goals as goal

pub unreachable-requires : goal.unreachable-requires
unreachable-requires c =
    always c.args.num.now c.args.den.now (small_fits c.args.num.now c.requires.num) (small_fits c.args.den.now c.requires.den) c.requires.positive
    (subst₂ HasNoFrac (wide_read c.args.num.now c.from.result c.requires.num c.from.ensures) (wide_read c.args.den.now c.from-2.result c.requires.den c.from-2.ensures) c.in-None.ensures)
