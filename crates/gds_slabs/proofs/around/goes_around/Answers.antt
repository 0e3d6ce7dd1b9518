use Rattle.std.proofs.Common.{sym, ◌∙◌, true, arith}
use Rattle.gds_slabs.proofs.OneSlab.{around_decided}
use Rattle.gds_slabs.proofs.around.goes_around.Goals as goal

pub returns-then-is_slanted_side : goal.returns-then-is_slanted_side
returns-then-is_slanted_side c =
    around_decided c.args.points.now _ _ _ _ true c.is_slanted_side-then-is_slanted_side.result (omega arith)
    (sym c.if-is_slanted_side.true ∙ c.is_slanted_side.ensures) c.is_slanted_side-then-is_slanted_side.ensures
