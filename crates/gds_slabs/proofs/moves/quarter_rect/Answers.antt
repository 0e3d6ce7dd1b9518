use Rattle.std.proofs.Common.{arith}
use Rattle.std.proofs.lemmas.Int.{ints}
use Rattle.rt_cells.proofs.Rectangles.{same_sides}
use Rattle.gds_slabs.proofs.moves.quarter_rect.Goals as goal

pub returns : goal.returns
returns c = same_sides _ _ (omega (arith, ints)) (omega (arith, ints)) (omega (arith, ints)) (omega (arith, ints))
