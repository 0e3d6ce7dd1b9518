use Rattle.std.proofs.Common.{◌+◌, ◌∙◌, refl, arith}
use Rattle.rt_path.proofs.Ends.{places_at_first, begins_at}
use Rattle.rt_path.proofs.along_axis.solve.Goals as goal

pub run-requires-clause-places : goal.run-requires-clause-places
run-requires-clause-places c = places_at_first (2 + c.args.count + c.args.count) c.as_mut_slice.result.now (c.as_mut_slice.ensures.value ∙ c.in_ok-now.ensures)

pub run-requires-clause-begins : goal.run-requires-clause-begins
run-requires-clause-begins c =
    begins_at (2 + c.args.count + c.args.count) (2 + c.args.count + c.args.count) c.args.steps.now c.in_ok-log.log.items c.as_mut_slice.result.now (omega arith)
    refl c.in_ok-log.ensures (c.as_mut_slice.ensures.value ∙ c.in_ok-now.ensures)
