use Rattle.rt_retarget.proofs.Assembled.{flat_fault}
use Rattle.rt_retarget.proofs.source.flat_cell.Goals as goal

pub returns-in-Err-clause-refused : goal.returns-in-Err-clause-refused
returns-in-Err-clause-refused c = flat_fault c.args.inputs.now c.args.library.now c.in-Err.error c.flat_refusal.result c.in-Err.ensures.err c.flat_refusal.ensures
