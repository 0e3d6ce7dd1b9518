use Rattle.gds_flat.proofs.Coming.{come_all}
use Rattle.gds_flat.proofs.walk.walked.Goals as goal

pub returns-clause-ok : goal.returns-clause-ok
returns-clause-ok c = come_all c.args.names.now.structures.now c.args.names.now.top.now _ c.in_ok-run.ensures.ok
