use Rattle.rt_cuts.proofs.Offered.{scaling_keeps_squares, scaling_keeps_hosts, scaling_keeps_distances, scaling_keeps_cuts}
use Rattle.rt_cuts.proofs.laws.scaling_keeps_cuts.Goals as goal

pub returns-clause-squares : goal.returns-clause-squares
returns-clause-squares c = scaling_keeps_squares

pub returns-clause-hosts : goal.returns-clause-hosts
returns-clause-hosts c = scaling_keeps_hosts

pub returns-clause-distances : goal.returns-clause-distances
returns-clause-distances c = scaling_keeps_distances

pub returns-clause-cuts : goal.returns-clause-cuts
returns-clause-cuts c = scaling_keeps_cuts
