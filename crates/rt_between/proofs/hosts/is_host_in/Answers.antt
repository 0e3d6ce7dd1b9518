use Rattle.rt_between.proofs.Overlaps.{host_told}
use Rattle.rt_between.proofs.hosts.is_host_in.Goals as goal

pub returns : goal.returns
returns c =
    host_told c.args.job.now c.args.enclose.now c.args.i c.args.h c.overlap_strips.result c.if-not-is_enclosed.ensures c.if-not-is_strip_of.ensures c.overlap_strips.ensures
