use Rattle.std.proofs.Common.{sym, subst₂}
use Rattle.std.specs.Bool.{MatchBool}
use Rattle.rt_strips.specs.Placed.{Placed}
use Rattle.rt_between.specs.Reaches.{Overlap}
use Rattle.rt_between.proofs.Overlaps.{read_is}
use Rattle.rt_between.proofs.hosts.overlap_strips.Goals as goal

pub returns : goal.returns
returns c =
    let job = c.args.job.now in
    let list = c.as_slice-list.result.now in
    subst₂ (λ (a b : Placed). MatchBool c.overlap.result (Overlap a.area b.area c.args.number.now) (¬ Overlap a.area b.area c.args.number.now))
    (sym (read_is job list c.args.i c.index-list-i.result c.as_slice-list.ensures c.requires.first c.index-list-i.is))
    (sym (read_is job list c.args.h c.index-list-h.result c.as_slice-list.ensures c.requires.second c.index-list-h.is))
    c.overlap.ensures
