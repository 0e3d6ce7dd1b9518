use Rattle.std.proofs.Common.{sym, subst₂}
use Rattle.std.specs.Bool.{MatchBool}
use Rattle.rt_strips.specs.Placed.{Placed}
use Rattle.rt_strips.proofs.Placed.{strip_there}
use Rattle.rt_htemplate.specs.Asked.{LiesOff}
use Rattle.rt_htemplate.proofs.Reading.{read_is}
use Rattle.rt_htemplate.proofs.masks.strips_lie_off.Goals as goal

pub returns : goal.returns
returns c =
    let job = c.args.job.now in
    let list = c.as_slice-list.result.now in
    subst₂ (λ (a b : Placed). MatchBool c.lies_off.result (LiesOff a b c.args.number.now) (¬ LiesOff a b c.args.number.now))
    (sym (read_is job list c.args.i c.index-list-i.result c.as_slice-list.ensures (strip_there job.view.strips.list c.args.i c.requires.first) c.index-list-i.is))
    (sym (read_is job list c.args.j c.index-list-j.result c.as_slice-list.ensures (strip_there job.view.strips.list c.args.j c.requires.second) c.index-list-j.is))
    c.lies_off.ensures
