use Rattle.rt_view.specs.Job.{strips_of}
use Rattle.rt_strips.specs.Placed.{placed}
use Rattle.rt_htemplate.proofs.Reading.{read_is, touch_first, touch_second}
use Rattle.rt_htemplate.proofs.Answered.{no_ll, ll_is}
use Rattle.rt_htemplate.proofs.across.ll.Goals as goal

pub returns-then-not-touch : goal.returns-then-not-touch
returns-then-not-touch c = λ row. no_ll c.args.job.now c.args.i c.args.j row c.if-not-touch.ensures

pub returns : goal.returns
returns c =
    let job = c.args.job.now in
    let list = c.as_slice-list.result.now in
    let touch = c.if-not-touch.ensures in
    let first = c.index-list-i.result in
    let second = c.index-list-j.result in
    ll_is job c.args.i c.args.j (placed first) (placed second) c.left_kept.result touch
    (read_is job list c.args.i first c.as_slice-list.ensures (touch_first (strips_of job) c.args.i c.args.j touch) c.index-list-i.is)
    (read_is job list c.args.j second c.as_slice-list.ensures (touch_second (strips_of job) c.args.i c.args.j touch) c.index-list-j.is)
    c.left_kept.ensures
