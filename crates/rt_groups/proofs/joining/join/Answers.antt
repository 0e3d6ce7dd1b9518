use Rattle.rt_groups.proofs.Kin.{as_before_both, joined_turned, joined_of}
use Rattle.rt_groups.proofs.joining.join.Goals as goal

pub returns-then-first-second : goal.returns-then-first-second
returns-then-first-second c =
    let first = c.root-first.result in
    let second = c.root-second.result in
    let mid = c.root-second.new.parents in
    let alike = as_before_both c.args.parents.now c.root-first.new.parents mid c.root-first.ensures.as_before c.root-second.ensures.as_before in
    joined_of c.args.parents.now mid c.link.new.parents first second c.args.a c.args.b alike (joined_turned mid c.link.new.parents second first c.link.ensures)
    ((c.root-second.ensures.as_before.same c.args.a first).0 c.root-first.ensures.root.kin) c.root-second.ensures.root.kin

pub returns-else-first-second : goal.returns-else-first-second
returns-else-first-second c =
    let first = c.root-first.result in
    let second = c.root-second.result in
    let mid = c.root-second.new.parents in
    let alike = as_before_both c.args.parents.now c.root-first.new.parents mid c.root-first.ensures.as_before c.root-second.ensures.as_before in
    joined_of c.args.parents.now mid c.link-else-first-second.new.parents first second c.args.a c.args.b alike c.link-else-first-second.ensures
    ((c.root-second.ensures.as_before.same c.args.a first).0 c.root-first.ensures.root.kin) c.root-second.ensures.root.kin
