use Rattle.std.proofs.Common.{pos, ◌≤ℤ◌, sym, subst, arith}
use Rattle.rt_simplex.proofs.Chosen.{small_stored}
use Rattle.rt_branch.specs.Values.{IsWholeValue, IsFirstBroken}
use Rattle.rt_branch.proofs.Pointed.{whole_further, first_broken, whole_small, broken_small}
use Rattle.rt_branch.proofs.point.point_of.Goals as goal

pub returns-in-Broken : goal.returns-in-Broken
returns-in-Broken c =
    let state = c.args.table.now in
    let is = c.in-Broken.ensures in
    let e = c.variables-j-end.ensures in
    let h = c.loop-j-test.true in
    subst (λ n. (pos 0 ≤ℤ n) × IsFirstBroken state c.loop-j.j n) (sym (small_stored c.in-Broken.n (broken_small state c.loop-j.j c.in-Broken.n c.look.ensures.small is.1)))
    (first_broken state c.loop-j.at c.loop-j.j c.in-Broken.n c.loop-j.invariant (omega (arith, e, h)) is)

pub loop-j-preserved : goal.loop-j-preserved
loop-j-preserved c =
    let state = c.args.table.now in
    whole_further state c.loop-j.j c.loop-j.at c.push.new.self _ c.loop-j.invariant c.in_ok-push-in-Whole.ensures.ok
    (subst (IsWholeValue state c.loop-j.j) (sym (small_stored c.in-Whole.n (whole_small state c.loop-j.j c.in-Whole.n c.look.ensures.small c.in-Whole.ensures))) c.in-Whole.ensures)
