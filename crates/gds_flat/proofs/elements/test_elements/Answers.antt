use Rattle.std.proofs.lemmas.Result.{err_from_is_err_and}
use Rattle.gds_flat.proofs.Testing.{first_fault, fine_more, fine_all}
use Rattle.gds_flat.proofs.elements.test_elements.Goals as goal

pub returns-in_err-test-clause-err : goal.returns-in_err-test-clause-err
returns-in_err-test-clause-err c =
    let p = err_from_is_err_and c.from_residual.result c.from_residual.ensures.1 in
    rw (p.1, p.2)
    (first_fault c.args.tech.now c.args.elements.now c.loop-element.element-index c.element-item.result _ c.loop-element-test.true c.element-item.is
    c.loop-element.invariant c.in_err-test.ensures.err)

pub loop-element-preserved : goal.loop-element-preserved
loop-element-preserved c =
    fine_more c.args.tech.now c.args.elements.now c.loop-element.element-index c.element-item.result c.loop-element-test.true c.element-item.is
    c.loop-element.invariant c.in_ok-test.ensures.ok

pub returns-clause-ok : goal.returns-clause-ok
returns-clause-ok c = fine_all c.args.tech.now c.args.elements.now c.loop-element.element-index c.loop-element-test.false c.loop-element.invariant
