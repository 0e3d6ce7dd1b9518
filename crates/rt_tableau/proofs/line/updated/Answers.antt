use Rattle.rt_tableau.proofs.Updated.{updated_from, passes_from}
use Rattle.rt_tableau.proofs.line.updated.Goals as goal

pub returns-in-Some : goal.returns-in-Some
returns-in-Some c =
    updated_from c.args.line.now c.args.pivot.now c.args.q c.in_ok-values.values.items c.as_slice.result.now c.as_slice-2.result.now c.in-Some.line c.in_ok-line.field-0 c.divisor_of-common.result
    c.in_ok-values.ensures c.as_slice.ensures.value c.as_slice-2.ensures.value c.divisor_of-common.ensures.common c.in-Some.is c.in_ok-line.ensures

pub returns : goal.returns
returns c =
    passes_from c.args.line.now c.args.pivot.now c.args.q c.in_ok-values.values.items c.as_slice.result.now c.as_slice-in-None.result.now c.divisor_of-common.result c.first_past.result
    c.in_ok-values.ensures c.as_slice.ensures.value c.as_slice-in-None.ensures.value c.divisor_of-common.ensures.common c.first_past.ensures
