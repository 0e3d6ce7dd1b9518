use Rattle.std.proofs.Common.{List, subst}
use Rattle.std.proofs.lemmas.Result.{IfOk-weaker}
use Rattle.rt_rows.specs.declared.name.Name.{Name}
use Rattle.rt_htemplate.specs.Candidates.{AreThoseThere}
use Rattle.rt_htemplate.proofs.Kept.{lists_names}
use Rattle.rt_htemplate.proofs.names.rows_h.Goals as goal

pub returns : goal.returns
returns c =
    let there = subst (λ (offered : List Name). AreThoseThere c.args.job.now offered c.in_ok-names.names) c.as_slice.ensures c.in_ok-names.ensures in
    IfOk-weaker c.put_in_order.result _ _
    (λ sorted put. lists_names c.args.job.now c.in_ok-offered.offered c.in_ok-names.names sorted c.in_ok-offered.ensures there put) c.put_in_order.ensures
