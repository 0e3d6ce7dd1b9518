use Rattle.rt_tables.proofs.Forming.{same_form_from_none, refuses_tables}
use Rattle.rt_tables.proofs.forms.same_form.Goals as goal

pub returns-in-Ok-clause-ok : goal.returns-in-Ok-clause-ok
returns-in-Ok-clause-ok c = same_form_from_none _ _ c.in-Ok.ensures.0

pub returns-in-Err-clause-err : goal.returns-in-Err-clause-err
returns-in-Err-clause-err c = refuses_tables (λ _. Unit {0}) c.args.source.now c.args.target.now c.in-Err.stop _ c.in-Err.ensures c.parted.ensures
