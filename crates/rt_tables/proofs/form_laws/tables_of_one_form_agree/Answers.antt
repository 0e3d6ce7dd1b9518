use Rattle.rt_tables.proofs.Alike.{same_form_sym, same_mask_count, same_roles}
use Rattle.rt_tables.proofs.form_laws.tables_of_one_form_agree.Goals as goal

pub returns : goal.returns
returns c = record { back = same_form_sym; masks = same_mask_count; roles = same_roles }
