use Rattle.toml.specs.View.{view}
use Rattle.toml.proofs.Views.{table_get}
use Rattle.rt_keys.proofs.Lookups.{seen_by_cases}
use Rattle.rt_keys.proofs.keys.member.Goals as goal

pub returns : goal.returns
returns c = seen_by_cases (λ v. view v.now) c.get.result _ (table_get c.get.result c.args.key.now c.args.table.now.entries c.get.ensures.value)
