use Rattle.std.proofs.Common.{suc}
use Rattle.rt_tech.specs.Tech.{mask_count}
use Rattle.rt_strips.specs.Channels.{IsStripCell}
use Rattle.rt_strips.proofs.OneList.{strips_are_one_list}
use Rattle.rt_strips.proofs.laws.one_list_of_strips.Goals as goal

pub returns : goal.returns
returns c = λ layout tech a b of_a of_b. strips_are_one_list (IsStripCell layout tech) (suc (mask_count tech)) a b of_a of_b
