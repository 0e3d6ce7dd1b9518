use Rattle.std.proofs.Common.{arith}
use Rattle.rt_retarget.proofs.source.layout_strips.Goals as goal

pub strips_of-requires-clause-few_masks : goal.strips_of-requires-clause-few_masks
strips_of-requires-clause-few_masks c = let few = c.requires.tables.source.measured.few_masks in omega (arith, few)
