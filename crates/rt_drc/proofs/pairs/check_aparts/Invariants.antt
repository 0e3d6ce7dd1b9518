use Rattle.std.proofs.Common.{ℕ, ◌<◌, pos}
use Rattle.rt_rules.specs.Rules.{Keeps}
use Rattle.rt_tech.specs.declared.rules.RuleName.TheVariants.{Apart}
use Rattle.rt_drc.specs.Rows.{cells_of}
use Rattle.rt_drc.proofs.pairs.check_aparts.Given as goal

abbrev pub invariant-loop-n : goal.invariant-loop-n
invariant-loop-n l = (k : ℕ) → k < l.n → Keeps (pos 1) l.tech (cells_of l.strips) (Apart k)
