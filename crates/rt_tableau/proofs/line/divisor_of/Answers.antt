use Rattle.std.proofs.Common.{sym, subst}
use Rattle.std.specs.Int.{IsGcd}
use Rattle.rt_tableau.proofs.Divisors.{IsCommonSoFar, common_at_first, common_further, common_at_last, read_of}
use Rattle.rt_tableau.proofs.line.divisor_of.Goals as goal

pub loop-value-init : goal.loop-value-init
loop-value-init c =
    subst (IsCommonSoFar c.args.values.now c.args.place 0) (sym (read_of c.args.values.now c.args.place _ c.unsigned_abs-common.result c.requires.wide c.requires.there c.unsigned_abs-common.ensures.value))
    (common_at_first c.args.values.now c.args.place c.requires.positive)

pub loop-value-preserved : goal.loop-value-preserved
loop-value-preserved c =
    common_further c.args.values.now c.args.place c.loop-value.value-index c.loop-value.common c.common_divisor-common.result c.loop-value.invariant
    (subst (λ n. IsGcd c.loop-value.common n c.common_divisor-common.result)
    (read_of c.args.values.now c.loop-value.value-index _ c.unsigned_abs.result c.requires.wide c.loop-value-test.true c.unsigned_abs.ensures.value) c.common_divisor-common.ensures)

pub returns-clause-common : goal.returns-clause-common
returns-clause-common c = common_at_last c.args.values.now c.args.place c.loop-value.value-index c.loop-value.common c.loop-value.invariant c.loop-value-test.false
