use Rattle.rt_frac.proofs.Stored.{divisor_some, none_above, none_below, found}
use Rattle.rt_frac.proofs.frac.Frac.new.Goals as goal

pub nonzero_div-above : goal.nonzero_div-above
nonzero_div-above c =
    divisor_some c.args.num c.args.den c.ranges.num c.ranges.den c.unsigned_abs-above.result c.unsigned_abs-below.result c.common_divisor-common.result
    c.unsigned_abs-above.ensures.value c.unsigned_abs-below.ensures.value c.common_divisor-common.ensures c.if-den-eq0.false

pub nonzero_div-below : goal.nonzero_div-below
nonzero_div-below c =
    divisor_some c.args.num c.args.den c.ranges.num c.ranges.den c.unsigned_abs-above.result c.unsigned_abs-below.result c.common_divisor-common.result
    c.unsigned_abs-above.ensures.value c.unsigned_abs-below.ensures.value c.common_divisor-common.ensures c.if-den-eq0.false

pub returns-in_default : goal.returns-in_default
returns-in_default c =
    none_above c.args.num c.args.den c.ranges.num c.ranges.den c.unsigned_abs-above.result c.unsigned_abs-below.result c.common_divisor-common.result
    c.unsigned_abs-above.ensures.value c.unsigned_abs-below.ensures.value c.common_divisor-common.ensures c.if-den-eq0.false
    c.signs_differ.result c.signs_differ.ensures c.in_default.ensures

pub returns-in_default-signed : goal.returns-in_default-signed
returns-in_default-signed c =
    none_below c.args.num c.args.den c.ranges.num c.ranges.den c.unsigned_abs-above.result c.unsigned_abs-below.result c.common_divisor-common.result
    c.unsigned_abs-above.ensures.value c.unsigned_abs-below.ensures.value c.common_divisor-common.ensures c.if-den-eq0.false c.in_default-signed.ensures

pub returns : goal.returns
returns c =
    found c.args.num c.args.den c.ranges.num c.ranges.den c.unsigned_abs-above.result c.unsigned_abs-below.result c.common_divisor-common.result
    c.unsigned_abs-above.ensures.value c.unsigned_abs-below.ensures.value c.common_divisor-common.ensures c.if-den-eq0.false
    c.signs_differ.result c.signs_differ.ensures c.in-Some.top c.in-Some-signed.bottom c.in-Some.ensures c.in-Some-signed.ensures
