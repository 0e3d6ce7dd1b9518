use Rattle.std.proofs.Common.{ap, ◌∙◌}
use Rattle.std.specs.Int.RustNames.{unsigned_abs}
use Rattle.rt_tableau.proofs.Quotients.{wide_stored, past_over, is_below, is_not_below, quotient_not_negative, quotient_negative}
use Rattle.rt_tableau.proofs.line.quotient.Goals as goal

pub returns-then-size-gt-LIMIT : goal.returns-then-size-gt-LIMIT
returns-then-size-gt-LIMIT c =
    past_over c.args.common c.args.value.now c.unsigned_abs.result c.requires.some c.requires.whole (c.unsigned_abs.ensures.value ∙ ap unsigned_abs (wide_stored c.args.value.now c.requires.wide)) c.if-size-gt-LIMIT.true

pub returns-then-value-lt0 : goal.returns-then-value-lt0
returns-then-value-lt0 c =
    quotient_negative c.args.common c.args.value.now c.unsigned_abs.result c.requires.some c.requires.whole (c.unsigned_abs.ensures.value ∙ ap unsigned_abs (wide_stored c.args.value.now c.requires.wide))
    c.if-size-gt-LIMIT.false (is_below c.args.value.now c.requires.wide c.if-value-lt0.true)

pub returns-else-value-lt0 : goal.returns-else-value-lt0
returns-else-value-lt0 c =
    quotient_not_negative c.args.common c.args.value.now c.unsigned_abs.result c.requires.some c.requires.whole (c.unsigned_abs.ensures.value ∙ ap unsigned_abs (wide_stored c.args.value.now c.requires.wide))
    c.if-size-gt-LIMIT.false (is_not_below c.args.value.now c.requires.wide c.if-value-lt0.false)
