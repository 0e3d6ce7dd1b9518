use Rattle.std.proofs.Common.{◌≡◌, length, sym, ◌∙◌, subst, arith}
use Rattle.gds_records.specs.Reals.{IsQuarterTurns}
use Rattle.gds_records.proofs.Turns.{turned, quarter_turns_signed, no_quarter_turns}
use Rattle.gds_records.proofs.real.quarter_turns.Goals as goal

pub returns-in_default : goal.returns-in_default
returns-in_default c =
    no_quarter_turns c.args.bytes c.parts_of-parts.result.exponent c.parts_of-parts.result.fraction c.parts_of-parts.ensures.exponent c.parts_of-parts.ensures.fraction c.in_default.ensures

pub returns-then-parts : goal.returns-then-parts
returns-then-parts c =
    let eight : length c.args.bytes ≡ 8 = omega arith in
    let t = c.in-Some.turns in
    subst (λ n. IsQuarterTurns c.args.bytes (turned n t)) (sym c.parts_of-parts.ensures.negative ∙ c.if-parts.true)
    (quarter_turns_signed c.args.bytes c.parts_of-parts.result.exponent c.parts_of-parts.result.fraction t eight c.parts_of-parts.ensures.exponent c.parts_of-parts.ensures.fraction c.in-Some.ensures)

pub returns-else-parts : goal.returns-else-parts
returns-else-parts c =
    let eight : length c.args.bytes ≡ 8 = omega arith in
    let t = c.in-Some.turns in
    subst (λ n. IsQuarterTurns c.args.bytes (turned n t)) (sym c.parts_of-parts.ensures.negative ∙ c.if-parts.false)
    (quarter_turns_signed c.args.bytes c.parts_of-parts.result.exponent c.parts_of-parts.result.fraction t eight c.parts_of-parts.ensures.exponent c.parts_of-parts.ensures.fraction c.in-Some.ensures)
