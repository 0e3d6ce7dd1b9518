use Rattle.std.proofs.Common.{subst, arith}
use Rattle.std.proofs.lemmas.Int.{ints}
use Rattle.rt_simplex.specs.Among.{IsColumnAmong}
use Rattle.rt_simplex.proofs.Entering.{passed_as_read, begun_as_read, kept_as_read, taken_as_read}
use Rattle.rt_simplex.proofs.choices.column_among.Goals as goal

pub returns-then-entry-ge0 : goal.returns-then-entry-ge0
returns-then-entry-ge0 c =
    passed_as_read c.args.table.now c.args.p c.args.row.now c.args.j c.whole-entry.result c.requires.leaving c.requires.there c.whole-entry.ensures.entry c.whole-entry.ensures.small c.args.found
    (grind (arith, ints, c.if-entry-ge0.true)) c.requires.so

pub returns-in_default : goal.returns-in_default
returns-in_default c =
    begun_as_read c.args.table.now c.args.p c.args.row.now c.args.j c.whole-entry.result c.requires.leaving c.requires.there c.whole-entry.ensures.entry c.whole-entry.ensures.small
    (grind (arith, ints, c.if-entry-ge0.false)) (subst (IsColumnAmong c.args.table.now c.args.p c.args.row.now c.args.j) c.in_default.is c.requires.so)

pub returns-then-is_less : goal.returns-then-is_less
returns-then-is_less c =
    taken_as_read c.args.table.now c.args.p c.args.row.now c.args.j c.whole-entry.result c.requires.leaving c.requires.there c.whole-entry.ensures.entry c.whole-entry.ensures.small c.in-Some.q c.cost.result
    c.cost-other_cost.result c.whole-other.result c.whole-other.ensures.entry c.whole-other.ensures.small c.cost.ensures.is c.cost.ensures.small c.cost-other_cost.ensures.is c.cost-other_cost.ensures.small
    (omega (arith, ints, c.if-entry-ge0.false)) c.if-is_less.ensures (subst (IsColumnAmong c.args.table.now c.args.p c.args.row.now c.args.j) c.in-Some.is c.requires.so)

pub returns-else-is_less : goal.returns-else-is_less
returns-else-is_less c =
    kept_as_read c.args.table.now c.args.p c.args.row.now c.args.j c.whole-entry.result c.requires.leaving c.requires.there c.whole-entry.ensures.entry c.whole-entry.ensures.small c.in-Some.q c.cost.result
    c.cost-other_cost.result c.whole-other.result c.whole-other.ensures.entry c.whole-other.ensures.small c.cost.ensures.is c.cost.ensures.small c.cost-other_cost.ensures.is c.cost-other_cost.ensures.small
    c.if-is_less.ensures (subst (IsColumnAmong c.args.table.now c.args.p c.args.row.now c.args.j) c.in-Some.is c.requires.so)
