use Rattle.std.proofs.Common.{length, ◌∙◌, arith}
use Rattle.rt_path.proofs.Numbers.{asked_fits, sum_is, sum_is_still, raise_is}
use Rattle.rt_path.proofs.raises.raise.Goals as goal

pub overflow_add-last : goal.overflow_add-last
overflow_add-last c =
    asked_fits (length c.args.now.now) c.in-Some.from c.args.step.now.by c.requires.few (c.requires.short c.args.step.now.tail c.in-Some.from c.in-Some.ensures.tail) c.requires.fit.near

pub overflow_add-last-2 : goal.overflow_add-last-2
overflow_add-last-2 c =
    let short = c.requires.short c.args.step.now.tail c.in-Some.from c.in-Some.ensures.tail in
    omega (arith, short.few, c.requires.few)

pub returns : goal.returns
returns c =
    let short = c.requires.short c.args.step.now.tail c.in-Some.from c.in-Some.ensures.tail in
    let is = sum_is (length c.args.now.now) c.in-Some.from c.args.step.now.by c.requires.few short c.requires.fit.near in
    let is' = sum_is_still (length c.args.now.now) c.in-Some.from c.args.step.now.by c.requires.few short c.requires.fit.near in
    raise_is c.args.number c.args.step.now c.args.log.now.items c.push.new.self.items c.args.now.now c.in-Some.from c.len.result _ _ c.in-Some.ensures is is' (c.len.ensures ∙ c.args.log.now.ok.0) c.in_ok-push.ensures.items
