use Rattle.std.proofs.Common.{rules, w64, FitsSigned}
use Rattle.std.proofs.lemmas.Int.{to_z-of_z}
use Rattle.rt_retarget.proofs.Assembled.{rule_fault}
use Rattle.rt_retarget.proofs.source.check_source.Goals as goal

pub returns-in-Err-Broken-clause-refused : goal.returns-in-Err-Broken-clause-refused
returns-in-Err-Broken-clause-refused c =
    let b = c.in-Err-Broken in
    let found : FitsSigned w64 b.found = search rules in
    let needed : FitsSigned w64 b.needed = search rules in
    rw (to_z-of_z w64 b.found found, to_z-of_z w64 b.needed needed)
    (rule_fault c.args.inputs.now c.args.view.now b.rule b.p b.q b.found b.needed (rw b.field-0-is at b.ensures.broken))
