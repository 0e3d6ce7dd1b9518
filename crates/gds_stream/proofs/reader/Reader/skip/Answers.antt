use Rattle.gds_grammar.specs.Format.{skipped}
use Rattle.gds_stream.proofs.Looping.{loop_begins, loop_goes_on, loop_falls, loop_ends, loop_exits}
use Rattle.std.proofs.lemmas.Result.{err_from_is_err_and}
use Rattle.gds_stream.proofs.Beginning.{skipped_begins}
use Rattle.gds_stream.proofs.reader.Reader.skip.Goals as goal

pub loop-self-init : goal.loop-self-init
loop-self-init c = loop_begins skipped (λ _. Unit {0}) c.args.self.now c.rest-rest.ensures.bytes tt

pub loop-self-preserved : goal.loop-self-preserved
loop-self-preserved c =
    loop_goes_on skipped _ (λ _. Unit {0}) (λ _. Unit {0}) _ _ _ _ _ skipped_begins c.loop-self.invariant c.in_ok-sees.ensures c.if-branch.true c.in_ok-skip_one.ensures.1 (λ _ _. tt)

pub loop-self-smaller : goal.loop-self-smaller
loop-self-smaller c = loop_falls skipped _ (λ _. Unit {0}) _ _ _ _ skipped_begins c.loop-self.invariant c.in_ok-skip_one.ensures.1

pub returns : goal.returns
returns c = (_, loop_ends skipped _ (λ _. Unit {0}) _ _ _ skipped_begins c.loop-self.invariant c.in_ok-sees.ensures c.if-branch.false, tt)

pub returns-in_err-skip_one : goal.returns-in_err-skip_one
returns-in_err-skip_one c =
    let r = c.from_residual-in_err-skip_one in
    let p = err_from_is_err_and r.result r.ensures.1 in
    loop_exits skipped _ (λ _. Unit {0}) (λ _ _. Unit {0}) _ _ _ _ r.result _ _ skipped_begins c.loop-self.invariant c.in_ok-sees.ensures c.if-branch.true c.in_err-skip_one.ensures p.1 p.2
