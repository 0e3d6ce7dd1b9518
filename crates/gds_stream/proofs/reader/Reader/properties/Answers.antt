use Rattle.gds_grammar.specs.Format.{property}
use Rattle.gds_stream.proofs.Looping.{loop_begins, loop_goes_on, loop_falls, loop_ends, loop_exits}
use Rattle.std.proofs.lemmas.Result.{err_from_is_err_and}
use Rattle.gds_stream.proofs.Beginning.{property_begins}
use Rattle.gds_stream.proofs.reader.Reader.properties.Goals as goal

pub loop-self-init : goal.loop-self-init
loop-self-init c = loop_begins property (λ _. Unit {0}) c.args.self.now c.rest-rest.ensures.bytes tt

pub loop-self-preserved : goal.loop-self-preserved
loop-self-preserved c =
    loop_goes_on property _ (λ _. Unit {0}) (λ _. Unit {0}) _ _ _ _ _ property_begins c.loop-self.invariant c.in_ok-sees.ensures c.if-branch.true c.in_ok-property.ensures.1 (λ _ _. tt)

pub loop-self-smaller : goal.loop-self-smaller
loop-self-smaller c = loop_falls property _ (λ _. Unit {0}) _ _ _ _ property_begins c.loop-self.invariant c.in_ok-property.ensures.1

pub returns : goal.returns
returns c = (_, loop_ends property _ (λ _. Unit {0}) _ _ _ property_begins c.loop-self.invariant c.in_ok-sees.ensures c.if-branch.false, tt)

pub returns-in_err-property : goal.returns-in_err-property
returns-in_err-property c =
    let r = c.from_residual-in_err-property in
    let p = err_from_is_err_and r.result r.ensures.1 in
    loop_exits property _ (λ _. Unit {0}) (λ _ _. Unit {0}) _ _ _ _ r.result _ _ property_begins c.loop-self.invariant c.in_ok-sees.ensures c.if-branch.true c.in_err-property.ensures p.1 p.2
