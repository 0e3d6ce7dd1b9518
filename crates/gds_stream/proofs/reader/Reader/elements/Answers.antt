use Rattle.std.proofs.Common.{List, [], ◌++◌, sym, subst}
use Rattle.gds_stream.specs.declared.library.Element.{Element}
use Rattle.std.proofs.lemmas.Result.{err_from_is_err_and}
use Rattle.gds_grammar.specs.Format.{element}
use Rattle.gds_stream.specs.Gives.{AddElements}
use Rattle.gds_stream.proofs.Looping.{loop_begins, loop_goes_on, loop_falls, loop_ends, loop_exits}
use Rattle.gds_stream.proofs.Beginning.{element_begins}
use Rattle.gds_stream.proofs.Cutting.{no_elements, one_more_element}
use Rattle.gds_stream.proofs.reader.Reader.elements.Goals as goal

pub loop-elements-init : goal.loop-elements-init
loop-elements-init c =
    loop_begins element (λ items. AddElements items c.new-elements.result) c.args.self.now c.rest-rest.ensures.bytes
    (subst (λ (xs : List Element). AddElements [] xs) (sym c.new-elements.ensures) no_elements)

pub loop-elements-preserved : goal.loop-elements-preserved
loop-elements-preserved c =
    let one = c.in_ok-element.ensures in
    loop_goes_on element _ (λ items. AddElements items c.loop-elements.elements) (λ items. AddElements items c.keep.new.elements) _ _ _ _ _ element_begins c.loop-elements.invariant c.in_ok-sees.ensures c.if-branch.true one.1
    (λ items are. subst (λ (xs : List Element). AddElements (items ++ one.0) xs) (sym c.in_ok-keep.ensures) (one_more_element items one.0 c.loop-elements.elements _ are one.2))

pub loop-elements-smaller : goal.loop-elements-smaller
loop-elements-smaller c = loop_falls element _ (λ items. AddElements items c.loop-elements.elements) _ _ _ _ element_begins c.loop-elements.invariant c.in_ok-element.ensures.1

pub returns : goal.returns
returns c =
    let so_far = c.loop-elements.invariant in
    (so_far.items, loop_ends element _ (λ items. AddElements items c.loop-elements.elements) _ _ _ element_begins so_far c.in_ok-sees.ensures c.if-branch.false, so_far.holds)

pub returns-in_err-element : goal.returns-in_err-element
returns-in_err-element c =
    let r = c.from_residual-in_err-element in
    let p = err_from_is_err_and r.result r.ensures.1 in
    loop_exits element _ (λ items. AddElements items c.loop-elements.elements) AddElements _ _ _ _ r.result _ _ element_begins c.loop-elements.invariant c.in_ok-sees.ensures c.if-branch.true c.in_err-element.ensures p.1 p.2
