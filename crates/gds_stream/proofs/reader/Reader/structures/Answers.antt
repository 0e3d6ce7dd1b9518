use Rattle.std.proofs.Common.{List, [], ◌++◌, sym, subst}
use Rattle.gds_stream.specs.declared.library.Structure.{Structure}
use Rattle.std.proofs.lemmas.Result.{err_from_is_err_and}
use Rattle.gds_grammar.specs.Format.{structure}
use Rattle.gds_stream.specs.Gives.{AddStructures}
use Rattle.gds_stream.proofs.Looping.{loop_begins, loop_goes_on, loop_falls, loop_ends, loop_exits}
use Rattle.gds_stream.proofs.Beginning.{structure_begins}
use Rattle.gds_stream.proofs.Cutting.{no_structures, one_more_structure}
use Rattle.gds_stream.proofs.reader.Reader.structures.Goals as goal

pub loop-structures-init : goal.loop-structures-init
loop-structures-init c =
    loop_begins structure (λ items. AddStructures items c.new-structures.result) c.args.self.now c.rest-rest.ensures.bytes
    (subst (λ (xs : List Structure). AddStructures [] xs) (sym c.new-structures.ensures) no_structures)

pub loop-structures-preserved : goal.loop-structures-preserved
loop-structures-preserved c =
    let one = c.in_ok-structure.ensures in
    loop_goes_on structure _ (λ items. AddStructures items c.loop-structures.structures) (λ items. AddStructures items c.push.new.self) _ _ _ _ _ structure_begins c.loop-structures.invariant c.in_ok-sees.ensures c.if-branch.true one.1
    (λ items are. subst (λ (xs : List Structure). AddStructures (items ++ one.0) xs) (sym c.in_ok-push.ensures.ok) (one_more_structure items one.0 c.loop-structures.structures _ are one.2))

pub loop-structures-smaller : goal.loop-structures-smaller
loop-structures-smaller c = loop_falls structure _ (λ items. AddStructures items c.loop-structures.structures) _ _ _ _ structure_begins c.loop-structures.invariant c.in_ok-structure.ensures.1

pub returns : goal.returns
returns c =
    let so_far = c.loop-structures.invariant in
    (so_far.items, loop_ends structure _ (λ items. AddStructures items c.loop-structures.structures) _ _ _ structure_begins so_far c.in_ok-sees.ensures c.if-branch.false, so_far.holds)

pub returns-in_err-structure : goal.returns-in_err-structure
returns-in_err-structure c =
    let r = c.from_residual-in_err-structure in
    let p = err_from_is_err_and r.result r.ensures.1 in
    loop_exits structure _ (λ items. AddStructures items c.loop-structures.structures) AddStructures _ _ _ _ r.result _ _ structure_begins c.loop-structures.invariant c.in_ok-sees.ensures c.if-branch.true c.in_err-structure.ensures p.1 p.2
