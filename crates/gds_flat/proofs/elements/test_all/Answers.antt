use Rattle.std.proofs.Common.{◌≡◌, ◌≤◌, ◌+◌, ℕ, List, length, get_or, All, take, ap, subst, sym, rules, arith}
use Rattle.std.proofs.lemmas.Result.{err_from_is_err_and}
use Rattle.gds_flat.specs.Elements.{Fine, FirstFault}
use Rattle.gds_flat.specs.Refused.{elements_along}
use Rattle.gds_flat.specs.Walking.{names_at, elements_at}
use Rattle.gds_flat.proofs.Coming.{first_within}
use Rattle.gds_flat.proofs.Ranking.{elements_same}
use Rattle.gds_flat.proofs.Testing.{fine_along, fault_along, fine_along_all, order_turn}
use Rattle.gds_flat.proofs.elements.test_all.Goals as goal

pub bounds-names-structure : goal.bounds-names-structure
bounds-names-structure c =
    first_within c.args.names.now.structures.now _
    (order_turn c.args.names.now.structures.now c.args.names.now.top.now c.args.walk.now c.deref-structure-items.result.now c.loop-structure.structure-index
    c.requires c.deref-structure-items.ensures.value c.loop-structure-test.true)

pub offset_bounds-names-structure : goal.offset_bounds-names-structure
offset_bounds-names-structure c =
    let low = first_within c.args.names.now.structures.now _
    (order_turn c.args.names.now.structures.now c.args.names.now.top.now c.args.walk.now c.deref-structure-items.result.now c.loop-structure.structure-index
    c.requires c.deref-structure-items.ensures.value c.loop-structure-test.true) in
    search rules

pub returns-in_err-test_elements-clause-err : goal.returns-in_err-test_elements-clause-err
returns-in_err-test_elements-clause-err c =
    let library = c.args.names.now.structures.now in
    let items = c.deref-structure-items.result.now in
    let i = c.loop-structure.structure-index in
    let same : items ≡ c.args.walk.now.order.items = c.deref-structure-items.ensures.value in
    let first = order_turn library c.args.names.now.top.now c.args.walk.now items i c.requires same c.loop-structure-test.true in
    let low = first_within library (get_or items i 0) first in
    let read : c.as_slice.result.now ≡ elements_at library (get_or items i 0) =
    elements_same library (get_or items i 0) c.index-names-structure.result c.as_slice.result.now low c.index-names-structure.is c.as_slice.ensures in
    let p = err_from_is_err_and c.from_residual.result c.from_residual.ensures.1 in
    let P : List ℕ → Type 0 = λ ps. All (Fine c.args.tech.now) (elements_along library (names_at library (take i ps))) in
    let Q : List ℕ → Type 0 = λ ps. FirstFault c.args.tech.now (elements_along library (names_at library ps)) c.in_err-test_elements.field-0.0 in
    rw (p.1, p.2)
    (subst Q same (fault_along c.args.tech.now library items i c.as_slice.result.now c.in_err-test_elements.field-0.0 c.loop-structure-test.true first read
    (subst P (sym same) c.loop-structure.invariant) c.in_err-test_elements.ensures.err))

pub loop-structure-preserved : goal.loop-structure-preserved
loop-structure-preserved c =
    let library = c.args.names.now.structures.now in
    let items = c.deref-structure-items.result.now in
    let i = c.loop-structure.structure-index in
    let same : items ≡ c.args.walk.now.order.items = c.deref-structure-items.ensures.value in
    let first = order_turn library c.args.names.now.top.now c.args.walk.now items i c.requires same c.loop-structure-test.true in
    let low = first_within library (get_or items i 0) first in
    let read : c.as_slice.result.now ≡ elements_at library (get_or items i 0) =
    elements_same library (get_or items i 0) c.index-names-structure.result c.as_slice.result.now low c.index-names-structure.is c.as_slice.ensures in
    let P : List ℕ → Type 0 = λ ps. All (Fine c.args.tech.now) (elements_along library (names_at library (take i ps))) in
    let Q : List ℕ → Type 0 = λ ps. All (Fine c.args.tech.now) (elements_along library (names_at library (take (i + 1) ps))) in
    subst Q same (fine_along c.args.tech.now library items i c.as_slice.result.now c.loop-structure-test.true first read
    (subst P (sym same) c.loop-structure.invariant) c.in_ok-test_elements.ensures.ok)

pub returns-clause-ok : goal.returns-clause-ok
returns-clause-ok c =
    let same = ap length c.deref-structure-items.ensures.value in
    let over : length c.args.walk.now.order.items ≤ c.loop-structure.structure-index = omega (arith, same, c.loop-structure-test.false) in
    fine_along_all c.args.tech.now c.args.names.now.structures.now c.args.walk.now.order.items c.loop-structure.structure-index over c.loop-structure.invariant
