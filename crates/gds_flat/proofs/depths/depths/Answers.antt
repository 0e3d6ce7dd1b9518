use Rattle.std.proofs.Common.{◌≡◌, ◌+◌, ◌++◌, ◌∷◌, [], ℕ, List, length, get_or, ap, subst, sym, ◌∙◌, rules, arith}
use Rattle.std.proofs.lemmas.List.{length-append}
use Rattle.gds_flat.specs.Depths.{AreDepths}
use Rattle.gds_flat.specs.Walking.{elements_at}
use Rattle.gds_flat.proofs.Ranking.{turn_of, elements_same, turn_places, turn_depth}
use Rattle.gds_flat.proofs.depths.depths.Goals as goal

pub offset_bounds-names-structure : goal.offset_bounds-names-structure
offset_bounds-names-structure c =
    let turn = turn_of c.args.names.now.structures.now c.args.names.now.top.now c.args.walk.now c.deref-structure-items.result.now c.loop-structure.structure-index
    c.requires c.deref-structure-items.ensures.value c.loop-structure-test.true in
    let low = turn.low in
    search rules

pub bounds-names-structure : goal.bounds-names-structure
bounds-names-structure c =
    let turn = turn_of c.args.names.now.structures.now c.args.names.now.top.now c.args.walk.now c.deref-structure-items.result.now c.loop-structure.structure-index
    c.requires c.deref-structure-items.ensures.value c.loop-structure-test.true in
    turn.low

pub deepest-depth-requires-clause-before : goal.deepest-depth-requires-clause-before
deepest-depth-requires-clause-before c =
    let library = c.args.names.now.structures.now in
    let i = c.loop-structure.structure-index in
    let k = get_or c.deref-structure-items.result.now i 0 in
    let turn = turn_of library c.args.names.now.top.now c.args.walk.now c.deref-structure-items.result.now i c.requires c.deref-structure-items.ensures.value c.loop-structure-test.true in
    let same : c.as_slice-elements.result.now ≡ elements_at library k =
    elements_same library k c.index-names-structure.result c.as_slice-elements.result.now turn.low c.index-names-structure.is c.as_slice-elements.ensures in
    let is : length c.deref.result.now ≡ i = ap length c.deref.ensures.value ∙ c.loop-structure.invariant.0 in
    turn_places library c.args.names.now.top.now c.args.walk.now i k (length c.deref.result.now) c.as_slice-elements.result.now c.requires turn same is

pub loop-structure-preserved : goal.loop-structure-preserved
loop-structure-preserved c =
    let library = c.args.names.now.structures.now in
    let i = c.loop-structure.structure-index in
    let k = get_or c.deref-structure-items.result.now i 0 in
    let depths = c.loop-structure.depths.items in
    let turn = turn_of library c.args.names.now.top.now c.args.walk.now c.deref-structure-items.result.now i c.requires c.deref-structure-items.ensures.value c.loop-structure-test.true in
    let same : c.as_slice-elements.result.now ≡ elements_at library k =
    elements_same library k c.index-names-structure.result c.as_slice-elements.result.now turn.low c.index-names-structure.is c.as_slice-elements.ensures in
    let value = ap length c.deref.ensures.value in
    let small = c.deepest-depth.ensures.small in
    let items : c.push.new.self.items ≡ depths ++ (c.deepest-depth.result + 1) ∷ [] = c.in_ok-push.ensures.items in
    let count = c.loop-structure.invariant.0 in
    let P : List ℕ → Type 0 = λ xs. AreDepths library c.args.walk.now.finish.items xs in (
      omega (arith, ap length items, length-append depths ((c.deepest-depth.result + 1) ∷ [])),
      subst P (sym items) (turn_depth library c.args.walk.now.finish.items depths i k c.deepest-depth.result c.as_slice-elements.result.now turn count same
          (omega arith) c.deepest-depth.ensures.deepest c.loop-structure.invariant.1),
    )
