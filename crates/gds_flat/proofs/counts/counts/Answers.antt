use Rattle.std.proofs.Common.{◌≡◌, ◌++◌, ◌∷◌, [], ℕ, List, length, get_or, ap, subst, sym, ◌∙◌, rules, arith}
use Rattle.std.proofs.lemmas.List.{length-append}
use Rattle.gds_flat.specs.Counting.{AreFirstCounts}
use Rattle.gds_flat.specs.Walking.{elements_at}
use Rattle.gds_flat.proofs.Ranking.{IsTurn, turn_of, elements_same, turn_places}
use Rattle.gds_flat.proofs.PiecesTurn.{turn_fine, turn_drawable}
use Rattle.gds_flat.proofs.Counting.{turn_count}
use Rattle.gds_flat.proofs.counts.counts.Goals as goal
use Rattle.gds_flat.proofs.counts.counts.Goals.{After-deref}

pub offset_bounds-names-structure : goal.offset_bounds-names-structure
offset_bounds-names-structure c =
    let turn = turn_of c.args.names.now.structures.now c.args.names.now.top.now c.args.walk.now c.deref-structure-items.result.now c.loop-structure.structure-index
    c.requires.tree c.deref-structure-items.ensures.value c.loop-structure-test.true in
    let low = turn.low in
    search rules

pub bounds-names-structure : goal.bounds-names-structure
bounds-names-structure c =
    let turn = turn_of c.args.names.now.structures.now c.args.names.now.top.now c.args.walk.now c.deref-structure-items.result.now c.loop-structure.structure-index
    c.requires.tree c.deref-structure-items.ensures.value c.loop-structure-test.true in
    turn.low

-- the structure of the turn
turn_at : (c : After-deref) → IsTurn c.args.names.now.structures.now c.args.walk.now.finish.items c.loop-structure.structure-index
    (get_or c.deref-structure-items.result.now c.loop-structure.structure-index 0)
turn_at c =
    turn_of c.args.names.now.structures.now c.args.names.now.top.now c.args.walk.now c.deref-structure-items.result.now c.loop-structure.structure-index
    c.requires.tree c.deref-structure-items.ensures.value c.loop-structure-test.true

-- its elements
elements_here : (c : After-deref) → c.as_slice-elements.result.now
    ≡ elements_at c.args.names.now.structures.now (get_or c.deref-structure-items.result.now c.loop-structure.structure-index 0)
elements_here c =
    let turn = turn_at c in
    elements_same c.args.names.now.structures.now (get_or c.deref-structure-items.result.now c.loop-structure.structure-index 0) c.index-names-structure.result
    c.as_slice-elements.result.now turn.low c.index-names-structure.is c.as_slice-elements.ensures

pub count_elements-requires-clause-before : goal.count_elements-requires-clause-before
count_elements-requires-clause-before c =
    let is : length c.deref.result.now ≡ c.loop-structure.structure-index = ap length c.deref.ensures.value ∙ c.loop-structure.invariant.0 in
    turn_places c.args.names.now.structures.now c.args.names.now.top.now c.args.walk.now c.loop-structure.structure-index
    (get_or c.deref-structure-items.result.now c.loop-structure.structure-index 0) (length c.deref.result.now) c.as_slice-elements.result.now c.requires.tree
    (turn_at c) (elements_here c) is

pub count_elements-requires-clause-fine : goal.count_elements-requires-clause-fine
count_elements-requires-clause-fine c =
    turn_fine c.args.names.now.structures.now c.args.names.now.top.now c.args.walk.now c.args.tech.now c.loop-structure.structure-index
    (get_or c.deref-structure-items.result.now c.loop-structure.structure-index 0) c.as_slice-elements.result.now c.requires.tree c.requires.fine
    (turn_at c) (elements_here c)

pub count_elements-requires-clause-drawable : goal.count_elements-requires-clause-drawable
count_elements-requires-clause-drawable c =
    turn_drawable c.args.names.now.structures.now c.args.walk.now.finish.items c.loop-structure.structure-index
    (get_or c.deref-structure-items.result.now c.loop-structure.structure-index 0) c.as_slice-elements.result.now c.requires.drawable (turn_at c) (elements_here c)

pub loop-structure-preserved : goal.loop-structure-preserved
loop-structure-preserved c =
    let library = c.args.names.now.structures.now in
    let counts = c.loop-structure.counts.items in
    let here : After-deref = (goal.at.loop-structure-preserved c).After-deref in
    let items : c.push.new.self.items ≡ counts ++ c.in_ok-count.count ∷ [] = c.in_ok-push.ensures.items in
    let was = c.loop-structure.invariant.0 in
    let P : List ℕ → Type 0 = λ xs. AreFirstCounts library c.args.tech.now c.args.walk.now.finish.items xs in (
      omega (arith, ap length items, length-append counts (c.in_ok-count.count ∷ [])),
      subst P (sym items) (turn_count library c.args.tech.now c.args.walk.now.finish.items counts c.loop-structure.structure-index
          (get_or c.deref-structure-items.result.now c.loop-structure.structure-index 0) c.in_ok-count.count c.as_slice-elements.result.now
          (turn_at here) c.loop-structure.invariant.0 (elements_here here) c.in_ok-count.ensures c.loop-structure.invariant.1),
    )
