use Rattle.std.proofs.Common.{◌≡◌, ◌<◌, ◌++◌, ◌∷◌, [], ℕ, List, length, get_or, slice_get, Some, ap, subst, sym, ◌∙◌, rules, arith}
use Rattle.std.proofs.lemmas.List.{length-append}
use Rattle.std.proofs.lemmas.Option.{slice_get-get_or}
use Rattle.gds_flat.specs.declared.item.Item.{Item}
use Rattle.gds_flat.specs.Building.{AreLists}
use Rattle.gds_flat.proofs.Ranking.{turn_of}
use Rattle.gds_flat.proofs.BuildingLists.{lists_more}
use Rattle.gds_flat.proofs.BuildingFinish.{can_be_listed}
use Rattle.gds_flat.proofs.items.lists.Goals as goal

pub list_at-requires-clause-turn : goal.list_at-requires-clause-turn
list_at-requires-clause-turn c =
    let library = c.args.names.now.structures.now in
    let i = c.loop-structure.structure-index in
    let k = get_or c.deref-structure-items.result.now i 0 in
    let turn = turn_of library c.args.names.now.top.now c.args.walk.now c.deref-structure-items.result.now i c.requires.tree c.deref-structure-items.ensures.value c.loop-structure-test.true in
    can_be_listed library c.args.names.now.top.now c.args.walk.now c.args.tech.now i k (length c.deref.result.now) c.requires.tree turn c.requires.fine c.requires.drawable
    c.requires.shallow (ap length c.deref.ensures.value ∙ c.loop-structure.invariant.count)

pub list_at-requires-clause-count : goal.list_at-requires-clause-count
list_at-requires-clause-count c =
    let library = c.args.names.now.structures.now in
    let i = c.loop-structure.structure-index in
    let k = get_or c.deref-structure-items.result.now i 0 in
    let turn = turn_of library c.args.names.now.top.now c.args.walk.now c.deref-structure-items.result.now i c.requires.tree c.deref-structure-items.ensures.value c.loop-structure-test.true in
    let count : c.len.result ≡ i = (let e = c.len.ensures in let f = c.loop-structure.invariant.count in search rules) in
    let same = ap length c.deref-structure-items.ensures.value in
    let below : c.len.result < length c.args.counts.now = omega (arith, same, c.requires.counts.all, count, c.loop-structure-test.true) in
    let P : ℕ → Type 0 = λ n. slice_get c.args.walk.now.finish.items n ≡ Some k in
    c.requires.counts.are c.len.result k (get_or c.args.counts.now c.len.result 0) (subst P (sym count) turn.at) (slice_get-get_or c.args.counts.now c.len.result 0 below)

pub loop-structure-preserved : goal.loop-structure-preserved
loop-structure-preserved c =
    let library = c.args.names.now.structures.now in
    let i = c.loop-structure.structure-index in
    let k = get_or c.deref-structure-items.result.now i 0 in
    let lists = c.loop-structure.lists.items in
    let turn = turn_of library c.args.names.now.top.now c.args.walk.now c.deref-structure-items.result.now i c.requires.tree c.deref-structure-items.ensures.value c.loop-structure-test.true in
    let items : c.push.new.self.items ≡ lists ++ c.in_ok-list.list ∷ [] = c.in_ok-push.ensures.items in
    let count = c.loop-structure.invariant.count in
    let P : List (List Item) → Type 0 = λ xs. AreLists library c.args.tech.now c.args.walk.now.finish.items xs in
    let Q : ℕ → Type 0 = λ n. slice_get c.args.walk.now.finish.items n ≡ Some k in
    record {
      count = omega (arith, ap length items, length-append lists (c.in_ok-list.list ∷ []));
      are = subst P (sym items) (lists_more library c.args.tech.now c.args.walk.now.finish.items lists k c.in_ok-list.list (subst Q (sym count) turn.at) c.in_ok-list.ensures
          c.loop-structure.invariant.are);
    }
