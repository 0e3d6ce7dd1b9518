use Rattle.std.proofs.Common.{◌≡◌, ◌<◌, List, length, subst, sym, ◌∙◌, rules, arith}
use Rattle.gds_flat.specs.declared.item.Item.{Item}
use Rattle.gds_flat.specs.Items.{Pieces}
use Rattle.gds_flat.specs.Drawn.{pieces_in}
use Rattle.gds_flat.proofs.Accepting.{top_finished}
use Rattle.gds_flat.proofs.Flattening.{top_count, many_refused, few_taken}
use Rattle.gds_flat.proofs.flat.flatten_walk.Goals as goal

pub rank_before-place-requires-clause-before : goal.rank_before-place-requires-clause-before
rank_before-place-requires-clause-before c =
    let count : c.len.result ≡ length c.in_ok-counts.counts.items = search rules in
    let all = c.in_ok-counts.ensures in
    top_finished c.args.names.now.structures.now c.args.names.now.top.now c.args.walk.now c.len.result c.requires.walk.tree (count ∙ all.all)

pub returns-then-count-gt-MOST_ITEMS-clause-err : goal.returns-then-count-gt-MOST_ITEMS-clause-err
returns-then-count-gt-MOST_ITEMS-clause-err c =
    let library = c.args.names.now.structures.now in
    let top = c.args.names.now.top.now in
    let tech = c.args.tech.now in
    let counts = c.in_ok-counts.counts.items in
    let count : c.len.result ≡ length counts = search rules in
    let low = c.rank_before-place.ensures.below in
    let below : c.rank_before-place.result < length counts = omega arith in
    many_refused library top tech c.args.walk.now c.index-count.result.now c.requires.walk
    (top_count library top tech c.args.walk.now.finish.items counts c.rank_before-place.result c.index-count.result.now c.in_ok-counts.ensures c.rank_before-place.ensures.rank
    below c.index-count.ensures) c.if-count-gt-MOST_ITEMS.true

pub items-requires-clause-few : goal.items-requires-clause-few
items-requires-clause-few c =
    let library = c.args.names.now.structures.now in
    let counts = c.in_ok-counts.counts.items in
    let count : c.len.result ≡ length counts = search rules in
    let low = c.rank_before-place.ensures.below in
    let below : c.rank_before-place.result < length counts = omega arith in
    record {
      count = c.index-count.result.now;
      has = top_count library c.args.names.now.top.now c.args.tech.now c.args.walk.now.finish.items counts c.rank_before-place.result c.index-count.result.now c.in_ok-counts.ensures
          c.rank_before-place.ensures.rank below c.index-count.ensures;
      few = c.if-count-gt-MOST_ITEMS.false;
    }

pub flatten_items-requires-clause-few : goal.flatten_items-requires-clause-few
flatten_items-requires-clause-few c =
    let library = c.args.names.now.structures.now in
    let top = c.args.names.now.top.now in
    let tech = c.args.tech.now in
    let counts = c.in_ok-counts.counts.items in
    let count : c.len.result ≡ length counts = search rules in
    let low = c.rank_before-place.ensures.below in
    let below : c.rank_before-place.result < length counts = omega arith in
    let P : List Item → Type 0 = λ xs. Pieces library tech top (pieces_in xs) in
    few_taken library top tech c.args.walk.now (pieces_in c.as_slice.result.now) c.index-count.result.now c.requires.walk
    (top_count library top tech c.args.walk.now.finish.items counts c.rank_before-place.result c.index-count.result.now c.in_ok-counts.ensures c.rank_before-place.ensures.rank
    below c.index-count.ensures) c.if-count-gt-MOST_ITEMS.false (subst P (sym c.as_slice.ensures) c.in_ok-items.ensures.pieces)
