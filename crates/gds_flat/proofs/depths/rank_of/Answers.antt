use Rattle.std.proofs.Common.{◌<◌, length, rules, arith}
use Rattle.gds_flat.specs.declared.walk.Mark.TheVariants.{Unseen, Open, Done}
use Rattle.gds_flat.proofs.Going.{first_placed}
use Rattle.gds_flat.proofs.Coming.{marked_as, first_within}
use Rattle.gds_flat.proofs.Ranking.{not_done}
use Rattle.gds_flat.proofs.depths.rank_of.Goals as goal

pub index-requires : goal.index-requires
index-requires c =
    let low = first_within c.args.names.now.structures.now c.args.structure (first_placed c.args.names.now.structures.now c.args.name.now c.args.structure c.requires.named) in
    let same = c.requires.marked.enough in
    let below : c.args.structure < length c.args.walk.now.marks.items = omega arith in
    search rules

pub returns-in-Unseen : goal.returns-in-Unseen
returns-in-Unseen c =
    let low = first_within c.args.names.now.structures.now c.args.structure (first_placed c.args.names.now.structures.now c.args.name.now c.args.structure c.requires.named) in
    let same = c.requires.marked.enough in
    let below : c.args.structure < length c.args.walk.now.marks.items = omega arith in
    not_done c.args.names.now.structures.now c.args.walk.now.marks.items c.args.walk.now.order.items c.args.walk.now.finish.items c.args.name.now c.args.structure
    Unseen c.requires.marked c.requires.named
    (marked_as c.args.walk.now.marks.items c.args.structure c.index.result.now Unseen below c.index.ensures c.in-Unseen.is) (λ d e. cc)

pub returns-in-Open : goal.returns-in-Open
returns-in-Open c =
    let low = first_within c.args.names.now.structures.now c.args.structure (first_placed c.args.names.now.structures.now c.args.name.now c.args.structure c.requires.named) in
    let same = c.requires.marked.enough in
    let below : c.args.structure < length c.args.walk.now.marks.items = omega arith in
    not_done c.args.names.now.structures.now c.args.walk.now.marks.items c.args.walk.now.order.items c.args.walk.now.finish.items c.args.name.now c.args.structure
    (Open c.in-Open.field-0) c.requires.marked c.requires.named
    (marked_as c.args.walk.now.marks.items c.args.structure c.index.result.now (Open c.in-Open.field-0) below c.index.ensures c.in-Open.is) (λ d e. cc)

pub returns-in-Done : goal.returns-in-Done
returns-in-Done c =
    let low = first_within c.args.names.now.structures.now c.args.structure (first_placed c.args.names.now.structures.now c.args.name.now c.args.structure c.requires.named) in
    let same = c.requires.marked.enough in
    let below : c.args.structure < length c.args.walk.now.marks.items = omega arith in
    record {
      structure = c.args.structure;
      named = c.requires.named;
      at = c.requires.marked.done_at c.args.structure c.in-Done.place
          (marked_as c.args.walk.now.marks.items c.args.structure c.index.result.now (Done c.in-Done.place) below c.index.ensures c.in-Done.is);
    }
