use Rattle.std.proofs.Common.{◌≡◌, None, sym}
use Rattle.gds_flat.specs.Reach.{place_named}
use Rattle.gds_flat.specs.Reach.Missing.{here}
use Rattle.gds_flat.proofs.Going.{name_placed, first_placed, none_among, missing_placed}
use Rattle.gds_flat.proofs.walk.take.Goals as goal

pub visit-requires-clause-walk : goal.visit-requires-clause-walk
visit-requires-clause-walk c =
    rw (name_placed c.args.names.now.structures.now c.args.name.now c.in-Some.structure (sym c.in-Some.ensures)) c.requires

pub visit-requires-clause-first : goal.visit-requires-clause-first
visit-requires-clause-first c = first_placed c.args.names.now.structures.now c.args.name.now c.in-Some.structure (sym c.in-Some.ensures)

pub returns-in_ok-copy-in-None-clause-err : goal.returns-in_ok-copy-in-None-clause-err
returns-in_ok-copy-in-None-clause-err c =
    let library = c.args.names.now.structures.now in
    let none : place_named c.args.name.now library ≡ None = sym c.in-None.ensures in
    rw (c.in_ok-copy-in-None.ensures)
    (c.requires.leads.missing c.args.name.now
    (here (none_among library c.args.walk.now.order.items c.args.name.now c.requires.marked.first none) (missing_placed library c.args.name.now none)))
