use Rattle.std.proofs.Common.{List, length, All, subst, sym, rules}
use Rattle.gds_stream.specs.declared.library.Element.{Element}
use Rattle.gds_flat.specs.Depths.{PlaceOnly}
use Rattle.gds_flat.specs.Building.{CanBeDrawn}
use Rattle.gds_flat.proofs.Coming.{first_within}
use Rattle.gds_flat.proofs.Ranking.{elements_same}
use Rattle.gds_flat.proofs.BuildingLists.{list_by}
use Rattle.gds_flat.proofs.items.list_at.Goals as goal

pub offset_bounds-names-structure : goal.offset_bounds-names-structure
offset_bounds-names-structure c =
    let low = first_within c.args.names.now.structures.now c.args.structure c.requires.turn.first in
    search rules

pub bounds-names-structure : goal.bounds-names-structure
bounds-names-structure c = first_within c.args.names.now.structures.now c.args.structure c.requires.turn.first

pub list_of-requires-clause-before : goal.list_of-requires-clause-before
list_of-requires-clause-before c =
    let library = c.args.names.now.structures.now in
    let low = first_within library c.args.structure c.requires.turn.first in
    let P : List Element → Type 0 = λ es. PlaceOnly library c.args.walk.now.finish.items (length c.args.lists.now) es in
    subst P (sym (elements_same library c.args.structure c.index-names-structure.result c.as_slice-elements.result.now low c.index-names-structure.is c.as_slice-elements.ensures))
    c.requires.turn.before

pub list_of-requires-clause-drawn : goal.list_of-requires-clause-drawn
list_of-requires-clause-drawn c =
    let library = c.args.names.now.structures.now in
    let low = first_within library c.args.structure c.requires.turn.first in
    let P : List Element → Type 0 = λ es. All (CanBeDrawn c.args.tech.now) es in
    subst P (sym (elements_same library c.args.structure c.index-names-structure.result c.as_slice-elements.result.now low c.index-names-structure.is c.as_slice-elements.ensures))
    c.requires.turn.drawn

pub returns : goal.returns
returns c =
    let library = c.args.names.now.structures.now in
    let low = first_within library c.args.structure c.requires.turn.first in
    list_by library c.args.tech.now c.args.structure c.as_slice-elements.result.now _ c.requires.turn.first
    (elements_same library c.args.structure c.index-names-structure.result c.as_slice-elements.result.now low c.index-names-structure.is c.as_slice-elements.ensures)
    c.requires.turn.shallow c.in_ok-list.ensures
