use Rattle.gds_flat.proofs.BuildingLists.{own_from}
use Rattle.gds_flat.proofs.items.push_element.Goals as goal

pub returns-in-None : goal.returns-in-None
returns-in-None c =
    own_from c.push_own.result c.args.names.now.structures.now c.args.tech.now c.args.element.now c.args.list.now c.push_own.new.items c.in-None.ensures c.push_own.ensures
