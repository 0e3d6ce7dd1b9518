use Rattle.gds_slabs.proofs.Ordered.{taken_out}
use Rattle.gds_slabs.proofs.toggles.flip.Goals as goal

pub returns-else-not-remove : goal.returns-else-not-remove
returns-else-not-remove c =
    taken_out c.args.x.now c.args.columns.now.keys c.remove.new.self.keys c.remove.result
    c.remove.ensures.test c.remove.ensures.keys c.if-not-remove.false
