use Rattle.gds_flat.proofs.Counting.{array_copies, one_copy}
use Rattle.gds_flat.proofs.counts.copies.Goals as goal

pub returns-in-Aref : goal.returns-in-Aref
returns-in-Aref c =
    array_copies c.args.element.now c.in-Aref.offset c.in-Aref.name c.in-Aref.place c.in-Aref.columns c.in-Aref.rows c.in-Aref.points c.array_count.result
    c.in-Aref.is c.requires.whole c.array_count.ensures

pub returns-in_default : goal.returns-in_default
returns-in_default c = one_copy c.args.element.now c.requires.reference c.requires.whole c.in_default.not-Aref
