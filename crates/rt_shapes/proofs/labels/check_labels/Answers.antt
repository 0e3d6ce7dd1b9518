use Rattle.std.proofs.Common.{map}
use Rattle.std.proofs.lemmas.Result.{on_ok_weaker, IfErr-weaker}
use Rattle.rt_layout.specs.Covering.{MaskCovers}
use Rattle.rt_strips.specs.Placed.{placed}
use Rattle.rt_shapes.specs.Cutting.{cells_by}
use Rattle.rt_shapes.specs.Sound.{IsStrayRefusal}
use Rattle.rt_shapes.proofs.Found.{are_strips, labels_moved, stray_moved}
use Rattle.rt_shapes.proofs.labels.check_labels.Goals as goal

pub check_touched-requires-clause-strips : goal.check_touched-requires-clause-strips
check_touched-requires-clause-strips c =
    are_strips c.args.layout.now c.args.tech.now c.requires.wiring c.requires.masks c.args.strips.now c.requires.strips c.as_slice.result.now c.as_slice.ensures

pub returns-clause-touching : goal.returns-clause-touching
returns-clause-touching c =
    on_ok_weaker c.check_touched.result
    (labels_moved c.args.layout.now c.args.tech.now c.requires.wiring c.requires.masks c.args.strips.now c.requires.strips c.as_slice.result.now c.as_slice.ensures
    c.as_slice-2.result.now c.as_slice-2.ensures)
    c.check_touched.ensures.touching

pub returns-clause-refused : goal.returns-clause-refused
returns-clause-refused c =
    let layout = c.args.layout.now in
    IfErr-weaker c.check_touched.result (IsStrayRefusal (cells_by (map placed c.as_slice.result.now)) c.as_slice-2.result.now) (IsStrayRefusal (MaskCovers layout) layout.labels)
    (stray_moved layout c.args.tech.now c.requires.wiring c.requires.masks c.args.strips.now c.requires.strips c.as_slice.result.now c.as_slice.ensures
    c.as_slice-2.result.now c.as_slice-2.ensures)
    c.check_touched.ensures.refused
