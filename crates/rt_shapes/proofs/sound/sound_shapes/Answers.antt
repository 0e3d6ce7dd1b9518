use Rattle.rt_layout.specs.Covering.{MaskCovers}
use Rattle.rt_shapes.proofs.First.{all_sound}
use Rattle.rt_shapes.proofs.Found.{cuts_handed, stray_handed}
use Rattle.rt_shapes.proofs.sound.sound_shapes.Goals as goal

pub returns-in_err-lowers-clause-refused : goal.returns-in_err-lowers-clause-refused
returns-in_err-lowers-clause-refused c =
    cuts_handed c.args.layout.now c.args.tech.now c.from_residual.result _ c.from_residual.ensures.1 c.in_err-lowers.ensures.refused

pub returns-in_err-check_labels-clause-refused : goal.returns-in_err-check_labels-clause-refused
returns-in_err-check_labels-clause-refused c =
    stray_handed c.args.layout.now c.args.tech.now c.in_ok-lowers.ensures.sound c.from_residual-in_err-check_labels.result _ c.from_residual-in_err-check_labels.ensures.1
    c.in_err-check_labels.ensures.refused

pub returns-clause-sound : goal.returns-clause-sound
returns-clause-sound c =
    let sound = c.in_ok-lowers.ensures.sound in
    all_sound c.args.tech.now (MaskCovers c.args.layout.now) c.args.layout.now.labels sound.rectangles sound.in_upper sound.in_one_lower c.in_ok-check_labels.ensures.touching
