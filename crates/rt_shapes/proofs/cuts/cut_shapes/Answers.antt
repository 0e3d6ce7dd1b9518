use Rattle.std.proofs.Common.{map}
use Rattle.std.proofs.lemmas.Result.{IfOk-weaker, IfErr-weaker}
use Rattle.rt_layout.specs.Covering.{MaskCovers}
use Rattle.rt_strips.specs.Placed.{placed}
use Rattle.rt_view.specs.Shapes.{HasSoundCuts, IsCutErrorOf}
use Rattle.rt_view.specs.Lowers.{AreLowersOf}
use Rattle.rt_shapes.specs.Sides.{AllHaveLower, IsLooseRefusal}
use Rattle.rt_shapes.proofs.Found.{are_strips, are_of_masks, bent_handed, bare_handed, loose_refused, cuts_sound, lowers_are}
use Rattle.rt_shapes.proofs.cuts.cut_shapes.Goals as goal

pub check_bent-requires-clause-strips : goal.check_bent-requires-clause-strips
check_bent-requires-clause-strips c =
    are_strips c.args.layout.now c.args.tech.now c.requires.wiring c.requires.masks c.args.strips.now c.requires.strips c.as_slice-list.result.now c.as_slice-list.ensures

pub returns-in_err-check_bent-clause-refused : goal.returns-in_err-check_bent-clause-refused
returns-in_err-check_bent-clause-refused c =
    bent_handed c.args.layout.now c.args.tech.now c.requires.wiring c.requires.masks c.args.strips.now c.requires.strips c.as_slice-list.result.now c.as_slice-list.ensures
    c.from_residual.result _ c.from_residual.ensures.1 c.in_err-check_bent.ensures.refused

pub bare_table-requires-clause-strips : goal.bare_table-requires-clause-strips
bare_table-requires-clause-strips c =
    are_strips c.args.layout.now c.args.tech.now c.requires.wiring c.requires.masks c.args.strips.now c.requires.strips c.as_slice-list.result.now c.as_slice-list.ensures

pub bare_table-requires-clause-masks : goal.bare_table-requires-clause-masks
bare_table-requires-clause-masks c =
    are_of_masks c.args.layout.now c.args.tech.now c.requires.wiring c.requires.masks c.args.strips.now c.requires.strips c.as_slice-list.result.now c.as_slice-list.ensures

pub returns-in_err-check_upper-clause-refused : goal.returns-in_err-check_upper-clause-refused
returns-in_err-check_upper-clause-refused c =
    bare_handed c.args.layout.now c.args.tech.now c.requires.wiring c.requires.masks c.args.strips.now c.requires.strips c.as_slice-list.result.now c.as_slice-list.ensures
    c.in_ok-check_bent.ensures.alone c.from_residual-in_err-check_upper.result _ c.from_residual-in_err-check_upper.ensures.1 c.in_err-check_upper.ensures.refused

pub returns-clause-lowers : goal.returns-clause-lowers
returns-clause-lowers c =
    let layout = c.args.layout.now in
    let tech = c.args.tech.now in
    let strips = c.args.strips.now in
    let list = c.as_slice-list.result.now in
    IfOk-weaker c.lower_masks.result (AllHaveLower tech (map placed list)) (AreLowersOf tech (MaskCovers layout) (map placed strips.list))
    (lowers_are layout tech c.requires.wiring c.requires.masks strips c.requires.strips list c.as_slice-list.ensures c.in_ok-check_bent.ensures.alone)
    c.lower_masks.ensures.lowers

pub returns-clause-sound : goal.returns-clause-sound
returns-clause-sound c =
    let layout = c.args.layout.now in
    let tech = c.args.tech.now in
    let list = c.as_slice-list.result.now in
    IfOk-weaker c.lower_masks.result (AllHaveLower tech (map placed list)) (λ _. HasSoundCuts tech (MaskCovers layout))
    (cuts_sound layout tech c.requires.wiring c.requires.masks c.args.strips.now c.requires.strips list c.as_slice-list.ensures c.in_ok-check_bent.ensures.alone
    c.in_ok-check_upper.ensures.covered)
    c.lower_masks.ensures.lowers

pub returns-clause-refused : goal.returns-clause-refused
returns-clause-refused c =
    let layout = c.args.layout.now in
    let tech = c.args.tech.now in
    let list = c.as_slice-list.result.now in
    IfErr-weaker c.lower_masks.result (IsLooseRefusal tech (map placed list)) (IsCutErrorOf layout tech)
    (loose_refused layout tech c.requires.wiring c.requires.masks c.args.strips.now c.requires.strips list c.as_slice-list.ensures c.in_ok-check_bent.ensures.alone
    c.in_ok-check_upper.ensures.covered)
    c.lower_masks.ensures.refused
