use Rattle.std.proofs.Common.{◌+◌, List, map, take, sym, subst}
use Rattle.gds_stream.specs.declared.cell.Note.{Note}
use Rattle.rt_rows.specs.Places.{places}
use Rattle.rt_strips.specs.Placed.{placed}
use Rattle.rt_carry.specs.Texts.{IsNoted, TouchesSome, AreNotesOf}
use Rattle.rt_carry.proofs.Touched.{no_notes, one_note_more}
use Rattle.rt_carry.proofs.labels.notes.Goals as goal

pub loop-label-init : goal.loop-label-init
loop-label-init c = no_notes c.args.target.now (map placed c.args.strips.now) (places c.args.at.now) c.new-list.result c.new-list.ensures

pub note-requires-clause-noted : goal.note-requires-clause-noted
note-requires-clause-noted c =
    subst (IsNoted c.args.target.now) (sym c.label-item.is) (c.requires.noted c.loop-label.label-index c.label-item.result c.loop-label-test.true)

pub note-requires-clause-touching : goal.note-requires-clause-touching
note-requires-clause-touching c =
    subst (TouchesSome (map placed c.args.strips.now)) (sym c.label-item.is) (c.requires.touching c.loop-label.label-index c.label-item.result c.loop-label-test.true)

pub loop-label-preserved : goal.loop-label-preserved
loop-label-preserved c =
    let strips = map placed c.args.strips.now in
    let labels = c.args.labels.now in
    let i = c.loop-label.label-index in
    subst (λ (notes : List Note). AreNotesOf c.args.target.now strips (places c.args.at.now) (take (i + 1) labels) notes) (sym c.in_ok-push.ensures.ok)
    (one_note_more c.args.target.now strips (places c.args.at.now) labels c.loop-label.list i c.label-item.result c.in_ok-text.text
    c.loop-label-test.true c.label-item.is c.loop-label.invariant c.in_ok-text.ensures)
