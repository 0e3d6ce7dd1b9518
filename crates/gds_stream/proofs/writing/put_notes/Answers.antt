use Rattle.gds_stream.specs.declared.cell.Note.{Note}
use Rattle.gds_stream.specs.Written.{note_records, FitsNote}
use Rattle.gds_stream.proofs.Joined.{put_more}
use Rattle.gds_stream.proofs.writing.put_notes.Goals as goal

pub loop-note-preserved : goal.loop-note-preserved
loop-note-preserved c =
    put_more Note note_records FitsNote c.args.notes.now c.loop-note.note-index _ c.note-item.result c.args.out.now.items c.loop-note.out.items c.put_note.new.out.items
    c.loop-note-test.true c.note-item.is c.loop-note.invariant.0 c.in_ok-put_note.ensures.ok c.loop-note.invariant.1 c.in_ok-put_note.ensures.fits
