use Rattle.rt_run.specs.Given.{names_in, contents_in}
use Rattle.rt_run.proofs.MeaningLemmas.{of_contents}
use Rattle.rt_run.proofs.running.retarget_files.Goals as goal

pub returns-in-Ok-clause-means : goal.returns-in-Ok-clause-means
returns-in-Ok-clause-means g c =
    of_contents (contents_in c.in-Ok.files) (names_in c.args.names.now) _ (g.D.Desk.seen c.fetch_all.new.desk) _ c.move_cell.result
    c.in-Ok.ensures.fetched c.fetch_all.ensures.stays c.move_cell.ensures.means
