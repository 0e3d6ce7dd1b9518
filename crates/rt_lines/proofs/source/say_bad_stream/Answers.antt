use Rattle.rt_lines.proofs.LineLemmas.{same_line}
use Rattle.rt_lines.proofs.source.say_bad_stream.Goals as goal

pub returns : goal.returns
returns g c = same_line _ _ _ _ _ (cc) c.say_pieces.ensures
