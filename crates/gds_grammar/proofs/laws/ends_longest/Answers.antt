use Rattle.gds_grammar.proofs.Unique.{ends_longest}
use Rattle.gds_grammar.proofs.laws.ends_longest.Goals as goal

pub returns : goal.returns
returns c = ends_longest
