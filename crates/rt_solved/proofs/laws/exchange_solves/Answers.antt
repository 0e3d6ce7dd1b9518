use Rattle.rt_solved.proofs.Exchanges.{exchange_solves_each}
use Rattle.rt_solved.proofs.laws.exchange_solves.Goals as goal

pub returns : goal.returns
returns c = exchange_solves_each
