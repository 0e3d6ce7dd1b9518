use Rattle.std.proofs.Common.{ℕ, List, subst, sym}
use Rattle.rt_strips.specs.Table.{IsJoined}
use Rattle.rt_strips.proofs.Bits.{joined}
use Rattle.rt_strips.proofs.climbing.join.Goals as goal

pub returns : goal.returns
returns c =
    subst (λ (l : List ℕ). IsJoined c.args.width c.args.below c.args.above c.args.words.now l) (sym c.set_bit.ensures)
    (joined c.args.width c.args.below c.args.above c.args.words.now c.take_row.new.words c.requires.wide c.requires.fits c.take_row.ensures)
