use Rattle.rt_sizes.specs.Wishes.{AreWishes}
use Rattle.rt_sizes.proofs.Refusing.{refuses_sizes}
use Rattle.rt_sizes.proofs.wishing.wishes.Goals as goal

pub returns-in-Err-clause-err : goal.returns-in-Err-clause-err
returns-in-Err-clause-err c =
    refuses_sizes (AreWishes c.args.sizes.now c.args.kinds.now) _ c.in-Err.stop _ c.in-Err.ensures c.bad_sizes.ensures
