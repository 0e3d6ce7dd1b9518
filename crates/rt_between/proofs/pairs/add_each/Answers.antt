use Rattle.std.proofs.Common.{List, ◌+◌, ℕ, sym, subst}
use Rattle.rt_between.specs.Pairing.{AreEachAdded}
use Rattle.rt_between.proofs.Owned.{one_added}
use Rattle.rt_between.proofs.pairs.add_each.Goals as goal

pub loop-i-preserved : goal.loop-i-preserved
loop-i-preserved c =
    subst (λ (pairs : List (ℕ × ℕ)). AreEachAdded (c.loop-i.i + 1) c.args.pairs.now pairs) (sym c.in_ok-push.ensures.ok)
    (one_added c.loop-i.i c.args.pairs.now c.loop-i.pairs c.loop-i.invariant)
