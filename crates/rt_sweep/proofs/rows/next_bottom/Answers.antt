use Rattle.std.proofs.Common.{w64, inl, subst}
use Rattle.std.proofs.lemmas.Int.{to_z-of_z}
use Rattle.rt_sweep.specs.Rows.{GoOn}
use Rattle.rt_sweep.proofs.rows.next_bottom.Goals as goal

pub returns-then-goes_on : goal.returns-then-goes_on
returns-then-goes_on c =
    let same = to_z-of_z w64 c.args.height c.ranges.height in
    record { either = inl (subst (GoOn c.args.active.now) same c.if-goes_on.ensures, same) }
