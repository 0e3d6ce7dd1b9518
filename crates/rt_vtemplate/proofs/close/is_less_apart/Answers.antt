use Rattle.std.proofs.Common.{rules, ◌≡◌, ℤ, ◌-ℤ◌, to_z, of_z, w64, subst₂}
use Rattle.std.specs.Int.RustNames.{FitsSigned}
use Rattle.rt_vtemplate.proofs.Closeness.{too_far}
use Rattle.rt_vtemplate.proofs.close.is_less_apart.Goals as goal

pub returns-in-None : goal.returns-in-None
returns-in-None c =
    let h : to_z w64 (of_z w64 c.args.high.now) ≡ c.args.high.now = search rules in
    let l : to_z w64 (of_z w64 c.args.low.now) ≡ c.args.low.now = search rules in
    too_far c.args.low.now c.args.high.now c.args.reach.now c.requires.order c.requires.reach
    (subst₂ (λ (a b : ℤ). ¬ FitsSigned w64 (a -ℤ b)) h l c.in-None.ensures)
