use Rattle.std.proofs.Common.{◌≡◌, ◌-ℤ◌, unsigned_abs, rules}
use Rattle.std.proofs.lemmas.Int.{ints}
use Rattle.gds_flat.proofs.Leading.{leads_by}
use Rattle.gds_flat.proofs.steps.divides.Goals as goal

pub returns : goal.returns
returns c =
    let way : c.unsigned_abs.result ≡ unsigned_abs (c.args.to.now -ℤ c.args.from.now) = search (rules, ints) in
    let count : c.from-3.result ≡ unsigned_abs c.args.count.now = search rules in
    leads_by c.args.count.now (c.args.to.now -ℤ c.args.from.now) c.unsigned_abs.result c.from-3.result way count
