use Rattle.std.proofs.Common.{sym}
use Rattle.std.proofs.lemmas.Result.{IfOk-weaker}
use Rattle.gds_flat.specs.Counting.{HasOwnCount, HasCountOn}
use Rattle.gds_flat.proofs.Counting.{mask_counted}
use Rattle.gds_flat.proofs.counts.own_count.Goals as goal

pub returns-in-Some : goal.returns-in-Some
returns-in-Some c =
    IfOk-weaker c.count_on.result (HasCountOn c.args.element.now) (HasOwnCount c.args.tech.now c.args.element.now)
    (λ n. mask_counted c.args.tech.now c.args.element.now c.in-Some.field-0 n (sym c.in-Some.ensures)) c.count_on.ensures
