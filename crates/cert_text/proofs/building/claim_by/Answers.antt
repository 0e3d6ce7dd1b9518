use Rattle.cert_text.proofs.Builders.{from_kept, done_known}
use Rattle.cert_text.proofs.building.claim_by.Goals as goal

pub returns-in_ok-claim-in-Done : goal.returns-in_ok-claim-in-Done
returns-in_ok-claim-in-Done c =
    done_known c.in_ok-claim-in-Done.claim c.args.line.now c.in-Done.width c.in-Done.height _ _ c.args.header.now c.args.body.now c.in-Done.is
    (from_kept c.in-Done.width c.place.result c.place.ensures) (from_kept c.in-Done.height c.place-in-Done.result c.place-in-Done.ensures)
    c.in_ok-claim-in-Done.ensures
