use Rattle.gds_slabs.proofs.Nearness.{near_pushed, near_behind}
use Rattle.gds_slabs.proofs.areas.push_ends.Goals as goal

pub returns-in_ok-push-in-Square-clause-near : goal.returns-in_ok-push-in-Square-clause-near
returns-in_ok-push-in-Square-clause-near c =
    near_behind c.push-in-Square.result c.args.rects.now c.push.new.self c.push-in-Square.new.self c.square_rect-in-Square.result c.push-in-Square.ensures.ok
    c.square_rect-in-Square.ensures.near
    (near_pushed c.args.rects.now c.push.new.self c.square_rect.result c.in_ok-push-in-Square.ensures.ok c.square_rect.ensures.near)
