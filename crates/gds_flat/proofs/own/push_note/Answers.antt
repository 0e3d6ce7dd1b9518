use Rattle.std.proofs.Common.{FitsSigned, w32, rules, arith}
use Rattle.std.proofs.lemmas.Int.{ints}
use Rattle.std.proofs.lemmas.Result.{on_ok_weaker}
use Rattle.gds_flat.specs.Building.{SpotWithin, reach_of}
use Rattle.gds_flat.proofs.PiecesShown.{label_appended}
use Rattle.gds_flat.proofs.own.push_note.Goals as goal

pub returns : goal.returns
returns c =
    let f : FitsSigned w32 c.args.at.now.x = search rules in
    let g : FitsSigned w32 c.args.at.now.y = search rules in
    let near : SpotWithin (reach_of 0) (c.args.at.now.x, c.args.at.now.y) = record {
      left = omega (arith, ints, f);
      right = omega (arith, ints, f);
      down = omega (arith, ints, g);
      up = omega (arith, ints, g);
    } in
    on_ok_weaker c.push.result
    (λ is. label_appended c.args.offset c.args.mask c.args.at.now c.args.text.now _ _ _ c.args.items.now c.push.new.self near (omega (arith, ints, f, c.from.ensures)) (omega (arith, ints, g, c.from-2.ensures)) c.in_ok-copy.ensures is)
    c.push.ensures.ok
