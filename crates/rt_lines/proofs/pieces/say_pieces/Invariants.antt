use Rattle.std.proofs.Common.{take}
use Rattle.rt_desk.specs.Desk.{IsSaid, OnlySays}
use Rattle.rt_lines.specs.Said.{text_of}
use Rattle.rt_lines.proofs.pieces.say_pieces.Given as goal

-- the pieces before were said, and nothing but says was done
abbrev pub invariant-loop-piece : goal.invariant-loop-piece
invariant-loop-piece g l =
    IsSaid (g.D.Desk.seen l.initial.desk) (g.D.Desk.seen l.desk) (text_of (take l.piece-index l.pieces))
    × OnlySays (g.D.Desk.seen l.initial.desk) (g.D.Desk.seen l.desk)
