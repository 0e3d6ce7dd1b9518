use Rattle.std.proofs.Common.{take}
use Rattle.std.specs.List.{flat_map}
use Rattle.rt_desk.specs.Desk.{IsSaid, OnlySays}
use Rattle.rt_lines.specs.Lines.{named}
use Rattle.rt_lines.proofs.source.say_names.Given as goal

-- the names before were said, and nothing but says was done
abbrev pub invariant-loop-name : goal.invariant-loop-name
invariant-loop-name g l =
    IsSaid (g.D.Desk.seen l.initial.desk) (g.D.Desk.seen l.desk) (flat_map named (take l.name-index l.names))
    × OnlySays (g.D.Desk.seen l.initial.desk) (g.D.Desk.seen l.desk)
