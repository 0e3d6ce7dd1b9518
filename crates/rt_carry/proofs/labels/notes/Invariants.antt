use Rattle.std.proofs.Common.{map, take}
use Rattle.rt_rows.specs.Places.{places}
use Rattle.rt_strips.specs.Placed.{placed}
use Rattle.rt_carry.specs.Texts.{AreNotesOf}
use Rattle.rt_carry.proofs.labels.notes.Given as goal

abbrev pub invariant-loop-label : goal.invariant-loop-label
invariant-loop-label l = AreNotesOf l.target (map placed l.strips) (places l.at) (take l.label-index l.labels) l.list
