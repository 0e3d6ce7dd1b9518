-- The strips of the code that may go on as those of the definitions.
use Rattle.rt_strips.specs.declared.one_mask.stack.Going.{Going}
use Rattle.rt_strips.specs.Stacks.{Opened}

-- the piece's columns and top, and its strip's place
abbrev pub opened : Going → Opened
opened o = record { place = o.place; left = o.at.x1; right = o.at.x2; top = o.at.y2 }
