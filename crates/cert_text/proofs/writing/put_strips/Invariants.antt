use Rattle.std.proofs.Common.{◌≡◌, ◌++◌}
use Rattle.std.specs.List.{flat_map}
use Rattle.cert_lines.specs.Lines.{line_text}
use Rattle.cert_text.specs.Claims.{each_strip, strip_line}
use Rattle.cert_text.proofs.writing.put_strips.Given as goal

-- the lines of the strips before were written
abbrev pub invariant-loop-i : goal.invariant-loop-i
invariant-loop-i l = l.out.items ≡ l.initial.out.items ++ flat_map line_text (each_strip (strip_line l.at) l.i)
