use Rattle.std.proofs.Common.{◌≡◌, ◌++◌, take, map}
use Rattle.std.specs.List.{flat_map}
use Rattle.cert_lines.specs.Lines.{line_text}
use Rattle.cert_text.specs.Claims.{share_line}
use Rattle.cert_text.proofs.writing.put_shares.Given as goal

-- the lines of the shares before were written
abbrev pub invariant-loop-share : goal.invariant-loop-share
invariant-loop-share l = l.out.items ≡ l.initial.out.items ++ flat_map line_text (map share_line (take l.share-index l.shares))
