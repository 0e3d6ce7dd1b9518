-- What each element says of itself.
use Rattle.std.specs.Prelude.{ℕ, List, Option, Some, None}
use Rattle.gds_stream.specs.declared.library.Element.{Element}
use Rattle.gds_stream.specs.declared.library.Element.TheVariants.{Boundary, Path, Sref, Aref, Label, BoxShape}

-- the place of its first byte in the stream
abbrev pub offset_of : Element → ℕ
offset_of (Boundary offset layer datatype points) = offset
offset_of (Path offset layer datatype pathtype width points) = offset
offset_of (Sref offset name place at) = offset
offset_of (Aref offset name place columns rows points) = offset
offset_of (Label offset layer texttype at text) = offset
offset_of (BoxShape offset layer boxtype) = offset

-- the name of the structure that it places, if it places one
abbrev pub target_of : Element → Option (List ℕ)
target_of (Boundary offset layer datatype points) = None
target_of (Path offset layer datatype pathtype width points) = None
target_of (Sref offset name place at) = Some name
target_of (Aref offset name place columns rows points) = Some name
target_of (Label offset layer texttype at text) = None
target_of (BoxShape offset layer boxtype) = None
