-- What holds of every library that a stream holds.
use Rattle.std.specs.Prelude.{◌≡◌, ◌≢◌, ◌-◌, ◌<◌, ◌≤◌, List, length, take, drop, All, AllPairs}
use Rattle.rt_base.specs.declared.plane.Point.{Point}
use Rattle.gds_stream.specs.declared.library.Element.{Element}
use Rattle.gds_stream.specs.declared.library.Element.TheVariants.{Boundary, Path, Sref, Aref, Label, BoxShape}
use Rattle.gds_stream.specs.declared.library.Structure.{Structure}
use Rattle.gds_stream.specs.declared.library.Library.{Library}

-- a polygon has four points at least, and its last one is its first
pub record IsPolygon (points : List Point) : Type 0 where
  pub enough : 4 ≤ length points
  pub closed : take 1 points ≡ drop (length points - 1) points

-- an element is lawful: it has as many points as its kind wants, and a text fits a record
abbrev pub IsLawfulElement : Element → Type 0
IsLawfulElement (Boundary offset layer datatype points) = IsPolygon points
IsLawfulElement (Path offset layer datatype pathtype width points) = 2 ≤ length points
IsLawfulElement (Sref offset name place at) = Unit {0}
IsLawfulElement (Aref offset name place columns rows points) = length points ≡ 3
IsLawfulElement (Label offset layer texttype at text) = length text ≤ 65530
IsLawfulElement (BoxShape offset layer boxtype) = Unit {0}

-- a structure's name isn't empty and fits a record, and its elements are lawful
pub record IsLawfulStructure (structure : Structure) : Type 0 where
  pub named : 0 < length structure.name
  pub short : length structure.name ≤ 65530
  pub elements : All IsLawfulElement structure.elements

-- the library's name fits a record, its structures are lawful, and no two have one name
pub record IsLawful (library : Library) : Type 0 where
  pub short : length library.name ≤ 65530
  pub structures : All IsLawfulStructure library.structures
  pub differ : AllPairs (λ a b. a.name ≢ b.name) library.structures
