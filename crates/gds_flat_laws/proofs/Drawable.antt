-- What a stream holds can be drawn.
use Rattle.std.proofs.Common.{◌≡◌, ℕ, ◌-◌, zero, suc, List, [], ◌∷◌, length, drop, Some, sym, arith}
use Rattle.std.specs.Prelude.{slice_get}
use Rattle.rt_base.specs.declared.plane.Point.{Point}
use Rattle.gds_flat.specs.Drawn.{IsDrawable, AreDrawable}
use Rattle.gds_slabs.specs.Polygon.{IsClosed}
use Rattle.gds_stream.specs.Contents.{Stream}
use Rattle.gds_stream.specs.declared.library.Element.{Element}
use Rattle.gds_stream.specs.declared.library.Element.TheVariants.{Boundary, Path, Sref, Aref, Label, BoxShape}
use Rattle.gds_stream.specs.declared.library.Library.{Library}
use Rattle.gds_stream_laws.proofs.LawfulValues.{stream_is_lawful}
use Rattle.gds_stream_laws.specs.Lawful.{IsPolygon, IsLawfulElement}

-- the entry behind so many others
first_behind : (n : ℕ) (points : List Point) (p : Point) (rest : List Point) → drop n points ≡ p ∷ rest → slice_get points n ≡ Some p
first_behind zero [] p rest e = absurd cc
first_behind zero (q ∷ points) p rest e = cc
first_behind (suc n) [] p rest e = absurd cc
first_behind (suc n) (q ∷ points) p rest e = first_behind n points p rest e

closed : (points : List Point) → IsPolygon points → IsClosed points
closed [] polygon = let enough = polygon.enough in absurd (omega (arith, enough))
closed (p ∷ points) polygon = first_behind (length (p ∷ points) - 1) (p ∷ points) p [] (sym polygon.closed)

drawable : (e : Element) → IsLawfulElement e → IsDrawable e
drawable (Boundary offset layer datatype points) h = closed points h
drawable (Path offset layer datatype pathtype width points) h = h
drawable (Sref offset name place at) h = tt
drawable (Aref offset name place columns rows points) h = tt
drawable (Label offset layer texttype at text) h = tt
drawable (BoxShape offset layer boxtype) h = tt

-- the elements of a stream's structures can be drawn
pub stream_is_drawable : (bytes : List ℕ) (library : Library) → Stream bytes library → AreDrawable library.structures
stream_is_drawable bytes library stream i s h j e k = drawable _ (((stream_is_lawful bytes library stream).structures i s h).elements j e k)
