-- Positions that meet both templates can be drawn, and the shapes of a drawing come one after another.
use Rattle.std.proofs.Common.{◌≡◌, ℕ, ◌+◌, ◌<◌, ℤ, pos, ◌*ℤ◌, ◌≤ℤ◌, ◌<ℤ◌, List, [], ◌∷◌, ◌++◌, map, length, get_or, take, Some, refl, sym, ap, subst, ◌∙◌, arith}
use Rattle.std.proofs.lemmas.Int.{ints}
use Rattle.std.proofs.lemmas.List.{length-map, map_more, take_all}
use Rattle.std.proofs.lemmas.Option.{slice_get_read}
use Rattle.rt_view.specs.declared.job.Job.{Job}
use Rattle.rt_view.specs.Job.{strips_of, IsJob}
use Rattle.rt_rows.specs.declared.positions.TheConstants.{EXTENT_LIMIT}
use Rattle.rt_rows.specs.declared.row.Var.{Var}
use Rattle.rt_rows.specs.declared.row.Var.TheVariants.{L, R, B, T, Width, Height}
use Rattle.rt_strips.specs.declared.listing.Strip.{Strip}
use Rattle.rt_strips.specs.Placed.{placed, no_strip, mask_of}
use Rattle.rt_strips.proofs.Placed.{strip_there, strip_is}
use Rattle.rt_tech.specs.declared.table.Mask.{Mask}
use Rattle.rt_tech.specs.declared.table.Tech.{Tech}
use Rattle.rt_tech.specs.Tech.{mask_at}
use Rattle.rt_template.specs.Horizontal.{MeetsAcross}
use Rattle.rt_template.specs.Vertical.{MeetsUpwards}
use Rattle.rt_template.specs.Drawing.{drawn_area, drawn}
use Rattle.rt_moved.proofs.Drawn.{length_drawn_from, drawn_at}
use Rattle.rt_moved.proofs.Extents.{strip_fits, width_fits, height_fits}
use Rattle.rt_moved.proofs.Source.{on_target}
use Rattle.gds_stream.specs.declared.cell.Shape.{Shape}
use Rattle.rt_carry.specs.Shapes.{shape_of, layer_of_mask, datatype_of_mask, IsInExtent}
use Rattle.rt_carry.specs.Drawings.{strip_drawn, CanBeDrawn}
use Rattle.rt_carry.proofs.Sides.{shape_from}

low_side : (low high extent : ℤ) → pos 0 ≤ℤ low → low <ℤ high → high ≤ℤ extent → extent ≤ℤ EXTENT_LIMIT → IsInExtent low
low_side low high extent a b c d = record { low = a; high = omega (arith, ints) }

high_side : (low high extent : ℤ) → pos 0 ≤ℤ low → low <ℤ high → high ≤ℤ extent → extent ≤ℤ EXTENT_LIMIT → IsInExtent high
high_side low high extent a b c d = record { low = omega (arith, ints); high = omega (arith, ints) }

-- positions that meet both templates can be drawn
pub can_be_drawn : (job : Job) (at : Var → ℤ) → IsJob job → MeetsAcross job at → MeetsUpwards job at at → CanBeDrawn job.target (strips_of job) at
can_be_drawn job at is across upwards = record {
  grid = is.job_of.target.grid;
  masks = on_target job is;
  sides = λ i h.
      let f = strip_fits job is at across upwards i h in
      let width = (width_fits job is at across upwards).high in
      let height = (height_fits job is at across upwards).high in
      record {
        left = low_side (at (L i)) (at (R i)) (at Width) f.left f.nonempty.across f.right width;
        right = high_side (at (L i)) (at (R i)) (at Width) f.left f.nonempty.across f.right width;
        bottom = low_side (at (B i)) (at (T i)) (at Height) f.bottom f.nonempty.upwards f.top height;
        top = high_side (at (B i)) (at (T i)) (at Height) f.bottom f.nonempty.upwards f.top height;
      };
}

-- the mask of strip i
mask_is : (strips : List Strip) (i : ℕ) (strip : Strip) → i < length strips → strip ≡ get_or strips i strip → mask_of (map placed strips) i ≡ strip.mask
mask_is strips i strip h is = ap (λ p. p.mask) (strip_is strips i strip h is)

-- it is one of the table's
pub mask_there : (target : Tech) (strips : List Strip) (at : Var → ℤ) (i : ℕ) (strip : Strip) (masks : List Mask) → CanBeDrawn target (map placed strips) at
    → i < length strips → strip ≡ get_or strips i strip → masks ≡ target.masks → strip.mask < length masks
mask_there target strips at i strip masks drawable h is same =
    subst (λ xs. strip.mask < length xs) (sym same) (subst (λ m. m < length target.masks) (mask_is strips i strip h is) (drawable.masks i (strip_there strips i h)))

-- a shape on the mask of strip i, at its positions
pub shape_is : (target : Tech) (at : Var → ℤ) (strips : List Strip) (i : ℕ) (strip : Strip) (mask : Mask) (masks : List Mask) (layer datatype x1 y1 x2 y2 : ℤ)
    → CanBeDrawn target (map placed strips) at → i < length strips → strip ≡ get_or strips i strip → masks ≡ target.masks → mask ≡ get_or masks strip.mask mask
    → layer ≡ mask.layer → datatype ≡ mask.datatype
    → x1 ≡ target.grid *ℤ at (L i) → y1 ≡ target.grid *ℤ at (B i) → x2 ≡ target.grid *ℤ at (R i) → y2 ≡ target.grid *ℤ at (T i)
    → ◌≡◌ {A = Shape} (record { layer = layer; datatype = datatype; x1 = x1; y1 = y1; x2 = x2; y2 = y2 }) (shape_of target (strip_drawn target.grid at (map placed strips) i))
shape_is target at strips i strip mask masks layer datatype x1 y1 x2 y2 drawable h is same found a b c d e f =
    let read : mask_at target (mask_of (map placed strips) i) ≡ Some mask =
    subst (λ m. mask_at target m ≡ Some mask) (sym (mask_is strips i strip h is))
    (slice_get_read target.masks (length target.masks) strip.mask mask refl (mask_there target strips at i strip target.masks drawable h is refl) (subst (λ xs. mask ≡ get_or xs strip.mask mask) same found)) in
    shape_from (mask_at target (mask_of (map placed strips) i)) (drawn_area target.grid at i) layer datatype x1 y1 x2 y2
    (a ∙ ap layer_of_mask (sym read)) (b ∙ ap datatype_of_mask (sym read)) c d e f

-- the shapes of the first strips and that of the next one
pub one_shape_more : (target : Tech) (at : Var → ℤ) (strips : List Strip) (i : ℕ) → i < length strips
    → map (shape_of target) (take (i + 1) (drawn target.grid at (map placed strips)))
    ≡ map (shape_of target) (take i (drawn target.grid at (map placed strips))) ++ shape_of target (strip_drawn target.grid at (map placed strips) i) ∷ []
one_shape_more target at strips i h =
    let grid = target.grid in
    let list = map placed strips in
    let here = (strip_there strips i h).below_count in
    map_more (shape_of target) (drawn grid at list) i no_strip (subst (λ n. i < n) (sym (length_drawn_from grid at 0 list)) here)
    ∙ ap (λ p. map (shape_of target) (take i (drawn grid at list)) ++ shape_of target p ∷ []) (drawn_at grid at list i here)

-- the shapes of all strips
pub all_shapes : (target : Tech) (at : Var → ℤ) (strips : List Strip) (i : ℕ) → i ≡ length strips
    → map (shape_of target) (take i (drawn target.grid at (map placed strips))) ≡ map (shape_of target) (drawn target.grid at (map placed strips))
all_shapes target at strips i e =
    let count = length_drawn_from target.grid at 0 (map placed strips) ∙ length-map strips placed in
    ap (map (shape_of target)) (take_all i (drawn target.grid at (map placed strips)) (omega arith))
