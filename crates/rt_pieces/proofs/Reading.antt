-- Strips and seams that the code reads, by their numbers.
use Rattle.std.proofs.Common.{◌≡◌, ℕ, ◌<◌, List, length, get_or, map, sym, ap, ◌∙◌}
use Rattle.std.proofs.lemmas.List.Elements.{Contains-get_or}
use Rattle.rt_base.specs.Plane.{area}
use Rattle.rt_strips.specs.declared.listing.Strip.{Strip}
use Rattle.rt_strips.specs.declared.contact.Seam.{Seam}
use Rattle.rt_strips.specs.Placed.{Placed, placed}
use Rattle.rt_strips.specs.Seams.{IsSeam, AreSeamsOf}
use Rattle.rt_strips.proofs.Placed.{placed_at, strip_there}
use Rattle.rt_pieces.specs.Members.{IsOf, box_of}

-- the rectangle of a strip, and its mask
pub box_at : (strips : List Strip) (i : ℕ) (d : Strip) → i < length strips → box_of (map placed strips) i ≡ area (get_or strips i d).at
box_at strips i d h = ap (λ (p : Placed). p.area) (placed_at strips i d h)

pub on_mask : (strips : List Strip) (i : ℕ) (d : Strip) (m : ℕ) → i < length strips → (get_or strips i d).mask ≡ m → IsOf m (map placed strips) i
on_mask strips i d m h e = record { strip = strip_there strips i h; mask = ap (λ (p : Placed). p.mask) (placed_at strips i d h) ∙ e }

pub off_mask : (strips : List Strip) (i : ℕ) (d : Strip) (m : ℕ) → i < length strips → ((get_or strips i d).mask ≡ m → ⊥) → IsOf m (map placed strips) i → ⊥
off_mask strips i d m h other of = other (sym (ap (λ (p : Placed). p.mask) (placed_at strips i d h)) ∙ of.mask)

-- a seam of the list
pub seam_at : (strips : List Placed) (seams : List Seam) → AreSeamsOf strips seams → (k : ℕ) (d : Seam) → k < length seams
    → IsSeam strips (get_or seams k d).below (get_or seams k d).above
seam_at strips seams all k d h = all.each (get_or seams k d) (Contains-get_or seams k d h)
