-- The seams are where tops and bottoms meet.
use Rattle.std.proofs.Common.{ℕ, ◌<◌, ◌≤◌, ◌^◌, List, length, map, get_or, sym, subst, subst₂, arith}
use Rattle.std.proofs.lemmas.List.{get_or-map, length-map}
use Rattle.std.proofs.lemmas.List.Elements.{Contains-get_or}
use Rattle.rt_cells.proofs.Lists.{mapped, mapped_from}
use Rattle.rt_strips.specs.declared.contact.Seam.{Seam}
use Rattle.rt_strips.specs.declared.meeting.Meeting.{Meeting}
use Rattle.rt_strips.specs.declared.listing.Strip.{Strip}
use Rattle.rt_strips.specs.Placed.{Placed, placed}
use Rattle.rt_strips.specs.Seams.{IsSeam, AreSeamsOf}
use Rattle.rt_strips.specs.Meetings.{AreMeetingsOf}
use Rattle.rt_strips.proofs.Placed.{strip_below}

-- the seam of a meeting
abbrev pub seam_at : Meeting → Seam
seam_at m = record { below = m.below; above = m.above }

pub are_seams : (strips : List Placed) (found : List Meeting) → AreMeetingsOf strips found → AreSeamsOf strips (map seam_at found)
are_seams strips found are = record {
  each = λ seam c.
      let m = mapped_from seam_at found seam c in
      subst (λ (s : Seam). IsSeam strips s.below s.above) m.2 (are.each m.0 m.1);
  every = λ i j s. mapped seam_at found (record { below = i; above = j }) (are.every i j s);
  upwards = λ i j d h g.
      let none : Meeting = record { below = 0; above = 0 } in
      let l : j < length found = omega (arith, g, length-map found seam_at) in
      let k : i < length found = omega (arith, h, l) in
      subst₂ (λ (a b : Seam). a.above ≤ b.above) (sym (get_or-map seam_at found i none d k)) (sym (get_or-map seam_at found j none d l)) (are.upwards i j none h l);
}

-- the numbers of a meeting are those of strips
pub numbers_fit : (strips : List Strip) (found : List Meeting) (k : ℕ) (d : Meeting) → AreMeetingsOf (map placed strips) found → k < length found → length strips < 2 ^ 32
    → ((get_or found k d).below < 2 ^ 32) × ((get_or found k d).above < 2 ^ 32)
numbers_fit strips found k d are h few =
    let s = are.each (get_or found k d) (Contains-get_or found k d h) in
    let i = strip_below strips (get_or found k d).below s.one_mask.first in
    let j = strip_below strips (get_or found k d).above s.one_mask.second in
    (omega (arith, i, few), omega (arith, j, few))
