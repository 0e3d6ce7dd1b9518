-- The names that seams tell.
use Rattle.std.proofs.Common.{ℕ, ◌+◌, ◌<◌, List, length, get_or, sym, subst, ◌∙◌}
use Rattle.std.proofs.lemmas.List.{get_or_default}
use Rattle.rt_rows.specs.declared.name.Name.{Name}
use Rattle.rt_strips.specs.declared.contact.Seam.{Seam}
use Rattle.rt_strips.specs.Placed.{Placed}
use Rattle.rt_strips.specs.Standing.{StandsOn}
use Rattle.rt_strips.specs.Seams.{AreSeamsOf}
use Rattle.rt_strips.proofs.Marks.{standing_seam}
use Rattle.rt_vtemplate.specs.Added.{AreAdded, IsOfFirst}
use Rattle.rt_vtemplate.specs.Kinds.{IsOfStanding, IsOfTwo}
use Rattle.rt_vtemplate.specs.Steps.{no_seam, IsOfSeam}
use Rattle.rt_vtemplate.proofs.Added.{added_more, added_as}

-- the names of one more seam are added
pub seam_more : (strips : List Placed) (seams : List Seam) (k : ℕ) (d : Seam) (a b c : List Name) → k < length seams
    → AreAdded (IsOfFirst (IsOfSeam strips seams) k) a b → AreAdded (IsOfStanding strips (get_or seams k d).below (get_or seams k d).above) b c
    → AreAdded (IsOfFirst (IsOfSeam strips seams) (k + 1)) a c
seam_more strips seams k d a b c h f g =
    added_more (IsOfSeam strips seams) k a b c f
    (subst (λ (s : Seam). AreAdded (IsOfStanding strips s.below s.above) b c) (get_or_default seams k d no_seam h) g)

stands : (strips : List Placed) (i j : ℕ) (name : Name) → IsOfStanding strips i j name → StandsOn strips i j
stands strips i j name (IsOfStanding.on s) = s
stands strips i j name (IsOfStanding.under s) = s

-- with those of all seams, the names of each two strips of which one stands on the other
pub seams_tell : (strips : List Placed) (seams : List Seam) (a b : List Name) → AreSeamsOf strips seams
    → AreAdded (IsOfFirst (IsOfSeam strips seams) (length seams)) a b → AreAdded (IsOfTwo (IsOfStanding strips)) a b
seams_tell strips seams a b are f =
    added_as (IsOfFirst (IsOfSeam strips seams) (length seams)) (IsOfTwo (IsOfStanding strips)) a b f
    (λ name k. record { first = (get_or seams k.number no_seam).below; second = (get_or seams k.number no_seam).above; of_kind = k.of_kind })
    (λ name t. told name t)
  where
    told : (name : Name) → IsOfTwo (IsOfStanding strips) name → IsOfFirst (IsOfSeam strips seams) (length seams) name
    told name t =
        let s : Seam = record { below = t.first; above = t.second } in
        let c = are.every t.first t.second (standing_seam strips t.first t.second (stands strips t.first t.second name t.of_kind)) in
        record {
          number = c.0;
          below = c.1;
          of_kind = subst (λ (r : Seam). IsOfStanding strips r.below r.above name) (sym c.2 ∙ get_or_default seams c.0 s no_seam c.1) t.of_kind;
        }
