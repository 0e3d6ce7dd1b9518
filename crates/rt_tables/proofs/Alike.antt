-- What two tables of one form have in common.
use Rattle.std.proofs.Common.{◌≡◌, map, length, sym, ap, ◌∙◌}
use Rattle.std.proofs.lemmas.Simd.{map-map}
use Rattle.std.proofs.lemmas.List.{length-map}
use Rattle.rt_tech.specs.Tech.{mask_count}
use Rattle.rt_tech.specs.declared.table.Mask.{Mask}
use Rattle.rt_tech.specs.declared.table.Tech.{Tech}
use Rattle.rt_tables.specs.Forms.{mask_form, HaveSameForm}

-- the form is the same both ways
pub same_form_sym : (s t : Tech) → HaveSameForm s t → HaveSameForm t s
same_form_sym s t h = record { same = sym h.same }

-- as many masks
pub same_mask_count : (s t : Tech) → HaveSameForm s t → mask_count s ≡ mask_count t
same_mask_count s t h = sym (length-map s.masks (mask_form s)) ∙ ap (λ f. length f.masks) h.same ∙ length-map t.masks (mask_form t)

-- the same roles, in order
pub same_roles : (s t : Tech) → HaveSameForm s t → map (λ (mask : Mask). mask.role) s.masks ≡ map (λ (mask : Mask). mask.role) t.masks
same_roles s t h =
    sym (map-map (λ f. f.role) (mask_form s) s.masks) ∙ ap (λ f. map (λ m. m.role) f.masks) h.same ∙ map-map (λ f. f.role) (mask_form t) t.masks
