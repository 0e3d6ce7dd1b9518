-- How far the rectangles that the sweep lists lie from the axes: their heights and columns are numbers of 32 bits.
use Rattle.std.proofs.Common.{◌≡◌, ◌^◌, ℤ, pos, List, [], ◌∷◌, ◌++◌, map, All, Result, Ok, Err, OnOk, refl, sym, ap, subst, ◌∙◌, inl, inr, arith}
use Rattle.std.specs.Prelude.{int_lt}
use Rattle.std.proofs.lemmas.Bool.{cond_both}
use Rattle.std.proofs.lemmas.Int.{ints}
use Rattle.std.proofs.lemmas.List.Elements.{All-nil, All-cons, All-append, All-push}
use Rattle.std.proofs.lemmas.List.{map-append}
use Rattle.rt_base.specs.declared.plane.Rect.{Rect}
use Rattle.rt_base.specs.Plane.{area}
use Rattle.rt_cells.specs.Rectangles.{Rectangle}
use Rattle.gds_slabs.specs.declared.toggles.Toggle.{Toggle}
use Rattle.gds_slabs.specs.Sweep.{toggled, slab, step, swept, IsSmall, IsSmallToggle}
use Rattle.gds_slabs.specs.Steps.{IsWithin, AreInReach}
use Rattle.gds_slabs.proofs.Members.{Among, among_all}
use Rattle.gds_slabs.proofs.Counts.{toggled_small}

rect_near : (left right low high : ℤ) → IsSmall left → IsSmall right → IsSmall low → IsSmall high
    → IsWithin (pos (2 ^ 32)) (record { left = left; right = right; bottom = low; top = high })
rect_near left right low high a b c d =
    let from = a.low in
    let to = b.high in
    let under = c.low in
    let over = d.high in record {
      left = omega (arith, ints);
      right = omega (arith, ints);
      bottom = omega (arith, ints);
      top = omega (arith, ints);
    }

slab_near : (low high : ℤ) (columns : List ℤ) → IsSmall low → IsSmall high → ((c : ℤ) → Among columns c → IsSmall c)
    → All (IsWithin (pos (2 ^ 32))) (slab low high columns)
slab_near low high [] l h each = All-nil (IsWithin (pos (2 ^ 32)))
slab_near low high (a ∷ []) l h each = All-nil (IsWithin (pos (2 ^ 32)))
slab_near low high (a ∷ b ∷ columns) l h each =
    All-cons (IsWithin (pos (2 ^ 32))) (record { left = a; right = b; bottom = low; top = high }) (slab low high columns)
    (rect_near a b low high (each a (inl refl)) (each b (inr (inl refl))) l h) (slab_near low high columns l h (λ c k. each c (inr (inr k))))

step_near : (low high : ℤ) (columns : List ℤ) → IsSmall low → IsSmall high → ((c : ℤ) → Among columns c → IsSmall c)
    → All (IsWithin (pos (2 ^ 32))) (step low high columns)
step_near low high columns l h each =
    cond_both (int_lt low high) (slab low high columns) [] (λ rs. All (IsWithin (pos (2 ^ 32))) rs)
    (λ _. slab_near low high columns l h each) (λ _. All-nil (IsWithin (pos (2 ^ 32))))

swept_near : (low : ℤ) (columns : List ℤ) (ts : List Toggle) → IsSmall low → ((c : ℤ) → Among columns c → IsSmall c)
    → ((t : Toggle) → Among ts t → IsSmallToggle t) → All (IsWithin (pos (2 ^ 32))) (swept low columns ts)
swept_near low columns [] l small each = All-nil (IsWithin (pos (2 ^ 32)))
swept_near low columns (t ∷ ts) l small each =
    let here = each t (inl refl) in
    All-append (IsWithin (pos (2 ^ 32))) (step low t.y columns) (swept t.y (toggled t.x columns) ts) (step_near low t.y columns l here.height small)
    (swept_near t.y (toggled t.x columns) ts here.height (toggled_small t.x columns here.column small) (λ u h. each u (inr h)))

-- the rectangles over the toggles, from a height on
pub near_swept : (low : ℤ) (ts us : List Toggle) (rects : List Rect) → IsSmall low → All IsSmallToggle ts → us ≡ ts → map area rects ≡ swept low [] us
    → AreInReach rects
near_swept low ts us rects l small same is =
    let P : List Toggle → Type 0 = λ v. All (IsWithin (pos (2 ^ 32))) (swept low [] v) in
    let Q : List Rectangle → Type 0 = λ v. All (IsWithin (pos (2 ^ 32))) v in
    record { near = subst Q (sym is) (subst P (sym same) (swept_near low [] ts l (λ c h. elim h [ ]) (λ t h. among_all IsSmallToggle ts t small h))) }

-- ---- paths

pub near_none : (rects : List Rect) → rects ≡ [] → AreInReach rects
near_none rects e = let P : List Rect → Type 0 = λ rs. AreInReach rs in subst P (sym e) (record { near = All-nil (IsWithin (pos (2 ^ 32))) })

-- one rectangle more
pub near_pushed : (old new : List Rect) (r : Rect) → new ≡ old ++ r ∷ [] → IsWithin (pos (2 ^ 32)) (area r) → AreInReach old → AreInReach new
near_pushed old new r e within h =
    let P : List Rectangle → Type 0 = λ v. All (IsWithin (pos (2 ^ 32))) v in
    record { near = subst P (sym (ap (map area) e ∙ map-append area old (r ∷ []))) (All-push (IsWithin (pos (2 ^ 32))) (map area old) (area r) h.near within) }

-- one more behind those that were appended before
pub near_behind : {T E : Type 0} (r : Result T E) (first old new : List Rect) (q : Rect) → OnOk r (new ≡ old ++ q ∷ []) → IsWithin (pos (2 ^ 32)) (area q)
    → (AreInReach first → AreInReach old) → OnOk r (AreInReach first → AreInReach new)
near_behind (Ok x) first old new q e within was = λ h. near_pushed old new q e within (was h)
near_behind (Err x) first old new q e within was = tt
