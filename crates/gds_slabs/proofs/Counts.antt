-- The number of the rectangles that the sweep lists fits 64 bits, since heights and columns are numbers of 32 bits.
use Rattle.std.proofs.Common.{Ordering, Less, Equal, Greater, ◌≡◌, ℕ, ◌+◌, ◌-◌, ◌*◌, ◌/◌, ◌^◌, ◌<◌, ◌≤◌, min, ℤ, pos, ◌+ℤ◌, ◌⊎◌, cond, List, [], ◌∷◌, length, All, refl, sym, ◌∙◌, ap, subst, inl, inr, arith}
use Rattle.std.specs.Ordering.{match_ordering, int_cmp, int_eq}
use Rattle.std.specs.List.{list_any}
use Rattle.std.specs.List.Sorted.{IsPermutation}
use Rattle.std.specs.Set.{remove_key}
use Rattle.std.specs.BTreeSet.{insert_key}
use Rattle.std.proofs.lemmas.Bool.{cond_both}
use Rattle.std.proofs.lemmas.Int.{ints, by_lt_z}
use Rattle.rt_cells.proofs.Lines.{distance}
use Rattle.rt_base.specs.declared.plane.Point.{Point}
use Rattle.gds_slabs.specs.declared.toggles.Toggle.{Toggle}
use Rattle.gds_slabs.specs.Polygon.{IsClosed, IsSlanted}
use Rattle.gds_slabs.specs.Slabs.{IsSlabCount}
use Rattle.gds_slabs.specs.Sweep.{toggles, toggled, step, swept, Ascending, AreAscending, IsSmall, IsSmallToggle}
use Rattle.gds_slabs.proofs.Members.{Among, among_all}
use Rattle.gds_slabs.proofs.Odds.{Beyond, Rising, toggled_rising}
use Rattle.gds_slabs.proofs.Levels.{lt_no, lt_yes}
use Rattle.gds_slabs.proofs.Listing.{length_step, length_swept}
use Rattle.gds_slabs.proofs.Polygons.{start_anywhere, slabs_swept}

length_beyond : (n : ℕ) (a : ℤ) (columns : List ℤ) → Beyond a columns → ((c : ℤ) → Among columns c → IsSmall c) → pos (2 ^ 31) ≡ a +ℤ pos n
    → length columns ≤ n
length_beyond n a [] k small e = omega arith
length_beyond n a (c ∷ columns) k small e =
    let high = (small c (inl refl)).high in
    let d = distance c (pos (2 ^ 31)) (omega (arith, ints)) in
    let more = length_beyond d.0 c columns k.1 (λ z h. small z (inr h)) d.1 in
    let rises = k.0 in
    let shorter : d.0 < n = omega (arith, ints, d.1) in
    omega arith

-- there are 2^32 columns at most, and so 2^31 pairs
half_of_columns : (columns : List ℤ) → Rising columns → ((c : ℤ) → Among columns c → IsSmall c) → length columns / 2 ≤ 2 ^ 31
half_of_columns [] k small = omega arith
half_of_columns (c ∷ columns) k small =
    let low = (small c (inl refl)).low in
    let high = (small c (inl refl)).high in
    let d = distance c (pos (2 ^ 31)) (omega (arith, ints)) in
    let more = length_beyond d.0 c columns k (λ z h. small z (inr h)) d.1 in
    let short : d.0 ≤ 2 ^ 32 = omega (arith, ints, d.1) in
    omega arith

among_put : (x c z : ℤ) (columns rest : List ℤ) (r : Ordering) → (Among rest z → (x ≡ z) ⊎ Among columns z)
    → Among (match_ordering r (x ∷ c ∷ columns) (c ∷ columns) (c ∷ rest)) z → (x ≡ z) ⊎ Among (c ∷ columns) z
among_put x c z columns rest Less more h = h
among_put x c z columns rest Equal more h = inr h
among_put x c z columns rest Greater more (inl e) = inr (inl e)
among_put x c z columns rest Greater more (inr h) = elim (more h) [ inl e ↦ inl e | inr k ↦ inr (inr k) ]

among_inserted : (x z : ℤ) (columns : List ℤ) → Among (insert_key int_cmp columns x) z → (x ≡ z) ⊎ Among columns z
among_inserted x z [] h = h
among_inserted x z (c ∷ columns) h = among_put x c z columns (insert_key int_cmp columns x) (int_cmp x c) (among_inserted x z columns) h

among_removed : (x z : ℤ) (columns : List ℤ) → Among (remove_key (int_eq x) columns) z → Among columns z
among_removed x z [] h = h
among_removed x z (c ∷ columns) h =
    cond_both (int_eq x c) columns (c ∷ remove_key (int_eq x) columns) (λ v. Among v z → Among (c ∷ columns) z)
    (λ _ k. inr k) (λ _ k. elim k [ inl e ↦ inl e | inr m ↦ inr (among_removed x z columns m) ]) h

among_toggled : (x z : ℤ) (columns : List ℤ) → Among (toggled x columns) z → (x ≡ z) ⊎ Among columns z
among_toggled x z columns h =
    cond_both (list_any (int_eq x) columns) (remove_key (int_eq x) columns) (insert_key int_cmp columns x) (λ v. Among v z → (x ≡ z) ⊎ Among columns z)
    (λ _ k. inr (among_removed x z columns k)) (λ _ k. among_inserted x z columns k) h

pub toggled_small : (x : ℤ) (columns : List ℤ) → IsSmall x → ((c : ℤ) → Among columns c → IsSmall c) → (c : ℤ) → Among (toggled x columns) c → IsSmall c
toggled_small x columns s small c h = elim (among_toggled x c columns h) [ inl e ↦ subst IsSmall e s | inr k ↦ small c k ]

-- 2^31 rectangles at most for each row that is left
length_bound : (n : ℕ) (low : ℤ) (columns : List ℤ) (ts : List Toggle) → Rising columns → ((c : ℤ) → Among columns c → IsSmall c)
    → Ascending low ts → ((t : Toggle) → Among ts t → IsSmallToggle t) → pos (2 ^ 31) ≡ low +ℤ pos n → length (swept low columns ts) ≤ n * 2 ^ 31
length_bound n low columns [] k small asc each e = omega arith
length_bound n low columns (t ∷ ts) k small asc each e =
    let here = each t (inl refl) in
    let high = here.height.high in
    let rises = asc.0 in
    let d = distance t.y (pos (2 ^ 31)) (omega (arith, ints)) in
    let more = length_bound d.0 t.y (toggled t.x columns) ts (toggled_rising t.x columns k) (toggled_small t.x columns here.column small) asc.1 (λ u h. each u (inr h)) d.1 in
    let half = half_of_columns columns k small in
    let parts = length_swept low columns t ts in
    by_lt_z low t.y
    (λ l.
    let first : length (step low t.y columns) ≡ length columns / 2 = length_step low t.y columns ∙ ap (λ b. cond b (length columns / 2) 0) (lt_yes low t.y l) in
    let shorter : d.0 + 1 ≤ n = omega (arith, ints, d.1) in
    omega arith)
    (λ l.
    let first : length (step low t.y columns) ≡ 0 = length_step low t.y columns ∙ ap (λ b. cond b (length columns / 2) 0) (lt_no low t.y l) in
    let shorter : d.0 ≤ n = omega (arith, ints, d.1) in
    omega arith)

count_fits : (low : ℤ) (ts : List Toggle) → AreAscending ts → All IsSmallToggle ts → length (swept low [] ts) < 2 ^ 64
count_fits low [] asc each = omega arith
count_fits low (t ∷ ts) asc each =
    let here = among_all IsSmallToggle (t ∷ ts) t each (inl refl) in
    let bottom = here.height.low in
    let high = here.height.high in
    let d = distance t.y (pos (2 ^ 31)) (omega (arith, ints)) in
    let bound = length_bound d.0 t.y [] (t ∷ ts) tt (λ c h. elim h [ ]) (omega (arith, ints), asc) (λ u h. among_all IsSmallToggle (t ∷ ts) u each h) d.1 in
    let short : d.0 ≤ 2 ^ 32 = omega (arith, ints, d.1) in
    let same = ap length (start_anywhere low t ts) in
    omega arith

-- the number of what the sweep over the sorted toggles lists is that of the slabs
pub count_swept : (points : List Point) → IsClosed points → (IsSlanted points → ⊥) → (ts : List Toggle) → IsPermutation (toggles points) ts → AreAscending ts
    → All IsSmallToggle ts → (us : List Toggle) → us ≡ ts → (low : ℤ) (count : ℕ) → count ≡ min (length (swept low [] us)) (2 ^ 64 - 1) → IsSlabCount points count
count_swept points closed straight ts p k small us same low count e =
    let fits : length (swept low [] us) < 2 ^ 64 = subst (λ v. length (swept low [] v) < 2 ^ 64) (sym same) (count_fits low ts k small) in
    (swept low [] us, slabs_swept points closed straight ts p k us same low (swept low [] us) refl, omega arith)
