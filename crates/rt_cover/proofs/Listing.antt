-- Rectangles and strips as bars, one after another.
use Rattle.std.proofs.Common.{◌≡◌, ℕ, ◌+◌, ◌<◌, List, [], ◌∷◌, ◌++◌, length, get_or, map, Contains, sym, ap, subst, ◌∙◌, refl, arith, inl, inr}
use Rattle.std.specs.Prelude.{IsPermutation}
use Rattle.std.proofs.lemmas.List.{get_or_default}
use Rattle.std.proofs.lemmas.List.Elements.{Contains-push, Contains-push_cases, Contains-append_left}
use Rattle.std.proofs.lemmas.List.Sorted.{Contains-permutation, IsPermutation-sym}
use Rattle.rt_cells.proofs.Numbers.{last_or_before}
use Rattle.rt_base.specs.declared.plane.Rect.{Rect}
use Rattle.rt_base.specs.Plane.{area}
use Rattle.rt_sweep.specs.declared.bar.Bar.{Bar}
use Rattle.rt_strips.specs.declared.listing.Strip.{Strip}
use Rattle.rt_strips.specs.Placed.{Placed, placed}
use Rattle.rt_strips.proofs.Placed.{strip_is, strip_there}
use Rattle.rt_cover.specs.Bars.{IsOf, IsAreaBar, IsStripBar, HasStripBar, AreBarsOf}

-- no bars yet
pub no_bars : (m : ℕ) (strips : List Placed) (areas : List Rect) → AreBarsOf m strips 0 areas 0 []
no_bars m strips areas = record {
  each = λ bar c. absurd (omega (arith, c.1));
  each_area = λ t d h. absurd (omega arith);
  each_strip = λ i h. absurd (omega arith);
}

-- one rectangle more
pub area_more : (m : ℕ) (strips : List Placed) (areas : List Rect) (k : ℕ) (at : Rect) (bars : List Bar) → k < length areas → at ≡ get_or areas k at
    → AreBarsOf m strips 0 areas k bars → AreBarsOf m strips 0 areas (k + 1) (bars ++ record { at = at; tag = k } ∷ [])
area_more m strips areas k at bars h is so_far =
    let bar : Bar = record { at = at; tag = k } in
    record {
      each = λ x c. elim (Contains-push_cases bars bar x c) [
        | inl old ↦ elim (so_far.each x old) [
          | inl a ↦ inl (record { below = omega (arith, a.below); at = a.at })
          | inr s ↦ inr s
        ]
        | inr same ↦
            inl (subst (IsAreaBar areas (k + 1)) same (record { below = omega arith; at = λ d. get_or_default areas k d at h ∙ sym is }))
      ];
      each_area = λ t d l. elim (last_or_before k t l) [
        | inl same ↦
            subst (λ n. Contains (bars ++ bar ∷ []) (record { at = get_or areas n d; tag = n })) (sym same)
            (subst (λ r. Contains (bars ++ bar ∷ []) (record { at = r; tag = k })) (sym (get_or_default areas k d at h ∙ sym is)) (Contains-push bars bar))
        | inr less ↦ Contains-append_left bars (bar ∷ []) (record { at = get_or areas t d; tag = t }) (so_far.each_area t d less)
      ];
      each_strip = λ i l. absurd (omega arith);
    }

older : (m : ℕ) (strips : List Placed) (n tag : ℕ) (bar : Bar) → IsStripBar m strips n tag bar → IsStripBar m strips (n + 1) tag bar
older m strips n tag bar s = record { number = s.number; below = omega (arith, s.below); of_mask = s.of_mask; tagged = s.tagged; at = s.at }

-- one strip of the mask more
pub strip_more : (m : ℕ) (strips : List Strip) (n : ℕ) (strip : Strip) (areas : List Rect) (bars : List Bar) (tag : ℕ) → n < length strips → strip ≡ get_or strips n strip
    → strip.mask ≡ m → tag ≡ length areas + n → AreBarsOf m (map placed strips) n areas (length areas) bars
    → AreBarsOf m (map placed strips) (n + 1) areas (length areas) (bars ++ record { at = strip.at; tag = tag } ∷ [])
strip_more m strips n strip areas bars tag h is on tagged so_far =
    let bar : Bar = record { at = strip.at; tag = tag } in
    let e = strip_is strips n strip h is in
    let of_mask : IsOf m (map placed strips) n = record { below = (strip_there strips n h).below_count; of_mask = ap (λ (p : Placed). p.mask) e ∙ on } in
    let at : area bar.at ≡ (placed strip).area = refl in
    record {
      each = λ x c. elim (Contains-push_cases bars bar x c) [
        | inl old ↦ elim (so_far.each x old) [ inl a ↦ inl a | inr s ↦ inr (older m (map placed strips) n (length areas) x s) ]
        | inr same ↦
            inr (subst (IsStripBar m (map placed strips) (n + 1) (length areas)) same
            (record { number = n; below = omega arith; of_mask = of_mask; tagged = tagged; at = ap (λ (p : Placed). p.area) (sym e) }))
      ];
      each_area = λ t d l. Contains-append_left bars (bar ∷ []) (record { at = get_or areas t d; tag = t }) (so_far.each_area t d l);
      each_strip = λ i l of. elim (last_or_before n i l) [
        | inl same ↦
            subst (HasStripBar (map placed strips) (length areas) (bars ++ bar ∷ [])) (sym same)
            (record { bar = bar; listed = Contains-push bars bar; tagged = tagged; at = ap (λ (p : Placed). p.area) (sym e) })
        | inr less ↦
            let old = so_far.each_strip i less of in
            record { bar = old.bar; listed = Contains-append_left bars (bar ∷ []) old.bar old.listed; tagged = old.tagged; at = old.at }
      ];
    }

-- a strip of another mask has no bar
pub strip_passed : (m : ℕ) (strips : List Strip) (n : ℕ) (strip : Strip) (areas : List Rect) (bars : List Bar) → n < length strips → strip ≡ get_or strips n strip
    → (strip.mask ≡ m → ⊥) → AreBarsOf m (map placed strips) n areas (length areas) bars → AreBarsOf m (map placed strips) (n + 1) areas (length areas) bars
strip_passed m strips n strip areas bars h is other so_far = record {
  each = λ x c. elim (so_far.each x c) [ inl a ↦ inl a | inr s ↦ inr (older m (map placed strips) n (length areas) x s) ];
  each_area = so_far.each_area;
  each_strip = λ i l of. elim (last_or_before n i l) [
    | inl same ↦
        let mine : IsOf m (map placed strips) n = subst (IsOf m (map placed strips)) same of in
        absurd (other (sym (ap (λ (p : Placed). p.mask) (strip_is strips n strip h is)) ∙ mine.of_mask))
    | inr less ↦ so_far.each_strip i less of
  ];
}

-- the same bars in another order
pub bars_along : (m : ℕ) (strips : List Placed) (n : ℕ) (areas : List Rect) (k : ℕ) (bars others : List Bar) → IsPermutation bars others
    → AreBarsOf m strips n areas k bars → AreBarsOf m strips n areas k others
bars_along m strips n areas k bars others same are =
    let back = IsPermutation-sym bars others same in
    record {
      each = λ bar c. are.each bar (Contains-permutation others bars bar back c);
      each_area = λ t d h. Contains-permutation bars others (record { at = get_or areas t d; tag = t }) same (are.each_area t d h);
      each_strip = λ i h of.
          let old = are.each_strip i h of in
          record { bar = old.bar; listed = Contains-permutation bars others old.bar same old.listed; tagged = old.tagged; at = old.at };
    }
