-- Rectangles and strips as bars, one after another.
use Rattle.std.proofs.Common.{◌≡◌, ℕ, ◌+◌, ◌<◌, List, [], ◌∷◌, ◌++◌, length, get_or, map, sym, ap, subst, ◌∙◌, refl, arith, inl, inr}
use Rattle.std.specs.Prelude.{IsPermutation}
use Rattle.std.proofs.lemmas.List.{get_or-map, length-map, get_or_append_left, get_or-append-add}
use Rattle.std.proofs.lemmas.List.Elements.{Contains-push, Contains-push_cases, Contains-append_left}
use Rattle.std.proofs.lemmas.List.Sorted.{Contains-permutation, IsPermutation-sym}
use Rattle.rt_cells.specs.Rectangles.{Rectangle}
use Rattle.rt_cells.proofs.Numbers.{last_or_before}
use Rattle.rt_base.specs.declared.plane.Rect.{Rect}
use Rattle.rt_base.specs.Plane.{area}
use Rattle.rt_sweep.specs.declared.bar.Bar.{Bar}
use Rattle.rt_strips.specs.declared.listing.Strip.{Strip}
use Rattle.rt_strips.specs.Placed.{Placed, placed, no_strip, strip_at, mask_of}
use Rattle.rt_strips.proofs.Placed.{strip_is}
use Rattle.rt_hosts.specs.Bars.{counted_together, IsTaken, IsBarOf, AreBarsOf}

module _ (m : ℕ) (strips : List Placed) (areas : List Rect) where
  -- no bars yet
  pub no_bars : AreBarsOf m strips areas 0 []
  no_bars = record { each = λ bar c. absurd (omega (arith, c.1)); every = λ t h w. absurd (omega arith) }

  older : (n : ℕ) (bar : Bar) → IsBarOf m strips areas n bar → IsBarOf m strips areas (n + 1) bar
  older n bar b = record { below = omega (arith, b.below); taken = b.taken; at = b.at }

  -- one bar more
  pub bar_more : (n : ℕ) (bar : Bar) (bars : List Bar) → bar.tag ≡ n → IsTaken m strips areas n
      → ((d : Rectangle) → get_or (counted_together strips areas) n d ≡ area bar.at)
      → AreBarsOf m strips areas n bars → AreBarsOf m strips areas (n + 1) (bars ++ bar ∷ [])
  bar_more n bar bars tagged taken at so_far = record {
    each = λ x c. elim (Contains-push_cases bars bar x c) [
      | inl old ↦ older n x (so_far.each x old)
      | inr same ↦ subst (IsBarOf m strips areas (n + 1)) same (record {
        below = omega (arith, tagged);
        taken = subst (IsTaken m strips areas) (sym tagged) taken;
        at = λ d. ap (λ k. get_or (counted_together strips areas) k d) tagged ∙ at d;
      })
    ];
    every = λ t h w. elim (last_or_before n t h) [
      | inl e ↦ (bar, Contains-push bars bar, tagged ∙ sym e)
      | inr l ↦ let old = so_far.every t l w in (old.0, Contains-append_left bars (bar ∷ []) old.0 old.1, old.2)
    ];
  }

  -- a number that isn't taken has no bar
  pub bar_passed : (n : ℕ) (bars : List Bar) → (IsTaken m strips areas n → ⊥) → AreBarsOf m strips areas n bars → AreBarsOf m strips areas (n + 1) bars
  bar_passed n bars free so_far = record {
    each = λ x c. older n x (so_far.each x c);
    every = λ t h w. elim (last_or_before n t h) [
      | inl e ↦ absurd (free (subst (IsTaken m strips areas) e w))
      | inr l ↦ so_far.every t l w
    ];
  }

  -- the same bars in another order
  pub bars_along : (n : ℕ) (bars others : List Bar) → IsPermutation bars others → AreBarsOf m strips areas n bars → AreBarsOf m strips areas n others
  bars_along n bars others same are =
      let back = IsPermutation-sym bars others same in
      record {
        each = λ bar c. are.each bar (Contains-permutation others bars bar back c);
        every = λ t h w. let old = are.every t h w in (old.0, Contains-permutation bars others old.0 same old.1, old.2);
      }

  -- a rectangle is taken, and stands at its number
  pub area_taken : (t : ℕ) → t < length areas → IsTaken m strips areas t
  area_taken t h = record { of_mask = λ j e. absurd (omega (arith, e, h)) }

  pub area_at : (t : ℕ) (d : Rect) → t < length areas → (e : Rectangle) → get_or (counted_together strips areas) t e ≡ area (get_or areas t d)
  area_at t d h e =
      get_or_append_left (map area areas) (map (λ (p : Placed). p.area) strips) e t (omega (arith, length-map areas area, h)) ∙ get_or-map area areas t d e h

  -- a strip stands at its number behind the rectangles
  pub strip_rectangle : (i : ℕ) → i < length strips → (e : Rectangle) → get_or (counted_together strips areas) (length areas + i) e ≡ (strip_at strips i).area
  strip_rectangle i h e =
      ap (λ k. get_or (counted_together strips areas) (k + i) e) (sym (length-map areas area))
      ∙ (get_or-append-add (map area areas) (map (λ (p : Placed). p.area) strips) i e ∙ get_or-map (λ (p : Placed). p.area) strips i no_strip e h)

  -- a strip of the mask is taken
  pub strip_taken : (i : ℕ) → mask_of strips i ≡ m → IsTaken m strips areas (length areas + i)
  strip_taken i on = record { of_mask = λ j e. let same : i ≡ j = omega (arith, e) in subst (λ k. mask_of strips k ≡ m) same on }

-- a strip that the code reads
module _ (m : ℕ) (strips : List Strip) (areas : List Rect) (i : ℕ) (strip : Strip) (there : i < length strips) (is : strip ≡ get_or strips i strip) where
  mask_is : mask_of (map placed strips) i ≡ strip.mask
  mask_is = ap (λ (p : Placed). p.mask) (strip_is strips i strip there is)

  -- is taken, if it is of the mask
  pub read_taken : strip.mask ≡ m → IsTaken m (map placed strips) areas (length areas + i)
  read_taken on = strip_taken m (map placed strips) areas i (mask_is ∙ on)

  -- and not, if it is of another
  pub read_passed : (strip.mask ≡ m → ⊥) → IsTaken m (map placed strips) areas (length areas + i) → ⊥
  read_passed other taken = other (sym mask_is ∙ taken.of_mask i refl)

  pub read_rectangle : (e : Rectangle) → get_or (counted_together (map placed strips) areas) (length areas + i) e ≡ area strip.at
  read_rectangle e =
      strip_rectangle m (map placed strips) areas i (omega (arith, length-map strips placed, there)) e
      ∙ ap (λ (p : Placed). p.area) (strip_is strips i strip there is)
