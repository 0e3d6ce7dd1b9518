-- The strips of the masks, tallied one mask after the other, and then the channels.
use Rattle.std.proofs.Common.{◌≡◌, ℕ, zero, suc, ◌+◌, ◌<◌, ℤ, ◌⊎◌, ◌↔◌, List, [], ◌++◌, length, map, take, get_or, refl, sym, ap, ◌∙◌, subst, arith, inl, inr}
use Rattle.std.proofs.lemmas.List.{get_or_default}
use Rattle.rt_base.specs.declared.plane.Rect.{Rect}
use Rattle.rt_base.specs.Plane.{area}
use Rattle.rt_cells.specs.Rectangles.{Covers}
use Rattle.rt_layout.specs.declared.layout.Layout.{Layout}
use Rattle.rt_layout.specs.Covering.{rectangles_of, MaskCovers}
use Rattle.rt_tech.specs.declared.table.Tech.{Tech}
use Rattle.rt_tech.specs.Tech.{mask_count}
use Rattle.rt_strips.specs.declared.tally.Tally.{Tally}
use Rattle.rt_strips.specs.Placed.{Placed, placed}
use Rattle.rt_strips.specs.StripsOf.{AreStripsOf}
use Rattle.rt_strips.specs.Channels.{IsInChannel, IsStripCell}
use Rattle.rt_strips.specs.Tallies.{at_mask, AddsStrips, AreTallied}
use Rattle.rt_strips.proofs.Appended.{one_mask_strips, one_more_mask}
use Rattle.rt_strips.proofs.Roles.{adds_along}

-- strips of some cells are those of others that are the same on their masks
pub cells_along : (cells others : ℕ → ℤ → ℤ → Type 0) (masks : ℕ) (strips : List Placed) → ((m : ℕ) (x y : ℤ) → m < masks → cells m x y ↔ others m x y) → AreStripsOf cells masks strips → AreStripsOf others masks strips
cells_along cells others masks strips same are = record {
  on_masks = are.on_masks;
  nonempty = are.nonempty;
  same_cells = λ m x y below. (λ c. (are.same_cells m x y below).0 ((same m x y below).1 c), λ c. (same m x y below).0 ((are.same_cells m x y below).1 c));
  once = are.once;
  whole_runs = are.whole_runs;
  unstacked = are.unstacked;
  in_order = are.in_order;
}

not_there : (i : ℕ) → i < 0 → ⊥
not_there i h = omega (arith, h)

-- before the first mask there are no strips
pub none_yet : (cells : ℕ → ℤ → ℤ → Type 0) → AreStripsOf cells 0 []
none_yet cells = record {
  on_masks = λ i h. absurd (not_there i h.below_count);
  nonempty = λ i h. absurd (not_there i h.below_count);
  same_cells = λ m x y below. absurd (not_there m below);
  once = λ i j one x y u v. absurd (not_there i one.first.below_count);
  whole_runs = λ i h. absurd (not_there i h.below_count);
  unstacked = λ i j s left right. not_there i s.strips_of_one_mask.first.below_count;
  in_order = λ i j h g. absurd (not_there j g.below_count);
}

none_taken : (most : ℕ) (none : List Placed) → none ≡ [] → none ≡ take most none
none_taken zero none e = e
none_taken (suc n) none e = e ∙ sym (ap (take (suc n)) e)

pub tallied_none : (cells : ℕ → ℤ → ℤ → Type 0) (most : ℕ) (tally : Tally) → tally.list.items ≡ [] → tally.count ≡ 0 → AreTallied cells 0 most tally
tallied_none cells most tally e f = record {
  all = [];
  strips_are = none_yet cells;
  tally_is = record { kept = ap (map placed) e ∙ none_taken most [] refl; counted = f ∙ omega arith };
}

-- one more mask is tallied
pub tallied_more : (cells : ℕ → ℤ → ℤ → Type 0) (m most : ℕ) (before after : Tally) → AreTallied cells m most before → AddsStrips (cells m) m most before after → AreTallied cells (suc m) most after
tallied_more cells m most before after tallied adds = record {
  all = tallied.all ++ map (at_mask m) adds.all;
  strips_are = one_more_mask cells m tallied.all (map (at_mask m) adds.all) tallied.strips_are (one_mask_strips m (cells m) adds.all adds.all_strips);
  tally_is = adds.added tallied.all tallied.tally_is;
}

-- the next mask of a layout, as the code reads it
pub mask_tallied : (layout : Layout) (masks : List (List Rect)) (m most : ℕ) (rects list : List Rect) (before after : Tally) → masks ≡ layout.masks → m < length masks → list ≡ get_or masks m list
    → rects ≡ list → AreTallied (MaskCovers layout) m most before → AddsStrips (Covers (map area rects)) m most before after → AreTallied (MaskCovers layout) (m + 1) most after
mask_tallied layout masks m most rects list before after same below is read tallied adds =
    let l : m < length layout.masks = subst (λ (s : List (List Rect)). m < length s) same below in
    let e : rects ≡ rectangles_of layout m = read ∙ is ∙ ap (λ (s : List (List Rect)). get_or s m list) same ∙ get_or_default layout.masks m list [] l in
    subst (λ n. AreTallied (MaskCovers layout) n most after) (one_after m)
    (tallied_more (MaskCovers layout) m most before after tallied (subst (λ (r : List Rect). AddsStrips (Covers (map area r)) m most before after) e adds))
  where
    one_after : (m : ℕ) → suc m ≡ m + 1
    one_after m = omega arith

not_at_end : (a b : ℕ) → a < b → a ≡ b → ⊥
not_at_end a b h e = omega (arith, h, e)

-- the cells of a mask are those of its strips
pub mask_cells : (layout : Layout) (tech : Tech) (m : ℕ) (x y : ℤ) → m < mask_count tech → MaskCovers layout m x y ↔ IsStripCell layout tech m x y
mask_cells layout tech m x y below = (λ c. record { of_mask_or_channel = inl (below, c) }, λ c. from c.of_mask_or_channel)
  where
    from : ((m < mask_count tech) × MaskCovers layout m x y) ⊎ ((m ≡ mask_count tech) × IsInChannel layout tech x y) → MaskCovers layout m x y
    from (inl h) = h.1
    from (inr h) = absurd (not_at_end m (mask_count tech) below h.0)

-- and behind the masks those of the channels are
pub channel_cells : (layout : Layout) (tech : Tech) (x y : ℤ) → IsStripCell layout tech (mask_count tech) x y → IsInChannel layout tech x y
channel_cells layout tech x y c = from c.of_mask_or_channel
  where
    from : ((mask_count tech < mask_count tech) × MaskCovers layout (mask_count tech) x y) ⊎ ((mask_count tech ≡ mask_count tech) × IsInChannel layout tech x y) → IsInChannel layout tech x y
    from (inl h) = absurd (not_at_end (mask_count tech) (mask_count tech) h.0 refl)
    from (inr h) = h.1

-- the channels are tallied behind the masks
pub layout_tallied : (layout : Layout) (tech : Tech) (most : ℕ) (before after : Tally) → length layout.masks ≡ mask_count tech → AreTallied (MaskCovers layout) (length layout.masks) most before
    → AddsStrips (IsInChannel layout tech) (mask_count tech) most before after → AreTallied (IsStripCell layout tech) (suc (mask_count tech)) most after
layout_tallied layout tech most before after same tallied adds =
    let m = mask_count tech in
    let t = subst (λ n. AreTallied (MaskCovers layout) n most before) same tallied in
    tallied_more (IsStripCell layout tech) m most before after
    (record { all = t.all; strips_are = cells_along (MaskCovers layout) (IsStripCell layout tech) m t.all (mask_cells layout tech) t.strips_are; tally_is = t.tally_is })
    (adds_along (IsInChannel layout tech) (IsStripCell layout tech m) (λ x y c. record { of_mask_or_channel = inr (refl, c) }) (channel_cells layout tech) m most before after adds)
