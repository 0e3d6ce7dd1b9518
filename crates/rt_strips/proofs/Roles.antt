-- The rectangles of the masks of a role, mask by mask, and the cells of channels.
use Rattle.std.proofs.Common.{◌≡◌, ℕ, ◌+◌, ◌<◌, ℤ, ◌⊎◌, ◌↔◌, List, [], ◌++◌, length, map, get_or, Some, refl, sym, ap, subst, ◌∙◌, arith, inl, inr}
use Rattle.std.specs.Prelude.{Contains}
use Rattle.std.proofs.lemmas.Bool.{cases_eq}
use Rattle.std.proofs.lemmas.List.{get_or_default}
use Rattle.std.proofs.lemmas.Option.{slice_get_within, slice_get_read}
use Rattle.std.proofs.lemmas.List.Elements.{Contains-append_left, Contains-append_right, Contains-append_cases}
use Rattle.rt_base.specs.declared.plane.Rect.{Rect}
use Rattle.rt_base.specs.Plane.{area}
use Rattle.rt_cells.specs.Rectangles.{Rectangle, Holds, Covers}
use Rattle.rt_cells.proofs.Lists.{mapped, mapped_from}
use Rattle.rt_layout.specs.declared.layout.Layout.{Layout}
use Rattle.rt_layout.specs.Covering.{rectangles_of, MaskCovers}
use Rattle.rt_tech.specs.declared.table.Mask.{Mask}
use Rattle.rt_tech.specs.declared.table.Role.{Role as MaskRole}
use Rattle.rt_tech.specs.declared.table.Role.TheVariants.{Gate, Active}
use Rattle.rt_tech.specs.declared.table.Tech.{Tech}
use Rattle.rt_tech.specs.Tech.{mask_count}
use Rattle.rt_strips.specs.OneMask.{AreAllStrips, BothCover}
use Rattle.rt_strips.specs.Channels.{IsOfRole, IsChannelCell, IsInChannel}
use Rattle.rt_strips.specs.Roles.{IsRectOf, AreOfRole}
use Rattle.rt_strips.specs.Untouched.{IsInPiece}
use Rattle.rt_strips.specs.Tallies.{AddsStrips}
use Rattle.rt_strips.specs.declared.tally.Tally.{Tally}
use Rattle.rt_strips.proofs.Runs.{run_along}
use Rattle.rt_strips.proofs.PieceStrips.{in_piece_along}

more : (layout : Layout) (tech : Tech) (n : ℕ) (role : MaskRole) (r : Rect) → IsRectOf layout tech n role r → IsRectOf layout tech (n + 1) role r
more layout tech n role r h = record { mask = h.mask; below = omega (arith, h.below); of_role = h.of_role; there = h.there }

fewer : (layout : Layout) (tech : Tech) (n : ℕ) (role : MaskRole) (r : Rect) → IsRectOf layout tech (n + 1) role r
    → IsRectOf layout tech n role r ⊎ (IsOfRole tech role n × Contains (rectangles_of layout n) r)
fewer layout tech n role r h =
    elim (cases_eq h.mask n) [
      | inl e ↦ inr (subst (λ m. IsOfRole tech role m) e h.of_role, subst (λ m. Contains (rectangles_of layout m) r) e h.there)
      | inr other ↦ inl (record { mask = h.mask; below = omega (arith, h.below, other); of_role = h.of_role; there = h.there })
    ]

-- one more mask, which is of the role
pub one_more_of_role : (layout : Layout) (tech : Tech) (n : ℕ) (role : MaskRole) (rects : List Rect) (mask : Mask) → n < length tech.masks → mask ≡ get_or tech.masks n mask → mask.role ≡ role
    → AreOfRole layout tech n role rects → AreOfRole layout tech (n + 1) role (rects ++ rectangles_of layout n)
one_more_of_role layout tech n role rects mask below is of_role before =
    let here : IsOfRole tech role n = record { mask = mask; there = slice_get_read tech.masks (length tech.masks) n mask refl below is; of_role = of_role } in
    record {
      each = λ r c. elim (Contains-append_cases rects (rectangles_of layout n) r c) [
        | inl d ↦ more layout tech n role r (before.each r d)
        | inr d ↦ record { mask = n; below = omega arith; of_role = here; there = d }
      ];
      every = λ r h. elim (fewer layout tech n role r h) [
        | inl d ↦ Contains-append_left rects (rectangles_of layout n) r (before.every r d)
        | inr d ↦ Contains-append_right rects (rectangles_of layout n) r d.1
      ];
    }

one_mask_there : (tech : Tech) (role : MaskRole) (n : ℕ) (mask : Mask) → n < length tech.masks → mask ≡ get_or tech.masks n mask → IsOfRole tech role n → mask.role ≡ role
one_mask_there tech role n mask below is h =
    let e : Some mask ≡ Some h.mask = sym (slice_get_read tech.masks (length tech.masks) n mask refl below is) ∙ h.there in
    ap (λ (m : Mask). m.role) (unwrapped mask h.mask e) ∙ h.of_role
  where
    unwrapped : (a b : Mask) → Some a ≡ Some b → a ≡ b
    unwrapped a b e = cc

-- one more mask, which isn't
pub one_more_of_none : (layout : Layout) (tech : Tech) (n : ℕ) (role : MaskRole) (rects : List Rect) (mask : Mask) → n < length tech.masks → mask ≡ get_or tech.masks n mask → (mask.role ≡ role → ⊥)
    → AreOfRole layout tech n role rects → AreOfRole layout tech (n + 1) role rects
one_more_of_none layout tech n role rects mask below is other before = record {
  each = λ r c. more layout tech n role r (before.each r c);
  every = λ r h. elim (fewer layout tech n role r h) [
    | inl d ↦ before.every r d
    | inr d ↦ absurd (other (one_mask_there tech role n mask below is d.0))
  ];
}

-- a mask's rectangles as the code reads them
pub shapes_read : (layout : Layout) (shapes : List (List Rect)) (m : ℕ) (list : List Rect) → shapes ≡ layout.masks → m < length layout.masks → list ≡ get_or shapes m list → list ≡ rectangles_of layout m
shapes_read layout shapes m list same below is = is ∙ ap (λ (s : List (List Rect)). get_or s m list) same ∙ get_or_default layout.masks m list [] below

-- a mask as the code reads it
pub mask_read : (tech : Tech) (masks : List Mask) (m : ℕ) (mask : Mask) → masks ≡ tech.masks → mask ≡ get_or masks m mask → mask ≡ get_or tech.masks m mask
mask_read tech masks m mask same is = is ∙ ap (λ (s : List Mask). get_or s m mask) same

-- the rectangles of a role cover what its masks cover
covers_from : (layout : Layout) (tech : Tech) (role : MaskRole) (rects : List Rect) → AreOfRole layout tech (mask_count tech) role rects → (x y : ℤ) → Covers (map area rects) x y
    → (m : ℕ) × IsOfRole tech role m × MaskCovers layout m x y
covers_from layout tech role rects are x y (r, c, holds) =
    let d = mapped_from area rects r c in
    let e = are.each d.0 d.1 in
    (e.mask, e.of_role, (area d.0, mapped area (rectangles_of layout e.mask) d.0 e.there, subst (λ (q : Rectangle). Holds q x y) (sym d.2) holds))

covers_there : (layout : Layout) (tech : Tech) (role : MaskRole) (rects : List Rect) → AreOfRole layout tech (mask_count tech) role rects → (x y : ℤ) (m : ℕ) → IsOfRole tech role m → MaskCovers layout m x y
    → Covers (map area rects) x y
covers_there layout tech role rects are x y m of_role (r, c, holds) =
    let d = mapped_from area (rectangles_of layout m) r c in
    let below = slice_get_within tech.masks m of_role.mask of_role.there in
    (area d.0, mapped area rects d.0 (are.every d.0 (record { mask = m; below = below; of_role = of_role; there = d.1 })), subst (λ (q : Rectangle). Holds q x y) (sym d.2) holds)

-- what gates and actives both cover are the cells of channels
pub channel_cells : (layout : Layout) (tech : Tech) (gates actives : List Rect) → AreOfRole layout tech (mask_count tech) Gate gates → AreOfRole layout tech (mask_count tech) Active actives
    → (x y : ℤ) → IsChannelCell layout tech x y ↔ BothCover (map area gates) (map area actives) x y
channel_cells layout tech gates actives of_gates of_actives x y = (
  λ c. (covers_there layout tech Gate gates of_gates x y c.gate c.is_gate c.in_gate, covers_there layout tech Active actives of_actives x y c.active c.is_active c.in_active),
  λ c.
      let g = covers_from layout tech Gate gates of_gates x y c.0 in
      let a = covers_from layout tech Active actives of_actives x y c.1 in
      record { gate = g.0; active = a.0; is_gate = g.1; is_active = a.1; in_gate = g.2; in_active = a.2 },
)

-- strips of some cells are those of others that are the same
pub strips_along : (cells others : ℤ → ℤ → Type 0) → ((x y : ℤ) → cells x y → others x y) → ((x y : ℤ) → others x y → cells x y) → (areas : List Rectangle) → AreAllStrips cells areas → AreAllStrips others areas
strips_along cells others there back areas are = record {
  nonempty = are.nonempty;
  same_cells = λ x y. (λ c. (are.same_cells x y).0 (back x y c), λ c. there x y ((are.same_cells x y).1 c));
  once = are.once;
  whole_runs = λ k d h y inside. run_along (λ x. cells x y) (λ x. others x y) (λ x c. there x y c) (λ x c. back x y c) _ _ (are.whole_runs k d h y inside);
  unstacked = are.unstacked;
  in_order = are.in_order;
}

pub adds_along : (cells others : ℤ → ℤ → Type 0) → ((x y : ℤ) → cells x y → others x y) → ((x y : ℤ) → others x y → cells x y) → (mask most : ℕ) (before after : Tally)
    → AddsStrips cells mask most before after → AddsStrips others mask most before after
adds_along cells others there back mask most before after adds = record { all = adds.all; all_strips = strips_along cells others there back adds.all adds.all_strips; added = adds.added }

pub in_channel : (layout : Layout) (tech : Tech) (x y : ℤ) → IsInPiece (IsChannelCell layout tech) x y → IsInChannel layout tech x y
in_channel layout tech x y c = record { channel = c.piece; piece = c.is_piece; holds = c.holds }

pub from_channel : (layout : Layout) (tech : Tech) (x y : ℤ) → IsInChannel layout tech x y → IsInPiece (IsChannelCell layout tech) x y
from_channel layout tech x y c = record { piece = c.channel; is_piece = c.piece; holds = c.holds }

-- the strips of the cells of channels cover those
pub own_cells : (layout : Layout) (tech : Tech) (gates actives : List Rect) (both : List Rectangle) → AreAllStrips (BothCover (map area gates) (map area actives)) both → AreAllStrips (Covers both) both
own_cells layout tech gates actives both are =
    strips_along (BothCover (map area gates) (map area actives)) (Covers both) (λ x y c. (are.same_cells x y).0 c) (λ x y c. (are.same_cells x y).1 c) both are

-- their pieces that are rectangles are the channels that are
pub channels_added : (layout : Layout) (tech : Tech) (gates actives : List Rect) (both : List Rectangle) → AreOfRole layout tech (mask_count tech) Gate gates → AreOfRole layout tech (mask_count tech) Active actives
    → AreAllStrips (BothCover (map area gates) (map area actives)) both → (mask most : ℕ) (before after : Tally) → AddsStrips (IsInPiece (Covers both)) mask most before after
    → AddsStrips (IsInChannel layout tech) mask most before after
channels_added layout tech gates actives both of_gates of_actives are mask most before after adds =
    let there : (x y : ℤ) → Covers both x y → IsChannelCell layout tech x y = λ x y c. (channel_cells layout tech gates actives of_gates of_actives x y).1 ((are.same_cells x y).1 c) in
    let back : (x y : ℤ) → IsChannelCell layout tech x y → Covers both x y = λ x y c. (are.same_cells x y).0 ((channel_cells layout tech gates actives of_gates of_actives x y).0 c) in
    adds_along (IsInPiece (Covers both)) (IsInChannel layout tech)
    (λ x y c. in_channel layout tech x y (in_piece_along (Covers both) (IsChannelCell layout tech) there back x y c))
    (λ x y c. in_piece_along (IsChannelCell layout tech) (Covers both) back there x y (from_channel layout tech x y c))
    mask most before after adds
