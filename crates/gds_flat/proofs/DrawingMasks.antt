-- What is drawn of some items and of one more.
use Rattle.std.proofs.Common.{◌≡◌, ◌≢◌, ℕ, suc, ◌+◌, ◌<◌, ◌≤◌, Bool, true, false, cond, nat_eq, List, [], ◌∷◌, ◌++◌, length, map, get_or, take, drop, Option, Some, None, All, refl, sym, ap, subst, ◌∙◌, ⊎_elim, arith, eq-eqb, ℤ, ◌⊎◌, inl, inr, ◌↔◌}
use Rattle.std.specs.List.{cons_option}
use Rattle.std.proofs.Math.ListN.{set}
use Rattle.std.proofs.Math.ListN.{get_or-eq_default}
use Rattle.std.proofs.lemmas.Bool.{cases_eq, cases_lt, eqb-true, false_from_ne_true}
use Rattle.std.proofs.lemmas.List.{append-nil, map-append, take_all, take_more, drop_more, take-append-drop, length-set, get_or-set_same, get_or-set_other, get_or_default}
use Rattle.std.proofs.lemmas.List.Elements.{All-push, All-contains, filter_map-append}
use Rattle.rt_base.specs.declared.plane.Rect.{Rect}
use Rattle.rt_base.specs.Plane.{area}
use Rattle.rt_cells.specs.Rectangles.{Rectangle, Holds, Covers}
use Rattle.gds_slabs.proofs.Members.{Among, contains_from_among, among_from_contains}
use Rattle.rt_layout.specs.declared.layout.Label.{Label as Mark}
use Rattle.gds_flat.specs.declared.item.Drawn.{Drawn}
use Rattle.gds_flat.specs.declared.item.Drawn.TheVariants.{Area, Note}
use Rattle.gds_flat.specs.declared.item.Item.{Item}
use Rattle.gds_flat.specs.Items.{Piece, DrawingIsNear, DrawingIsFar, FirstFar, mark_of_drawing, marks_of, rect_of_drawing, areas_on}
use Rattle.gds_flat.specs.Drawn.{drawing_of, piece_of, pieces_in}
use Rattle.gds_flat.specs.Items.Drawing.{area_of}
use Rattle.gds_flat.specs.Drawings.{Shows, OneShows, Draws, rect_of, rect_on, rects_on, AreOnMasks}
use Rattle.rt_cells.proofs.Lists.{mapped, mapped_from}
use Rattle.gds_flat.proofs.Cells.{same_area, no_note}

-- the first items with one more
items_more : (items : List Item) (i : ℕ) (item : Item) → i < length items → item ≡ get_or items i item → take (i + 1) items ≡ take i items ++ item ∷ []
items_more items i item below is = take_more items i item below ∙ ap (λ x. take i items ++ x ∷ []) (sym is)

pieces_more : (items : List Item) (i : ℕ) (item : Item) → i < length items → item ≡ get_or items i item
    → pieces_in (take (i + 1) items) ≡ pieces_in (take i items) ++ piece_of item ∷ []
pieces_more items i item below is = ap pieces_in (items_more items i item below is) ∙ map-append piece_of (take i items) (item ∷ [])

-- an item that lies too far out, behind those that don't
pub far_found : (items : List Item) (i : ℕ) (item : Item) → i < length items → item ≡ get_or items i item
    → All (λ p. DrawingIsNear p.drawing) (pieces_in (take i items)) → DrawingIsFar (drawing_of item.drawn) → FirstFar (pieces_in items) item.offset
far_found items i item below is near far = record {
  before = pieces_in (take i items);
  piece = piece_of item;
  behind = pieces_in (drop (i + 1) items);
  split =
      ap pieces_in (sym (take-append-drop i items) ∙ ap (λ xs. take i items ++ xs) (drop_more items i item below ∙ ap (λ x. x ∷ drop (i + 1) items) (sym is)))
      ∙ map-append piece_of (take i items) (item ∷ drop (i + 1) items);
  near = near;
  far = far;
  at = refl;
}

pub near_more : (items : List Item) (i : ℕ) (item : Item) → i < length items → item ≡ get_or items i item
    → All (λ p. DrawingIsNear p.drawing) (pieces_in (take i items)) → DrawingIsNear (drawing_of item.drawn)
    → All (λ p. DrawingIsNear p.drawing) (pieces_in (take (i + 1) items))
near_more items i item below is near one =
    let P : List Piece → Type 0 = λ ps. All (λ p. DrawingIsNear p.drawing) ps in
    subst P (sym (pieces_more items i item below is)) (All-push (λ p. DrawingIsNear p.drawing) (pieces_in (take i items)) (piece_of item) near one)

pub near_all : (items : List Item) (i : ℕ) → length items ≤ i → All (λ p. DrawingIsNear p.drawing) (pieces_in (take i items))
    → All (λ p. DrawingIsNear p.drawing) (pieces_in items)
near_all items i over near =
    let P : List Item → Type 0 = λ xs. All (λ p. DrawingIsNear p.drawing) (pieces_in xs) in subst P (take_all i items over) near

-- labels
marks_more : (items : List Item) (i : ℕ) (item : Item) → i < length items → item ≡ get_or items i item
    → marks_of (pieces_in (take (i + 1) items)) ≡ marks_of (pieces_in (take i items)) ++ cons_option (mark_of_drawing item.mask (drawing_of item.drawn)) []
marks_more items i item below is =
    ap marks_of (pieces_more items i item below is)
    ∙ filter_map-append (λ p. mark_of_drawing p.mask p.drawing) (pieces_in (take i items)) (piece_of item ∷ [])

pub label_pushed : (items : List Item) (i : ℕ) (item : Item) (at : ℤ × ℤ) (text copy : List ℕ) (old new : List Mark) → i < length items
    → item ≡ get_or items i item → item.drawn ≡ Note at text → old ≡ marks_of (pieces_in (take i items)) → copy ≡ text
    → new ≡ old ++ record { mask = item.mask; at = at; text = copy } ∷ [] → new ≡ marks_of (pieces_in (take (i + 1) items))
label_pushed items i item at text copy old new below is draws was same now =
    let one : List ℕ → List Mark = λ t. record { mask = item.mask; at = at; text = t } ∷ [] in
    now ∙ ap (λ t. old ++ one t) same ∙ ap (λ xs. xs ++ one text) was
    ∙ sym (marks_more items i item below is ∙ ap (λ d. marks_of (pieces_in (take i items)) ++ cons_option (mark_of_drawing item.mask (drawing_of d)) []) draws)

pub label_none : (items : List Item) (i : ℕ) (item : Item) (rect : Rect) (old : List Mark) → i < length items
    → item ≡ get_or items i item → item.drawn ≡ Area rect → old ≡ marks_of (pieces_in (take i items)) → old ≡ marks_of (pieces_in (take (i + 1) items))
label_none items i item rect old below is draws was =
    was ∙ sym (append-nil (marks_of (pieces_in (take i items))))
    ∙ sym (marks_more items i item below is ∙ ap (λ d. marks_of (pieces_in (take i items)) ++ cons_option (mark_of_drawing item.mask (drawing_of d)) []) draws)

-- rectangles
rects_more : (m : ℕ) (items : List Item) (i : ℕ) (item : Item) → i < length items → item ≡ get_or items i item
    → rects_on m (take (i + 1) items) ≡ rects_on m (take i items) ++ cons_option (rect_on m item) []
rects_more m items i item below is = ap (rects_on m) (items_more items i item below is) ∙ filter_map-append (rect_on m) (take i items) (item ∷ [])

either_same : (b : Bool) (o : Option Rect) → cond b o o ≡ o
either_same true o = refl
either_same false o = refl

pub rect_none : (items : List Item) (count i : ℕ) (item : Item) (at : ℤ × ℤ) (text : List ℕ) (masks : List (List Rect)) → i < length items
    → item ≡ get_or items i item → item.drawn ≡ Note at text → AreOnMasks (take i items) count masks → AreOnMasks (take (i + 1) items) count masks
rect_none items count i item at text masks below is draws h = record {
  all = h.all;
  each = λ m low.
      h.each m low ∙ sym (append-nil (rects_on m (take i items)))
      ∙ sym (rects_more m items i item below is
      ∙ ap (λ o. rects_on m (take i items) ++ cons_option o []) (ap (λ d. cond (nat_eq item.mask m) (rect_of d) None) draws ∙ either_same (nat_eq item.mask m) None));
}

pushed_here : (items : List Item) (count i : ℕ) (item : Item) (rect : Rect) (before after : List Rect) (old : List (List Rect)) (m : ℕ) → i < length items
    → item ≡ get_or items i item → item.drawn ≡ Area rect → item.mask < count → AreOnMasks (take i items) count old
    → before ≡ get_or old item.mask before → after ≡ before ++ rect ∷ [] → m ≡ item.mask
    → get_or (set old item.mask after) m [] ≡ rects_on m (take (i + 1) items)
pushed_here items count i item rect before after old m below is draws low h was now e =
    let within : item.mask < length old = omega (arith, h.all) in
    let same : nat_eq item.mask m ≡ true = eq-eqb item.mask m (sym e) in
    let one : rect_on m item ≡ Some rect = ap (λ d. cond (nat_eq item.mask m) (rect_of d) None) draws ∙ ap (λ b. cond b (Some rect) None) same in
    let P : ℕ → Type 0 = λ k. get_or (set old item.mask after) k [] ≡ rects_on m (take i items) ++ rect ∷ [] in
    let Q : ℕ → Type 0 = λ k. get_or old item.mask [] ≡ rects_on k (take i items) in
    let here : get_or (set old item.mask after) item.mask [] ≡ rects_on m (take i items) ++ rect ∷ [] =
    get_or-set_same old item.mask after [] within ∙ now
    ∙ ap (λ xs. xs ++ rect ∷ []) (was ∙ get_or_default old item.mask before [] within ∙ subst Q (sym e) (h.each item.mask low)) in
    subst P (sym e) here ∙ sym (rects_more m items i item below is ∙ ap (λ o. rects_on m (take i items) ++ cons_option o []) one)

pushed_there : (items : List Item) (count i : ℕ) (item : Item) (after : List Rect) (old : List (List Rect)) (m : ℕ) → i < length items
    → item ≡ get_or items i item → m < count → AreOnMasks (take i items) count old → m ≢ item.mask
    → get_or (set old item.mask after) m [] ≡ rects_on m (take (i + 1) items)
pushed_there items count i item after old m below is small h ne =
    let other : nat_eq item.mask m ≡ false = false_from_ne_true (nat_eq item.mask m) (λ e. ne (sym (eqb-true item.mask m e))) in
    let one : rect_on m item ≡ None = ap (λ b. cond b (rect_of item.drawn) None) other in
    get_or-set_other old item.mask m after [] ne ∙ h.each m small
    ∙ sym (append-nil (rects_on m (take i items)))
    ∙ sym (rects_more m items i item below is ∙ ap (λ o. rects_on m (take i items) ++ cons_option o []) one)

pub rect_pushed : (items : List Item) (count i : ℕ) (item : Item) (rect : Rect) (before after : List Rect) (old : List (List Rect)) → i < length items
    → item ≡ get_or items i item → item.drawn ≡ Area rect → item.mask < count → AreOnMasks (take i items) count old
    → before ≡ get_or old item.mask before → after ≡ before ++ rect ∷ [] → AreOnMasks (take (i + 1) items) count (set old item.mask after)
rect_pushed items count i item rect before after old below is draws low h was now = record {
  all = length-set old item.mask after ∙ h.all;
  each = λ m small. ⊎_elim
      (λ e. pushed_here items count i item rect before after old m below is draws low h was now e)
      (λ ne. pushed_there items count i item after old m below is small h ne)
      (cases_eq m item.mask);
}

-- the mask of an item
pub mask_low : (items : List Item) (count i : ℕ) (item : Item) → i < length items → item ≡ get_or items i item → All (λ x. x.mask < count) items
    → item.mask < count
mask_low items count i item below is all = let P : Item → Type 0 = λ x. x.mask < count in subst P (sym is) (all i item below)

-- the rectangles on a mask are those of its items
head_rect : (b : Bool) (d : Drawn) (rest : List Rect) (q : Rect) → Among (cons_option (cond b (rect_of d) None) rest) q
    → ((b ≡ true) × (d ≡ Area q)) ⊎ Among rest q
head_rect true (Area rect) rest q (inl e) = inl (refl, ap Area e)
head_rect true (Area rect) rest q (inr h) = inr h
head_rect true (Note at text) rest q h = inr h
head_rect false d rest q h = inr h

tail_rect : (b : Bool) (d : Drawn) (rest : List Rect) (q : Rect) → Among rest q → Among (cons_option (cond b (rect_of d) None) rest) q
tail_rect true (Area rect) rest q h = inr h
tail_rect true (Note at text) rest q h = h
tail_rect false d rest q h = h

rects_among : (m : ℕ) (items : List Item) (q : Rect) → Among (rects_on m items) q → (item : Item) × Among items item × (item.mask ≡ m) × (item.drawn ≡ Area q)
rects_among m [] q h = elim h [ ]
rects_among m (item ∷ items) q h =
    elim (head_rect (nat_eq item.mask m) item.drawn (rects_on m items) q h) [
      | inl k ↦ (item, inl refl, eqb-true item.mask m k.0, k.1)
      | inr k ↦ (let g = rects_among m items q k in (g.0, inr g.1, g.2, g.3))
    ]

among_rects : (m : ℕ) (items : List Item) (item : Item) (q : Rect) → Among items item → item.mask ≡ m → item.drawn ≡ Area q → Among (rects_on m items) q
among_rects m [] item q h on draws = elim h [ ]
among_rects m (first ∷ items) item q (inl e) on draws =
    let one : rect_on m first ≡ Some q =
    ap (rect_on m) e ∙ ap (λ d. cond (nat_eq item.mask m) (rect_of d) None) draws ∙ ap (λ b. cond b (Some q) None) (eq-eqb item.mask m on) in
    let P : Option Rect → Type 0 = λ o. Among (cons_option o (rects_on m items)) q in
    subst P (sym one) (inl refl)
among_rects m (first ∷ items) item q (inr h) on draws =
    tail_rect (nat_eq first.mask m) first.drawn (rects_on m items) q (among_rects m items item q h on draws)

drawn_rect : (d : Drawn) (r : Rectangle) → drawing_of d ≡ area_of r → (q : Rect) × (d ≡ Area q) × (area q ≡ r)
drawn_rect (Area q) r e = (q, refl, same_area (area q) r e)
drawn_rect (Note at text) r e = absurd (no_note _ text r e)

rects_shown : (m : ℕ) (items : List Item) (x y : ℤ) → Covers (map area (rects_on m items)) x y → OneShows (pieces_in items) m (x, y)
rects_shown m items x y h =
    let f = mapped_from area (rects_on m items) h.0 h.1 in
    let g = rects_among m items f.0 (among_from_contains (rects_on m items) f.0 f.1) in (
      piece_of g.0,
      mapped piece_of items g.0 (contains_from_among items g.0 g.1),
      record { rect = h.0; on = g.2; draws = ap drawing_of g.3 ∙ ap area_of f.2; holds = h.2 },
    )

shown_item : (m : ℕ) (items : List Item) (x y : ℤ) → OneShows (pieces_in items) m (x, y)
    → (item : Item) × (q : Rect) × Among items item × (item.mask ≡ m) × (item.drawn ≡ Area q) × Holds (area q) x y
shown_item m items x y h =
    let f = mapped_from piece_of items h.0 h.1 in
    let s : Shows m (x, y) h.0 = h.2 in
    let d = drawn_rect (f.0).drawn s.rect (ap (λ p. p.drawing) f.2 ∙ s.draws) in
    let P : Rectangle → Type 0 = λ r. Holds r x y in
    (f.0, d.0, among_from_contains items f.0 f.1, ap (λ p. p.mask) f.2 ∙ s.on, d.1, subst P (sym d.2) s.holds)

cells_drawn : (items : List Item) (count : ℕ) (masks : List (List Rect)) → All (λ x. x.mask < count) items → AreOnMasks items count masks
    → (m : ℕ) (x y : ℤ) → Covers (map area (get_or masks m [])) x y ↔ OneShows (pieces_in items) m (x, y)
cells_drawn items count masks low h m x y =
    ⊎_elim
    (λ small. let P : List Rect → Type 0 = λ rs. Covers (map area rs) x y ↔ OneShows (pieces_in items) m (x, y) in
    subst P (sym (h.each m small)) (
      rects_shown m items x y,
      λ s. let g = shown_item m items x y s in
          (area g.1, mapped area (rects_on m items) g.1 (contains_from_among (rects_on m items) g.1 (among_rects m items g.0 g.1 g.2 g.3 g.4)), g.5),
    ))
    (λ large. let over : length masks ≤ m = omega (arith, h.all) in
    let P : List Rect → Type 0 = λ rs. Covers (map area rs) x y ↔ OneShows (pieces_in items) m (x, y) in
    subst P (sym (get_or-eq_default masks [] over)) (
      λ c. let none = c.1 in absurd (omega (arith, none.1)),
      λ s. let g = shown_item m items x y s in
          let small : (g.0).mask < count = All-contains (λ x. x.mask < count) items g.0 low (contains_from_among items g.0 g.2) in
          absurd (omega (arith, small, g.3)),
    ))
    (cases_lt m count)

-- the rectangles on a mask, as those of its pieces
one_area : (b : Bool) (d : Drawn) (rest : List Rect) (others : List Rectangle) → map area rest ≡ others
    → map area (cons_option (cond b (rect_of d) None) rest) ≡ cons_option (cond b (rect_of_drawing (drawing_of d)) None) others
one_area true (Area rect) rest others e = ap (λ rs. area rect ∷ rs) e
one_area true (Note at text) rest others e = e
one_area false d rest others e = e

areas_are : (m : ℕ) (items : List Item) → map area (rects_on m items) ≡ areas_on m (pieces_in items)
areas_are m [] = refl
areas_are m (item ∷ items) = one_area (nat_eq item.mask m) item.drawn (rects_on m items) (areas_on m (pieces_in items)) (areas_are m items)

-- an item on a mask that isn't there
none_on : (count m : ℕ) (items : List Item) → All (λ x. x.mask < count) items → count ≤ m → rects_on m items ≡ []
none_on count m [] low over = refl
none_on count m (item ∷ items) low over =
    let here : item.mask < count = low 0 item (omega arith) in
    let other : nat_eq item.mask m ≡ false = false_from_ne_true (nat_eq item.mask m) (λ e. let same = eqb-true item.mask m e in absurd (omega (arith, here, same))) in
    ap (λ b. cons_option (cond b (rect_of item.drawn) None) (rects_on m items)) other
    ∙ none_on count m items (λ i x below. low (suc i) x (omega arith)) over

rectangles_drawn : (items : List Item) (count : ℕ) (masks : List (List Rect)) → All (λ x. x.mask < count) items → AreOnMasks items count masks
    → (m : ℕ) → map area (get_or masks m []) ≡ areas_on m (pieces_in items)
rectangles_drawn items count masks low h m =
    ⊎_elim
    (λ small. ap (map area) (h.each m small) ∙ areas_are m items)
    (λ large. let over : length masks ≤ m = omega (arith, h.all) in
    ap (map area) (get_or-eq_default masks [] over ∙ sym (none_on count m items low large)) ∙ areas_are m items)
    (cases_lt m count)

-- the layout of the masks and the labels
pub layout_draws : (items : List Item) (count : ℕ) (masks : List (List Rect)) (labels : List Mark) → All (λ x. x.mask < count) items
    → AreOnMasks items count masks → labels ≡ marks_of (pieces_in items) → Draws (pieces_in items) count (record { masks = masks; labels = labels })
layout_draws items count masks labels low h are = record { labels = are; masks = h.all; cells = cells_drawn items count masks low h; rectangles = rectangles_drawn items count masks low h }
