-- The cells that the rectangles of a flat cell hold are those that its structure covers.
use Rattle.std.proofs.Common.{◌≡◌, ℕ, ℤ, Bool, true, false, List, [], ◌∷◌, ◌++◌, map, Option, Some, None, MatchOption, All, Contains, ◌↔◌, find, refl, sym, ap, subst, ◌∙◌, ◌⊎◌, inl, inr, ⊎_elim, arith}
use Rattle.std.specs.List.{cons_option}
use Rattle.std.proofs.lemmas.Bool.{cond_both}
use Rattle.std.proofs.lemmas.List.Elements.{All-contains, Contains-append_left, Contains-append_right, Contains-append_cases, Contains-push}
use Rattle.rt_cells.specs.Rectangles.{Rectangle, Holds, Covers}
use Rattle.rt_base.specs.declared.plane.Point.{Point}
use Rattle.rt_tech.specs.declared.table.Tech.{Tech}
use Rattle.gds_stream.specs.declared.library.Element.{Element}
use Rattle.gds_stream.specs.declared.library.Element.TheVariants.{Boundary, Path, Sref, Aref, Label, BoxShape}
use Rattle.gds_stream.specs.declared.library.Structure.{Structure}
use Rattle.gds_slabs.specs.declared.step.Step.{Step}
use Rattle.gds_slabs.specs.Path.{path_areas, PathArea, half_of}
use Rattle.gds_slabs.specs.Steps.{moved_rect, moved_cell, IsMovedFrom}
use Rattle.gds_slabs.proofs.Members.{Among, contains_from_among, among_from_contains}
use Rattle.gds_slabs.proofs.Coverings.{inside_covered, covered_inside}
use Rattle.gds_slabs.proofs.PathAreas.{listed_areas}
use Rattle.gds_slabs.proofs.Placing.{moved_holds, moved_from}
use Rattle.gds_flat.specs.declared.error.Odd.TheVariants.{Slanted}
use Rattle.gds_flat.specs.Reach.{Name, structure_named, target, references, Refers, is_named}
use Rattle.gds_flat.specs.Elements.{mask_of, end_of, Plain, IsWhole, IsDropped, Fine}
use Rattle.gds_flat.specs.Placing.{StepsOf, ElementCovers, Covered}
use Rattle.gds_flat.specs.Placing.Covered.{own as covers_itself, placed as covers_by}
use Rattle.gds_flat.specs.Items.{Drawing, Piece, area_piece, note_piece, GivesOn, Own, drawing_moved, piece_moved, all_moved, PiecesOf, Pieces}
use Rattle.gds_flat.specs.Items.Drawing.{area_of, note_at}
use Rattle.gds_flat.specs.Items.PiecesOf.{none as no_pieces, own as own_pieces, placed as placed_pieces}
use Rattle.gds_flat.specs.Drawn.{IsDrawable, AreDrawable}
use Rattle.gds_flat.specs.Drawings.{Shows, OneShows}
use Rattle.rt_cells.proofs.Lists.{mapped, mapped_from}
use Rattle.gds_flat.proofs.PiecesOne.{ends_one}

shows_left : (a b : List Piece) (m : ℕ) (cell : ℤ × ℤ) → OneShows a m cell → OneShows (a ++ b) m cell
shows_left a b m cell h = (h.0, Contains-append_left a b h.0 h.1, h.2)

shows_right : (a b : List Piece) (m : ℕ) (cell : ℤ × ℤ) → OneShows b m cell → OneShows (a ++ b) m cell
shows_right a b m cell h = (h.0, Contains-append_right a b h.0 h.1, h.2)

shows_cases : (a b : List Piece) (m : ℕ) (cell : ℤ × ℤ) → OneShows (a ++ b) m cell → OneShows a m cell ⊎ OneShows b m cell
shows_cases a b m cell h = ⊎_elim (λ k. inl (h.0, k, h.2)) (λ k. inr (h.0, k, h.2)) (Contains-append_cases a b h.0 h.1)

shows_same : (a b : List Piece) (m : ℕ) (cell : ℤ × ℤ) → a ≡ b → OneShows a m cell → OneShows b m cell
shows_same a b m cell e h = let P : List Piece → Type 0 = λ ps. OneShows ps m cell in subst P e h

-- ---- rectangles as pieces

area_at : Rectangle → Drawing → Rectangle
area_at r (area_of q) = q
area_at r (note_at at text) = r

pub same_area : (r q : Rectangle) → area_of r ≡ area_of q → r ≡ q
unfolding area_at
same_area r q e = ap (area_at r) e

is_area : Drawing → Bool
is_area (area_of q) = true
is_area (note_at at text) = false

pub no_note : (at : ℤ × ℤ) (text : List ℕ) (r : Rectangle) → note_at at text ≡ area_of r → ⊥
unfolding is_area
no_note at text r e = let f = ap is_area e in cc

areas_shown : (offset k : ℕ) (rects : List Rectangle) (m : ℕ) (cell : ℤ × ℤ) → OneShows (map (area_piece offset k) rects) m cell
    → (k ≡ m) × Covers rects cell.0 cell.1
areas_shown offset k rects m cell h =
    let f = mapped_from (area_piece offset k) rects h.0 h.1 in
    let s : Shows m cell h.0 = h.2 in
    let same : f.0 ≡ s.rect = same_area f.0 s.rect (ap (λ p. p.drawing) f.2 ∙ s.draws) in
    let P : Rectangle → Type 0 = λ r. Holds r cell.0 cell.1 in
    (ap (λ p. p.mask) f.2 ∙ s.on, (f.0, f.1, subst P (sym same) s.holds))

shown_areas : (offset m : ℕ) (rects : List Rectangle) (cell : ℤ × ℤ) → Covers rects cell.0 cell.1 → OneShows (map (area_piece offset m) rects) m cell
shown_areas offset m rects cell h =
    (area_piece offset m h.0, mapped (area_piece offset m) rects h.0 h.1, record { rect = h.0; on = refl; draws = refl; holds = h.2 })

note_shown : (offset k : ℕ) (at : Point) (text : List ℕ) (m : ℕ) (cell : ℤ × ℤ) → OneShows (note_piece offset k at text ∷ []) m cell → ⊥
note_shown offset k at text m cell h =
    let s : Shows m cell h.0 = h.2 in
    let none : note_piece offset k at text ≡ h.0 → ⊥ = λ e. no_note (at.x, at.y) text s.rect (ap (λ p. p.drawing) e ∙ s.draws) in
    elim (among_from_contains (note_piece offset k at text ∷ []) h.0 h.1) as (λ x. ⊥) [ inl e ↦ none e | inr f ↦ f ]

-- ---- what an element gives by itself

gives_shown : (e : Element) (k : ℕ) (mine : List Piece) (m : ℕ) (cell : ℤ × ℤ) → IsDrawable e → Plain e → GivesOn e k mine → OneShows mine m cell
    → (k ≡ m) × ElementCovers e cell
gives_shown (Boundary offset layer datatype points) k mine m cell closed plain gives h =
    let s = areas_shown offset k gives.rects m cell (shows_same mine _ m cell gives.are h) in
    (s.0, covered_inside points closed (plain Slanted) gives.rects gives.slabs cell.0 cell.1 s.1)
gives_shown (Path offset layer datatype pathtype width points) k mine m cell long plain gives h =
    let s = areas_shown offset k (path_areas (half_of width) gives.end points) m cell (shows_same mine _ m cell gives.are h) in
    let c = s.1 in
    (s.0, record { end = gives.end; ends = gives.ends; rect = c.0; of = (listed_areas (half_of width) gives.end points c.0).0 c.1; holds = c.2 })
gives_shown (Sref offset name place at) k mine m cell drawable plain gives h =
    let g = shows_same mine [] m cell gives h in let c = g.1 in absurd (omega (arith, c.1))
gives_shown (Aref offset name place columns rows points) k mine m cell drawable plain gives h =
    let g = shows_same mine [] m cell gives h in let c = g.1 in absurd (omega (arith, c.1))
gives_shown (Label offset layer texttype at text) k mine m cell drawable plain gives h =
    absurd (note_shown offset k at text m cell (shows_same mine (note_piece offset k at text ∷ []) m cell gives h))
gives_shown (BoxShape offset layer boxtype) k mine m cell drawable plain gives h =
    let g = shows_same mine [] m cell gives h in let c = g.1 in absurd (omega (arith, c.1))

gives_covered : (e : Element) (m : ℕ) (mine : List Piece) (cell : ℤ × ℤ) → IsDrawable e → Plain e → GivesOn e m mine → ElementCovers e cell
    → OneShows mine m cell
gives_covered (Boundary offset layer datatype points) m mine cell closed plain gives h =
    shows_same _ mine m cell (sym gives.are)
    (shown_areas offset m gives.rects cell (inside_covered points closed (plain Slanted) gives.rects gives.slabs cell.0 cell.1 h))
gives_covered (Path offset layer datatype pathtype width points) m mine cell long plain gives h =
    let same : h.end ≡ gives.end = ends_one (end_of pathtype) h.end gives.end h.ends gives.ends in
    shows_same _ mine m cell (sym gives.are)
    (shown_areas offset m (path_areas (half_of width) gives.end points) cell
    (h.rect, (listed_areas (half_of width) gives.end points h.rect).1 (subst (λ e. PathArea (half_of width) e points h.rect) same h.of), h.holds))
gives_covered (Sref offset name place at) m mine cell drawable plain gives h = absurd h
gives_covered (Aref offset name place columns rows points) m mine cell drawable plain gives h = absurd h
gives_covered (Label offset layer texttype at text) m mine cell drawable plain gives h = absurd h
gives_covered (BoxShape offset layer boxtype) m mine cell drawable plain gives h = absurd h

-- what is fine and has a mask is whole
fine_whole : (tech : Tech) (e : Element) (k : ℕ) → Fine tech e → mask_of tech e ≡ Some k → IsWhole e
fine_whole tech e k (inl dropped) at = let d : IsDropped tech e = dropped in let n = d.unmapped in cc
fine_whole tech e k (inr h) at = h.1

own_by : (e : Element) (found : Option ℕ) (mine : List Piece) (m : ℕ) (cell : ℤ × ℤ) → IsDrawable e → ((k : ℕ) → found ≡ Some k → IsWhole e)
    → MatchOption found (mine ≡ []) (λ mask. GivesOn e mask mine) → OneShows mine m cell → (found ≡ Some m) × ElementCovers e cell
own_by e None mine m cell drawable whole gives h =
    let g = shows_same mine [] m cell gives h in let c = g.1 in absurd (omega (arith, c.1))
own_by e (Some k) mine m cell drawable whole gives h =
    let w : IsWhole e = whole k refl in
    let s = gives_shown e k mine m cell drawable w.plain gives h in (ap Some s.0, s.1)

own_shown : (tech : Tech) (e : Element) (mine : List Piece) (m : ℕ) (cell : ℤ × ℤ) → IsDrawable e → Fine tech e → Own tech e mine → OneShows mine m cell
    → (mask_of tech e ≡ Some m) × ElementCovers e cell
own_shown tech e mine m cell drawable fine gives h = own_by e (mask_of tech e) mine m cell drawable (λ k at. fine_whole tech e k fine at) gives h

own_covered : (tech : Tech) (e : Element) (mine : List Piece) (m : ℕ) (cell : ℤ × ℤ) → IsDrawable e → Fine tech e → Own tech e mine
    → mask_of tech e ≡ Some m → ElementCovers e cell → OneShows mine m cell
own_covered tech e mine m cell drawable fine gives at covers =
    let P : Option ℕ → Type 0 = λ o. MatchOption o (mine ≡ []) (λ mask. GivesOn e mask mine) in
    let w : IsWhole e = fine_whole tech e m fine at in
    gives_covered e m mine cell drawable w.plain (subst P at gives) covers

-- ---- what a step moves

moved_shown : (step : Step) (p : Piece) (m : ℕ) (cell : ℤ × ℤ) (d : Drawing) → p.drawing ≡ d → Shows m cell (piece_moved step p)
    → (from : ℤ × ℤ) × Shows m from p × (cell ≡ moved_cell step from)
moved_shown step p m cell (area_of q) e s =
    let same : moved_rect step q ≡ s.rect = same_area (moved_rect step q) s.rect (sym (ap (drawing_moved step) e) ∙ s.draws) in
    let P : Rectangle → Type 0 = λ r. Holds r cell.0 cell.1 in
    let f : IsMovedFrom step q cell.0 cell.1 = moved_holds step q cell.0 cell.1 (subst P (sym same) s.holds) in
    ((f.0, f.1), record { rect = q; on = s.on; draws = e; holds = f.2 }, sym f.3)
moved_shown step p m cell (note_at at text) e s =
    absurd (no_note _ text s.rect (sym (ap (drawing_moved step) e) ∙ s.draws))

shown_moved : (step : Step) (p : Piece) (m : ℕ) (cell from : ℤ × ℤ) → Shows m from p → cell ≡ moved_cell step from → Shows m cell (piece_moved step p)
shown_moved step p m cell from s e = record {
  rect = moved_rect step s.rect;
  on = s.on;
  draws = ap (drawing_moved step) s.draws;
  holds = moved_from step s.rect cell.0 cell.1 (from.0, from.1, s.holds, sym e);
}

all_shown : (steps : List Step) (inner : List Piece) (m : ℕ) (cell : ℤ × ℤ) → OneShows (all_moved steps inner) m cell
    → (step : Step) × (from : ℤ × ℤ) × Among steps step × OneShows inner m from × (cell ≡ moved_cell step from)
all_shown [] inner m cell h = let c = h.1 in absurd (omega (arith, c.1))
all_shown (step ∷ steps) inner m cell h =
    elim (shows_cases (map (piece_moved step) inner) (all_moved steps inner) m cell h) [
      | inl k ↦
          (let f = mapped_from (piece_moved step) inner k.0 k.1 in
          let P : Piece → Type 0 = λ p. Shows m cell p in
          let g = moved_shown step f.0 m cell (f.0).drawing refl (subst P (sym f.2) k.2) in
          (step, g.0, inl refl, (f.0, f.1, g.1), g.2))
      | inr k ↦ (let g = all_shown steps inner m cell k in (g.0, g.1, inr g.2, g.3, g.4))
    ]

shown_all : (steps : List Step) (inner : List Piece) (m : ℕ) (cell from : ℤ × ℤ) (step : Step) → Among steps step → OneShows inner m from
    → cell ≡ moved_cell step from → OneShows (all_moved steps inner) m cell
shown_all [] inner m cell from step at h e = elim at [ ]
shown_all (s ∷ steps) inner m cell from step (inl same) h e =
    let P : Step → Type 0 = λ x. cell ≡ moved_cell x from in
    shows_left (map (piece_moved s) inner) (all_moved steps inner) m cell
    (piece_moved s h.0, mapped (piece_moved s) inner h.0 h.1, shown_moved s h.0 m cell from h.2 (subst P (sym same) e))
shown_all (s ∷ steps) inner m cell from step (inr at) h e =
    shows_right (map (piece_moved s) inner) (all_moved steps inner) m cell (shown_all steps inner m cell from step at h e)

-- ---- elements in order

-- the names that may be reached, the elements of which are fine
pub record IsGround (library : List Structure) (tech : Tech) (order : List Name) : Type 0 where
  pub fine : (n : Name) (s : Structure) → Contains order n → structure_named library n ≡ Some s → All (Fine tech) s.elements
  pub closed : (n m : Name) → Contains order n → Refers library n m → Contains order m
  pub drawable : AreDrawable library

-- an element of such a structure
record IsSettled (tech : Tech) (order : List Name) (e : Element) : Type 0 where
  fine : Fine tech e
  drawable : IsDrawable e
  leads : (to : Name) → target e ≡ Some to → Contains order to

abbrev AreSettled : Tech → List Name → List Element → Type 0
AreSettled tech order es = (e : Element) → Among es e → IsSettled tech order e

found_among : (test : Structure → Bool) (library : List Structure) (s : Structure) → find test library ≡ Some s → Among library s
found_among test [] s e = cc
found_among test (t ∷ library) s e =
    cond_both (test t) (Some t) (find test library) (λ o. o ≡ Some s → Among (t ∷ library) s)
    (λ b h. let same : t ≡ s = cc in inl same)
    (λ b h. inr (found_among test library s h))
    e

referred : (es : List Element) (e : Element) (to : Name) → Among es e → target e ≡ Some to → Contains (references es) to
referred [] e to at is = elim at [ ]
referred (f ∷ es) e to (inl same) is =
    let S : Option Name → Type 0 = λ o. Contains (cons_option o (references es)) to in
    let t : target f ≡ Some to = ap target same ∙ is in
    subst S (sym t) (Contains-append_left (to ∷ []) (references es) to (Contains-push [] to))
referred (f ∷ es) e to (inr at) is = behind (target f) (referred es e to at is)
  where
    behind : (o : Option Name) → Contains (references es) to → Contains (cons_option o (references es)) to
    behind None h = h
    behind (Some n) h = Contains-append_right (n ∷ []) (references es) to h

settled : (library : List Structure) (tech : Tech) (order : List Name) (n : Name) (s : Structure) → IsGround library tech order → Contains order n
    → structure_named library n ≡ Some s → AreSettled tech order s.elements
settled library tech order n s ground at found e among = record {
  fine = All-contains (Fine tech) s.elements e (ground.fine n s at found) (contains_from_among s.elements e among);
  drawable =
      let all : All IsDrawable s.elements =
      All-contains (λ t. All IsDrawable t.elements) library s ground.drawable (contains_from_among library s (found_among (is_named n) library s found)) in
      All-contains IsDrawable s.elements e all (contains_from_among s.elements e among);
  leads = λ to is. ground.closed n to at (record { structure = s; found = found; places = referred s.elements e to among is });
}

-- what an element covers by itself or places
data CoversBy (library : List Structure) (tech : Tech) (e : Element) (m : ℕ) (cell : ℤ × ℤ) : Type 0 where
  itself : mask_of tech e ≡ Some m → ElementCovers e cell → CoversBy library tech e m cell
  placing : (to : Name) (steps : List Step) (step : Step) (from : ℤ × ℤ) → target e ≡ Some to → StepsOf e steps → Contains steps step
      → Covered library tech to m from → cell ≡ moved_cell step from → CoversBy library tech e m cell

covers_all : (library : List Structure) (tech : Tech) (n : Name) (s : Structure) (e : Element) (m : ℕ) (cell : ℤ × ℤ) → structure_named library n ≡ Some s
    → Among s.elements e → CoversBy library tech e m cell → Covered library tech n m cell
covers_all library tech n s e m cell found among (itself at covers) =
    covers_itself s e found (contains_from_among s.elements e among) at covers
covers_all library tech n s e m cell found among (placing to steps step from is has at covers same) =
    covers_by s e to steps step from found (contains_from_among s.elements e among) is has at covers same

-- what is shown is covered by one of the elements
shown_covered : (library : List Structure) (tech : Tech) (order : List Name) {es : List Element} {pieces : List Piece} (m : ℕ) (cell : ℤ × ℤ)
    → IsGround library tech order → AreSettled tech order es → PiecesOf library tech es pieces → OneShows pieces m cell
    → (e : Element) × Among es e × CoversBy library tech e m cell
shown_covered library tech order m cell ground all no_pieces h = let c = h.1 in absurd (omega (arith, c.1))
shown_covered library tech order {pieces = pieces} m cell ground all (own_pieces e mine others is gives rest same) h =
    elim (shows_cases mine others m cell (shows_same pieces (mine ++ others) m cell same h)) [
      | inl k ↦
          (let s : IsSettled tech order e = all e (inl refl) in
          let g = own_shown tech e mine m cell s.drawable s.fine gives k in
          (e, inl refl, itself g.0 g.1))
      | inr k ↦
          (let g = shown_covered library tech order m cell ground (λ x at. all x (inr at)) rest k in
          (g.0, inr g.1, g.2))
    ]
shown_covered library tech order {pieces = pieces} m cell ground all (placed_pieces e to s inner others steps is found within has rest same) h =
    elim (shows_cases (all_moved steps inner) others m cell (shows_same pieces (all_moved steps inner ++ others) m cell same h)) [
      | inl k ↦
          (let g = all_shown steps inner m cell k in
          let t : IsSettled tech order e = all e (inl refl) in
          let w = shown_covered library tech order m g.1 ground (settled library tech order to s ground (t.leads to is) found) within g.3 in (
            e,
            inl refl,
            placing to steps g.0 g.1 is has (contains_from_among steps g.0 g.2) (covers_all library tech to s w.0 m g.1 found w.1 w.2) g.4,
          ))
      | inr k ↦
          (let g = shown_covered library tech order m cell ground (λ x at. all x (inr at)) rest k in
          (g.0, inr g.1, g.2))
    ]

-- an element's steps are one list
abbrev pub StepsAreOne : Type 0
StepsAreOne = (e : Element) (a b : List Step) → StepsOf e a → StepsOf e b → a ≡ b

-- what an element by itself covers is shown
itself_shown : (library : List Structure) (tech : Tech) (order : List Name) {es : List Element} {pieces : List Piece} (e : Element) (m : ℕ) (cell : ℤ × ℤ)
    → AreSettled tech order es → PiecesOf library tech es pieces → Among es e → mask_of tech e ≡ Some m → ElementCovers e cell → OneShows pieces m cell
itself_shown library tech order e m cell all no_pieces among at covers = elim among [ ]
itself_shown library tech order {pieces = pieces} e m cell all (own_pieces f mine others is gives rest same) (inl here) at covers =
    let s : IsSettled tech order f = all f (inl refl) in
    let P : Element → Type 0 = λ x. ElementCovers x cell in
    shows_same (mine ++ others) pieces m cell (sym same)
    (shows_left mine others m cell
    (own_covered tech f mine m cell s.drawable s.fine gives (ap (mask_of tech) here ∙ at) (subst P (sym here) covers)))
itself_shown library tech order {pieces = pieces} e m cell all (own_pieces f mine others is gives rest same) (inr there) at covers =
    shows_same (mine ++ others) pieces m cell (sym same)
    (shows_right mine others m cell (itself_shown library tech order e m cell (λ x k. all x (inr k)) rest there at covers))
itself_shown library tech order {pieces = pieces} e m cell all (placed_pieces f to s inner others steps is found within has rest same) (inl here) at covers =
    let P : Element → Type 0 = λ x. ElementCovers x cell in
    absurd (places_nothing f to cell is (subst P (sym here) covers))
  where
    places_nothing : (f : Element) (to : Name) (cell : ℤ × ℤ) → target f ≡ Some to → ElementCovers f cell → ⊥
    places_nothing (Boundary offset layer datatype points) to cell is covers = cc
    places_nothing (Path offset layer datatype pathtype width points) to cell is covers = cc
    places_nothing (Sref offset name place at) to cell is covers = covers
    places_nothing (Aref offset name place columns rows points) to cell is covers = covers
    places_nothing (Label offset layer texttype at text) to cell is covers = covers
    places_nothing (BoxShape offset layer boxtype) to cell is covers = covers
itself_shown library tech order {pieces = pieces} e m cell all (placed_pieces f to s inner others steps is found within has rest same) (inr there) at covers =
    shows_same (all_moved steps inner ++ others) pieces m cell (sym same)
    (shows_right (all_moved steps inner) others m cell (itself_shown library tech order e m cell (λ x k. all x (inr k)) rest there at covers))

-- what the structure that an element places shows, the element does where its steps move it
placing_shown : (library : List Structure) (tech : Tech) {es : List Element} {pieces : List Piece} (e : Element) (to : Name) (steps : List Step) (step : Step)
    (m : ℕ) (cell from : ℤ × ℤ) → StepsAreOne → PiecesOf library tech es pieces → Among es e → target e ≡ Some to → StepsOf e steps → Contains steps step
    → ((inner : List Piece) → Pieces library tech to inner → OneShows inner m from) → cell ≡ moved_cell step from → OneShows pieces m cell
placing_shown library tech e to steps step m cell from one no_pieces among is has at shown moved = elim among [ ]
placing_shown library tech {pieces = pieces} e to steps step m cell from one (own_pieces f mine others none gives rest same) (inl here) is has at shown moved =
    let t : target f ≡ Some to = ap target here ∙ is in cc
placing_shown library tech {pieces = pieces} e to steps step m cell from one (own_pieces f mine others none gives rest same) (inr there) is has at shown moved =
    shows_same (mine ++ others) pieces m cell (sym same)
    (shows_right mine others m cell (placing_shown library tech e to steps step m cell from one rest there is has at shown moved))
placing_shown library tech {pieces = pieces} e to steps step m cell from one (placed_pieces f other s inner others ours names found within mine rest same) (inl here) is has at shown moved =
    let t : target f ≡ Some to = ap target here ∙ is in
    let equal : other ≡ to = cc in
    let P : Name → Type 0 = λ n. structure_named library n ≡ Some s in
    let Q : Element → Type 0 = λ x. StepsOf x steps in
    let R : List Step → Type 0 = λ ss. Contains ss step in
    let h : OneShows inner m from = shown inner (record { structure = s; found = subst P equal found; are = within }) in
    shows_same (all_moved ours inner ++ others) pieces m cell (sym same)
    (shows_left (all_moved ours inner) others m cell
    (shown_all ours inner m cell from step
    (among_from_contains ours step (subst R (one f steps ours (subst Q (sym here) has) mine) at)) h moved))
placing_shown library tech {pieces = pieces} e to steps step m cell from one (placed_pieces f other s inner others ours names found within mine rest same) (inr there) is has at shown moved =
    shows_same (all_moved ours inner ++ others) pieces m cell (sym same)
    (shows_right (all_moved ours inner) others m cell (placing_shown library tech e to steps step m cell from one rest there is has at shown moved))

covered_shown : (library : List Structure) (tech : Tech) (order : List Name) {n : Name} {m : ℕ} {cell : ℤ × ℤ} (pieces : List Piece) → StepsAreOne
    → IsGround library tech order → Contains order n → Covered library tech n m cell → Pieces library tech n pieces → OneShows pieces m cell
covered_shown library tech order {n = n} {m = m} {cell = cell} pieces one ground at (covers_itself s e found among on covers) are =
    let same : s ≡ are.structure = (let f = are.found in cc) in
    let P : Structure → Type 0 = λ t. Contains t.elements e in
    itself_shown library tech order e m cell (settled library tech order n are.structure ground at are.found) are.are
    (among_from_contains (are.structure).elements e (subst P same among)) on covers
covered_shown library tech order {n = n} {m = m} {cell = cell} pieces one ground at (covers_by s e to steps step from found among is has on covers moved) are =
    let same : s ≡ are.structure = (let f = are.found in cc) in
    let P : Structure → Type 0 = λ t. Contains t.elements e in
    let here : Among (are.structure).elements e = among_from_contains (are.structure).elements e (subst P same among) in
    let t : IsSettled tech order e = settled library tech order n are.structure ground at are.found e here in
    placing_shown library tech e to steps step m cell from one are.are here is has on
    (λ inner those. covered_shown library tech order inner one ground (t.leads to is) covers those) moved

-- the pieces of a structure show the cells that it covers, and no others
pub pieces_cover : (library : List Structure) (tech : Tech) (order : List Name) (n : Name) (pieces : List Piece) → StepsAreOne → IsGround library tech order
    → Contains order n → Pieces library tech n pieces → (m : ℕ) (cell : ℤ × ℤ) → OneShows pieces m cell ↔ Covered library tech n m cell
pieces_cover library tech order n pieces one ground at are m cell = (
  λ h. let w = shown_covered library tech order m cell ground (settled library tech order n are.structure ground at are.found) are.are h in
      covers_all library tech n are.structure w.0 m cell are.found w.1 w.2,
  λ h. covered_shown library tech order pieces one ground at h are,
)
