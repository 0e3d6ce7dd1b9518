-- A flat layout and its refusals, from a walk that is accepted.
use Rattle.std.proofs.Common.{◌≡◌, ℕ, ◌<◌, ◌≤◌, List, [], ◌∷◌, ◌++◌, length, get_or, Some, All, Contains, sym, ap, subst, ◌∙◌, inl, inr, append_assoc, arith}
use Rattle.std.specs.List.{flat_map}
use Rattle.std.proofs.lemmas.List.Elements.{All-contains, Contains-append_left, Contains-append_right}
use Rattle.std.proofs.lemmas.Option.{slice_get-get_or}
use Rattle.rt_tech.specs.declared.table.Tech.{Tech}
use Rattle.rt_layout.specs.declared.layout.Layout.{Layout}
use Rattle.gds_stream.specs.declared.library.Element.{Element}
use Rattle.gds_stream.specs.declared.library.Structure.{Structure}
use Rattle.gds_slabs.proofs.Members.{Among, all_from_among, among_from_contains, contains_from_among}
use Rattle.gds_flat.specs.declared.walk.Walk.{Walk}
use Rattle.gds_flat.specs.declared.error.FlatError.TheVariants.{TooMany}
use Rattle.gds_flat.specs.declared.limits.TheConstants.{MOST_ITEMS}
use Rattle.gds_flat.specs.Reach.{Name, structure_named, elements_of, Refers, RankedBehind, Acyclic}
use Rattle.gds_flat.specs.Elements.{Fine}
use Rattle.gds_flat.specs.Items.{Piece, Pieces, DrawingIsNear, marks_of, areas_on}
use Rattle.gds_flat.specs.Depths.{IsRankOf}
use Rattle.gds_flat.specs.Drawn.{AreDrawable, HasCount, AreCounts}
use Rattle.gds_flat.specs.Drawings.{Draws, AreFewPieces, IsAcceptedWalk}
use Rattle.gds_flat.specs.Refused.{elements_along, Accepted, IsFlattened, FlatRefused}
use Rattle.gds_flat.specs.Laws.{OneFlat}
use Rattle.gds_flat.proofs.Going.{name_placed}
use Rattle.gds_flat.proofs.Accepting.{first_in, walk_accepted}
use Rattle.gds_flat.proofs.PiecesOne.{steps_one, pieces_one}
use Rattle.gds_flat.proofs.Cells.{IsGround, pieces_cover}

-- ---- what a walk that is accepted reaches

in_along : {X Y : Type 0} (f : X → List Y) (xs : List X) (x : X) (y : Y) → Among xs x → Contains (f x) y → Contains (flat_map f xs) y
in_along f [] x y at has = elim at [ ]
in_along {X = X} f (z ∷ xs) x y (inl e) has =
    let P : X → Type 0 = λ w. Contains (f w) y in Contains-append_left (f z) (flat_map f xs) y (subst P (sym e) has)
in_along f (z ∷ xs) x y (inr at) has = Contains-append_right (f z) (flat_map f xs) y (in_along f xs x y at has)

fine_of : (library : List Structure) (tech : Tech) (order : List Name) (n : Name) (s : Structure) → All (Fine tech) (elements_along library order)
    → Contains order n → structure_named library n ≡ Some s → All (Fine tech) s.elements
fine_of library tech order n s fine at found =
    all_from_among (Fine tech) s.elements
    (λ e among. let P : List Element → Type 0 = λ es. Contains es e in
    All-contains (Fine tech) (elements_along library order) e fine
    (in_along (λ m. elements_of (structure_named library m)) order n e (among_from_contains order n at)
    (subst P (sym (ap elements_of found)) (contains_from_among s.elements e among))))

ranked_closed : (library : List Structure) (before names : List Name) (n m : Name) → RankedBehind library before names → Among names n → Refers library n m
    → Contains (before ++ names) m
ranked_closed library before [] n m ranked at refers = elim at [ ]
ranked_closed library before (k ∷ names) n m ranked (inl e) refers =
    let P : Name → Type 0 = λ x. Refers library x m in
    let stands = ranked.0 in
    Contains-append_left before (k ∷ names) m (stands.behind m (subst P (sym e) refers))
ranked_closed library before (k ∷ names) n m ranked (inr at) refers =
    let P : List Name → Type 0 = λ xs. Contains xs m in
    subst P (append_assoc before (k ∷ []) names) (ranked_closed library (before ++ k ∷ []) names n m ranked.1 at refers)

acyclic_closed : (library : List Structure) (order : List Name) (n m : Name) → Acyclic library order → Contains order n → Refers library n m → Contains order m
acyclic_closed library order n m acyclic at refers =
    let on : Contains acyclic.finish n = All-contains (Contains acyclic.finish) order n acyclic.all at in
    All-contains (Contains order) acyclic.finish m acyclic.only
    (ranked_closed library [] acyclic.finish n m acyclic.ranked (among_from_contains acyclic.finish n on) refers)

accepted_ground : (library : List Structure) (top : Name) (tech : Tech) → (h : Accepted library top tech) → AreDrawable library
    → IsGround library tech h.sound.order
accepted_ground library top tech h drawable = record {
  fine = λ n s at found. fine_of library tech h.sound.order n s h.fine at found;
  closed = λ n m at refers. acyclic_closed library h.sound.order n m h.sound.acyclic at refers;
  drawable = drawable;
}

-- ---- the count of the top

pub top_count : (library : List Structure) (top : Name) (tech : Tech) (finish counts : List ℕ) (place count : ℕ) → AreCounts library tech finish counts
    → IsRankOf library finish top place → place < length counts → count ≡ get_or counts place count → HasCount library tech top count
top_count library top tech finish counts place count h rank below is =
    let P : Name → Type 0 = λ n. HasCount library tech n count in
    subst P (name_placed library top rank.structure rank.named)
    (h.are place rank.structure count rank.at (slice_get-get_or counts place count below ∙ ap Some (sym is)))

pub many_refused : (library : List Structure) (top : Name) (tech : Tech) (walk : Walk) (count : ℕ) → IsAcceptedWalk library top tech walk
    → HasCount library tech top count → MOST_ITEMS < count → FlatRefused library top tech (TooMany count)
many_refused library top tech walk count walked has many =
    let c = has.counted in
    record {
      accepted = walk_accepted library top tech walk walked;
      pieces = has.pieces;
      are = has.are;
      many = omega (arith, c);
      counted = has.counted;
    }

-- the items of the top are as few as the count says
few_pieces : (library : List Structure) (top : Name) (tech : Tech) (pieces : List Piece) (count : ℕ) → HasCount library tech top count → count ≤ MOST_ITEMS
    → Pieces library tech top pieces → length pieces ≤ MOST_ITEMS
few_pieces library top tech pieces count has low are =
    let c = has.counted in
    let same : length has.pieces ≡ length pieces = ap length (pieces_one library tech top has.pieces pieces has.are are) in
    omega (arith, c, same)

-- the items of the top, of a walk that is accepted
pub few_taken : (library : List Structure) (top : Name) (tech : Tech) (walk : Walk) (pieces : List Piece) (count : ℕ) → IsAcceptedWalk library top tech walk
    → HasCount library tech top count → count ≤ MOST_ITEMS → Pieces library tech top pieces → AreFewPieces library top tech pieces
few_taken library top tech walk pieces count walked has low are = record {
  accepted = walk_accepted library top tech walk walked;
  are = are;
  few = few_pieces library top tech pieces count has low are;
}

-- ---- the answers

pub drawn_flat : (library : List Structure) (top : Name) (tech : Tech) (pieces : List Piece) (layout : Layout) → AreFewPieces library top tech pieces
    → AreDrawable library → All (λ p. DrawingIsNear p.drawing) pieces → Draws pieces (length tech.masks) layout → IsFlattened library top tech layout
drawn_flat library top tech pieces layout h drawable near draws = let a = h.accepted in record {
  accepted = a;
  flat = record {
    pieces = pieces;
    are = h.are;
    labels = draws.labels;
    masks = draws.masks;
    cells = λ m x y.
        let shown = pieces_cover library tech a.sound.order top pieces steps_one (accepted_ground library top tech a drawable)
        (first_in library a.sound.reached) h.are m (x, y) in
        let drawn = draws.cells m x y in
        (λ covers. shown.0 (drawn.0 covers), λ covered. drawn.1 (shown.1 covered));
    rectangles = draws.rectangles;
  };
  few = h.few;
  near = near;
}

-- a library's structure has one flat layout: its labels, as many masks, and the same rectangles on each
pub one_flat : OneFlat
one_flat library top tech f g flat other =
    let same : flat.flat.pieces ≡ other.flat.pieces = pieces_one library tech top flat.flat.pieces other.flat.pieces flat.flat.are other.flat.are in
    record {
      labels = flat.flat.labels ∙ ap marks_of same ∙ sym other.flat.labels;
      masks = flat.flat.masks ∙ sym other.flat.masks;
      rectangles = λ m. flat.flat.rectangles m ∙ ap (areas_on m) same ∙ sym (other.flat.rectangles m);
    }
