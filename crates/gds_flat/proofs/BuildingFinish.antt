-- What is known of the structures of the finish, when their lists are built.
use Rattle.std.proofs.Common.{◌≡◌, ℕ, suc, ◌<◌, ◌⊎◌, nat_lt, Bool, true, false, cond, List, [], ◌∷◌, ◌++◌, length, map, Option, Some, None, MatchOption, All, Contains, refl, sym, ap, subst, ◌∙◌, inl, inr, ⊎_elim, rules, arith}
use Rattle.std.proofs.Common.{tests}
use Rattle.std.specs.List.{flat_map, position, position_or_len}
use Rattle.std.proofs.lemmas.List.{length-append}
use Rattle.std.proofs.lemmas.List.Elements.{All-nil, All-cons, All-append, All-contains, Contains-append_left, Contains-append_right, Contains-append_cases, Contains-push, Contains-push_cases}
use Rattle.rt_cells.specs.Rectangles.{Rectangle}
use Rattle.rt_tech.specs.declared.table.Tech.{Tech}
use Rattle.gds_stream.specs.declared.library.Element.{Element}
use Rattle.gds_stream.specs.declared.library.Element.TheVariants.{Boundary, Path, Sref, Aref, Label, BoxShape}
use Rattle.gds_stream.specs.declared.library.Structure.{Structure}
use Rattle.gds_slabs.specs.declared.step.Step.{Step}
use Rattle.gds_flat.specs.declared.item.Item.{Item}
use Rattle.gds_flat.specs.declared.walk.Walk.{Walk}
use Rattle.gds_flat.specs.Reach.Order.{done, known, new}
use Rattle.gds_flat.specs.Reach.{Name, elements_of, structure_named, references, Order, Refers, Chain, Shallow}
use Rattle.gds_flat.specs.Elements.{mask_of, Fine}
use Rattle.gds_flat.specs.Refused.{elements_along}
use Rattle.gds_flat.specs.Items.{Piece, area_piece, piece_moved, all_moved, GivesOn, PiecesOf}
use Rattle.gds_flat.specs.Items.PiecesOf.{none, own, placed as by_place}
use Rattle.gds_flat.specs.Drawn.{piece_of, pieces_in, IsDrawable, AreDrawable}
use Rattle.gds_flat.specs.Walking.{name_at, names_at, elements_at, IsFirst}
use Rattle.gds_flat.specs.Depths.{IsTree, PlaceOnly}
use Rattle.gds_flat.specs.Building.{CanBeDrawn, CanBeListed}
use Rattle.gds_flat.proofs.Going.{IsPlaced, placed}
use Rattle.gds_flat.proofs.Coming.{all_entries}
use Rattle.rt_cells.proofs.Lists.{mapped}
use Rattle.rt_cells.proofs.Entries.{contains_at}
use Rattle.gds_flat.proofs.Ranking.{IsTurn, places_before}

-- ---- what is reached

chain_join : (library : List Structure) (a : Name) (before : List Name) (n : Name) (names : List Name) → Chain library a (before ++ n ∷ []) → Chain library n names
    → Chain library a ((before ++ n ∷ []) ++ names)
chain_join library a [] n names chain more = (chain.0, more)
chain_join library a (b ∷ before) n names chain more = (chain.0, chain_join library b before n names chain.1 more)

-- a chain leads from the top to the name, or it is the top
Reached : List Structure → Name → Name → Type 0
Reached library top n = (n ≡ top) ⊎ ((names : List Name) × Chain library top (names ++ n ∷ []))

reached_next : (library : List Structure) (top m n : Name) → Reached library top m → Refers library m n → Reached library top n
unfolding Reached
reached_next library top m n (inl e) refers = let P : Name → Type 0 = λ x. Refers library x n in inr ([], (subst P e refers, tt))
reached_next library top m n (inr h) refers = inr (h.0 ++ m ∷ [], chain_join library top h.0 m (n ∷ []) h.1 (refers, tt))

reached_all : (library : List Structure) (top : Name) {seen agenda order : List Name} → Order library seen agenda order
    → ((n : Name) → Contains seen n → Reached library top n) → ((n : Name) → Contains agenda n → Reached library top n) → (n : Name) → Contains order n → Reached library top n
reached_all library top done seen next n at = seen n at
reached_all library top (known {agenda = agenda} {n = m} a r) seen next n at =
    reached_all library top r seen (λ x k. next x (Contains-append_right (m ∷ []) agenda x k)) n at
reached_all library top (new {seen = before} {agenda = agenda} {n = m} {s = s} a found r) seen next n at =
    let here : Reached library top m = next m (Contains-append_left (m ∷ []) agenda m (Contains-push [] m)) in
    let P : Name → Type 0 = λ x. Reached library top x in
    reached_all library top r
    (λ x k. ⊎_elim (λ old. seen x old) (λ e. subst P e here) (Contains-push_cases before m x k))
    (λ x k. ⊎_elim (λ placed. reached_next library top m x here (record { structure = s; found = found; places = placed }))
    (λ rest. next x (Contains-append_right (m ∷ []) agenda x rest)) (Contains-append_cases (references s.elements) agenda x k))
    n at

shallow_reached : (library : List Structure) (top n : Name) → Shallow library top → Reached library top n → Shallow library n
unfolding Reached
shallow_reached library top n shallow (inl e) = let P : Name → Type 0 = λ x. Shallow library x in subst P (sym e) shallow
shallow_reached library top n shallow (inr h) = λ names chain.
    let few = shallow ((h.0 ++ n ∷ []) ++ names) (chain_join library top h.0 n names h.1 chain) in
    omega (arith, few, length-append (h.0 ++ n ∷ []) names)

-- no chain from a name of the order is longer than the top's
shallow_in : (library : List Structure) (top : Name) (order : List Name) (n : Name) → Order library [] (top ∷ []) order → Shallow library top → Contains order n → Shallow library n
unfolding Reached
shallow_in library top order n o shallow at =
    shallow_reached library top n shallow
    (reached_all library top o (λ x none. absurd (omega (arith, none.1)))
    (λ x k. ⊎_elim (λ none. absurd (omega (arith, none.1))) (λ e. inl (sym e)) (Contains-push_cases [] top x k)) n at)

-- ---- elements

contains_flat : {X Y : Type 0} (f : X → List Y) (xs : List X) (x : X) (y : Y) → Contains xs x → Contains (f x) y → Contains (flat_map f xs) y
contains_flat f [] x y at h = absurd (omega (arith, at.1))
contains_flat {X = X} f (z ∷ xs) x y at h =
    ⊎_elim (λ k. ⊎_elim (λ none. absurd (omega (arith, none.1)))
    (λ e. let P : X → Type 0 = λ w. Contains (f w) y in Contains-append_left (f z) (flat_map f xs) y (subst P (sym e) h)) (Contains-push_cases [] z x k))
    (λ k. Contains-append_right (f z) (flat_map f xs) y (contains_flat f xs x y k h))
    (Contains-append_cases (z ∷ []) xs x at)

-- the elements of a structure of the finish can be drawn
drawn_at : (library : List Structure) (tech : Tech) (order : List ℕ) (k : ℕ) → All (Fine tech) (elements_along library (names_at library order)) → AreDrawable library
    → IsFirst library k → Contains order k → All (CanBeDrawn tech) (elements_at library k)
drawn_at library tech order k fine drawable first among =
    let r = placed library (name_at library k) k first in
    let p : IsPlaced library (name_at library k) k r.0 = r.1 in
    let f : Name → List Element = λ n. elements_of (structure_named library n) in
    let same : elements_at library k ≡ f (name_at library k) = ap elements_of (p.at ∙ sym p.found) in
    let here : elements_at library k ≡ (r.0).elements = ap elements_of p.at in
    let good : All IsDrawable (r.0).elements = All-contains (λ s. All IsDrawable s.elements) library r.0 drawable (contains_at library k r.0 p.at) in
    all_entries (CanBeDrawn tech) (elements_at library k)
    (λ i e at.
    let has : Contains (elements_at library k) e = contains_at (elements_at library k) i e at in
    let P : List Element → Type 0 = λ es. Contains es e in
    record {
      fine = All-contains (Fine tech) (elements_along library (names_at library order)) e fine
          (contains_flat f (names_at library order) (name_at library k) e (mapped (name_at library) order k among) (subst P same has));
      drawable = All-contains IsDrawable (r.0).elements e good (subst P here has);
    })

-- the list at a turn can be found
pub can_be_listed : (library : List Structure) (top : Name) (walk : Walk) (tech : Tech) (i k count : ℕ) → IsTree library top walk → IsTurn library walk.finish.items i k
    → All (Fine tech) (elements_along library (names_at library walk.order.items)) → AreDrawable library → Shallow library top → count ≡ i
    → CanBeListed library tech walk.finish.items count k
can_be_listed library top walk tech i k count tree turn fine drawable shallow is =
    let among : Contains walk.order.items k = tree.marked.done_seen k i (tree.marked.at_done k i turn.at) in
    let Q : ℕ → Type 0 = λ n. PlaceOnly library walk.finish.items n (elements_at library k) in
    record {
      first = turn.first;
      before = subst Q (sym is) (places_before library walk.finish.items i k tree.ranked turn.first turn.at);
      drawn = drawn_at library tech walk.order.items k fine drawable turn.first among;
      shallow = shallow_in library top (names_at library walk.order.items) (name_at library k) tree.order shallow (mapped (name_at library) walk.order.items k among);
    }

-- ---- masks

-- the mask is one of so many
record HasMask (count : ℕ) (piece : Piece) : Type 0 where
  below : piece.mask < count

position_by : (b : Bool) (n m i : ℕ) → nat_lt n m ≡ b → cond b (Some n) None ≡ Some i → i < m
position_by true n m i test e = let same : n ≡ i = cc in let below : n < m = search (rules, tests) in omega arith
position_by false n m i test e = cc

position_low : {X : Type 0} (p : X → Bool) (xs : List X) (i : ℕ) → position p xs ≡ Some i → i < length xs
position_low p xs i e = position_by (nat_lt (position_or_len p xs) (length xs)) (position_or_len p xs) (length xs) i refl e

mask_low : (tech : Tech) (e : Element) (mask : ℕ) → mask_of tech e ≡ Some mask → mask < length tech.masks
mask_low tech (Boundary offset layer datatype points) mask e = position_low _ tech.masks mask e
mask_low tech (Path offset layer datatype pathtype width points) mask e = position_low _ tech.masks mask e
mask_low tech (Sref offset name place at) mask e = cc
mask_low tech (Aref offset name place columns rows points) mask e = cc
mask_low tech (Label offset layer texttype at text) mask e = position_low _ tech.masks mask e
mask_low tech (BoxShape offset layer boxtype) mask e = position_low _ tech.masks mask e

areas_masked : (count offset mask : ℕ) (rects : List Rectangle) → mask < count → All (HasMask count) (map (area_piece offset mask) rects)
areas_masked count offset mask [] below = All-nil (HasMask count)
areas_masked count offset mask (r ∷ rects) below =
    All-cons (HasMask count) (area_piece offset mask r) (map (area_piece offset mask) rects) (record { below = below }) (areas_masked count offset mask rects below)

none_masked : (count : ℕ) (pieces : List Piece) → pieces ≡ [] → All (HasMask count) pieces
none_masked count pieces e = let P : List Piece → Type 0 = λ ps. All (HasMask count) ps in subst P (sym e) (All-nil (HasMask count))

given_masked : (count : ℕ) (e : Element) (mask : ℕ) (pieces : List Piece) → mask < count → GivesOn e mask pieces → All (HasMask count) pieces
given_masked count (Boundary offset layer datatype points) mask pieces below h =
    let P : List Piece → Type 0 = λ ps. All (HasMask count) ps in subst P (sym h.are) (areas_masked count offset mask h.rects below)
given_masked count (Path offset layer datatype pathtype width points) mask pieces below h =
    let P : List Piece → Type 0 = λ ps. All (HasMask count) ps in subst P (sym h.are) (areas_masked count offset mask _ below)
given_masked count (Sref offset name place at) mask pieces below h = none_masked count pieces h
given_masked count (Aref offset name place columns rows points) mask pieces below h = none_masked count pieces h
given_masked count (Label offset layer texttype at text) mask pieces below h =
    let P : List Piece → Type 0 = λ ps. All (HasMask count) ps in
    subst P (sym h) (All-cons (HasMask count) _ [] (record { below = below }) (All-nil (HasMask count)))
given_masked count (BoxShape offset layer boxtype) mask pieces below h = none_masked count pieces h

own_masked : (tech : Tech) (e : Element) (found : Option ℕ) (pieces : List Piece) → mask_of tech e ≡ found → MatchOption found (pieces ≡ []) (λ mask. GivesOn e mask pieces)
    → All (HasMask (length tech.masks)) pieces
own_masked tech e None pieces is h = none_masked (length tech.masks) pieces h
own_masked tech e (Some mask) pieces is h = given_masked (length tech.masks) e mask pieces (mask_low tech e mask is) h

one_masked : (count : ℕ) (step : Step) (pieces : List Piece) → All (HasMask count) pieces → All (HasMask count) (map (piece_moved step) pieces)
one_masked count step [] h = All-nil (HasMask count)
one_masked count step (p ∷ pieces) h =
    All-cons (HasMask count) (piece_moved step p) (map (piece_moved step) pieces) (record { below = head.below }) (one_masked count step pieces (λ i d b. h (suc i) d (omega arith)))
  where
    head : HasMask count p
    head = h 0 p (omega arith)

moved_masked : (count : ℕ) (steps : List Step) (pieces : List Piece) → All (HasMask count) pieces → All (HasMask count) (all_moved steps pieces)
moved_masked count [] pieces h = All-nil (HasMask count)
moved_masked count (step ∷ steps) pieces h =
    All-append (HasMask count) (map (piece_moved step) pieces) (all_moved steps pieces) (one_masked count step pieces h) (moved_masked count steps pieces h)

pieces_masked : (library : List Structure) (tech : Tech) {es : List Element} {pieces : List Piece} → PiecesOf library tech es pieces → All (HasMask (length tech.masks)) pieces
pieces_masked library tech none = All-nil (HasMask (length tech.masks))
pieces_masked library tech (own e mine others t o r is) =
    let P : List Piece → Type 0 = λ ps. All (HasMask (length tech.masks)) ps in
    subst P (sym is) (All-append (HasMask (length tech.masks)) mine others (own_masked tech e (mask_of tech e) mine refl o) (pieces_masked library tech r))
pieces_masked library tech (by_place e to s inner others steps t f i st r is) =
    let P : List Piece → Type 0 = λ ps. All (HasMask (length tech.masks)) ps in
    subst P (sym is) (All-append (HasMask (length tech.masks)) (all_moved steps inner) others
    (moved_masked (length tech.masks) steps inner (pieces_masked library tech i)) (pieces_masked library tech r))

-- items have masks of the table
pub items_masked : (library : List Structure) (tech : Tech) (es : List Element) (items : List Item) → PiecesOf library tech es (pieces_in items)
    → All (λ i. i.mask < length tech.masks) items
items_masked library tech es items h =
    all_entries (λ i. i.mask < length tech.masks) items
    (λ i item e. one item (All-contains (HasMask (length tech.masks)) (pieces_in items) (piece_of item) (pieces_masked library tech h) (mapped piece_of items item (contains_at items i item e))))
  where
    one : (item : Item) → HasMask (length tech.masks) (piece_of item) → item.mask < length tech.masks
    one item k = k.below
