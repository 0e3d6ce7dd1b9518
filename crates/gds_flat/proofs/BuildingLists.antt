-- The pieces of elements, one after another, and of what they place.
use Rattle.std.proofs.Common.{◌≡◌, ℕ, suc, ◌+◌, ◌<◌, ◌≤◌, ℤ, ◌+ℤ◌, ◌≤ℤ◌, List, [], ◌∷◌, ◌++◌, length, map, get_or, take, Option, Some, None, slice_get, All, Contains, Result, Ok, Err, OnOk, refl, sym, ap, subst, ◌∙◌, ⊎_elim, arith}
use Rattle.std.proofs.lemmas.Int.{ints}
use Rattle.std.proofs.lemmas.Bool.{cases_lt}
use Rattle.std.proofs.lemmas.List.{append-nil, take_more, length-append}
use Rattle.std.proofs.lemmas.Option.{slice_get_within}
use Rattle.std.proofs.lemmas.List.Elements.{All-nil, All-cons, All-append, All-contains, Contains-append_left, Contains-append_right, filter_map-append}
use Rattle.rt_cells.proofs.Entries.{contains_at, before_or_end}
use Rattle.rt_tech.specs.declared.table.Tech.{Tech}
use Rattle.gds_stream.specs.declared.library.Element.{Element}
use Rattle.gds_stream.specs.declared.library.Structure.{Structure}
use Rattle.gds_slabs.specs.declared.step.Step.{Step}
use Rattle.gds_slabs.specs.Steps.{ShiftsWithin}
use Rattle.gds_flat.specs.declared.item.Item.{Item}
use Rattle.gds_flat.specs.declared.limits.TheConstants.{DEEPEST}
use Rattle.gds_flat.specs.Reach.{Name, structure_named, target, references, Chain, Shallow}
use Rattle.gds_flat.specs.Elements.{Fine}
use Rattle.gds_flat.specs.Placing.{StepsOf}
use Rattle.gds_flat.specs.Items.{Piece, piece_moved, all_moved, Own, PiecesOf}
use Rattle.gds_flat.specs.Items.PiecesOf.{none, own, placed as by_place}
use Rattle.gds_flat.specs.Drawn.{pieces_in}
use Rattle.gds_flat.specs.Walking.{name_at, elements_at, IsFirst}
use Rattle.gds_flat.specs.Depths.{IsRankOf}
use Rattle.gds_flat.specs.Building.{PieceWithin, most_shift, most_reach, reach_of, Appends, AreNearAnd, AreMovedBy, ChainFrom, AreNear, AreFrom, IsListOf, AreLists}
use Rattle.gds_flat.proofs.Going.{IsPlaced, placed, name_placed}
use Rattle.gds_flat.proofs.Coming.{entry_is, all_entries}
use Rattle.gds_flat.proofs.Ranking.{placed_one}
use Rattle.gds_flat.proofs.PiecesThere.{steps_there, whole_reference, pieces_of_join}
use Rattle.gds_flat.proofs.BoundsOfSteps.{piece_wider, piece_moved_within}

-- ---- one after another

-- among more elements
more_left : (es fs : List Element) (n : Name) → Contains (references es) n → Contains (references (es ++ fs)) n
more_left es fs n h =
    let P : List Name → Type 0 = λ ns. Contains ns n in
    subst P (sym (filter_map-append target es fs)) (Contains-append_left (references es) (references fs) n h)

more_right : (es fs : List Element) (n : Name) → Contains (references fs) n → Contains (references (es ++ fs)) n
more_right es fs n h =
    let P : List Name → Type 0 = λ ns. Contains ns n in
    subst P (sym (filter_map-append target es fs)) (Contains-append_right (references es) (references fs) n h)

chain_left : (library : List Structure) (es fs : List Element) (names : List Name) → ChainFrom library es names → ChainFrom library (es ++ fs) names
chain_left library es fs [] chain = tt
chain_left library es fs (n ∷ names) chain = (more_left es fs n chain.0, chain.1)

chain_right : (library : List Structure) (es fs : List Element) (names : List Name) → ChainFrom library fs names → ChainFrom library (es ++ fs) names
chain_right library es fs [] chain = tt
chain_right library es fs (n ∷ names) chain = (more_right es fs n chain.0, chain.1)

reach_wider : (m n : ℕ) → m ≤ n → reach_of m ≤ℤ reach_of n
reach_wider m n h = omega (arith, ints)

pub wider : (a b : ℤ) (pieces : List Piece) → a ≤ℤ b → All (PieceWithin a) pieces → All (PieceWithin b) pieces
wider a b pieces wide near = all_entries (PieceWithin b) pieces (λ i p e. piece_wider a b p wide (All-contains (PieceWithin a) pieces p near (contains_at pieces i p e)))

near_append : (library : List Structure) (es fs : List Element) (a b : List Piece) → AreNear library es a → AreNear library fs b → AreNear library (es ++ fs) (a ++ b)
near_append library es fs a b h k =
    ⊎_elim
    (λ less. record {
      names = k.names;
      chain = chain_right library es fs k.names k.chain;
      near = All-append (PieceWithin (reach_of (length k.names))) a b
          (wider (reach_of (length h.names)) (reach_of (length k.names)) a (reach_wider (length h.names) (length k.names) (omega (arith, less))) h.near) k.near;
    })
    (λ more. record {
      names = h.names;
      chain = chain_left library es fs h.names h.chain;
      near = All-append (PieceWithin (reach_of (length h.names))) a b h.near
          (wider (reach_of (length k.names)) (reach_of (length h.names)) b (reach_wider (length k.names) (length h.names) (omega (arith, more))) k.near);
    })
    (cases_lt (length h.names) (length k.names))

-- none yet
pub from_none : (library : List Structure) (tech : Tech) (items : List Item) → items ≡ [] → AreFrom library tech [] (pieces_in items)
from_none library tech items e =
    let P : List Item → Type 0 = λ xs. AreFrom library tech [] (pieces_in xs) in
    subst P (sym e) (record { pieces_of = none; near = record { names = []; chain = tt; near = All-nil (PieceWithin (reach_of 0)) } })

-- one element more
pub from_more : (library : List Structure) (tech : Tech) (elements : List Element) (i : ℕ) (e : Element) (old new : List Item) → i < length elements
    → e ≡ get_or elements i e → AreFrom library tech (take i elements) (pieces_in old) → Appends (AreFrom library tech (e ∷ [])) old new
    → AreFrom library tech (take (i + 1) elements) (pieces_in new)
from_more library tech elements i e old new below is h k =
    let es : take i elements ++ e ∷ [] ≡ take (i + 1) elements = ap (λ x. take i elements ++ x ∷ []) is ∙ sym (take_more elements i e below) in
    let P : List Element → Type 0 = λ xs. AreFrom library tech xs (pieces_in old ++ k.more) in
    let Q : List Piece → Type 0 = λ ps. AreFrom library tech (take (i + 1) elements) ps in
    subst Q (sym k.appended) (subst P es (record {
      pieces_of = pieces_of_join library tech h.pieces_of k.are.pieces_of;
      near = near_append library (take i elements) (e ∷ []) (pieces_in old) k.more h.near k.are.near;
    }))

-- ---- one element

-- what an element gives by itself
pub own_from : {T E : Type 0} (r : Result T E) (library : List Structure) (tech : Tech) (e : Element) (old new : List Item) → target e ≡ None
    → OnOk r (Appends (AreNearAnd (Own tech e)) old new) → OnOk r (Appends (AreFrom library tech (e ∷ [])) old new)
own_from (Err x) library tech e old new to h = tt
own_from (Ok x) library tech e old new to h = record {
  more = h.more;
  appended = h.appended;
  are = record {
    pieces_of = own e h.more [] to h.are.are none (sym (append-nil h.more));
    near = record { names = []; chain = tt; near = h.are.near };
  };
}

reach_more : (n : ℕ) → reach_of n +ℤ most_shift ≡ reach_of (suc n)
reach_more n = omega (arith, ints)

one_moved_near : (step : Step) (pieces : List Piece) (reach : ℤ) → ShiftsWithin most_shift step → All (PieceWithin reach) pieces
    → All (PieceWithin (reach +ℤ most_shift)) (map (piece_moved step) pieces)
one_moved_near step [] reach small near = All-nil (PieceWithin (reach +ℤ most_shift))
one_moved_near step (p ∷ pieces) reach small near =
    All-cons (PieceWithin (reach +ℤ most_shift)) (piece_moved step p) (map (piece_moved step) pieces)
    (piece_moved_within step p reach most_shift (near 0 p (omega arith)) small)
    (one_moved_near step pieces reach small (λ i d b. near (suc i) d (omega arith)))

all_moved_near : (steps : List Step) (pieces : List Piece) (reach : ℤ) → All (ShiftsWithin most_shift) steps → All (PieceWithin reach) pieces
    → All (PieceWithin (reach +ℤ most_shift)) (all_moved steps pieces)
all_moved_near [] pieces reach small near = All-nil (PieceWithin (reach +ℤ most_shift))
all_moved_near (step ∷ steps) pieces reach small near =
    All-append (PieceWithin (reach +ℤ most_shift)) (map (piece_moved step) pieces) (all_moved steps pieces)
    (one_moved_near step pieces reach (small 0 step (omega arith)) near)
    (all_moved_near steps pieces reach (λ i d b. small (suc i) d (omega arith)) near)

-- what a reference places
pub placed_from : {T E : Type 0} (r : Result T E) (library : List Structure) (tech : Tech) (e : Element) (to : Name) (inner : List Piece) (old new : List Item)
    → target e ≡ Some to → IsListOf library tech to inner → OnOk r (Appends (AreMovedBy (StepsOf e) inner) old new)
    → OnOk r (Appends (AreFrom library tech (e ∷ [])) old new)
placed_from (Err x) library tech e to inner old new at list h = tt
placed_from (Ok x) library tech e to inner old new at list h =
    let m : AreMovedBy (StepsOf e) inner h.more = h.are in
    let P : ℤ → Type 0 = λ z. All (PieceWithin z) (all_moved m.steps inner) in
    let Q : List Piece → Type 0 = λ ps. All (PieceWithin (reach_of (length (to ∷ list.names)))) ps in
    record {
      more = h.more;
      appended = h.appended;
      are = record {
        pieces_of = by_place e to list.are.structure inner [] m.steps at list.are.found list.are.are m.of none (m.are ∙ sym (append-nil (all_moved m.steps inner)));
        near = record {
          names = to ∷ list.names;
          chain = (placed_one e to at, list.chain);
          near = subst Q (sym m.are) (subst P (reach_more (length list.names)) (all_moved_near m.steps inner (reach_of (length list.names)) m.small list.near));
        };
      };
    }

-- ---- a reference to nothing

nothing_moved : (steps : List Step) → all_moved steps [] ≡ []
nothing_moved [] = refl
nothing_moved (step ∷ steps) = nothing_moved steps

-- nothing is appended where what is placed has nothing
pub nothing_from : (library : List Structure) (tech : Tech) (e : Element) (to : Name) (inner items : List Item) → target e ≡ Some to → Fine tech e
    → IsListOf library tech to (pieces_in inner) → inner ≡ [] → Appends (AreFrom library tech (e ∷ [])) items items
nothing_from library tech e to inner items at fine list none_in =
    let st = steps_there e to at (whole_reference tech e to at fine) in
    let P : List Item → Type 0 = λ xs. PiecesOf library tech list.are.structure.elements (pieces_in xs) in
    record {
      more = [];
      appended = sym (append-nil (pieces_in items));
      are = record {
        pieces_of = by_place e to list.are.structure [] [] st.0 at list.are.found (subst P none_in list.are.are) st.1 none (sym (append-nil (all_moved st.0 []) ∙ nothing_moved st.0));
        near = record { names = []; chain = tt; near = All-nil (PieceWithin (reach_of 0)) };
      };
    }

-- ---- lists

-- the list at the place of a name
pub list_named : (library : List Structure) (tech : Tech) (finish : List ℕ) (lists : List (List Item)) (name : Name) (place : ℕ) (list shown : List Item)
    → AreLists library tech finish lists → IsRankOf library finish name place → place < length lists → list ≡ get_or lists place list → shown ≡ list
    → IsListOf library tech name (pieces_in shown)
list_named library tech finish lists name place list shown h rank below is same =
    let P : Name → Type 0 = λ n. IsListOf library tech n (pieces_in list) in
    let Q : List Item → Type 0 = λ xs. IsListOf library tech name (pieces_in xs) in
    subst Q (sym same) (subst P (name_placed library name rank.structure rank.named) (h.are place rank.structure list (entry_is lists place list below is) rank.at))

-- its pieces can be moved
pub list_near : (library : List Structure) (tech : Tech) (name : Name) (pieces : List Piece) → IsListOf library tech name pieces → All (PieceWithin most_reach) pieces
list_near library tech name pieces h =
    let short = h.shallow h.names h.chain in
    wider (reach_of (length h.names)) most_reach pieces (short_reach (length h.names) short) h.near
  where
    short_reach : (n : ℕ) → n < DEEPEST → reach_of n ≤ℤ most_reach
    short_reach n few = omega (arith, ints)

-- the list of a structure, by its elements
pub list_by : (library : List Structure) (tech : Tech) (k : ℕ) (elements : List Element) (pieces : List Piece) → IsFirst library k → elements ≡ elements_at library k
    → Shallow library (name_at library k) → AreFrom library tech elements pieces → IsListOf library tech (name_at library k) pieces
list_by library tech k elements pieces first same shallow h =
    let r = placed library (name_at library k) k first in
    let p : IsPlaced library (name_at library k) k r.0 = r.1 in
    let es : elements ≡ (r.0).elements = same ∙ read p.at in
    let P : List Element → Type 0 = λ xs. PiecesOf library tech xs pieces in
    record {
      are = record { structure = r.0; found = p.found; are = subst P es h.pieces_of };
      shallow = shallow;
      names = h.near.names;
      chain = chain_of r.0 p.found es h.near.names h.near.chain;
      near = h.near.near;
    }
  where
    read : {s : Structure} → slice_get library k ≡ Some s → elements_at library k ≡ s.elements
    read e = ap elements_in e
      where
        elements_in : Option Structure → List Element
        elements_in None = []
        elements_in (Some s) = s.elements

    chain_of : (s : Structure) → structure_named library (name_at library k) ≡ Some s → elements ≡ s.elements → (names : List Name) → ChainFrom library elements names
        → Chain library (name_at library k) names
    chain_of s found es [] chain = tt
    chain_of s found es (n ∷ names) chain =
        let P : List Element → Type 0 = λ xs. Contains (references xs) n in
        (record { structure = s; found = found; places = subst P es chain.0 }, chain.1)

-- one list more
pub lists_more : (library : List Structure) (tech : Tech) (finish : List ℕ) (lists : List (List Item)) (k : ℕ) (list : List Item) → slice_get finish (length lists) ≡ Some k
    → IsListOf library tech (name_at library k) (pieces_in list) → AreLists library tech finish lists → AreLists library tech finish (lists ++ list ∷ [])
lists_more library tech finish lists k list at is h = record {
  few = let below = slice_get_within finish (length lists) k at in omega (arith, length-append lists (list ∷ []));
  are = λ p j items e f. ⊎_elim (λ old. h.are p j items old f)
      (λ new. let place : p ≡ length lists = new.0 in
      let same : list ≡ items = new.1 in
      let here : slice_get finish (length lists) ≡ Some j = (let P : ℕ → Type 0 = λ x. slice_get finish x ≡ Some j in subst P place f) in
      let one : k ≡ j = cc in
      let P : ℕ → Type 0 = λ x. IsListOf library tech (name_at library x) (pieces_in items) in
      let Q : List Item → Type 0 = λ xs. IsListOf library tech (name_at library k) (pieces_in xs) in
      subst P one (subst Q same is))
      (before_or_end lists list p items e);
}
