-- The labels of a flat cell can be written again: the table has a layer and a text type for each, and each text fits a record.
use Rattle.std.proofs.Common.{◌≡◌, ℕ, ◌≤◌, ℤ, true, false, List, [], ◌∷◌, ◌++◌, length, get_or, map, All, Option, Some, None, MatchOption, refl, sym, subst}
use Rattle.std.specs.Prelude.{slice_get}
use Rattle.std.specs.Option.{option_map_or}
use Rattle.std.proofs.lemmas.List.Elements.{All-nil, All-append, All-head, All-tail, All-map, All-from_recursion}
use Rattle.std.proofs.lemmas.List.Quantifiers.{position-Some}
use Rattle.std.proofs.lemmas.Option.{same_Some, slice_get-get_or}
use Rattle.rt_cells.specs.Rectangles.{Rectangle}
use Rattle.rt_layout.specs.declared.layout.Label.{Label as Mark}
use Rattle.rt_layout.specs.declared.layout.Layout.{Layout}
use Rattle.rt_tech.specs.declared.table.Mask.{Mask}
use Rattle.rt_tech.specs.declared.table.Tech.{Tech}
use Rattle.rt_tech.specs.Words.{same_pair}
use Rattle.gds_stream.specs.declared.library.Element.{Element}
use Rattle.gds_stream.specs.declared.library.Element.TheVariants.{Boundary, Path, Sref, Aref, Label, BoxShape}
use Rattle.gds_stream.specs.declared.library.Structure.{Structure as Part}
use Rattle.gds_stream_laws.specs.Lawful.{IsLawfulElement, IsLawfulStructure}
use Rattle.gds_slabs.specs.declared.step.Step.{Step}
use Rattle.gds_flat.specs.Elements.{mask_of, mask_of_notes}
use Rattle.gds_flat.specs.Items.{Drawing, Piece, area_piece, note_piece, GivesOn, drawing_moved, piece_moved, all_moved, PiecesOf, mark_of_drawing}
use Rattle.gds_flat.specs.Items.Drawing.{area_of, note_at}
use Rattle.gds_flat.specs.Items.PiecesOf.{none, own, placed}
use Rattle.gds_flat.specs.Reach.{Name}
use Rattle.gds_flat.specs.Refused.{IsFlattened}
use Rattle.gds_flat_laws.proofs.Marks.{marks_have}
use Rattle.gds_flat_laws.proofs.Named.{found_named}

-- mask number m of these masks is there, and has a layer and a text type for labels
pub record HasTextPair (masks : List Mask) (m : ℕ) : Type 0 where
  pub mask : Mask
  pub there : slice_get masks m ≡ Some mask
  pub pair : ℤ × ℤ
  pub noted : mask.note ≡ Some pair

-- the label can be written: its mask has a layer and a text type for labels, and its text fits a record
pub record CanBeWritten (masks : List Mask) (label : Mark) : Type 0 where
  pub on_mask : HasTextPair masks label.mask
  pub short : length label.text ≤ 65530

-- ---- masks of labels

some_note : (pair : ℤ × ℤ) (note : Option (ℤ × ℤ)) → option_map_or (λ n. same_pair n pair) note false ≡ true → (n : ℤ × ℤ) × (note ≡ Some n)
some_note pair None e = absurd cc
some_note pair (Some n) e = (n, refl)

-- the mask that a pair of labels is found at has a pair of labels
text_pair : (masks : List Mask) (pair : ℤ × ℤ) (m : ℕ) → mask_of_notes masks pair ≡ Some m → HasTextPair masks m
text_pair [] pair m e = absurd cc
text_pair (first ∷ masks) pair m e =
    let found = position-Some (λ (mask : Mask). option_map_or (λ n. same_pair n pair) mask.note false) (first ∷ masks) m first e in
    let mask : Mask = get_or (first ∷ masks) m first in
    let note = some_note pair mask.note found.1 in
    record { mask = mask; there = slice_get-get_or (first ∷ masks) m first found.0; pair = note.0; noted = note.1 }

-- ---- items

-- what a drawing on a mask owes: a text, that it can be written
abbrev CanBe : List Mask → ℕ → Drawing → Type 0
CanBe masks mask (area_of r) = Unit {0}
CanBe masks mask (note_at at text) = CanBeWritten masks (record { mask = mask; at = at; text = text })

-- what an item owes
abbrev ItemCanBe : List Mask → Piece → Type 0
ItemCanBe masks piece = CanBe masks piece.mask piece.drawing

areas_can_be : (masks : List Mask) (offset mask : ℕ) (rects : List Rectangle) (pieces : List Piece) → pieces ≡ map (area_piece offset mask) rects → All (ItemCanBe masks) pieces
areas_can_be masks offset mask rects pieces are =
    subst (All (ItemCanBe masks)) (sym are) (All-map (ItemCanBe masks) (area_piece offset mask) rects (λ i r below. tt))

none_can_be : (masks : List Mask) (pieces : List Piece) → pieces ≡ [] → All (ItemCanBe masks) pieces
none_can_be masks pieces empty = subst (All (ItemCanBe masks)) (sym empty) (All-nil (ItemCanBe masks))

-- what an element on a mask gives by itself
gives_can_be : (tech : Tech) (e : Element) (m : ℕ) (pieces : List Piece) → IsLawfulElement e → mask_of tech e ≡ Some m → GivesOn e m pieces → All (ItemCanBe tech.masks) pieces
gives_can_be tech (Boundary offset layer datatype points) m pieces lawful is gives = areas_can_be tech.masks offset m gives.rects pieces gives.are
gives_can_be tech (Path offset layer datatype pathtype width points) m pieces lawful is gives = areas_can_be tech.masks offset m _ pieces gives.are
gives_can_be tech (Sref offset name place at) m pieces lawful is gives = none_can_be tech.masks pieces gives
gives_can_be tech (Aref offset name place columns rows points) m pieces lawful is gives = none_can_be tech.masks pieces gives
gives_can_be tech (Label offset layer texttype at text) m pieces lawful is gives =
    subst (All (ItemCanBe tech.masks)) (sym gives)
    (All-from_recursion (ItemCanBe tech.masks) (note_piece offset m at text ∷ []) (record { on_mask = text_pair tech.masks (layer, texttype) m is; short = lawful }, tt))
gives_can_be tech (BoxShape offset layer boxtype) m pieces lawful is gives = none_can_be tech.masks pieces gives

own_can_be : (tech : Tech) (e : Element) (mask : Option ℕ) (pieces : List Piece) → IsLawfulElement e → mask_of tech e ≡ mask
    → MatchOption mask (pieces ≡ []) (λ m. GivesOn e m pieces) → All (ItemCanBe tech.masks) pieces
own_can_be tech e None pieces lawful is gives = none_can_be tech.masks pieces gives
own_can_be tech e (Some m) pieces lawful is gives = gives_can_be tech e m pieces lawful is gives

-- a step moves a text, and leaves its words and its mask
moved_can_be : (masks : List Mask) (step : Step) (m : ℕ) (d : Drawing) → CanBe masks m d → CanBe masks m (drawing_moved step d)
moved_can_be masks step m (area_of r) can = tt
moved_can_be masks step m (note_at at text) can = record { on_mask = can.on_mask; short = can.short }

all_moved_can_be : (masks : List Mask) (steps : List Step) (pieces : List Piece) → All (ItemCanBe masks) pieces → All (ItemCanBe masks) (all_moved steps pieces)
all_moved_can_be masks [] pieces all = All-nil (ItemCanBe masks)
all_moved_can_be masks (step ∷ steps) pieces all =
    All-append (ItemCanBe masks) (map (piece_moved step) pieces) (all_moved steps pieces)
    (All-map (ItemCanBe masks) (piece_moved step) pieces (λ i p below. moved_can_be masks step (get_or pieces i p).mask (get_or pieces i p).drawing (all i p below)))
    (all_moved_can_be masks steps pieces all)

-- the items of lawful elements
items_can_be : (library : List Part) (tech : Tech) → All IsLawfulStructure library → (es : List Element) (pieces : List Piece) → All IsLawfulElement es
    → PiecesOf library tech es pieces → All (ItemCanBe tech.masks) pieces
items_can_be library tech all [] pieces lawful none = All-nil (ItemCanBe tech.masks)
items_can_be library tech all (e ∷ es) pieces lawful (own _ mine others target gives rest split) =
    subst (All (ItemCanBe tech.masks)) (sym split)
    (All-append (ItemCanBe tech.masks) mine others (own_can_be tech e (mask_of tech e) mine (All-head IsLawfulElement e es lawful) refl gives)
    (items_can_be library tech all es others (All-tail IsLawfulElement e es lawful) rest))
items_can_be library tech all (e ∷ es) pieces lawful (placed _ to s inner others steps target found within steps_of rest split) =
    subst (All (ItemCanBe tech.masks)) (sym split)
    (All-append (ItemCanBe tech.masks) (all_moved steps inner) others
    (all_moved_can_be tech.masks steps inner (items_can_be library tech all s.elements inner (found_named library to s all found).0.elements within))
    (items_can_be library tech all es others (All-tail IsLawfulElement e es lawful) rest))

note_can_be : (masks : List Mask) (m : ℕ) (d : Drawing) (label : Mark) → mark_of_drawing m d ≡ Some label → CanBe masks m d → CanBeWritten masks label
note_can_be masks m (area_of r) label e can = absurd cc
note_can_be masks m (note_at at text) label e can = subst (CanBeWritten masks) (same_Some (record { mask = m; at = at; text = text }) label e) can

-- the labels of a lawful library's cell can be written
pub labels_can_be_written : (library : List Part) (top : Name) (tech : Tech) (layout : Layout) → All IsLawfulStructure library → IsFlattened library top tech layout
    → All (CanBeWritten tech.masks) layout.labels
labels_can_be_written library top tech layout all flattened =
    let flat = flattened.flat in
    let cell = flat.are in
    subst (All (CanBeWritten tech.masks)) (sym flat.labels)
    (marks_have (ItemCanBe tech.masks) (CanBeWritten tech.masks) (λ p. note_can_be tech.masks p.mask p.drawing) flat.pieces
    (items_can_be library tech all cell.structure.elements flat.pieces (found_named library top cell.structure all cell.found).0.elements cell.are))
