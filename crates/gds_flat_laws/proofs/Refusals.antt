-- What is flattened isn't refused.
use Rattle.std.proofs.Common.{◌≡◌, ◌≢◌, ℕ, ◌<◌, ◌≤◌, List, [], ◌∷◌, ◌++◌, length, All, Contains, refl, sym, ap, subst, arith}
use Rattle.std.proofs.lemmas.List.Elements.{All-contains, Contains-append_left, Contains-append_right, Contains-push}
use Rattle.rt_tech.specs.declared.table.Tech.{Tech}
use Rattle.rt_layout.specs.declared.layout.Layout.{Layout}
use Rattle.gds_stream.specs.declared.library.Structure.{Structure}
use Rattle.gds_flat.specs.declared.limits.TheConstants.{DEEPEST, MOST_ITEMS}
use Rattle.gds_flat.specs.declared.error.ElementFault.{ElementFault}
use Rattle.gds_flat.specs.declared.error.ElementFault.TheVariants.{Unmapped, Oddity, Steps}
use Rattle.gds_flat.specs.declared.error.FlatError.{FlatError}
use Rattle.gds_flat.specs.declared.error.FlatError.TheVariants.{Unsupported, NoSuchStructure, Cyclic, UnmappedLayer, ArrayStep, CoordinateRange, TooMany, TooDeep, OutOfMemory}
use Rattle.gds_flat.specs.Reach.{Name, Acyclic, Shallow, Deep}
use Rattle.gds_flat.specs.Elements.{Fine, FirstFault}
use Rattle.gds_flat.specs.Items.{Piece, Pieces, DrawingIsNear}
use Rattle.gds_flat.specs.Refused.{elements_along, IsReached, Accepted, HasCycle, IsFaulty, IsTooMany, IsTooFar, FlatRefused, IsFlattened}
use Rattle.gds_flat.proofs.Sequences.{one_order, no_order_and_missing, acyclic_has_none}
use Rattle.gds_flat.proofs.PiecesOne.{pieces_one}
use Rattle.gds_flat_laws.proofs.Faults.{fine_and_fault}

-- what holds of all elements of a list holds of the one between two parts
pub all_between : {X : Type 0} (P : X → Type 0) (xs before behind : List X) (x : X) → xs ≡ before ++ x ∷ behind → All P xs → P x
all_between P xs before behind x split all =
    let on : Contains (before ++ x ∷ behind) x = Contains-append_right before (x ∷ behind) x (Contains-append_left (x ∷ []) behind x (Contains-push [] x)) in
    All-contains P xs x all (subst (λ ys. Contains ys x) (sym split) on)

pub sound_and_cycle : (library : List Structure) (top : Name) (names : List Name) (order : List Name) → IsReached library top order → Acyclic library order
    → HasCycle library top names → ⊥
sound_and_cycle library top names order reached acyclic h =
    let same : h.order ≡ order = one_order library h.reached reached in
    acyclic_has_none library order names acyclic h.cycle (subst (λ (o : List Name). Contains o h.cycle.start) same h.on)

pub shallow_and_deep : (library : List Structure) (top : Name) → Shallow library top → Deep library top → ⊥
shallow_and_deep library top shallow deep =
    let few : length deep.others < DEEPEST = shallow deep.others deep.chain in
    omega (arith, deep.many)

pub accepted_and_faulty : (library : List Structure) (top : Name) (tech : Tech) (fault : ElementFault) → Accepted library top tech
    → IsFaulty library top tech fault → ⊥
accepted_and_faulty library top tech fault a h =
    let same : h.sound.order ≡ a.sound.order = one_order library h.sound.reached a.sound.reached in
    let f : FirstFault tech (elements_along library a.sound.order) fault =
    subst (λ (o : List Name). FirstFault tech (elements_along library o) fault) same h.first in
    fine_and_fault tech f.element fault
    (all_between (Fine tech) (elements_along library a.sound.order) f.before f.behind f.element f.split a.fine) f.at

pub few_and_many : (a b : ℕ) → a ≡ b → a ≤ MOST_ITEMS → MOST_ITEMS < b → ⊥
few_and_many a b e few many = omega arith

pub flattened_and_many : (library : List Structure) (top : Name) (tech : Tech) (pieces : List Piece) (count : ℕ) → Pieces library tech top pieces
    → length pieces ≤ MOST_ITEMS → IsTooMany library top tech count → ⊥
flattened_and_many library top tech pieces count are few h =
    few_and_many (length pieces) (length h.pieces) (ap length (pieces_one library tech top pieces h.pieces are h.are)) few h.many

near_and_far : (library : List Structure) (top : Name) (tech : Tech) (pieces : List Piece) (offset : ℕ) → Pieces library tech top pieces
    → All (λ p. DrawingIsNear p.drawing) pieces → IsTooFar library top tech offset → ⊥
near_and_far library top tech pieces offset are near h =
    let near_too : All (λ p. DrawingIsNear p.drawing) h.pieces =
    subst (λ (ps : List Piece). All (λ p. DrawingIsNear p.drawing) ps) (pieces_one library tech top pieces h.pieces are h.are) near in
    let f = h.far in
    f.far (all_between (λ p. DrawingIsNear p.drawing) h.pieces f.before f.behind f.piece f.split near_too)

pub not_refused : (library : List Structure) (top : Name) (tech : Tech) (layout : Layout) (error : FlatError) → IsFlattened library top tech layout
    → FlatRefused library top tech error → error ≢ OutOfMemory → ⊥
not_refused library top tech layout (Unsupported offset odd) f h other = accepted_and_faulty library top tech (Oddity offset odd) f.accepted h
not_refused library top tech layout (NoSuchStructure name) f h other = no_order_and_missing library f.accepted.sound.reached h
not_refused library top tech layout (Cyclic names) f h other =
    sound_and_cycle library top names f.accepted.sound.order f.accepted.sound.reached f.accepted.sound.acyclic h
not_refused library top tech layout (UnmappedLayer layer number) f h other = accepted_and_faulty library top tech (Unmapped layer number) f.accepted h
not_refused library top tech layout (ArrayStep offset) f h other = accepted_and_faulty library top tech (Steps offset) f.accepted h
not_refused library top tech layout (CoordinateRange offset) f h other = near_and_far library top tech f.flat.pieces offset f.flat.are f.near h
not_refused library top tech layout (TooMany count) f h other = flattened_and_many library top tech f.flat.pieces count f.flat.are f.few h
not_refused library top tech layout TooDeep f h other = shallow_and_deep library top f.accepted.sound.shallow h.deep
not_refused library top tech layout OutOfMemory f h other = other refl
