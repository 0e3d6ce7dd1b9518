-- The elements of a structure of the finish are fine and drawable.
use Rattle.std.proofs.Common.{◌≡◌, ℕ, List, [], ◌∷◌, All, Contains, sym, ap, subst, ◌∙◌, ⊎_elim, arith}
use Rattle.std.specs.List.{flat_map}
use Rattle.std.proofs.lemmas.List.Concat.{flat_map-cons}
use Rattle.std.proofs.lemmas.List.Elements.{All-contains, Contains-append_left, Contains-append_right, Contains-append_cases, Contains-push_cases}
use Rattle.rt_tech.specs.declared.table.Tech.{Tech}
use Rattle.gds_stream.specs.declared.library.Element.{Element}
use Rattle.gds_stream.specs.declared.library.Structure.{Structure}
use Rattle.gds_flat.specs.declared.walk.Walk.{Walk}
use Rattle.gds_flat.specs.Reach.{Name, structure_named, elements_of}
use Rattle.gds_flat.specs.Elements.{Fine}
use Rattle.gds_flat.specs.Walking.{name_at, names_at, elements_at}
use Rattle.gds_flat.specs.Depths.{IsTree}
use Rattle.gds_flat.specs.Refused.{elements_along}
use Rattle.gds_flat.specs.Drawn.{IsDrawable, AreDrawable}
use Rattle.rt_cells.proofs.Lists.{mapped}
use Rattle.rt_cells.proofs.Entries.{contains_at}
use Rattle.gds_flat.proofs.Going.{IsPlaced, placed}
use Rattle.gds_flat.proofs.Coming.{all_entries}
use Rattle.gds_flat.proofs.Ranking.{IsTurn}

-- the elements of a structure are among those along the names
contains_along : (library : List Structure) (names : List Name) (n : Name) (e : Element) → Contains names n
    → Contains (elements_of (structure_named library n)) e → Contains (elements_along library names) e
contains_along library [] n e at has = absurd (omega (arith, at.1))
contains_along library (m ∷ names) n e at has =
    let f : Name → List Element = λ x. elements_of (structure_named library x) in
    let P : List Element → Type 0 = λ es. Contains es e in
    let Q : Name → Type 0 = λ x. Contains (f x) e in
    subst P (sym (flat_map-cons f m names))
    (⊎_elim
    (λ h. ⊎_elim (λ none. absurd (omega (arith, none.1)))
    (λ same. Contains-append_left (f m) (flat_map f names) e (subst Q (sym same) has))
    (Contains-push_cases [] m n h))
    (λ h. Contains-append_right (f m) (flat_map f names) e (contains_along library names n e h has))
    (Contains-append_cases (m ∷ []) names n at))

-- the elements at a turn are fine
pub turn_fine : (library : List Structure) (top : Name) (walk : Walk) (tech : Tech) (i k : ℕ) (es : List Element) → IsTree library top walk
    → All (Fine tech) (elements_along library (names_at library walk.order.items)) → IsTurn library walk.finish.items i k → es ≡ elements_at library k
    → All (Fine tech) es
turn_fine library top walk tech i k es tree fine turn same =
    let r = placed library (name_at library k) k turn.first in
    let p : IsPlaced library (name_at library k) k r.0 = r.1 in
    let named : elements_at library k ≡ elements_of (structure_named library (name_at library k)) = ap elements_of p.at ∙ sym (ap elements_of p.found) in
    let reached : Contains walk.order.items k = tree.marked.done_seen k i (tree.marked.at_done k i turn.at) in
    let P : Element → Type 0 = λ e. Fine tech e in
    let Q : List Element → Type 0 = λ xs. All P xs in
    subst Q (sym (same ∙ named)) (all_entries P (elements_of (structure_named library (name_at library k)))
    (λ j e at. All-contains P (elements_along library (names_at library walk.order.items)) e fine
    (contains_along library (names_at library walk.order.items) (name_at library k) e (mapped (name_at library) walk.order.items k reached)
    (contains_at (elements_of (structure_named library (name_at library k))) j e at))))

-- and drawable
pub turn_drawable : (library : List Structure) (finish : List ℕ) (i k : ℕ) (es : List Element) → AreDrawable library → IsTurn library finish i k
    → es ≡ elements_at library k → All IsDrawable es
turn_drawable library finish i k es drawable turn same =
    let r = placed library (name_at library k) k turn.first in
    let p : IsPlaced library (name_at library k) k r.0 = r.1 in
    let read : elements_at library k ≡ (r.0).elements = ap elements_of p.at in
    let Q : List Element → Type 0 = λ xs. All IsDrawable xs in
    subst Q (sym (same ∙ read)) (All-contains (λ s. All IsDrawable s.elements) library r.0 drawable (contains_at library k r.0 p.at))
