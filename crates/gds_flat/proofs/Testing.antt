-- Elements that are fine, one after the other, or the first that isn't.
use Rattle.std.proofs.Common.{◌≡◌, ℕ, ◌+◌, ◌<◌, ◌≤◌, List, [], ◌∷◌, ◌++◌, length, get_or, take, drop, All, sym, ap, subst, ◌∙◌, append_assoc}
use Rattle.std.specs.List.{flat_map}
use Rattle.std.proofs.lemmas.List.{append-nil, map-append, take_all, take_more, drop_more, take-append-drop}
use Rattle.std.proofs.lemmas.List.Elements.{All-append, All-push}
use Rattle.std.proofs.lemmas.Grind.{flat_map-append}
use Rattle.rt_tech.specs.declared.table.Tech.{Tech}
use Rattle.gds_stream.specs.declared.library.Element.{Element}
use Rattle.gds_stream.specs.declared.library.Structure.{Structure}
use Rattle.gds_flat.specs.declared.error.ElementFault.{ElementFault}
use Rattle.gds_flat.specs.declared.walk.Walk.{Walk}
use Rattle.gds_flat.specs.Reach.{Name, structure_named, elements_of}
use Rattle.gds_flat.specs.Walking.{name_at, names_at, elements_at, IsFirst}
use Rattle.gds_flat.specs.Depths.{IsTree}
use Rattle.gds_flat.specs.Refused.{elements_along}
use Rattle.gds_flat.proofs.Going.{IsPlaced, placed}
use Rattle.gds_flat.specs.Elements.{Fine, FaultOf, FirstFault}

-- the first fault, behind elements that are fine
pub first_fault : (tech : Tech) (elements : List Element) (i : ℕ) (e : Element) (fault : ElementFault) → i < length elements → e ≡ get_or elements i e
    → All (Fine tech) (take i elements) → FaultOf tech e fault → FirstFault tech elements fault
first_fault tech elements i e fault below is fine at = record {
  before = take i elements;
  element = e;
  behind = drop (i + 1) elements;
  split = sym (take-append-drop i elements) ∙ ap (λ es. take i elements ++ es) (drop_more elements i e below ∙ ap (λ x. x ∷ drop (i + 1) elements) (sym is));
  fine = fine;
  at = at;
}

-- with elements before and behind
pub fault_within : (tech : Tech) (before elements behind : List Element) (fault : ElementFault) → All (Fine tech) before → FirstFault tech elements fault
    → FirstFault tech (before ++ (elements ++ behind)) fault
fault_within tech before elements behind fault fine f = record {
  before = before ++ f.before;
  element = f.element;
  behind = f.behind ++ behind;
  split = ap (λ es. before ++ (es ++ behind)) f.split ∙ ap (λ es. before ++ es) (append_assoc f.before (f.element ∷ f.behind) behind)
      ∙ sym (append_assoc before f.before (f.element ∷ (f.behind ++ behind)));
  fine = All-append (Fine tech) before f.before fine f.fine;
  at = f.at;
}

-- one more element that is fine, and all of them
pub fine_more : (tech : Tech) (elements : List Element) (i : ℕ) (e : Element) → i < length elements → e ≡ get_or elements i e
    → All (Fine tech) (take i elements) → Fine tech e → All (Fine tech) (take (i + 1) elements)
fine_more tech elements i e below is fine one =
    let more : take i elements ++ e ∷ [] ≡ take (i + 1) elements = ap (λ x. take i elements ++ x ∷ []) is ∙ sym (take_more elements i e below) in
    let P : List Element → Type 0 = λ es. All (Fine tech) es in
    subst P more (All-push (Fine tech) (take i elements) e fine one)

pub fine_all : (tech : Tech) (elements : List Element) (i : ℕ) → length elements ≤ i → All (Fine tech) (take i elements) → All (Fine tech) elements
fine_all tech elements i over fine =
    let P : List Element → Type 0 = λ es. All (Fine tech) es in subst P (take_all i elements over) fine

-- the elements of a structure by its name
along_at : (library : List Structure) (k : ℕ) → IsFirst library k → elements_of (structure_named library (name_at library k)) ≡ elements_at library k
along_at library k first =
    let r = placed library (name_at library k) k first in
    let p : IsPlaced library (name_at library k) k r.0 = r.1 in
    ap elements_of p.found ∙ sym (ap elements_of p.at)

-- the elements along the structures up to one, and along all of them
along_more : (library : List Structure) (before behind : List ℕ) (k : ℕ) → IsFirst library k
    → elements_along library (names_at library (before ++ k ∷ behind))
    ≡ elements_along library (names_at library before) ++ (elements_at library k ++ elements_along library (names_at library behind))
along_more library before behind k first =
    let f : Name → List Element = λ n. elements_of (structure_named library n) in
    ap (λ ns. flat_map f ns) (map-append (name_at library) before (k ∷ behind))
    ∙ flat_map-append f (names_at library before) (name_at library k ∷ names_at library behind)
    ∙ ap (λ es. elements_along library (names_at library before) ++ (es ++ elements_along library (names_at library behind))) (along_at library k first)

pub fine_along : (tech : Tech) (library : List Structure) (places : List ℕ) (i : ℕ) (es : List Element) → i < length places → IsFirst library (get_or places i 0)
    → es ≡ elements_at library (get_or places i 0) → All (Fine tech) (elements_along library (names_at library (take i places))) → All (Fine tech) es
    → All (Fine tech) (elements_along library (names_at library (take (i + 1) places)))
fine_along tech library places i es below first is fine more =
    let k = get_or places i 0 in
    let P : List Element → Type 0 = λ xs. All (Fine tech) xs in
    let all : elements_along library (names_at library (take (i + 1) places)) ≡ elements_along library (names_at library (take i places)) ++ es =
    ap (λ ps. elements_along library (names_at library ps)) (take_more places i 0 below) ∙ along_more library (take i places) [] k first
    ∙ ap (λ xs. elements_along library (names_at library (take i places)) ++ xs) (append-nil (elements_at library k) ∙ sym is) in
    subst P (sym all) (All-append (Fine tech) (elements_along library (names_at library (take i places))) es fine more)

pub fault_along : (tech : Tech) (library : List Structure) (places : List ℕ) (i : ℕ) (es : List Element) (fault : ElementFault) → i < length places
    → IsFirst library (get_or places i 0) → es ≡ elements_at library (get_or places i 0)
    → All (Fine tech) (elements_along library (names_at library (take i places))) → FirstFault tech es fault
    → FirstFault tech (elements_along library (names_at library places)) fault
fault_along tech library places i es fault below first is fine f =
    let k = get_or places i 0 in
    let P : List Element → Type 0 = λ xs. FirstFault tech xs fault in
    let split : places ≡ take i places ++ k ∷ drop (i + 1) places =
    sym (take-append-drop i places) ∙ ap (λ ps. take i places ++ ps) (drop_more places i 0 below) in
    let all : elements_along library (names_at library places)
    ≡ elements_along library (names_at library (take i places)) ++ (es ++ elements_along library (names_at library (drop (i + 1) places))) =
    ap (λ ps. elements_along library (names_at library ps)) split ∙ along_more library (take i places) (drop (i + 1) places) k first
    ∙ ap (λ xs. elements_along library (names_at library (take i places)) ++ (xs ++ elements_along library (names_at library (drop (i + 1) places)))) (sym is) in
    subst P (sym all) (fault_within tech (elements_along library (names_at library (take i places))) es
    (elements_along library (names_at library (drop (i + 1) places))) fault fine f)

pub fine_along_all : (tech : Tech) (library : List Structure) (places : List ℕ) (i : ℕ) → length places ≤ i
    → All (Fine tech) (elements_along library (names_at library (take i places))) → All (Fine tech) (elements_along library (names_at library places))
fine_along_all tech library places i over fine =
    let P : List ℕ → Type 0 = λ ps. All (Fine tech) (elements_along library (names_at library ps)) in subst P (take_all i places over) fine

-- the structure at a place of the order, as a loop over it reads it
pub order_turn : (library : List Structure) (top : Name) (walk : Walk) (items : List ℕ) (i : ℕ) → IsTree library top walk → items ≡ walk.order.items → i < length items
    → IsFirst library (get_or items i 0)
order_turn library top walk items i tree same below =
    let P : List ℕ → Type 0 = λ ps. All (IsFirst library) ps in
    (subst P (sym same) tree.marked.first) i 0 below
