-- Places in the finish, and depths.
use Rattle.std.proofs.Common.{◌≡◌, ◌≢◌, ℕ, zero, suc, ◌+◌, ◌<◌, ◌≤◌, List, [], ◌∷◌, ◌++◌, length, get_or, take, Option, Some, None, Contains, slice_get, refl, sym, ap, subst, ◌∙◌, inl, inr, ⊎_elim, append_assoc, max, arith}
use Rattle.std.specs.List.{cons_option}
use Rattle.std.proofs.lemmas.Bool.{cases_lt}
use Rattle.std.proofs.lemmas.List.{append-nil, take_more, length-append}
use Rattle.std.proofs.lemmas.Option.{slice_get_within, slice_get-get_or}
use Rattle.std.proofs.lemmas.List.Elements.{All-contains, Contains-append_left, Contains-append_right, Contains-append_cases, Contains-push, Contains-push_cases, filter_map-append}
use Rattle.gds_stream.specs.declared.library.Element.{Element}
use Rattle.gds_stream.specs.declared.library.Structure.{Structure}
use Rattle.gds_flat.specs.declared.walk.Walk.{Walk}
use Rattle.gds_flat.specs.declared.walk.Mark.{Mark}
use Rattle.gds_flat.specs.declared.walk.Mark.TheVariants.{Done}
use Rattle.gds_flat.specs.Reach.{Name, place_named, target, references, Refers, Chain, StandsBehind, RankedBehind, Ranked}
use Rattle.gds_flat.specs.Walking.{name_at, names_at, elements_at, IsFirst, AreMarked}
use Rattle.gds_flat.specs.Depths.{IsTree, IsRankOf, PlaceOnly, IsDepthOf, AreDepths, IsDeepest}
use Rattle.rt_cells.proofs.Lists.{mapped, mapped_from}
use Rattle.rt_cells.proofs.Entries.{contains_at, contained_at, before_or_end}
use Rattle.gds_flat.proofs.Going.{IsPlaced, placed}
use Rattle.gds_flat.proofs.Coming.{finish_first, first_within, elements_read}

-- an entry of the first so many is an entry, and below their number
taken_entry : {X : Type 0} (xs : List X) (n i : ℕ) (x : X) → slice_get (take n xs) i ≡ Some x → (slice_get xs i ≡ Some x) × (i < n)
taken_entry [] zero i x e = cc
taken_entry [] (suc n) i x e = cc
taken_entry (y ∷ xs) zero i x e = cc
taken_entry (y ∷ xs) (suc n) zero x e = (e, omega arith)
taken_entry (y ∷ xs) (suc n) (suc i) x e = let r = taken_entry xs n i x e in (r.0, omega (arith, r.1))

-- a structure whose mark isn't that it is done isn't in the finish
pub not_done : (library : List Structure) (marks : List Mark) (order finish : List ℕ) (name : Name) (k : ℕ) (m : Mark)
    → AreMarked library [] marks order finish → place_named name library ≡ Some k → slice_get marks k ≡ Some m → ((d : ℕ) → m ≢ Done d)
    → ¬ Contains (names_at library finish) name
not_done library marks order finish name k m marked named at differs among =
    let r = mapped_from (name_at library) finish name among in
    let e = contained_at finish r.0 r.1 in
    let ready : slice_get marks r.0 ≡ Some (Done e.0) = marked.at_done r.0 e.0 e.1 in
    let first : IsFirst library r.0 = All-contains (IsFirst library) finish r.0 (finish_first library [] marks order finish marked) r.1 in
    let P : Name → Type 0 = λ n. place_named n library ≡ Some r.0 in
    let found : place_named name library ≡ Some r.0 = subst P r.2 first in
    let same : r.0 ≡ k = cc in
    let Q : ℕ → Type 0 = λ j. slice_get marks j ≡ Some (Done e.0) in
    let here : slice_get marks k ≡ Some (Done e.0) = subst Q same ready in
    let equal : m ≡ Done e.0 = cc in
    differs e.0 equal

-- nor is one that isn't there
pub not_there : (library : List Structure) (marks : List Mark) (order finish : List ℕ) (name : Name)
    → AreMarked library [] marks order finish → place_named name library ≡ None → ¬ Contains (names_at library finish) name
not_there library marks order finish name marked missing among =
    let r = mapped_from (name_at library) finish name among in
    let first : IsFirst library r.0 = All-contains (IsFirst library) finish r.0 (finish_first library [] marks order finish marked) r.1 in
    let P : Name → Type 0 = λ n. place_named n library ≡ Some r.0 in
    let found : place_named name library ≡ Some r.0 = subst P r.2 first in
    cc

-- a name among the first so many has its place below their number
pub rank_low : (library : List Structure) (marks : List Mark) (order finish : List ℕ) (name : Name) (count p : ℕ)
    → AreMarked library [] marks order finish → Contains (names_at library (take count finish)) name → IsRankOf library finish name p → p < count
rank_low library marks order finish name count p marked among rank =
    let r = mapped_from (name_at library) (take count finish) name among in
    let e = contained_at (take count finish) r.0 r.1 in
    let t = taken_entry finish count e.0 r.0 e.1 in
    let first : IsFirst library r.0 = All-contains (IsFirst library) finish r.0 (finish_first library [] marks order finish marked) (contains_at finish e.0 r.0 t.0) in
    let P : Name → Type 0 = λ n. place_named n library ≡ Some r.0 in
    let found : place_named name library ≡ Some r.0 = subst P r.2 first in
    let named = rank.named in
    let same : r.0 ≡ rank.structure = cc in
    let Q : ℕ → Type 0 = λ j. slice_get marks j ≡ Some (Done e.0) in
    let one : slice_get marks rank.structure ≡ Some (Done e.0) = subst Q same (marked.at_done r.0 e.0 t.0) in
    let other : slice_get marks rank.structure ≡ Some (Done p) = marked.at_done rank.structure p rank.at in
    let equal : e.0 ≡ p = cc in
    omega (arith, t.1)

pub among_all : (library : List Structure) (finish : List ℕ) (name : Name) (count : ℕ) → Contains (names_at library (take count finish)) name
    → Contains (names_at library finish) name
among_all library finish name count among =
    let r = mapped_from (name_at library) (take count finish) name among in
    let e = contained_at (take count finish) r.0 r.1 in
    let t = taken_entry finish count e.0 r.0 e.1 in
    let P : Name → Type 0 = λ n. Contains (names_at library finish) n in
    subst P r.2 (mapped (name_at library) finish r.0 (contains_at finish e.0 r.0 t.0))

-- what stands at a place of a ranked list stands behind those before it
ranked_at : (library : List Structure) (before names : List Name) (i : ℕ) (n : Name) → RankedBehind library before names → slice_get names i ≡ Some n
    → StandsBehind library (before ++ take i names) n
ranked_at library before [] i n ranked at = cc
ranked_at library before (m ∷ names) zero n ranked at =
    let same : m ≡ n = cc in
    let P : Name → Type 0 = λ x. StandsBehind library before x in
    let Q : List Name → Type 0 = λ b. StandsBehind library b n in
    subst Q (sym (append-nil before)) (subst P same ranked.0)
ranked_at library before (m ∷ names) (suc i) n ranked at =
    let Q : List Name → Type 0 = λ b. StandsBehind library b n in
    subst Q (append_assoc before (m ∷ []) (take i names)) (ranked_at library (before ++ m ∷ []) names i n ranked.1 at)

names_entry : (library : List Structure) (places : List ℕ) (i k : ℕ) → slice_get places i ≡ Some k → slice_get (names_at library places) i ≡ Some (name_at library k)
names_entry library [] i k e = cc
names_entry library (j ∷ places) zero k e = let same : j ≡ k = cc in ap (λ n. Some (name_at library n)) same
names_entry library (j ∷ places) (suc i) k e = names_entry library places i k e

names_take : (library : List Structure) (places : List ℕ) (i : ℕ) → take i (names_at library places) ≡ names_at library (take i places)
names_take library [] zero = refl
names_take library [] (suc i) = refl
names_take library (j ∷ places) zero = refl
names_take library (j ∷ places) (suc i) = ap (λ ns. name_at library j ∷ ns) (names_take library places i)

-- what the structure at a place of the finish places stands before it
pub places_before : (library : List Structure) (finish : List ℕ) (i k : ℕ) → Ranked library (names_at library finish) → IsFirst library k
    → slice_get finish i ≡ Some k → PlaceOnly library finish i (elements_at library k)
places_before library finish i k ranked first at n has =
    let stands : StandsBehind library (take i (names_at library finish)) (name_at library k) =
    ranked_at library [] (names_at library finish) i (name_at library k) ranked (names_entry library finish i k at) in
    let r = placed library (name_at library k) k first in
    let p : IsPlaced library (name_at library k) k r.0 = r.1 in
    let places : Contains (references (r.0).elements) n = rw (p.at) at has in
    let S : List Name → Type 0 = λ ns. Contains ns n in
    subst S (names_take library finish i) (stands.behind n (record { structure = r.0; found = p.found; places = places }))

-- the depth of a structure, one more than that of what it places
pub depth_more : (library : List Structure) (k depth : ℕ) → IsFirst library k → IsDeepest library (elements_at library k) depth
    → IsDepthOf library (name_at library k) (depth + 1)
depth_more library k depth first deepest =
    let r = placed library (name_at library k) k first in
    let p : IsPlaced library (name_at library k) k r.0 = r.1 in
    let refers : (n : Name) → Contains (references (elements_at library k)) n → Refers library (name_at library k) n = λ n has.
    let places : Contains (references (r.0).elements) n = rw (p.at) at has in record { structure = r.0; found = p.found; places = places } in
    let most : (names : List Name) → Chain library (name_at library k) names → length names < depth + 1 = λ names chain. below names chain in
    ⊎_elim
    (λ none. record { others = []; chain = tt; reaches = omega arith; most = most })
    (λ w. let d : IsDepthOf library w.0 depth = w.2 in
    record { others = w.0 ∷ d.others; chain = (refers w.0 w.1, d.chain); reaches = omega (arith, d.reaches); most = most })
    deepest.some
  where
    below : (names : List Name) → Chain library (name_at library k) names → length names < depth + 1
    below [] chain = omega arith
    below (n ∷ names) chain =
        let r = placed library (name_at library k) k first in
        let p : IsPlaced library (name_at library k) k r.0 = r.1 in
        let refers : Refers library (name_at library k) n = chain.0 in
        let same : refers.structure ≡ r.0 = (let e = refers.found in let g = p.found in cc) in
        let P : Structure → Type 0 = λ s. Contains (references s.elements) n in
        let has : Contains (references (elements_at library k)) n = rw (p.at) (subst P same refers.places) in
        omega (arith, deepest.most n names has chain.1)

pub deepest_own : (library : List Structure) (e : Element) → target e ≡ None → IsDeepest library (e ∷ []) 0
deepest_own library e none = record {
  most = λ n names has chain. let S : Option Name → Type 0 = λ o. Contains (cons_option o []) n in
      let no_has : Contains [] n = subst S none has in absurd (omega (arith, no_has.1));
  some = inl refl;
}

-- one reference
pub placed_one : (e : Element) (n : Name) → target e ≡ Some n → Contains (references (e ∷ [])) n
placed_one e n to = let S : Option Name → Type 0 = λ o. Contains (cons_option o []) n in subst S (sym to) (Contains-push [] n)

pub deepest_one : (library : List Structure) (e : Element) (n : Name) (depth : ℕ) → target e ≡ Some n → IsDepthOf library n depth → IsDeepest library (e ∷ []) depth
deepest_one library e n depth to d = record {
  most = λ m names has chain.
      let S : Option Name → Type 0 = λ o. Contains (cons_option o []) m in
      let one : Contains (n ∷ []) m = subst S to has in
      ⊎_elim (λ none. absurd (omega (arith, none.1)))
      (λ same. let C : Name → Type 0 = λ x. Chain library x names in d.most names (subst C (sym same) chain)) (Contains-push_cases [] n m one);
  some = inr (n, placed_one e n to, d);
}

pub deepest_join : (library : List Structure) (es fs : List Element) (d e : ℕ) → IsDeepest library es d → IsDeepest library fs e
    → IsDeepest library (es ++ fs) (max d e)
deepest_join library es fs d e one other = record {
  most = λ n names has chain.
      ⊎_elim (λ h. omega (arith, one.most n names h chain)) (λ h. omega (arith, other.most n names h chain)) (Contains-append_cases (references es) (references fs) n (let S : List Name → Type 0 = λ ns. Contains ns n in subst S both has));
  some = ⊎_elim
      (λ low. let is : max d e ≡ e = omega arith in
      ⊎_elim (λ none. absurd (omega arith))
      (λ w. let P : ℕ → Type 0 = λ x. IsDepthOf library w.0 x in
      let has : Contains (references (es ++ fs)) w.0 =
      (let S : List Name → Type 0 = λ ns. Contains ns w.0 in subst S (sym both) (Contains-append_right (references es) (references fs) w.0 w.1)) in
      inr (w.0, has, subst P (sym is) w.2)) other.some)
      (λ high. let is : max d e ≡ d = omega arith in
      ⊎_elim (λ none. let zeroed : max d e ≡ 0 = omega arith in inl zeroed)
      (λ w. let P : ℕ → Type 0 = λ x. IsDepthOf library w.0 x in
      let has : Contains (references (es ++ fs)) w.0 =
      (let S : List Name → Type 0 = λ ns. Contains ns w.0 in subst S (sym both) (Contains-append_left (references es) (references fs) w.0 w.1)) in
      inr (w.0, has, subst P (sym is) w.2)) one.some)
      (cases_lt d e);
}
  where
    both : references (es ++ fs) ≡ references es ++ references fs
    both = filter_map-append target es fs

-- one more element
pub deepest_more : (library : List Structure) (es : List Element) (i : ℕ) (e : Element) (d depth : ℕ) → i < length es → e ≡ get_or es i e
    → IsDeepest library (take i es) d → IsDeepest library (e ∷ []) depth → IsDeepest library (take (i + 1) es) (max d depth)
deepest_more library es i e d depth below is one other =
    let more : take i es ++ e ∷ [] ≡ take (i + 1) es = ap (λ x. take i es ++ x ∷ []) is ∙ sym (take_more es i e below) in
    let P : List Element → Type 0 = λ xs. IsDeepest library xs (max d depth) in
    subst P more (deepest_join library (take i es) (e ∷ []) d depth one other)

-- what one element places is among what all place
pub place_only_one : (library : List Structure) (finish : List ℕ) (count : ℕ) (es : List Element) (i : ℕ) (e : Element) → slice_get es i ≡ Some e
    → PlaceOnly library finish count es → PlaceOnly library finish count (e ∷ [])
place_only_one library finish count [] i e at only = cc
place_only_one library finish count (x ∷ es) zero e at only =
    let same : x ≡ e = cc in
    λ n has.
    let P : Element → Type 0 = λ y. Contains (references (y ∷ [])) n in
    only n (rw (filter_map-append target (x ∷ []) es) (Contains-append_left (references (x ∷ [])) (references es) n (subst P (sym same) has)))
place_only_one library finish count (x ∷ es) (suc i) e at only =
    place_only_one library finish count es i e at
    (λ n has. only n (rw (filter_map-append target (x ∷ []) es) (Contains-append_right (references (x ∷ [])) (references es) n has)))

-- one more depth
pub depths_more : (library : List Structure) (finish depths : List ℕ) (k depth : ℕ) → slice_get finish (length depths) ≡ Some k
    → depth ≤ length depths + 1 → IsDepthOf library (name_at library k) depth → AreDepths library finish depths → AreDepths library finish (depths ++ depth ∷ [])
depths_more library finish depths k depth at low is h = record {
  few = let below = slice_get_within finish (length depths) k at in omega (arith, length-append depths (depth ∷ []));
  small = λ p d e. ⊎_elim (λ old. h.small p d old) (λ new. let place : p ≡ length depths = new.0 in let same : depth ≡ d = new.1 in omega arith) (before_or_end depths depth p d e);
  are = λ p d j e f. ⊎_elim (λ old. h.are p d j old f)
      (λ new. let place : p ≡ length depths = new.0 in
      let same : depth ≡ d = new.1 in
      let here : slice_get finish (length depths) ≡ Some j = (let P : ℕ → Type 0 = λ x. slice_get finish x ≡ Some j in subst P place f) in
      let one : k ≡ j = cc in
      let P : ℕ → Type 0 = λ x. IsDepthOf library (name_at library x) d in
      let Q : ℕ → Type 0 = λ x. IsDepthOf library (name_at library k) x in
      subst P one (subst Q same is))
      (before_or_end depths depth p d e);
}

-- the structure at a place of the finish, as a loop over it reads it
pub record IsTurn (library : List Structure) (finish : List ℕ) (i k : ℕ) : Type 0 where
  pub at : slice_get finish i ≡ Some k
  pub first : IsFirst library k
  pub low : k < length library

pub turn_of : (library : List Structure) (top : Name) (walk : Walk) (items : List ℕ) (i : ℕ) → IsTree library top walk → items ≡ walk.finish.items → i < length items
    → IsTurn library walk.finish.items i (get_or items i 0)
turn_of library top walk items i tree same below =
    let P : List ℕ → Type 0 = λ xs. slice_get xs i ≡ Some (get_or items i 0) in
    let at : slice_get walk.finish.items i ≡ Some (get_or items i 0) = subst P same (slice_get-get_or items i 0 below) in
    let first : IsFirst library (get_or items i 0) =
    All-contains (IsFirst library) walk.finish.items (get_or items i 0) (finish_first library [] walk.marks.items walk.order.items walk.finish.items tree.marked)
    (contains_at walk.finish.items i (get_or items i 0) at) in
    record { at = at; first = first; low = first_within library (get_or items i 0) first }

-- the elements of a structure that was read
pub elements_same : (library : List Structure) (k : ℕ) (s : Structure) (es : List Element) → k < length library → s ≡ get_or library k s
    → es ≡ (get_or library k s).elements → es ≡ elements_at library k
elements_same library k s es low is e = e ∙ ap (λ x. x.elements) (sym is) ∙ sym (elements_read library k s low is)

-- what the elements at a turn place stands before it
pub turn_places : (library : List Structure) (top : Name) (walk : Walk) (i k count : ℕ) (es : List Element) → IsTree library top walk → IsTurn library walk.finish.items i k
    → es ≡ elements_at library k → count ≡ i → PlaceOnly library walk.finish.items count es
turn_places library top walk i k count es tree turn same is =
    let P : List Element → Type 0 = λ x. PlaceOnly library walk.finish.items count x in
    let Q : ℕ → Type 0 = λ n. PlaceOnly library walk.finish.items n (elements_at library k) in
    subst P (sym same) (subst Q (sym is) (places_before library walk.finish.items i k tree.ranked turn.first turn.at))

-- the depth at a turn
pub turn_depth : (library : List Structure) (finish depths : List ℕ) (i k depth : ℕ) (es : List Element) → IsTurn library finish i k → length depths ≡ i
    → es ≡ elements_at library k → depth ≤ length depths → IsDeepest library es depth → AreDepths library finish depths → AreDepths library finish (depths ++ (depth + 1) ∷ [])
turn_depth library finish depths i k depth es turn is same low deepest h =
    let P : ℕ → Type 0 = λ n. slice_get finish n ≡ Some k in
    let Q : List Element → Type 0 = λ x. IsDeepest library x depth in
    depths_more library finish depths k (depth + 1) (subst P (sym is) turn.at) (omega arith) (depth_more library k depth turn.first (subst Q same deepest)) h

-- the depth that is read at a place
pub depth_at : (library : List Structure) (finish depths : List ℕ) (place depth k : ℕ) → AreDepths library finish depths → place < length depths
    → depth ≡ get_or depths place depth → slice_get finish place ≡ Some k → IsDepthOf library (name_at library k) depth
depth_at library finish depths place depth k h below is at = h.are place depth k (slice_get-get_or depths place depth below ∙ ap Some (sym is)) at
