-- How far a walk has come, after each of its steps.
use Rattle.std.proofs.Common.{◌≡◌, ℕ, ◌+◌, ◌<◌, ◌≤◌, List, [], ◌∷◌, ◌++◌, length, get_or, take, drop, Option, Some, None, MatchOption, All, Contains, slice_get, is_some, true, Result, Ok, Err, OnOk, refl, sym, ap, subst, ◌∙◌, inl, inr, ⊎_elim, append_assoc, arith}
use Rattle.std.specs.Option.{option_to_list}
use Rattle.std.specs.List.{cons_option}
use Rattle.std.proofs.Math.ListN.{set}
use Rattle.std.proofs.lemmas.List.{append-nil, length-map, drop_all, take_all, drop_more, take_more, take-append-drop, drop-map}
use Rattle.std.proofs.lemmas.Option.{slice_get-get_or, slice_get_within}
use Rattle.std.proofs.lemmas.List.Elements.{All-contains, Contains-append_left, Contains-append_right, Contains-append_cases, Contains-push, Contains-push_cases, filter_map-append}
use Rattle.gds_stream.specs.declared.library.Element.{Element}
use Rattle.gds_stream.specs.declared.library.Structure.{Structure}
use Rattle.gds_flat.specs.declared.walk.Frame.{Frame}
use Rattle.gds_flat.specs.declared.walk.Mark.{Mark}
use Rattle.gds_flat.specs.declared.walk.Mark.TheVariants.{Unseen, Open, Done}
use Rattle.gds_flat.specs.declared.walk.Walk.{Walk}
use Rattle.gds_flat.specs.Reach.Order.{done}
use Rattle.gds_flat.specs.Reach.{Name, name_of, elements_of, target, references, Refers}
use Rattle.gds_flat.specs.Walking.{name_at, names_at, elements_at, IsFirst, opens, taken, elements_left, agenda, LeadsOn, AreMarked, IsTakenBut, AreRanked, IsCircle, IsChain, HasCome, IsWalk, HasWalked}
use Rattle.rt_cells.proofs.Lists.{mapped}
use Rattle.rt_cells.proofs.Entries.{get_end, contains_at, contained_at}
use Rattle.gds_flat.proofs.Marking.{mark_open, mark_done}
use Rattle.gds_flat.proofs.Going.{IsPlaced, placed, not_among, leads_known, leads_new, agenda_more, opens_more, names_more, chain_more, chain_less, circle_found, ranked_more, taken_last, taken_front, taken_more, taken_pending}

-- each case of an option goes over into another
match_goes : {X : Type 0} {A C : Type 0} {B D : X → Type 0} (o : Option X) → (A → C) → ((x : X) → B x → D x) → MatchOption o A B → MatchOption o C D
match_goes None f g h = f h
match_goes (Some x) f g h = g x h

leads_same : (library : List Structure) (top : Name) {seen seen' names names' : List Name} → seen ≡ seen' → names ≡ names'
    → LeadsOn library top seen names → LeadsOn library top seen' names'
leads_same library top {seen' = seen'} {names = names} e f h =
    let P : List Name → Type 0 = λ s. LeadsOn library top s names in
    let Q : List Name → Type 0 = λ n. LeadsOn library top seen' n in
    subst Q f (subst P e h)

chain_same : (library : List Structure) {names names' : List Name} → names ≡ names' → IsChain library names → IsChain library names'
chain_same library e h = let P : List Name → Type 0 = λ n. IsChain library n in subst P e h

marked_same : (library : List Structure) {a b : List ℕ} (marks : List Mark) (order finish : List ℕ) → a ≡ b
    → AreMarked library a marks order finish → AreMarked library b marks order finish
marked_same library marks order finish e h = let P : List ℕ → Type 0 = λ o. AreMarked library o marks order finish in subst P e h

-- what holds of each entry holds of all
pub all_entries : {X : Type 0} (P : X → Type 0) (xs : List X) → ((i : ℕ) (x : X) → slice_get xs i ≡ Some x → P x) → All P xs
all_entries P xs h = λ i d below. h i (get_or xs i d) (slice_get-get_or xs i d below)

-- the places that are done are the first of their names
pub finish_first : (library : List Structure) (opened : List ℕ) (marks : List Mark) (order finish : List ℕ)
    → AreMarked library opened marks order finish → All (IsFirst library) finish
finish_first library opened marks order finish m =
    all_entries (IsFirst library) finish (λ d j e. All-contains (IsFirst library) order j m.first (m.done_seen j d (m.at_done j d e)))

-- the structure of the last frame is marked so
pub last_open : (library : List Structure) (frames : List Frame) (f : Frame) (marks : List Mark) (order finish : List ℕ)
    → AreMarked library (opens (frames ++ f ∷ [])) marks order finish → slice_get marks f.structure ≡ Some (Open (length (opens frames)))
last_open library frames f marks order finish m =
    m.at_open f.structure (length (opens frames)) (rw (opens_more frames f) (get_end (opens frames) f.structure))

pub first_within : (library : List Structure) (k : ℕ) → IsFirst library k → k < length library
first_within library k first =
    let r = placed library (name_at library k) k first in
    let p : IsPlaced library (name_at library k) k r.0 = r.1 in slice_get_within library k r.0 p.at

-- the structures of the frames are there
opens_within : (library : List Structure) (opened : List ℕ) (marks : List Mark) (order finish : List ℕ)
    → AreMarked library opened marks order finish → All (λ j. j < length library) opened
opens_within library opened marks order finish m =
    all_entries (λ j. j < length library) opened
    (λ d j e. first_within library j (All-contains (IsFirst library) order j m.first (m.open_seen j d (m.at_open j d e))))

-- a structure is reached
pub come_open : (library : List Structure) (top : Name) (frames : List Frame) (marks : List Mark) (order finish : List ℕ) (circle : Option (List ℕ)) (k d : ℕ)
    → IsFirst library k → slice_get marks k ≡ Some Unseen → d ≡ length frames
    → HasCome library top (name_at library k ∷ []) frames marks order finish circle
    → HasCome library top [] (frames ++ record { structure = k; next = 0 } ∷ []) (set marks k (Open d)) (order ++ k ∷ []) finish circle
come_open library top frames marks order finish circle k d first was deep h =
    let f : Frame = record { structure = k; next = 0 } in
    let r = placed library (name_at library k) k first in
    let p : IsPlaced library (name_at library k) k r.0 = r.1 in
    let name = name_at library k in
    let fresh = not_among library order k h.marked.first first (h.marked.unseen k was) in
    let left : references (r.0).elements ++ agenda library frames ≡ agenda library (frames ++ f ∷ []) =
    ap (λ o. references (elements_of o) ++ agenda library frames) (sym p.at) ∙ sym (agenda_more library frames f) in
    let deeper : length (opens frames) ≡ d = length-map frames (λ g. g.structure) ∙ sym deep in
    let Q : ℕ → Type 0 = λ n. AreMarked library (opens frames ++ k ∷ []) (set marks k (Open n)) (order ++ k ∷ []) finish in
    let names : names_at library (opens frames) ++ name ∷ [] ≡ names_at library (opens (frames ++ f ∷ [])) ++ [] =
    sym (append-nil (names_at library (opens (frames ++ f ∷ []))) ∙ ap (names_at library) (opens_more frames f) ∙ names_more library (opens frames) k) in
    let nothing : IsTakenBut library finish [] f = λ m at. absurd (omega (arith, at.1)) in
    record {
      leads = leads_same library top (sym (names_more library order k)) left (leads_new library top name (names_at library order) (agenda library frames) r.0 fresh p.found h.leads);
      marked = marked_same library (set marks k (Open d)) (order ++ k ∷ []) finish (sym (opens_more frames f))
          (subst Q deeper (mark_open library (opens frames) marks order finish k first was h.marked));
      chain = chain_same library names h.chain;
      either = match_goes circle
          (λ a. record { ranked = a.ranked; taken = taken_more library finish [] frames f a.taken nothing })
          (λ c a. record { cycle = a.cycle; on = rw names_more (Contains-append_left (names_at library order) (name ∷ []) _ a.on); within = a.within })
          h.either;
    }

-- a structure is done
pub come_close : (library : List Structure) (top : Name) (frames : List Frame) (f : Frame) (marks : List Mark) (order finish : List ℕ) (circle : Option (List ℕ)) (d : ℕ)
    → length (elements_at library f.structure) ≤ f.next → d ≡ length finish
    → HasCome library top [] (frames ++ f ∷ []) marks order finish circle
    → HasCome library top [] frames (set marks f.structure (Done d)) order (finish ++ f.structure ∷ []) circle
come_close library top frames f marks order finish circle d over deep h =
    let k = f.structure in
    let name = name_at library k in
    let m0 : AreMarked library (opens frames ++ k ∷ []) marks order finish = marked_same library marks order finish (opens_more frames f) h.marked in
    let was : slice_get marks k ≡ Some (Open (length (opens frames))) = m0.at_open k (length (opens frames)) (get_end (opens frames) k) in
    let first : IsFirst library k = All-contains (IsFirst library) order k m0.first (m0.open_seen k (length (opens frames)) was) in
    let absent : ¬ Contains finish k = λ at. let r = contained_at finish k at in let ready = m0.at_done k r.0 r.1 in cc in
    let r = placed library name k first in
    let p : IsPlaced library name k r.0 = r.1 in
    let nothing : elements_left library f ≡ [] = drop_all f.next (elements_at library k) over in
    let whole : taken library f ≡ references (elements_at library k) = ap references (take_all f.next (elements_at library k) over) in
    let left : agenda library (frames ++ f ∷ []) ≡ agenda library frames = agenda_more library frames f ∙ ap (λ es. references es ++ agenda library frames) nothing in
    let Q : ℕ → Type 0 = λ n. AreMarked library (opens frames) (set marks k (Done n)) order (finish ++ k ∷ []) in
    let names : names_at library (opens (frames ++ f ∷ [])) ++ [] ≡ names_at library (opens frames) ++ name ∷ [] =
    append-nil (names_at library (opens (frames ++ f ∷ []))) ∙ ap (names_at library) (opens_more frames f) ∙ names_more library (opens frames) k in
    let more : names_at library (finish ++ k ∷ []) ≡ names_at library finish ++ name ∷ [] = names_more library finish k in
    let old : (m : Name) → Contains (names_at library finish) m → Contains (names_at library (finish ++ k ∷ [])) m =
    λ m at. rw more (Contains-append_left (names_at library finish) (name ∷ []) m at) in
    let now : (m : Name) → Contains (name ∷ []) m → Contains (names_at library (finish ++ k ∷ [])) m =
    λ m at. rw more (Contains-append_right (names_at library finish) (name ∷ []) m at) in
    let behind : AreRanked library [] (frames ++ f ∷ []) finish → (m : Name) → Refers library name m → Contains (names_at library finish) m =
    λ a m refers.
    let same : refers.structure ≡ r.0 = (let e = refers.found in let g = p.found in cc) in
    let P : Structure → Type 0 = λ s. Contains (references s.elements) m in
    let has : Contains (references (elements_at library k)) m = rw (p.at) (subst P same refers.places) in
    let S : List Name → Type 0 = λ names. Contains names m in
    ⊎_elim (λ x. x) (λ none. absurd (omega (arith, none.1))) (taken_last library finish [] frames f a.taken m (subst S (sym whole) has)) in
    record {
      leads = leads_same library top refl left h.leads;
      marked = subst Q (sym deep) (mark_done library (opens frames) marks order finish k m0);
      chain = chain_same library (sym (append-nil (names_at library (opens frames)))) (chain_less library (names_at library (opens frames)) (name ∷ []) (chain_same library names h.chain));
      either = match_goes circle
          (λ a. record {
            ranked = rw more (ranked_more library [] (names_at library finish) name a.ranked
                (record { fresh = not_among library finish k (finish_first library (opens frames ++ k ∷ []) marks order finish m0) first absent; behind = behind a }));
            taken = taken_pending library finish (finish ++ k ∷ []) (name ∷ []) frames old now (taken_front library finish [] frames f a.taken);
          })
          (λ c a. a) h.either;
    }

-- a name is taken that is done
pub come_done : (library : List Structure) (top : Name) (frames : List Frame) (marks : List Mark) (order finish : List ℕ) (circle : Option (List ℕ)) (k d : ℕ)
    → slice_get marks k ≡ Some (Done d)
    → HasCome library top (name_at library k ∷ []) frames marks order finish circle
    → HasCome library top [] frames marks order finish circle
come_done library top frames marks order finish circle k d was h =
    let name = name_at library k in
    let among : Contains (names_at library order) name = mapped (name_at library) order k (h.marked.done_seen k d was) in
    let ready : Contains (names_at library finish) name = mapped (name_at library) finish k (contains_at finish d k (h.marked.done_at k d was)) in
    let all : (m : Name) → Contains (name ∷ []) m → Contains (names_at library finish) m = λ m at.
    let P : Name → Type 0 = λ n. Contains (names_at library finish) n in
    ⊎_elim (λ none. absurd (omega (arith, none.1))) (λ e. subst P e ready) (Contains-push_cases [] name m at) in
    record {
      leads = leads_known library top name (names_at library order) (agenda library frames) among h.leads;
      marked = h.marked;
      chain = chain_same library (sym (append-nil (names_at library (opens frames)))) (chain_less library (names_at library (opens frames)) (name ∷ []) h.chain);
      either = match_goes circle
          (λ a. record { ranked = a.ranked; taken = taken_pending library finish finish (name ∷ []) frames (λ m at. at) all a.taken })
          (λ c a. a) h.either;
    }

-- a name is taken that goes round in a circle, the first one or another
circle_left : (library : List Structure) (top : Name) (frames : List Frame) (marks : List Mark) (order finish : List ℕ) (circle other : Option (List ℕ)) (k d : ℕ)
    → slice_get marks k ≡ Some (Open d)
    → HasCome library top (name_at library k ∷ []) frames marks order finish circle
    → MatchOption other (AreRanked library [] frames finish) (IsCircle library order)
    → HasCome library top [] frames marks order finish other
circle_left library top frames marks order finish circle other k d was h either =
    let name = name_at library k in
    let among : Contains (names_at library order) name = mapped (name_at library) order k (h.marked.open_seen k d was) in
    record {
      leads = leads_known library top name (names_at library order) (agenda library frames) among h.leads;
      marked = h.marked;
      chain = chain_same library (sym (append-nil (names_at library (opens frames)))) (chain_less library (names_at library (opens frames)) (name ∷ []) h.chain);
      either = either;
    }

pub come_circle : (library : List Structure) (top : Name) (frames : List Frame) (marks : List Mark) (order finish : List ℕ) (circle : Option (List ℕ)) (k d : ℕ) (c : List ℕ)
    → slice_get marks k ≡ Some (Open d) → c ≡ opens (drop d frames) ++ k ∷ []
    → HasCome library top (name_at library k ∷ []) frames marks order finish circle
    → HasCome library top [] frames marks order finish (Some c)
come_circle library top frames marks order finish circle k d c was is h =
    circle_left library top frames marks order finish circle (Some c) k d was h
    (rw (is, ← drop-map) (circle_found library order (opens frames) d k (h.marked.open_at k d was) (h.marked.open_seen k d was) h.chain (opens_within library (opens frames) marks order finish h.marked)
    (first_within library k (All-contains (IsFirst library) order k h.marked.first (h.marked.open_seen k d was)))))

pub come_again : (library : List Structure) (top : Name) (frames : List Frame) (marks : List Mark) (order finish : List ℕ) (circle : Option (List ℕ)) (k d : ℕ)
    → slice_get marks k ≡ Some (Open d) → is_some circle ≡ true
    → HasCome library top (name_at library k ∷ []) frames marks order finish circle
    → HasCome library top [] frames marks order finish circle
come_again library top frames marks order finish None k d was there h = cc
come_again library top frames marks order finish (Some c) k d was there h =
    circle_left library top frames marks order finish (Some c) (Some c) k d was h h.either

-- what elements refer to, from one of them on, and up to it
references_from : (elements : List Element) (i : ℕ) (e : Element) → i < length elements → e ≡ get_or elements i e
    → references (drop i elements) ≡ option_to_list (target e) ++ references (drop (i + 1) elements)
references_from elements i e below is =
    ap references (drop_more elements i e below) ∙ ap (λ x. references (x ∷ drop (i + 1) elements)) (sym is) ∙ first (target e) (references (drop (i + 1) elements))
  where
    first : (o : Option Name) (names : List Name) → cons_option o names ≡ option_to_list o ++ names
    first None names = refl
    first (Some n) names = refl

references_to : (elements : List Element) (i : ℕ) (e : Element) → i < length elements → e ≡ get_or elements i e
    → references (take (i + 1) elements) ≡ references (take i elements) ++ option_to_list (target e)
references_to elements i e below is =
    ap references (take_more elements i e below) ∙ ap (λ x. references (take i elements ++ x ∷ [])) (sym is)
    ∙ filter_map-append target (take i elements) (e ∷ []) ∙ ap (λ names. references (take i elements) ++ names) (only (target e))
  where
    only : (o : Option Name) → cons_option o [] ≡ option_to_list o
    only None = refl
    only (Some n) = refl

references_all : (elements : List Element) (i : ℕ) → references elements ≡ references (take i elements) ++ references (drop i elements)
references_all elements i = ap references (sym (take-append-drop i elements)) ∙ filter_map-append target (take i elements) (drop i elements)

-- the chain of the frames goes on to what the last one refers to
chain_on : (library : List Structure) (names : List Name) (k : ℕ) (o : Option Name) → IsFirst library k → (before behind : List Name)
    → references (elements_at library k) ≡ before ++ (option_to_list o ++ behind)
    → IsChain library (names ++ name_at library k ∷ []) → IsChain library ((names ++ name_at library k ∷ []) ++ option_to_list o)
chain_on library names k None first before behind all chain = chain_same library (sym (append-nil (names ++ name_at library k ∷ []))) chain
chain_on library names k (Some n) first before behind all chain =
    let r = placed library (name_at library k) k first in
    let p : IsPlaced library (name_at library k) k r.0 = r.1 in
    let S : List Name → Type 0 = λ ns. Contains ns n in
    let has : Contains (references (elements_at library k)) n =
    subst S (sym all) (Contains-append_right before (n ∷ behind) n (Contains-append_left (n ∷ []) behind n (Contains-push [] n))) in
    chain_more library names (name_at library k) n chain (record { structure = r.0; found = p.found; places = rw (p.at) at has })

-- the last frame goes on by an element
pub come_on : (library : List Structure) (top : Name) (frames : List Frame) (f : Frame) (marks : List Mark) (order finish : List ℕ) (circle : Option (List ℕ))
    (e : Element) (o : Option Name)
    → f.next < length (elements_at library f.structure) → e ≡ get_or (elements_at library f.structure) f.next e → target e ≡ o
    → HasCome library top [] (frames ++ f ∷ []) marks order finish circle
    → HasCome library top (option_to_list o) (frames ++ record { structure = f.structure; next = f.next + 1 } ∷ []) marks order finish circle
come_on library top frames f marks order finish circle e o below is to h =
    let k = f.structure in
    let g : Frame = record { structure = k; next = f.next + 1 } in
    let name = name_at library k in
    let elements = elements_at library k in
    let from : references (drop f.next elements) ≡ option_to_list o ++ references (drop (f.next + 1) elements) = rw (← to) (references_from elements f.next e below is) in
    let up : references (take (f.next + 1) elements) ≡ references (take f.next elements) ++ option_to_list o = rw (← to) (references_to elements f.next e below is) in
    let same : opens (frames ++ f ∷ []) ≡ opens (frames ++ g ∷ []) = opens_more frames f ∙ sym (opens_more frames g) in
    let left : agenda library (frames ++ f ∷ []) ≡ option_to_list o ++ agenda library (frames ++ g ∷ []) =
    agenda_more library frames f ∙ ap (λ names. names ++ agenda library frames) from
    ∙ append_assoc (option_to_list o) (references (drop (f.next + 1) elements)) (agenda library frames)
    ∙ ap (λ names. option_to_list o ++ names) (sym (agenda_more library frames g)) in
    let m0 : AreMarked library (opens frames ++ k ∷ []) marks order finish = marked_same library marks order finish (opens_more frames f) h.marked in
    let was : slice_get marks k ≡ Some (Open (length (opens frames))) = m0.at_open k (length (opens frames)) (get_end (opens frames) k) in
    let first : IsFirst library k = All-contains (IsFirst library) order k m0.first (m0.open_seen k (length (opens frames)) was) in
    let all : references elements ≡ references (take f.next elements) ++ (option_to_list o ++ references (drop (f.next + 1) elements)) =
    references_all elements f.next ∙ ap (λ names. references (take f.next elements) ++ names) from in
    let names : names_at library (opens (frames ++ f ∷ [])) ++ [] ≡ names_at library (opens frames) ++ name ∷ [] =
    append-nil (names_at library (opens (frames ++ f ∷ []))) ∙ ap (names_at library) (opens_more frames f) ∙ names_more library (opens frames) k in
    let names' : names_at library (opens (frames ++ g ∷ [])) ≡ names_at library (opens frames) ++ name ∷ [] =
    ap (names_at library) (opens_more frames g) ∙ names_more library (opens frames) k in
    record {
      leads = leads_same library top refl left h.leads;
      marked = marked_same library marks order finish same h.marked;
      chain = chain_same library (ap (λ ns. ns ++ option_to_list o) (sym names'))
          (chain_on library (names_at library (opens frames)) k o first (references (take f.next elements)) (references (drop (f.next + 1) elements)) all
          (chain_same library names h.chain));
      either = match_goes circle
          (λ a. record {
            ranked = a.ranked;
            taken = taken_more library finish (option_to_list o) frames g (taken_front library finish [] frames f a.taken)
                (λ m at. let S : List Name → Type 0 = λ ns. Contains ns m in
                ⊎_elim (λ old. ⊎_elim (λ ready. inl ready) (λ none. absurd (omega (arith, none.1))) (taken_last library finish [] frames f a.taken m old))
                (λ new. inr new)
                (Contains-append_cases (references (take f.next elements)) (option_to_list o) m (subst S up at)));
          })
          (λ c a. a) h.either;
    }

-- a walk that has nothing left
pub come_all : (library : List Structure) (top : Name) (walk : Walk) → IsWalk library top [] [] walk → HasWalked library top walk
come_all library top walk h = record {
  order = h.leads.order (names_at library walk.order.items) done;
  marked = h.marked;
  circle = match_goes walk.circle (λ a. a.ranked) (λ c a. a) h.either;
}

-- what stands at a place
pub entry_is : {X : Type 0} (xs : List X) (k : ℕ) (x : X) → k < length xs → x ≡ get_or xs k x → slice_get xs k ≡ Some x
entry_is xs k x below is = slice_get-get_or xs k x below ∙ ap Some (sym is)

-- the names of one more place
pub named_more : (library : List Structure) (places : List ℕ) (i : ℕ) (s : Structure) (names : List Name) (name : Name)
    → i < length places → get_or places i 0 < length library → s ≡ get_or library (get_or places i 0) s → names ≡ names_at library (take i places) → name ≡ s.name
    → names ++ name ∷ [] ≡ names_at library (take (i + 1) places)
named_more library places i s names name below within is before named =
    let at : slice_get library (get_or places i 0) ≡ Some s = entry_is library (get_or places i 0) s within is in
    let this : name_at library (get_or places i 0) ≡ name = ap name_of at ∙ sym named in
    ap (λ ns. ns ++ name ∷ []) before ∙ ap (λ n. names_at library (take i places) ++ n ∷ []) (sym this)
    ∙ sym (ap (names_at library) (take_more places i 0 below) ∙ names_more library (take i places) (get_or places i 0))

pub marked_as : (marks : List Mark) (k : ℕ) (r m : Mark) → k < length marks → r ≡ get_or marks k r → r ≡ m → slice_get marks k ≡ Some m
marked_as marks k r m below is same = entry_is marks k r below is ∙ ap Some same

-- a walk marks the structure of a frame that is taken from it
pub frame_within : (library : List Structure) (frames : List Frame) (f : Frame) (marks : List Mark) (order finish : List ℕ)
    → AreMarked library (opens (frames ++ f ∷ [])) marks order finish → f.structure < length library
frame_within library frames f marks order finish m =
    let low = slice_get_within marks f.structure (Open (length (opens frames))) (last_open library frames f marks order finish m) in
    omega (arith, m.enough)

-- the elements of a structure that was read
pub elements_read : (library : List Structure) (k : ℕ) (s : Structure) → k < length library → s ≡ get_or library k s → elements_at library k ≡ s.elements
elements_read library k s below is = ap elements_of (entry_is library k s below is)

-- less than what was more
pub ok_less : {T E : Type 0} (r : Result T E) (a b c : ℕ) → OnOk r (a ≤ b) → b < c → OnOk r (a < c)
ok_less (Ok x) a b c h below = omega arith
ok_less (Err e) a b c h below = tt
