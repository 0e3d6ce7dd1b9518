-- How a walk goes on: names by places, what is left to take, and what is ranked.
use Rattle.std.proofs.Common.{◌≡◌, ℕ, zero, suc, ◌+◌, ◌-◌, ◌<◌, ◌≤◌, Bool, true, false, cond, List, [], ◌∷◌, ◌++◌, length, drop, Some, None, All, Contains, slice_get, refl, sym, ap, subst, ◌∙◌, ◌⊎◌, inl, inr, ⊎_elim, append_assoc, arith}
use Rattle.std.proofs.lemmas.List.{append-nil, map-append}
use Rattle.std.proofs.lemmas.List.Elements.{All-contains, All-push, All-drop}
use Rattle.std.proofs.lemmas.Slice.Eq.{bytes_eq-Decides}
use Rattle.gds_stream.specs.declared.library.Structure.{Structure}
use Rattle.gds_flat.specs.declared.walk.Frame.{Frame}
use Rattle.gds_flat.specs.Reach.Order.{known, new}
use Rattle.gds_flat.specs.Reach.Missing.{later, within}
use Rattle.gds_flat.specs.Reach.{Name, is_named, place_from, place_named, structure_named, references, Refers, Chain, StandsBehind, RankedBehind}
use Rattle.gds_flat.specs.Walking.{name_at, names_at, IsFirst, opens, elements_left, agenda, LeadsOn, IsTakenBut, above, AreTaken, IsCircle, IsChain}
use Rattle.rt_cells.proofs.Lists.{mapped, mapped_from}

-- the structure that a name leads to
pub record IsPlaced (library : List Structure) (name : Name) (k : ℕ) (s : Structure) : Type 0 where
  pub found : structure_named library name ≡ Some s
  pub at : slice_get library k ≡ Some s
  pub named : s.name ≡ name

record IsPlacedFrom (i : ℕ) (library : List Structure) (name : Name) (k : ℕ) (s : Structure) : Type 0 where
  found : structure_named library name ≡ Some s
  low : i ≤ k
  at : slice_get library (k - i) ≡ Some s
  named : s.name ≡ name

placed_step : (b : Bool) (i : ℕ) (name : Name) (s : Structure) (library : List Structure) (k : ℕ) → is_named name s ≡ b
    → cond b (Some i) (place_from (i + 1) name library) ≡ Some k
    → ((place_from (i + 1) name library ≡ Some k) → (t : Structure) × IsPlacedFrom (i + 1) library name k t)
    → (t : Structure) × IsPlacedFrom i (s ∷ library) name k t
placed_step true i name s library k e h rest =
    let same : i ≡ k = cc in
    let zero_off : k - i ≡ 0 = omega arith in (
      s,
      record {
        found = rw e refl;
        low = omega arith;
        at = rw zero_off refl;
        named = (bytes_eq-Decides s.name name).0 e;
      },
    )
placed_step false i name s library k e h rest =
    let r = rest h in
    let p : IsPlacedFrom (i + 1) library name k r.0 = r.1 in
    let low : i + 1 ≤ k = p.low in
    let off : k - i ≡ suc (k - (i + 1)) = omega arith in (
      r.0,
      record {
        found = rw e p.found;
        low = omega arith;
        at = rw off p.at;
        named = p.named;
      },
    )

placed_from : (i : ℕ) (name : Name) (library : List Structure) (k : ℕ) → place_from i name library ≡ Some k
    → (s : Structure) × IsPlacedFrom i library name k s
placed_from i name [] k h = cc
placed_from i name (s ∷ library) k h =
    placed_step (is_named name s) i name s library k refl h (λ e. placed_from (i + 1) name library k e)

pub placed : (library : List Structure) (name : Name) (k : ℕ) → place_named name library ≡ Some k → (s : Structure) × IsPlaced library name k s
placed library name k h =
    let r = placed_from 0 name library k h in
    let p : IsPlacedFrom 0 library name k r.0 = r.1 in
    let off : k - 0 ≡ k = omega arith in
    (r.0, record { found = p.found; at = rw off at p.at; named = p.named })

-- the name of the place that a name leads to
pub name_placed : (library : List Structure) (name : Name) (k : ℕ) → place_named name library ≡ Some k → name_at library k ≡ name
name_placed library name k h =
    let r = placed library name k h in
    let p : IsPlaced library name k r.0 = r.1 in
    rw (p.at) p.named

pub first_placed : (library : List Structure) (name : Name) (k : ℕ) → place_named name library ≡ Some k → IsFirst library k
first_placed library name k h = rw (name_placed library name k h) h

missing_step : (b : Bool) (i : ℕ) (name : Name) (s : Structure) (library : List Structure) → is_named name s ≡ b
    → cond b (Some i) (place_from (i + 1) name library) ≡ None
    → ((place_from (i + 1) name library ≡ None) → structure_named library name ≡ None) → structure_named (s ∷ library) name ≡ None
missing_step true i name s library e g rest = cc
missing_step false i name s library e g rest = rw e (rest g)

missing_from : (i : ℕ) (name : Name) (library : List Structure) → place_from i name library ≡ None → structure_named library name ≡ None
missing_from i name [] h = refl
missing_from i name (s ∷ library) h = missing_step (is_named name s) i name s library refl h (λ e. missing_from (i + 1) name library e)

pub missing_placed : (library : List Structure) (name : Name) → place_named name library ≡ None → structure_named library name ≡ None
missing_placed library name h = missing_from 0 name library h

-- places that are the first of their names are one if their names are
pub one_place : (library : List Structure) (j k : ℕ) → IsFirst library j → IsFirst library k → name_at library j ≡ name_at library k → j ≡ k
one_place library j k a b e =
    let P : Name → Type 0 = λ n. place_named n library ≡ Some j in
    let c : place_named (name_at library k) library ≡ Some j = subst P e a in
    cc

-- a name is among those of places only if its place is
pub not_among : (library : List Structure) (places : List ℕ) (k : ℕ) → All (IsFirst library) places → IsFirst library k
    → ¬ Contains places k → ¬ Contains (names_at library places) (name_at library k)
not_among library places k firsts first fresh at =
    let r = mapped_from (name_at library) places (name_at library k) at in
    let firstly : IsFirst library r.0 = All-contains (IsFirst library) places r.0 firsts r.1 in
    let P : ℕ → Type 0 = λ j. Contains places j in
    fresh (subst P (one_place library r.0 k firstly first r.2) r.1)

-- a name that no structure has is among none of them
pub none_among : (library : List Structure) (places : List ℕ) (name : Name) → All (IsFirst library) places → place_named name library ≡ None
    → ¬ Contains (names_at library places) name
none_among library places name firsts missing at =
    let r = mapped_from (name_at library) places name at in
    let firstly : IsFirst library r.0 = All-contains (IsFirst library) places r.0 firsts r.1 in
    let P : Name → Type 0 = λ n. place_named n library ≡ Some r.0 in
    let found : place_named name library ≡ Some r.0 = subst P r.2 firstly in
    cc

-- the walk leads on past a name that is known, and into a structure that is new
pub leads_known : (library : List Structure) (top n : Name) (seen names : List Name) → Contains seen n
    → LeadsOn library top seen (n ∷ names) → LeadsOn library top seen names
leads_known library top n seen names at h = record { order = λ o r. h.order o (known at r); missing = λ m r. h.missing m (later at r) }

pub leads_new : (library : List Structure) (top n : Name) (seen names : List Name) (s : Structure) → ¬ Contains seen n
    → structure_named library n ≡ Some s → LeadsOn library top seen (n ∷ names)
    → LeadsOn library top (seen ++ n ∷ []) (references s.elements ++ names)
leads_new library top n seen names s fresh found h =
    record { order = λ o r. h.order o (new fresh found r); missing = λ m r. h.missing m (within fresh found r) }

-- the agenda with one more frame
pub agenda_more : (library : List Structure) (frames : List Frame) (f : Frame)
    → agenda library (frames ++ f ∷ []) ≡ references (elements_left library f) ++ agenda library frames
agenda_more library [] f = sym (append-nil (references (elements_left library f)))
agenda_more library (g ∷ frames) f =
    ap (λ names. names ++ references (elements_left library g)) (agenda_more library frames f)
    ∙ append_assoc (references (elements_left library f)) (agenda library frames) (references (elements_left library g))

-- the frames' names with one more frame
pub opens_more : (frames : List Frame) (f : Frame) → opens (frames ++ f ∷ []) ≡ opens frames ++ f.structure ∷ []
opens_more frames f = map-append (λ g. g.structure) frames (f ∷ [])

pub names_more : (library : List Structure) (places : List ℕ) (k : ℕ) → names_at library (places ++ k ∷ []) ≡ names_at library places ++ name_at library k ∷ []
names_more library places k = map-append (name_at library) places (k ∷ [])

-- chains grow at their end, and end sooner
chain_grows : (library : List Structure) (a : Name) (names : List Name) (b c : Name) → Chain library a (names ++ b ∷ []) → Refers library b c
    → Chain library a ((names ++ b ∷ []) ++ c ∷ [])
chain_grows library a [] b c chain refers = (chain.0, (refers, tt))
chain_grows library a (d ∷ names) b c chain refers = (chain.0, chain_grows library d names b c chain.1 refers)

pub chain_more : (library : List Structure) (names : List Name) (b c : Name) → IsChain library (names ++ b ∷ []) → Refers library b c
    → IsChain library ((names ++ b ∷ []) ++ c ∷ [])
chain_more library [] b c chain refers = (refers, tt)
chain_more library (a ∷ names) b c chain refers = chain_grows library a names b c chain refers

pub chain_ends : (library : List Structure) (a : Name) (names others : List Name) → Chain library a (names ++ others) → Chain library a names
chain_ends library a [] others chain = tt
chain_ends library a (d ∷ names) others chain = (chain.0, chain_ends library d names others chain.1)

pub chain_less : (library : List Structure) (names others : List Name) → IsChain library (names ++ others) → IsChain library names
chain_less library [] others chain = tt
chain_less library (a ∷ names) others chain = chain_ends library a names others chain

chain_tail : (library : List Structure) (a : Name) (names : List Name) → Chain library a names → IsChain library names
chain_tail library a [] chain = tt
chain_tail library a (b ∷ names) chain = chain.1

-- a chain that comes back to one of its places goes round in a circle
record GoesRound (library : List Structure) (places : List ℕ) (d k : ℕ) : Type 0 where
  split : drop d places ≡ k ∷ drop (suc d) places
  chain : Chain library (name_at library k) (names_at library (drop (suc d) places) ++ name_at library k ∷ [])

goes_round : (library : List Structure) (places : List ℕ) (d k : ℕ) → slice_get places d ≡ Some k
    → IsChain library (names_at library places ++ name_at library k ∷ []) → GoesRound library places d k
goes_round library [] d k at chain = cc
goes_round library (j ∷ places) zero k at chain =
    let same : j ≡ k = cc in
    let P : ℕ → Type 0 = λ n. Chain library (name_at library n) (names_at library places ++ name_at library k ∷ []) in
    record { split = ap (λ n. n ∷ places) same; chain = subst P same chain }
goes_round library (j ∷ places) (suc d) k at chain =
    let r = goes_round library places d k at (chain_tail library (name_at library j) (names_at library places ++ name_at library k ∷ []) chain) in
    record { split = r.split; chain = r.chain }

pub circle_found : (library : List Structure) (order places : List ℕ) (d k : ℕ) → slice_get places d ≡ Some k → Contains order k
    → IsChain library (names_at library places ++ name_at library k ∷ []) → All (λ j. j < length library) places → k < length library
    → IsCircle library order (drop d places ++ k ∷ [])
circle_found library order places d k at on chain all low =
    let r = goes_round library places d k at chain in
    record {
      cycle = record {
        start = name_at library k;
        between = names_at library (drop (suc d) places);
        closed = names_more library (drop d places) k ∙ ap (λ xs. names_at library xs ++ name_at library k ∷ []) r.split;
        chain = r.chain;
      };
      on = mapped (name_at library) order k on;
      within = All-push (λ j. j < length library) (drop d places) k (All-drop (λ j. j < length library) d places all) low;
    }

-- what is ranked with one more name
pub ranked_more : (library : List Structure) (before names : List Name) (n : Name) → RankedBehind library before names
    → StandsBehind library (before ++ names) n → RankedBehind library before (names ++ n ∷ [])
ranked_more library before [] n ranked stands =
    let P : List Name → Type 0 = λ names. StandsBehind library names n in
    (subst P (append-nil before) stands, tt)
ranked_more library before (m ∷ names) n ranked stands =
    let P : List Name → Type 0 = λ all. StandsBehind library all n in
    (ranked.0, ranked_more library (before ++ m ∷ []) names n ranked.1 (subst P (sym (append_assoc before (m ∷ []) names)) stands))

-- the frames' taken names with one more frame
above_more : (library : List Structure) (pending : List Name) (frames : List Frame) (f : Frame)
    → above library pending (frames ++ f ∷ []) ≡ above library (name_at library f.structure ∷ []) frames
above_more library pending [] f = refl
above_more library pending (g ∷ frames) f = refl

pub taken_last : (library : List Structure) (finish : List ℕ) (pending : List Name) (frames : List Frame) (f : Frame)
    → AreTaken library finish pending (frames ++ f ∷ []) → IsTakenBut library finish pending f
taken_last library finish pending [] f h = h.0
taken_last library finish pending (g ∷ frames) f h = taken_last library finish pending frames f h.1

pub taken_front : (library : List Structure) (finish : List ℕ) (pending : List Name) (frames : List Frame) (f : Frame)
    → AreTaken library finish pending (frames ++ f ∷ []) → AreTaken library finish (name_at library f.structure ∷ []) frames
taken_front library finish pending [] f h = tt
taken_front library finish pending (g ∷ frames) f h =
    let P : List Name → Type 0 = λ but. IsTakenBut library finish but g in
    (subst P (above_more library pending frames f) h.0, taken_front library finish pending frames f h.1)

pub taken_more : (library : List Structure) (finish : List ℕ) (pending : List Name) (frames : List Frame) (f : Frame)
    → AreTaken library finish (name_at library f.structure ∷ []) frames → IsTakenBut library finish pending f
    → AreTaken library finish pending (frames ++ f ∷ [])
taken_more library finish pending [] f h mine = (mine, tt)
taken_more library finish pending (g ∷ frames) f h mine =
    let P : List Name → Type 0 = λ but. IsTakenBut library finish but g in
    (subst P (sym (above_more library pending frames f)) h.0, taken_more library finish pending frames f h.1 mine)

-- the frames have taken what is done, once more is done and what was pending is
pub taken_pending : (library : List Structure) (finish after : List ℕ) (pending : List Name) (frames : List Frame)
    → ((m : Name) → Contains (names_at library finish) m → Contains (names_at library after) m)
    → ((m : Name) → Contains pending m → Contains (names_at library after) m)
    → AreTaken library finish pending frames → AreTaken library after [] frames
taken_pending library finish after pending [] more all h = tt
taken_pending library finish after pending (f ∷ frames) more all h = (
  λ m at. ⊎_elim (λ old. inl (more m old)) (λ but. step frames m but) (h.0 m at),
  taken_pending library finish after pending frames more all h.1,
)
  where
    step : (others : List Frame) (m : Name) → Contains (above library pending others) m
        → Contains (names_at library after) m ⊎ Contains (above library [] others) m
    step [] m but = inl (all m but)
    step (g ∷ others) m but = inr but
