-- Names found so far, and the first structure by a name.
use Rattle.std.proofs.Common.{◌≡◌, ℕ, ◌+◌, ◌<◌, List, length, get_or, drop, Option, Some, None, refl, sym, ap, ◌∙◌, cond, Bool, true, false, is_some, bytes_eq}
use Rattle.std.proofs.lemmas.Slice.Eq.{bytes_eq-Decides}
use Rattle.std.proofs.lemmas.List.{at_drop_more}
use Rattle.gds_stream.specs.declared.library.Structure.{Structure}
use Rattle.gds_flat.specs.Reach.{Name, is_named, place_from}

-- the first of two numbers that is there
abbrev pub or_of : Option ℕ → Option ℕ → Option ℕ
or_of None later = later
or_of (Some n) later = Some n

-- the first structure by a name, from number i on
place_step : (i : ℕ) (name : Name) (structures : List Structure) (s : Structure)
    → i < length structures → s ≡ get_or structures i s
    → place_from i name (drop i structures) ≡ cond (is_named name s) (Some i) (place_from (i + 1) name (drop (i + 1) structures))
place_step i name structures s below is =
    at_drop_more (place_from i name) structures i s below ∙ ap (λ x. cond (is_named name x) (Some i) (place_from (i + 1) name (drop (i + 1) structures))) (sym is)

-- a new name, or an old one
insert_step : (same : Bool) (old new : Option ℕ) (i : ℕ) (rest whole : Option ℕ)
    → new ≡ cond same (Some i) old → (same ≡ true → old ≡ None)
    → or_of old (cond same (Some i) rest) ≡ whole → or_of new rest ≡ whole
insert_step true old new i rest whole put absent h = rw put (rw (absent refl) at h)
insert_step false old new i rest whole put absent h = rw put h

-- the name is there already, or isn't the one that is looked for
same_step : (same : Bool) (old : Option ℕ) (i : ℕ) (rest whole : Option ℕ)
    → (same ≡ true → is_some old ≡ true) → or_of old (cond same (Some i) rest) ≡ whole → or_of old rest ≡ whole
same_step true None i rest whole some h = let no : false ≡ true = some refl in cc
same_step true (Some n) i rest whole some h = h
same_step false None i rest whole some h = h
same_step false (Some n) i rest whole some h = h

pub one_more_name : (q name : Name) (s : Structure) (structures : List Structure) (i : ℕ) (old new here whole : Option ℕ)
    → i < length structures → s ≡ get_or structures i s → name ≡ s.name
    → new ≡ cond (bytes_eq name q) (Some i) old → here ≡ None → (name ≡ q → old ≡ here)
    → or_of old (place_from i q (drop i structures)) ≡ whole
    → or_of new (place_from (i + 1) q (drop (i + 1) structures)) ≡ whole
one_more_name q name s structures i old new here whole below is named put absent same h =
    let step = place_step i q structures s below is in
    let equal : bytes_eq name q ≡ true → name ≡ q = (bytes_eq-Decides name q).0 in
    insert_step (bytes_eq s.name q) old new i (place_from (i + 1) q (drop (i + 1) structures)) whole (rw named at put)
    (λ e. same (equal (rw named e)) ∙ absent) (rw step at h)

-- an old name
pub same_name : (q name : Name) (s : Structure) (structures : List Structure) (i : ℕ) (old here whole : Option ℕ)
    → i < length structures → s ≡ get_or structures i s → name ≡ s.name → is_some here ≡ true → (name ≡ q → old ≡ here)
    → or_of old (place_from i q (drop i structures)) ≡ whole
    → or_of old (place_from (i + 1) q (drop (i + 1) structures)) ≡ whole
same_name q name s structures i old here whole below is named there same h =
    let step = place_step i q structures s below is in
    let equal : bytes_eq name q ≡ true → name ≡ q = (bytes_eq-Decides name q).0 in
    same_step (bytes_eq s.name q) old i (place_from (i + 1) q (drop (i + 1) structures)) whole
    (λ e. ap is_some (same (equal (rw named e))) ∙ there) (rw step at h)

-- nothing is there
pub not_there : (found : Option ℕ) → is_some found ≡ false → found ≡ None
not_there None h = refl
not_there (Some n) h = cc
