-- The masks of a table without a fault are in order.
use Rattle.std.proofs.Common.{◌≡◌, ◌≢◌, ℕ, zero, suc, ◌≤◌, ℤ, pos, ◌≤ℤ◌, Bool, true, false, not, ◌&&◌, nat_le, cond, List, [], ◌∷◌, ◌++◌, All, AllPairs, length, slice_get, Option, Some, None, IfSome, IsTrue, IsFalse, unwrap_or, codes, bytes_eq, refl, ap, ◌∙◌, subst, arith}
use Rattle.std.specs.List.{list_all}
use Rattle.std.specs.Option.{option_map_or}
use Rattle.std.proofs.lemmas.Bool.{and_parts}
use Rattle.std.proofs.lemmas.Bool.Decides.{nat_tests}
use Rattle.std.proofs.lemmas.Int.{ints}
use Rattle.std.proofs.lemmas.Slice.Eq.{bytes_eq-Decides}
use Rattle.toml.specs.Data.{Data, Members, Items, no_items, item, get_item}
use Rattle.rt_tech.specs.declared.limits.TheConstants.{MASK_LIMIT, LAYER_LIMIT}
use Rattle.rt_tech.specs.declared.table.Mask.{Mask}
use Rattle.rt_tech.specs.declared.table.Role.{Role as MaskRole}
use Rattle.rt_tech.specs.declared.table.Role.TheVariants.{Metal, Gate, Active, Cut, Background}
use Rattle.rt_tech.specs.declared.table.TableCause.TheVariants.{Missing, Range, Duplicate, Role, Clash}
use Rattle.rt_tech.specs.Rules.{is_role_at}
use Rattle.rt_tech.specs.Tech.{pair_of as pair_of_mask, IsGrid, IsLayer, IsLength, IsNote, IsValidMask, DoNotClash, may_be_lower_at, HasSidesOf, IsKept, AreValidMasks}
use Rattle.rt_tech.specs.Words.{same_role, same_number, same_pair, has_role, is_single, may_have_text, may_be_lower, are_different, is_ignored}
use Rattle.rt_keys.specs.Document.{has, word, number, list, as_members, as_number, count, entries_of}
use Rattle.rt_keys.specs.Faults.{◌or_else◌, unwanted, each}
use Rattle.rt_tables.specs.Masks.{is_name, role_told, role_of, role_at, pair_at, note_at, is_cut, numbered, name_fault, role_fault, layer_fault, datatype_fault, text_there, text_fault, width_fault, upper_fault, lower_entry_fault, lower_entry, lowers_at, lowers_fault, lower_fault, sides_fault, measures_fault, mask_table_fault, mask_fault, width_at, upper_at, lowers_of, mask_of}
use Rattle.rt_keys.specs.Names.{named, is_first}
use Rattle.rt_keys.specs.Numbers.{Measure, length_fault, length_of, place_here, place_fault, place, pair_fault, pair_of}
use Rattle.rt_tables.specs.Tables.{masks_of, masks_listed}
use Rattle.rt_tables.proofs.Clear.{test_holds, here_holds, or_parts, within_clear, Follows, each_follows, all_follow, pairs_follow, called_apart, none_pass, not_so, never_both}
use Rattle.rt_keys.proofs.Lookups.{count_of_entries}
use Rattle.rt_tables.proofs.Limits.{within_limits, layer_limits, length_limits, name_limits}

-- tests that a value passes with itself
self_number : (z : ℤ) → same_number z z ≡ true
self_number z = grind (arith, ints)

self_pair : (p q : ℤ × ℤ) → p ≡ q → same_pair p q ≡ true
self_pair p q e = subst (λ r. same_pair p r ≡ true) e (rw (self_number p.0, self_number p.1) refl)

self_role : (a b : MaskRole) → a ≡ b → same_role a b ≡ true
self_role a b e = subst (λ r. same_role a r ≡ true) e (own a)
  where
    own : (r : MaskRole) → same_role r r ≡ true
    own Metal = refl
    own Gate = refl
    own Active = refl
    own Cut = refl
    own Background = refl

-- name
pub record NameFacts (values : Items) (place : ℕ) (name : List ℕ) : Type 0 where
  pub plain : is_name name ≡ true
  pub no_channel : name ≢ codes "channel"
  pub first : named name values ≡ Some place

pub found_first : (place : ℕ) (found : Option ℕ) → is_first place found ≡ true → found ≡ Some place
found_first place None h = cc
found_first place (Some n) h = let same : n ≡ place = grind (arith, nat_tests) in ap Some same

pub name_facts : (values : Items) (place : ℕ) (entry : Members) → name_fault place values entry ≡ None → NameFacts values place (word (codes "name") entry)
unfolding name_fault
name_facts values place entry h =
    let (there, more) = or_parts _ _ h in
    let (range, once) = or_parts _ _ more in
    let name = word (codes "name") entry in
    let (plain, other) = and_parts (is_name name) (not (bytes_eq name (codes "channel"))) (test_holds (codes "name") Range _ range) in
    record {
      plain = plain;
      no_channel = λ e. never_both _ ((bytes_eq-Decides name (codes "channel")).1 e) (not_so _ other);
      first = found_first place (named name values) (test_holds _ _ _ once);
    }

-- role
pub role_facts : (before : List Mask) (entry : Members) → role_fault before entry ≡ None → All (λ other. IsTrue (is_single (role_of entry)) → other.role ≢ role_of entry) before
unfolding role_fault
role_facts before entry h k d below single same =
    let (there, more) = or_parts _ _ h in
    let (range, clash) = or_parts _ _ more in
    let apart : (is_single (role_of entry) && has_role (role_of entry) before) ≡ false = not_so _ (test_holds (codes "role") Clash _ clash) in
    let none : has_role (role_of entry) before ≡ false = rw single at apart in
    never_both _ (self_role _ _ same) (none_pass (λ mask. same_role mask.role (role_of entry)) before none k d below)

-- datatype
pub record PairFacts (ignored : List (ℤ × ℤ)) (before : List Mask) (pair : ℤ × ℤ) : Type 0 where
  pub fresh : All (λ other. pair_of_mask other ≢ pair) before
  pub kept : IsFalse (is_ignored ignored pair)

pub pair_facts : (ignored : List (ℤ × ℤ)) (before : List Mask) (entry : Members) → datatype_fault ignored before entry ≡ None → PairFacts ignored before (pair_at entry)
unfolding datatype_fault
pair_facts ignored before entry h =
    let (number, more) = or_parts _ _ h in
    let (once, clash) = or_parts _ _ more in
    let none = none_pass (λ mask. same_pair (mask.layer, mask.datatype) (pair_at entry)) before (not_so _ (test_holds (codes "datatype") Duplicate _ once)) in
    record {
      fresh = λ k d below same. never_both _ (self_pair _ _ same) (none k d below);
      kept = not_so _ (test_holds (codes "datatype") Clash _ clash);
    }

datatype_limits : (ignored : List (ℤ × ℤ)) (before : List Mask) (entry : Members) → datatype_fault ignored before entry ≡ None → IsLayer (number (codes "datatype") entry)
unfolding datatype_fault
datatype_limits ignored before entry h = layer_limits (codes "datatype") entry (or_parts _ _ h).0

-- text
pub record NoteFacts (ignored : List (ℤ × ℤ)) (before : List Mask) (role : MaskRole) (note : Option (ℤ × ℤ)) : Type 0 where
  pub limits : IfSome note IsNote
  pub labelled : IfSome note (λ n. IsTrue (may_have_text role))
  pub fresh : All (λ other. IfSome note (λ n. other.note ≢ Some n)) before
  pub kept : IfSome note (λ n. IsFalse (is_ignored ignored n))

pub place_limits : (low : ℤ) (n : ℕ) (values : Items) → low ≤ℤ pos 0 → place_fault low n values ≡ None → (low ≤ℤ place n values) × (place n values ≤ℤ LAYER_LIMIT)
unfolding place_fault
place_limits low n values under h = limits_here (get_item n values) h
  where
    limits_here : (found : Option Data) → place_here low n found ≡ None → (low ≤ℤ option_map_or as_number found (pos 0)) × (option_map_or as_number found (pos 0) ≤ℤ LAYER_LIMIT)
    limits_here None h = (under, omega (arith, ints))
    limits_here (Some value) h =
        let (form, range) = or_parts _ _ (within_clear _ _ h) in
        within_limits _ _ _ (here_holds Range _ range)

pair_limits : (values : Items) → pair_fault (pos 0) (pos 0) values ≡ None → IsNote (pair_of values)
unfolding pair_fault
pair_limits values h =
    let (first, more) = or_parts _ _ h in
    let (second, count) = or_parts _ _ more in
    let layer = place_limits (pos 0) 0 values (omega (arith, ints)) first in
    let texttype = place_limits (pos 0) 1 values (omega (arith, ints)) second in
    record { layer = record { low = layer.0; high = layer.1 }; texttype = record { low = texttype.0; high = texttype.1 } }

note_there_facts : (ignored : List (ℤ × ℤ)) (before : List Mask) (entry : Members) → text_there ignored before entry ≡ None
    → NoteFacts ignored before (role_of entry) (Some (pair_of (list (codes "text") entry)))
unfolding text_there
note_there_facts ignored before entry h =
    let (there, a) = or_parts _ _ h in
    let (limits, b) = or_parts _ _ a in
    let (once, c) = or_parts _ _ b in
    let (role, clash) = or_parts _ _ c in
    let note = pair_of (list (codes "text") entry) in
    let none = none_pass (λ mask. option_map_or (λ n. same_pair n note) mask.note false) before (not_so _ (test_holds (codes "text") Duplicate _ once)) in
    record {
      limits = pair_limits _ (within_clear (codes "text") _ limits);
      labelled = test_holds (codes "text") Role _ role;
      fresh = λ k d below same. never_both _ (ap (λ o. option_map_or (λ n. same_pair n note) o false) same ∙ self_pair note note refl) (none k d below);
      kept = not_so _ (test_holds (codes "text") Clash _ clash);
    }

pub note_facts : (ignored : List (ℤ × ℤ)) (before : List Mask) (entry : Members) → text_fault ignored before entry ≡ None → NoteFacts ignored before (role_of entry) (note_at entry)
unfolding text_fault
note_facts ignored before entry h = by_presence (has (codes "text") entry) h
  where
    by_presence : (there : Bool) → cond there (text_there ignored before entry) None ≡ None
        → NoteFacts ignored before (role_of entry) (cond there (Some (pair_of (list (codes "text") entry))) None)
    by_presence true h = note_there_facts ignored before entry h
    by_presence false h = record { limits = tt; labelled = tt; fresh = λ k d below. tt; kept = tt }

-- width and size
pub width_limits : (measure : Measure) (entry : Members) → IsGrid measure.grid → width_fault measure entry ≡ None → IsLength (width_at measure entry)
unfolding width_fault
width_limits measure entry some h = by_cut (is_cut entry) h
  where
    by_cut : (cut : Bool)
        → cond cut (unwanted (codes "width") entry or_else length_fault measure (pos 1) (codes "size") entry) (length_fault measure (pos 1) (codes "width") entry or_else unwanted (codes "size") entry) ≡ None
        → IsLength (cond cut (length_of measure (codes "size") entry) (length_of measure (codes "width") entry))
    by_cut true h = length_limits measure (codes "size") entry some (or_parts _ _ h).1
    by_cut false h = length_limits measure (codes "width") entry some (or_parts _ _ h).0

-- the role that an entry tells is its mask's
told_is : (measure : Measure) (names values : Items) (n : ℕ) (passes : MaskRole → Bool)
    → option_map_or passes (role_at values n) false ≡ true
    → option_map_or (λ mask. passes mask.role) (slice_get (entries_of (mask_of measure names) values) n) false ≡ true
unfolding mask_of
told_is measure names no_items n passes h = cc
told_is measure names (item value values) zero passes h = here (role_told (as_members value)) h
  where
    here : (told : Option MaskRole) → option_map_or passes told false ≡ true → passes (unwrap_or told Metal) ≡ true
    here None h = cc
    here (Some role) h = h
told_is measure names (item value values) (suc n) passes h = told_is measure names values n passes h

-- upper and lower
pub record CutFacts (measure : Measure) (values : Items) (above : ℕ) (below : List ℕ) : Type 0 where
  pub upper : IsTrue (is_role_at Metal (masks_of measure values) above)
  pub some_lowers : 1 ≤ length below
  pub lowers : IsTrue (list_all (may_be_lower_at (masks_of measure values)) below)
  pub different : IsTrue (are_different (above ∷ below))

lowers_stand : (measure : Measure) (values : Items) (before : List ℕ) (items : Items)
    → each (λ done. lower_entry_fault values) (lower_entry values) before items ≡ None
    → list_all (may_be_lower_at (masks_of measure values)) (entries_of (lower_entry values) items) ≡ true
unfolding lower_entry_fault
lowers_stand measure values before no_items h = refl
lowers_stand measure values before (item value more) h =
    let (here, rest) = or_parts _ _ h in
    let (form, a) = or_parts _ _ (within_clear _ _ here) in
    let (name, role) = or_parts _ _ a in
    let stands = told_is measure values values (lower_entry values value) may_be_lower (here_holds Role _ role) in
    rw (stands, lowers_stand measure values (before ++ lower_entry values value ∷ []) more rest) refl

cut_facts : (measure : Measure) (values : Items) (entry : Members) → upper_fault values entry ≡ None → lower_fault values entry ≡ None
    → CutFacts measure values (numbered (codes "upper") values entry) (lowers_at values entry)
unfolding upper_fault lower_fault lowers_fault
cut_facts measure values entry above below =
    let (named, metal) = or_parts _ _ above in
    let (there, a) = or_parts _ _ below in
    let (each_one, b) = or_parts _ _ a in
    let (some, different) = or_parts _ _ b in
    let counted : length (lowers_at values entry) ≡ count (list (codes "lower") entry) = count_of_entries (lower_entry values) (list (codes "lower") entry) in
    let one : nat_le 1 (count (list (codes "lower") entry)) ≡ true = test_holds (codes "lower") Range _ some in
    record {
      upper = told_is measure values values (numbered (codes "upper") values entry) (λ role. same_role role Metal) (test_holds (codes "upper") Role _ metal);
      some_lowers = rw counted (grind (arith, nat_tests));
      lowers = lowers_stand measure values [] (list (codes "lower") entry) (within_clear (codes "lower") _ each_one);
      different = test_holds (codes "lower") Clash _ different;
    }

-- what is above and below a mask of the role
abbrev pub SidesOf : Measure → Items → MaskRole → ℕ → List ℕ → Type 0
SidesOf measure values Cut upper lowers = CutFacts measure values upper lowers
SidesOf measure values _ upper lowers = (upper ≡ 0) × (lowers ≡ [])

side_facts : (measure : Measure) (values : Items) (entry : Members) → sides_fault values entry ≡ None
    → SidesOf measure values (role_of entry) (upper_at values entry) (lowers_of values entry)
unfolding sides_fault
side_facts measure values entry h = by_role (role_of entry) h
  where
    by_role : (role : MaskRole)
        → cond (same_role role Cut) (upper_fault values entry or_else lower_fault values entry) (unwanted (codes "upper") entry or_else unwanted (codes "lower") entry) ≡ None
        → SidesOf measure values role (cond (same_role role Cut) (numbered (codes "upper") values entry) 0) (cond (same_role role Cut) (lowers_at values entry) [])
    by_role Cut h = let (above, below) = or_parts _ _ h in cut_facts measure values entry above below
    by_role Metal h = (refl, refl)
    by_role Gate h = (refl, refl)
    by_role Active h = (refl, refl)
    by_role Background h = (refl, refl)

-- a mask that was read, with those before it
pub record IsReadMask (measure : Measure) (values : Items) (ignored : List (ℤ × ℤ)) (before : List Mask) (mask : Mask) : Type 0 where
  pub valid : IsValidMask mask
  pub first : named mask.name values ≡ Some (length before)
  pub pairs : All (λ other. pair_of_mask other ≢ pair_of_mask mask) before
  pub notes : All (λ other. IfSome mask.note (λ note. other.note ≢ Some note)) before
  pub roles : All (λ other. IsTrue (is_single mask.role) → other.role ≢ mask.role) before
  pub kept : IsKept ignored mask
  pub sides : SidesOf measure values mask.role mask.upper mask.lowers

read_mask : (measure : Measure) (values : Items) (ignored : List (ℤ × ℤ)) → IsGrid measure.grid → (before : List Mask) (value : Data)
    → mask_fault measure values ignored before value ≡ None → IsReadMask measure values ignored before (mask_of measure values value)
unfolding mask_fault mask_table_fault measures_fault layer_fault mask_of
read_mask measure values ignored some before value h =
    let entry = as_members value in
    let (form, a) = or_parts _ _ h in
    let (name, b) = or_parts _ _ a in
    let (role, c) = or_parts _ _ b in
    let (layer, d) = or_parts _ _ c in
    let (pair, e) = or_parts _ _ d in
    let (text, f) = or_parts _ _ e in
    let (space, g) = or_parts _ _ f in
    let (notch, w) = or_parts _ _ g in
    let (width, i) = or_parts _ _ w in
    let (sides, foreign) = or_parts _ _ i in
    let names = name_facts values (length before) entry name in
    let pairs = pair_facts ignored before entry pair in
    let notes = note_facts ignored before entry text in
    record {
      valid = record {
        name = name_limits _ names.plain;
        no_channel = names.no_channel;
        layer = layer_limits (codes "layer") entry layer;
        datatype = datatype_limits ignored before entry pair;
        note = notes.limits;
        labelled = notes.labelled;
        width = width_limits measure entry some width;
        space = length_limits measure (codes "space") entry some space;
      };
      first = names.first;
      pairs = pairs.fresh;
      notes = notes.fresh;
      roles = role_facts before entry role;
      kept = record { shapes = pairs.kept; labels = notes.kept };
      sides = side_facts measure values entry sides;
    }

-- the masks of a table, one by one and together
pub record MasksFacts (ignored : List (ℤ × ℤ)) (masks : List Mask) : Type 0 where
  pub some_masks : 1 ≤ length masks
  pub few_masks : length masks ≤ 64
  pub valid : All IsValidMask masks
  pub apart : AllPairs DoNotClash masks
  pub together : AreValidMasks ignored masks

to_sides : (measure : Measure) (values : Items) (mask : Mask) (role : MaskRole) → SidesOf measure values role mask.upper mask.lowers → HasSidesOf (masks_of measure values) mask role
to_sides measure values mask Cut h = record { upper = h.upper; some_lowers = h.some_lowers; lowers = h.lowers; different = h.different }
to_sides measure values mask Metal h = record { upper = h.0; lowers = h.1 }
to_sides measure values mask Gate h = record { upper = h.0; lowers = h.1 }
to_sides measure values mask Active h = record { upper = h.0; lowers = h.1 }
to_sides measure values mask Background h = record { upper = h.0; lowers = h.1 }

pub masks_facts : (measure : Measure) (ignored : List (ℤ × ℤ)) (values : Items) → IsGrid measure.grid
    → masks_listed measure ignored values ≡ None → MasksFacts ignored (masks_of measure values)
unfolding masks_listed
masks_facts measure ignored values some h =
    let (each_one, a) = or_parts _ _ h in
    let (together, range) = or_parts _ _ a in
    let masks = masks_of measure values in
    let P = IsReadMask measure values ignored in
    let follow : Follows P [] masks = each_follows (mask_fault measure values ignored) (mask_of measure values) P (read_mask measure values ignored some) [] values (within_clear (codes "mask") _ each_one) in
    let counted : length masks ≡ count values = count_of_entries (mask_of measure values) values in
    let (one, few) = and_parts (nat_le 1 (count values)) (nat_le (count values) MASK_LIMIT) (test_holds (codes "mask") Range _ range) in
    let names = called_apart P (λ mask. mask.name) (λ name. named name values) masks follow (λ before mask facts. facts.first) in
    let pairs = pairs_follow P (λ other mask. pair_of_mask other ≢ pair_of_mask mask) masks follow (λ before mask facts. facts.pairs) in
    let notes = pairs_follow P (λ other mask. IfSome mask.note (λ note. other.note ≢ Some note)) masks follow (λ before mask facts. facts.notes) in
    let roles = pairs_follow P (λ other mask. IsTrue (is_single mask.role) → other.role ≢ mask.role) masks follow (λ before mask facts. facts.roles) in
    record {
      some_masks = rw counted (grind (arith, nat_tests));
      few_masks = rw counted (grind (arith, nat_tests));
      valid = all_follow P IsValidMask masks follow (λ before mask facts. facts.valid);
      apart = λ i j d below inside. record { names = names i j d below inside; pairs = pairs i j d below inside; notes = notes i j d below inside; roles = roles i j d below inside };
      together = record {
        together = test_holds (codes "mask") Missing _ together;
        sides = all_follow P (λ mask. HasSidesOf masks mask mask.role) masks follow (λ before mask facts. to_sides measure values mask mask.role facts.sides);
        kept = all_follow P (IsKept ignored) masks follow (λ before mask facts. facts.kept);
      };
    }
