-- The entries of the masks of a document in order have no fault.
use Rattle.std.proofs.Common.{◌≡◌, ◌≢◌, ℕ, zero, suc, ◌≤◌, ◌<◌, ℤ, pos, Bool, true, false, not, ◌&&◌, ◌||◌, ◌==◌, nat_le, cond, List, [], ◌∷◌, All, AllPairs, length, slice_get, get_or, take, Option, Some, None, IfSome, IsTrue, IsFalse, is_some, unwrap_or, codes, bytes_eq, refl, sym, ap, subst, ◌∙◌, ◌⊎◌, ⊎_elim, zero-add, length-take-le, arith}
use Rattle.std.specs.Prelude.{option_and_then}
use Rattle.std.specs.List.{list_any, list_all}
use Rattle.std.specs.Option.{option_map_or}
use Rattle.std.proofs.lemmas.Bool.Decides.{nat_tests}
use Rattle.std.proofs.lemmas.List.Sums.{AllPass-from_list_all, list_all-from_AllPass}
use Rattle.std.proofs.lemmas.Slice.Eq.{bytes_eq-Decides}
use Rattle.toml.specs.Data.{Data, Members, Items, no_items, item, get_item, as_str, as_integer, as_array, as_table}
use Rattle.rt_tech.specs.declared.limits.TheConstants.{NAME_LIMIT, MASK_LIMIT, LAYER_LIMIT}
use Rattle.rt_tech.specs.declared.table.Mask.{Mask}
use Rattle.rt_tech.specs.declared.table.Role.{Role as MaskRole}
use Rattle.rt_tech.specs.declared.table.Role.TheVariants.{Metal, Gate, Active, Cut, Background}
use Rattle.rt_tech.specs.declared.table.TableCause.TheVariants.{Missing, Form, Range, Duplicate, Name, Role, Clash}
use Rattle.rt_tech.specs.Rules.{is_role_at}
use Rattle.rt_tech.specs.Tech.{IsName, IsNameByte, IsNote, IsValidMask, DoNotClash, may_be_lower_at, HasSides, HasSidesOf, IsKept, AreValidMasks}
use Rattle.rt_tech.specs.Words.{same_role, same_pair, has_role, is_single, may_have_text, may_be_lower, is_ignored, are_different}
use Rattle.rt_tech.proofs.Tests.{role_same, pair_is}
use Rattle.rt_keys.specs.declared.stop.Fault.{Fault}
use Rattle.rt_keys.specs.Document.{has, read_at, word, number, list, as_word, as_members, count, entries_of}
use Rattle.rt_keys.specs.Faults.{◌or_else◌, test, test_here, within, wanted, unwanted, others, each}
use Rattle.rt_keys.specs.Names.{named, is_first}
use Rattle.rt_keys.specs.Numbers.{Measure, length_fault, number_fault, pair_fault, pair_of}
use Rattle.table_laws.specs.Shapes.{Holds, AllItems, IsTableOf, HoldsName, IsPair}
use Rattle.rt_keys.specs.Words.{role_named}
use Rattle.table_laws.proofs.Faultless.{both_hold, test_clear, here_clear, or_clear, inner_clear, wanted_clear, unwanted_clear, others_clear, absent_unless, number_clear, length_clear, pair_clear, each_clear, entry_at, all_at, pairs_at, none_before, named_at}
use Rattle.rt_keys.proofs.Lookups.{count_of_entries}
use Rattle.rt_tables.specs.Masks.{mask_keys, is_name, is_name_byte, role_told, role_of, named_fault, numbered, role_at, pair_at, note_at, has_pair, has_note, name_fault, role_fault, layer_fault, datatype_fault, text_there, text_fault, is_cut, width_fault, upper_fault, lower_entry_fault, lower_entry, lowers_at, lowers_fault, lower_fault, sides_fault, measures_fault, mask_table_fault, mask_fault, mask_of}
use Rattle.table_laws.specs.TableShapes.{IsLowerEntry, HasCutKeys, HasNoCutKeys, HasSidesKeys, IsMaskEntry}
use Rattle.rt_tables.specs.Tables.{masks_of, masks_listed, come_together}

-- a test that never holds
pub never_holds : (b : Bool) → (b ≡ true → ⊥) → b ≡ false
never_holds true h = absurd (h refl)
never_holds false h = refl

pub not_holds : (b : Bool) → b ≡ false → not b ≡ true
not_holds b h = rw h refl

-- the name of a mask
pub named_clear : (key : List ℕ) (names : Items) (entry : Members) → HoldsName names key entry → named_fault key names entry ≡ None
named_clear key names entry h =
    or_clear (wanted as_str key entry) (test key Name (is_some (named (word key entry) names))) (wanted_clear as_str key entry h.a_word) (test_clear key Name _ h.known)

name_byte_holds : (byte : ℕ) → IsNameByte byte → is_name_byte byte ≡ true
name_byte_holds byte h =
    ⊎_elim (λ letter. let a = letter.0 in let b = letter.1 in grind (arith, nat_tests))
    (λ more. ⊎_elim (λ digit. let a = digit.0 in let b = digit.1 in grind (arith, nat_tests)) (λ underscore. grind (arith, nat_tests)) more) h

pub name_holds : (bytes : List ℕ) → IsName bytes → is_name bytes ≡ true
name_holds bytes h =
    let low : 1 ≤ length bytes = h.some in
    let high : length bytes ≤ NAME_LIMIT = h.few in
    let some : nat_le 1 (length bytes) ≡ true = grind (arith, nat_tests) in
    let few : nat_le (length bytes) NAME_LIMIT ≡ true = grind (arith, nat_tests) in
    let plain : list_all is_name_byte bytes ≡ true = list_all-from_AllPass is_name_byte bytes (λ k d below. name_byte_holds (get_or bytes k d) (h.plain k d below)) in
    both_hold _ _ (both_hold _ _ some few) plain

pub is_first_holds : (place : ℕ) (found : Option ℕ) → found ≡ Some place → is_first place found ≡ true
is_first_holds place found h = rw h (grind (arith, nat_tests))

-- roles
role_read : (read : Option (List ℕ)) → is_some (option_and_then role_named read) ≡ true → is_some (role_named (unwrap_or read [])) ≡ true
role_read None h = cc
role_read (Some w) h = h

role_clear : (before : List Mask) (entry : Members) → Holds as_str (codes "role") entry → is_some (role_told entry) ≡ true
    → (is_single (role_of entry) ≡ true → has_role (role_of entry) before ≡ false) → role_fault before entry ≡ None
unfolding role_fault
role_clear before entry a_word known alone =
    or_clear (wanted as_str (codes "role") entry) (test (codes "role") Range (is_some (role_named (word (codes "role") entry))) or_else test (codes "role") Clash (not (is_single (role_of entry) && has_role (role_of entry) before)))
    (wanted_clear as_str (codes "role") entry a_word)
    (or_clear (test (codes "role") Range (is_some (role_named (word (codes "role") entry)))) (test (codes "role") Clash (not (is_single (role_of entry) && has_role (role_of entry) before)))
    (test_clear (codes "role") Range _ (role_read (read_at as_str (codes "role") entry) known))
    (test_clear (codes "role") Clash _ (not_both (is_single (role_of entry)) (has_role (role_of entry) before) alone)))
  where
    not_both : (a b : Bool) → (a ≡ true → b ≡ false) → not (a && b) ≡ true
    not_both true b h = not_holds b (h refl)
    not_both false b h = refl

datatype_clear : (ignored : List (ℤ × ℤ)) (before : List Mask) (entry : Members) → number_fault (pos 0) LAYER_LIMIT (codes "datatype") entry ≡ None
    → has_pair before (pair_at entry) ≡ false → is_ignored ignored (pair_at entry) ≡ false → datatype_fault ignored before entry ≡ None
unfolding datatype_fault
datatype_clear ignored before entry number once kept =
    or_clear (number_fault (pos 0) LAYER_LIMIT (codes "datatype") entry) (test (codes "datatype") Duplicate (not (has_pair before (pair_at entry))) or_else test (codes "datatype") Clash (not (is_ignored ignored (pair_at entry)))) number
    (or_clear (test (codes "datatype") Duplicate (not (has_pair before (pair_at entry)))) (test (codes "datatype") Clash (not (is_ignored ignored (pair_at entry))))
    (test_clear (codes "datatype") Duplicate _ (not_holds _ once)) (test_clear (codes "datatype") Clash _ (not_holds _ kept)))

text_there_clear : (ignored : List (ℤ × ℤ)) (before : List Mask) (entry : Members) → Holds as_array (codes "text") entry → IsPair (list (codes "text") entry)
    → IsNote (pair_of (list (codes "text") entry)) → IsTrue (may_have_text (role_of entry)) → has_note before (pair_of (list (codes "text") entry)) ≡ false
    → is_ignored ignored (pair_of (list (codes "text") entry)) ≡ false → text_there ignored before entry ≡ None
unfolding text_there
text_there_clear ignored before entry holds pair note labelled once kept =
    let values = list (codes "text") entry in
    or_clear (wanted as_array (codes "text") entry) _ (wanted_clear as_array (codes "text") entry holds)
    (or_clear (within (codes "text") (pair_fault (pos 0) (pos 0) values)) _
    (inner_clear (codes "text") _ (pair_clear (pos 0) (pos 0) values pair note.layer.low note.layer.high note.texttype.low note.texttype.high))
    (or_clear (test (codes "text") Duplicate (not (has_note before (pair_of values)))) _ (test_clear (codes "text") Duplicate _ (not_holds (has_note before (pair_of values)) once))
    (or_clear (test (codes "text") Role (may_have_text (role_of entry))) _ (test_clear (codes "text") Role _ labelled)
    (test_clear (codes "text") Clash _ (not_holds (is_ignored ignored (pair_of values)) kept)))))

text_clear : (ignored : List (ℤ × ℤ)) (before : List Mask) (entry : Members)
    → (has (codes "text") entry ≡ true → Holds as_array (codes "text") entry) → (has (codes "text") entry ≡ true → IsPair (list (codes "text") entry))
    → IfSome (note_at entry) IsNote → IfSome (note_at entry) (λ note. IsTrue (may_have_text (role_of entry)))
    → IfSome (note_at entry) (λ note. has_note before note ≡ false) → IfSome (note_at entry) (λ note. IsFalse (is_ignored ignored note))
    → text_fault ignored before entry ≡ None
unfolding text_fault
text_clear ignored before entry holds pair note labelled once kept = by_presence (has (codes "text") entry) holds pair note labelled once kept
  where
    by_presence : (there : Bool) → (there ≡ true → Holds as_array (codes "text") entry) → (there ≡ true → IsPair (list (codes "text") entry))
        → IfSome (cond there (Some (pair_of (list (codes "text") entry))) None) IsNote
        → IfSome (cond there (Some (pair_of (list (codes "text") entry))) None) (λ note. IsTrue (may_have_text (role_of entry)))
        → IfSome (cond there (Some (pair_of (list (codes "text") entry))) None) (λ note. has_note before note ≡ false)
        → IfSome (cond there (Some (pair_of (list (codes "text") entry))) None) (λ note. IsFalse (is_ignored ignored note))
        → cond there (text_there ignored before entry) None ≡ None
    by_presence false holds pair note labelled once kept = refl
    by_presence true holds pair note labelled once kept = text_there_clear ignored before entry (holds refl) (pair refl) note labelled once kept

-- width and size, upper and lower
width_clear : (measure : Measure) (names : Items) (entry : Members) → HasSidesKeys measure names entry (is_cut entry) → width_fault measure entry ≡ None
unfolding width_fault
width_clear measure names entry h = by_cut (is_cut entry) h
  where
    by_cut : (cut : Bool) → HasSidesKeys measure names entry cut
        → cond cut (unwanted (codes "width") entry or_else length_fault measure (pos 1) (codes "size") entry) (length_fault measure (pos 1) (codes "width") entry or_else unwanted (codes "size") entry) ≡ None
    by_cut true h = or_clear (unwanted (codes "width") entry) (length_fault measure (pos 1) (codes "size") entry) (unwanted_clear (codes "width") entry h.width) (length_clear measure (pos 1) (codes "size") entry h.size)
    by_cut false h = or_clear (length_fault measure (pos 1) (codes "width") entry) (unwanted (codes "size") entry) (length_clear measure (pos 1) (codes "width") entry h.width) (unwanted_clear (codes "size") entry h.size)

-- the role of a mask is what its entry tells, where each entry tells one
pub told_back : (measure : Measure) (names values : Items) → AllItems (λ value. IsTrue (is_some (role_told (as_members value)))) values → (n : ℕ) (passes : MaskRole → Bool)
    → option_map_or (λ (mask : Mask). passes mask.role) (slice_get (entries_of (mask_of measure names) values) n) false ≡ true → option_map_or passes (role_at values n) false ≡ true
unfolding mask_of
told_back measure names no_items told n passes h = cc
told_back measure names (item value values) told zero passes h = here (role_told (as_members value)) (told 0 value refl) h
  where
    here : (role : Option MaskRole) → is_some role ≡ true → passes (unwrap_or role Metal) ≡ true → option_map_or passes role false ≡ true
    here None some h = cc
    here (Some role) some h = h
told_back measure names (item value values) told (suc n) passes h = told_back measure names values (λ k v at. told (suc k) v at) n passes h

lowers_clear : (measure : Measure) (values : Items) → AllItems (λ value. IsTrue (is_some (role_told (as_members value)))) values → (items : Items) → AllItems (IsLowerEntry values) items
    → list_all (may_be_lower_at (masks_of measure values)) (entries_of (lower_entry values) items) ≡ true
    → each (λ before. lower_entry_fault values) (lower_entry values) [] items ≡ None
unfolding lower_entry_fault
lowers_clear measure values told items h below =
    each_clear (λ before. lower_entry_fault values) (lower_entry values) items (λ k value at.
    let is = h k value at in
    let stands = all_at (λ n. may_be_lower_at (masks_of measure values) n ≡ true) (lower_entry values) items (AllPass-from_list_all (may_be_lower_at (masks_of measure values)) (entries_of (lower_entry values) items) below) k value at in
    or_clear (test_here Form (is_some (as_str value))) _ (here_clear Form _ is.a_word)
    (or_clear (test_here Name (is_some (named (as_word value) values))) _ (here_clear Name _ is.known)
    (here_clear Role _ (told_back measure values values told (lower_entry values value) may_be_lower stands))))

cut_clear : (measure : Measure) (values : Items) → AllItems (λ value. IsTrue (is_some (role_told (as_members value)))) values → (entry : Members) → HasCutKeys measure values entry
    → IsTrue (is_role_at Metal (masks_of measure values) (numbered (codes "upper") values entry)) → 1 ≤ length (lowers_at values entry)
    → IsTrue (list_all (may_be_lower_at (masks_of measure values)) (lowers_at values entry)) → IsTrue (are_different (numbered (codes "upper") values entry ∷ lowers_at values entry))
    → (upper_fault values entry or_else lower_fault values entry) ≡ None
unfolding upper_fault lower_fault lowers_fault
cut_clear measure values told entry h metal some below different =
    let items = list (codes "lower") entry in
    let counted : length (lowers_at values entry) ≡ count items = count_of_entries (lower_entry values) items in
    let low : 1 ≤ count items = omega arith in
    let one : nat_le 1 (count items) ≡ true = grind (arith, nat_tests) in
    or_clear (upper_fault values entry) (lower_fault values entry)
    (or_clear (named_fault (codes "upper") values entry) _ (named_clear (codes "upper") values entry h.upper)
    (test_clear (codes "upper") Role _ (told_back measure values values told (numbered (codes "upper") values entry) (λ role. same_role role Metal) metal)))
    (or_clear (wanted as_array (codes "lower") entry) _ (wanted_clear as_array (codes "lower") entry h.lower)
    (or_clear (within (codes "lower") (each (λ before. lower_entry_fault values) (lower_entry values) [] items)) _
    (inner_clear (codes "lower") _ (lowers_clear measure values told items h.lowers below))
    (or_clear (test (codes "lower") Range (nat_le 1 (count items))) _ (test_clear (codes "lower") Range _ one)
    (test_clear (codes "lower") Clash _ different))))

sides_clear : (measure : Measure) (values : Items) → AllItems (λ value. IsTrue (is_some (role_told (as_members value)))) values → (entry : Members) → HasSidesKeys measure values entry (is_cut entry)
    → (mask : Mask) → mask.upper ≡ cond (is_cut entry) (numbered (codes "upper") values entry) 0 → mask.lowers ≡ cond (is_cut entry) (lowers_at values entry) []
    → HasSidesOf (masks_of measure values) mask (role_of entry) → sides_fault values entry ≡ None
unfolding sides_fault
sides_clear measure values told entry h mask upper lowers sides = by_role (role_of entry) h upper lowers sides
  where
    no_sides : HasNoCutKeys measure entry → (unwanted (codes "upper") entry or_else unwanted (codes "lower") entry) ≡ None
    no_sides none = or_clear (unwanted (codes "upper") entry) (unwanted (codes "lower") entry) (unwanted_clear (codes "upper") entry none.upper) (unwanted_clear (codes "lower") entry none.lower)

    by_role : (role : MaskRole) → HasSidesKeys measure values entry (same_role role Cut) → mask.upper ≡ cond (same_role role Cut) (numbered (codes "upper") values entry) 0
        → mask.lowers ≡ cond (same_role role Cut) (lowers_at values entry) [] → HasSidesOf (masks_of measure values) mask role
        → cond (same_role role Cut) (upper_fault values entry or_else lower_fault values entry) (unwanted (codes "upper") entry or_else unwanted (codes "lower") entry) ≡ None
    by_role Cut keys above below has_sides =
        cut_clear measure values told entry keys
        (subst (λ n. IsTrue (is_role_at Metal (masks_of measure values) n)) above has_sides.upper)
        (subst (λ ns. 1 ≤ length ns) below has_sides.some_lowers)
        (subst (λ ns. IsTrue (list_all (may_be_lower_at (masks_of measure values)) ns)) below has_sides.lowers)
        (subst (λ n. IsTrue (are_different (n ∷ lowers_at values entry))) above (subst (λ ns. IsTrue (are_different (mask.upper ∷ ns))) below has_sides.different))
    by_role Metal keys above below has_sides = no_sides keys
    by_role Gate keys above below has_sides = no_sides keys
    by_role Active keys above below has_sides = no_sides keys
    by_role Background keys above below has_sides = no_sides keys

-- a label pair that no mask before has
note_before : (note : Option (ℤ × ℤ)) (before : List Mask) → ((n : ℤ × ℤ) → note ≡ Some n → has_note before n ≡ false) → IfSome note (λ n. has_note before n ≡ false)
note_before None before h = tt
note_before (Some n) before h = h n refl

-- a table's masks, as they stand in a document in order
pub record AreMaskEntries (measure : Measure) (values : Items) (ignored : List (ℤ × ℤ)) : Type 0 where
  pub entries : AllItems (IsTableOf (IsMaskEntry measure values)) values
  pub valid : All IsValidMask (masks_of measure values)
  pub apart : AllPairs DoNotClash (masks_of measure values)
  pub together : AreValidMasks ignored (masks_of measure values)

module _ (measure : Measure) (values : Items) (ignored : List (ℤ × ℤ)) (h : AreMaskEntries measure values ignored) where
  none_of : (k : ℕ) (value : Data) → get_item k values ≡ Some value → (p : Mask → Bool) → ((a : Mask) → DoNotClash a (mask_of measure values value) → p a ≡ false)
      → list_any p (take k (masks_of measure values)) ≡ false
  none_of k value at p never = none_before DoNotClash p (mask_of measure values) values h.apart k value at never

  told : AllItems (λ value. IsTrue (is_some (role_told (as_members value)))) values
  told k value at = (h.entries k value at).members.role_known

  name_clear : (k : ℕ) (value : Data) → get_item k values ≡ Some value → name_fault (length (take k (masks_of measure values))) values (as_members value) ≡ None
  unfolding name_fault mask_of
  name_clear k value at =
      let entry = as_members value in
      let name = word (codes "name") entry in
      let valid = all_at IsValidMask (mask_of measure values) values h.valid k value at in
      let below = (entry_at (mask_of measure values) values k value (mask_of measure values value) at).0 in
      let counted : length (take k (masks_of measure values)) ≡ k = length-take-le k (masks_of measure values) (omega arith) in
      let found : named name values ≡ Some k =
      named_at 0 values k value at (h.entries k value at).members.name
      (λ i earlier less there. (pairs_at DoNotClash (mask_of measure values) values h.apart i k earlier value less there at).names)
      ∙ ap (λ n. Some n) (zero-add k) in
      let plain : (is_name name && not (bytes_eq name (codes "channel"))) ≡ true =
      both_hold _ _ (name_holds name valid.name)
      (not_holds (bytes_eq name (codes "channel")) (never_holds (bytes_eq name (codes "channel")) (λ e. valid.no_channel ((bytes_eq-Decides name (codes "channel")).0 e)))) in
      or_clear (wanted as_str (codes "name") entry) _ (wanted_clear as_str (codes "name") entry (h.entries k value at).members.name)
      (or_clear (test (codes "name") Range (is_name name && not (bytes_eq name (codes "channel")))) _ (test_clear (codes "name") Range _ plain)
      (test_clear (codes "name") Duplicate _ (is_first_holds (length (take k (masks_of measure values))) (named name values) (found ∙ ap (λ n. Some n) (sym counted)))))

  role_part : (k : ℕ) (value : Data) → get_item k values ≡ Some value → role_fault (take k (masks_of measure values)) (as_members value) ≡ None
  unfolding mask_of
  role_part k value at =
      let entry = (h.entries k value at).members in
      role_clear (take k (masks_of measure values)) (as_members value) entry.role entry.role_known
      (λ single. none_of k value at (λ mask. same_role mask.role (role_of (as_members value)))
      (λ (a : Mask) apart. never_holds _ (λ same. apart.roles single (role_same a.role (role_of (as_members value)) same))))

  datatype_part : (k : ℕ) (value : Data) → get_item k values ≡ Some value → datatype_fault ignored (take k (masks_of measure values)) (as_members value) ≡ None
  unfolding mask_of
  datatype_part k value at =
      let entry = (h.entries k value at).members in
      let valid = all_at IsValidMask (mask_of measure values) values h.valid k value at in
      let kept = all_at (IsKept ignored) (mask_of measure values) values h.together.kept k value at in
      datatype_clear ignored (take k (masks_of measure values)) (as_members value)
      (number_clear (pos 0) LAYER_LIMIT (codes "datatype") (as_members value) entry.datatype valid.datatype.low valid.datatype.high)
      (none_of k value at (λ mask. same_pair (mask.layer, mask.datatype) (pair_at (as_members value))) (λ (a : Mask) apart. never_holds _ (λ same. apart.pairs (pair_is _ _ same))))
      kept.shapes

  text_part : (k : ℕ) (value : Data) → get_item k values ≡ Some value → text_fault ignored (take k (masks_of measure values)) (as_members value) ≡ None
  unfolding mask_of
  text_part k value at =
      let entry = (h.entries k value at).members in
      let valid = all_at IsValidMask (mask_of measure values) values h.valid k value at in
      let kept = all_at (IsKept ignored) (mask_of measure values) values h.together.kept k value at in
      text_clear ignored (take k (masks_of measure values)) (as_members value) entry.text entry.text_pair valid.note valid.labelled
      (note_before (note_at (as_members value)) (take k (masks_of measure values)) (λ note is.
      none_of k value at (λ mask. option_map_or (λ n. same_pair n note) mask.note false) (λ (a : Mask) apart. other_note a.note note (fresh (note_at (as_members value)) a.note note is apart.notes))))
      kept.labels
    where
      fresh : (its other : Option (ℤ × ℤ)) (note : ℤ × ℤ) → its ≡ Some note → IfSome its (λ n. other ≢ Some n) → other ≢ Some note
      fresh its other note is h = subst (λ o. IfSome o (λ n. other ≢ Some n)) is h

      other_note : (other : Option (ℤ × ℤ)) (note : ℤ × ℤ) → other ≢ Some note → option_map_or (λ n. same_pair n note) other false ≡ false
      other_note None note differ = refl
      other_note (Some n) note differ = never_holds _ (λ same. differ (ap (λ p. Some p) (pair_is n note same)))

  sides_part : (k : ℕ) (value : Data) → get_item k values ≡ Some value → sides_fault values (as_members value) ≡ None
  unfolding mask_of
  sides_part k value at =
      let sides = all_at (λ mask. HasSidesOf (masks_of measure values) mask mask.role) (mask_of measure values) values h.together.sides k value at in
      sides_clear measure values told (as_members value) (h.entries k value at).members.sides (mask_of measure values value) refl refl sides

  pub mask_clear : (k : ℕ) (value : Data) → get_item k values ≡ Some value → mask_fault measure values ignored (take k (masks_of measure values)) value ≡ None
  unfolding mask_fault mask_table_fault measures_fault layer_fault mask_of
  mask_clear k value at =
      let entry = as_members value in
      let keys = (h.entries k value at).members in
      let valid = all_at IsValidMask (mask_of measure values) values h.valid k value at in
      or_clear (test_here Form (is_some (as_table value))) _ (here_clear Form _ (h.entries k value at).is_table)
      (or_clear (name_fault (length (take k (masks_of measure values))) values entry) _ (name_clear k value at)
      (or_clear (role_fault (take k (masks_of measure values)) entry) _ (role_part k value at)
      (or_clear (number_fault (pos 0) LAYER_LIMIT (codes "layer") entry) _ (number_clear (pos 0) LAYER_LIMIT (codes "layer") entry keys.layer valid.layer.low valid.layer.high)
      (or_clear (datatype_fault ignored (take k (masks_of measure values)) entry) _ (datatype_part k value at)
      (or_clear (text_fault ignored (take k (masks_of measure values)) entry) _ (text_part k value at)
      (or_clear (length_fault measure (pos 1) (codes "space") entry) _ (length_clear measure (pos 1) (codes "space") entry keys.space)
      (or_clear (unwanted (codes "notch") entry) _ (unwanted_clear (codes "notch") entry (absent_unless mask_keys entry keys.keys (codes "notch") refl))
      (or_clear (width_fault measure entry) _ (width_clear measure values entry keys.sides)
      (or_clear (sides_fault values entry) _ (sides_part k value at)
      (others_clear mask_keys entry keys.keys))))))))))

  pub masks_clear : 1 ≤ length (masks_of measure values) → length (masks_of measure values) ≤ MASK_LIMIT → masks_listed measure ignored values ≡ None
  unfolding masks_listed
  masks_clear some few =
      let counted : length (masks_of measure values) ≡ count values = count_of_entries (mask_of measure values) values in
      let low : 1 ≤ count values = omega arith in
      let high : count values ≤ MASK_LIMIT = omega arith in
      let one : nat_le 1 (count values) ≡ true = grind (arith, nat_tests) in
      let most : nat_le (count values) MASK_LIMIT ≡ true = grind (arith, nat_tests) in
      or_clear (within (codes "mask") (each (mask_fault measure values ignored) (mask_of measure values) [] values)) _
      (inner_clear (codes "mask") _ (each_clear (mask_fault measure values ignored) (mask_of measure values) values mask_clear))
      (or_clear (test (codes "mask") Missing (come_together (masks_of measure values))) _ (test_clear (codes "mask") Missing _ h.together.together)
      (test_clear (codes "mask") Range _ (both_hold _ _ one most)))
