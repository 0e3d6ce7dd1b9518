-- The rules and the kinds of a document in order have no fault.
use Rattle.std.proofs.Common.{◌≡◌, ◌≢◌, ℕ, suc, ◌<◌, ◌≤◌, ℤ, pos, Bool, true, false, not, ◌&&◌, ◌||◌, ◌==◌, nat_le, cond, List, [], ◌∷◌, ◌++◌, All, AllPairs, length, get_or, take, Option, Some, None, IsTrue, is_some, codes, refl, sym, ap, subst, ◌∙◌, zero-add, append_assoc, append-nil, length-take-le, arith}
use Rattle.std.specs.List.{list_any, list_all}
use Rattle.std.specs.Fmt.{decimal}
use Rattle.std.proofs.lemmas.Bool.{and_parts}
use Rattle.std.proofs.lemmas.List.{get_or-take, get_or_default}
use Rattle.std.proofs.lemmas.Bool.Decides.{nat_tests}
use Rattle.std.proofs.lemmas.List.Sums.{list_all-from_AllPass}
use Rattle.toml.specs.Data.{Data, Members, Items, get_item, as_str, as_bool, as_array, as_table}
use Rattle.rt_tech.specs.declared.limits.TheConstants.{KIND_LIMIT}
use Rattle.rt_tech.specs.declared.table.Apart.{Apart}
use Rattle.rt_tech.specs.declared.table.Enclose.{Enclose}
use Rattle.rt_tech.specs.declared.table.Gates.{Gates}
use Rattle.rt_tech.specs.declared.table.Kind.{Kind}
use Rattle.rt_tech.specs.declared.table.Mask.{Mask}
use Rattle.rt_tech.specs.declared.table.Near.{Near}
use Rattle.rt_tech.specs.declared.table.Role.TheVariants.{Active, Cut, Background}
use Rattle.rt_tech.specs.declared.table.TableCause.TheVariants.{Missing, Form, Range, Duplicate, Role, Clash}
use Rattle.rt_tech.specs.Rules.{has_upper, has_lower, has_enclose, are_enclosed, same_on, has_apart, may_be_apart, are_kept_apart, has_near, are_parted}
use Rattle.rt_tech.specs.Tech.{AreOneEnclose, IsValidEnclose, AreValidEncloses, AreOneApart, IsValidApart, AreValidAparts, IsValidNear, AreValidNears, IsValidKind, AreValidKinds, HasChannels}
use Rattle.rt_tech.proofs.Tests.{same_on_is}
use Rattle.rt_keys.specs.declared.stop.Fault.{Fault}
use Rattle.rt_keys.specs.Document.{has, word, list, inner, as_members, count, entries_of}
use Rattle.rt_keys.specs.Faults.{◌or_else◌, test, test_here, within, wanted, unwanted, allowed, others, each}
use Rattle.rt_keys.specs.Names.{named, is_first}
use Rattle.rt_keys.specs.Numbers.{Measure, length_fault}
use Rattle.table_laws.specs.Shapes.{Holds, MayHold, AllItems, IsTableOf}
use Rattle.table_laws.proofs.Faultless.{both_hold, test_clear, here_clear, or_clear, inner_clear, wanted_clear, allowed_clear, unwanted_clear, others_clear, absent_unless, length_clear, each_clear, entry_at, all_at, pairs_at, none_before, named_at}
use Rattle.rt_keys.proofs.Lookups.{count_of_entries}
use Rattle.rt_tables.specs.Kinds.{near_keys, background_fault, near_table_fault, near_fault, near_of, nears_fault, nears_of, kind_keys, kind_name_fault, backgrounds_fault, kind_table_fault, kind_fault, kind_of, parted_fault, kinds_at, kinds_listed, kinds_there, kinds_fault, kinds_of}
use Rattle.rt_tables.specs.Masks.{has_role, is_name, named_fault, numbered}
use Rattle.rt_tables.specs.Rules.{is_role_at, enclose_keys, cut_fault, enclose_end_fault, enclose_table_fault, enclose_fault, enclose_of, encloses_of, enclose_there, encloses_fault, channel_keys, channel_table_fault, channel_there, channel_fault, gates_at, gates_of, has_on, on_at, on_fault, apart_keys, apart_end_fault, apart_table_fault, apart_fault, apart_of, aparts_of, aparts_fault}
use Rattle.table_laws.specs.TableShapes.{IsEncloseEntry, IsChannel, NamesLower, IsApartEntry, IsNearEntry, IsKindEntry, HasChannelKeys, HasNoChannelKeys, HasActiveKeys}
use Rattle.table_laws.proofs.ReadMasks.{never_holds, not_holds, named_clear, name_holds, is_first_holds}

-- enclosures
enclose_clear : (measure : Measure) (names : Items) (masks : List Mask) (values : Items)
    → AllItems (IsTableOf (IsEncloseEntry measure names)) values → All (IsValidEnclose masks) (entries_of (enclose_of measure names) values) → AllPairs (λ (a b : Enclose). ¬ AreOneEnclose a b) (entries_of (enclose_of measure names) values)
    → (k : ℕ) (value : Data) → get_item k values ≡ Some value → enclose_fault measure names masks (take k (entries_of (enclose_of measure names) values)) value ≡ None
unfolding enclose_fault enclose_table_fault enclose_end_fault enclose_of cut_fault
enclose_clear measure names masks values entries valid different k value at =
    let entry = as_members value in
    let keys = (entries k value at).members in
    let is = all_at (IsValidEnclose masks) (enclose_of measure names) values valid k value at in
    let cut = numbered (codes "cut") names entry in
    let mask = numbered (codes "mask") names entry in
    let before = take k (entries_of (enclose_of measure names) values) in
    let once : has_enclose before cut mask ≡ false =
    none_before (λ (a b : Enclose). ¬ AreOneEnclose a b) (λ (e : Enclose). (e.cut == cut) && (e.mask == mask)) (enclose_of measure names) values different k value at
    (λ (a : Enclose) apart. never_holds _ (λ same.
    let (one, other) = and_parts (a.cut == cut) (a.mask == mask) same in
    let cuts : a.cut ≡ cut = grind (arith, nat_tests) in
    let masks_same : a.mask ≡ mask = grind (arith, nat_tests) in
    apart (record { cuts = cuts; masks = masks_same }))) in
    or_clear (test_here Form (is_some (as_table value))) _ (here_clear Form _ (entries k value at).is_table)
    (or_clear (named_fault (codes "cut") names entry or_else test (codes "cut") Role (is_role_at Cut masks cut)) _
    (or_clear (named_fault (codes "cut") names entry) _ (named_clear (codes "cut") names entry keys.cut) (test_clear (codes "cut") Role _ is.cut))
    (or_clear (named_fault (codes "mask") names entry) _ (named_clear (codes "mask") names entry keys.mask)
    (or_clear (length_fault measure (pos 0) (codes "number") entry) _ (length_clear measure (pos 0) (codes "number") entry keys.length)
    (or_clear (others enclose_keys entry) _ (others_clear enclose_keys entry keys.keys)
    (or_clear (test_here Duplicate (not (has_enclose before cut mask))) _ (here_clear Duplicate _ (not_holds _ once))
    (here_clear Clash _ is.mask))))))

pub encloses_clear : (measure : Measure) (names : Items) (masks : List Mask) (doc : Members)
    → MayHold as_array (codes "enclose") doc → (has_role Cut masks ≡ true → has (codes "enclose") doc ≡ true)
    → AllItems (IsTableOf (IsEncloseEntry measure names)) (list (codes "enclose") doc) → AreValidEncloses masks (encloses_of measure names doc)
    → encloses_fault measure names masks doc ≡ None
unfolding encloses_fault enclose_there
encloses_clear measure names masks doc holds there entries valid =
    or_clear (cond (has_role Cut masks) (wanted as_array (codes "enclose") doc) (allowed as_array (codes "enclose") doc)) _ (by_cut (has_role Cut masks) there)
    (or_clear (within (codes "enclose") (each (enclose_fault measure names masks) (enclose_of measure names) [] (list (codes "enclose") doc))) _
    (inner_clear (codes "enclose") _ (each_clear (enclose_fault measure names masks) (enclose_of measure names) (list (codes "enclose") doc)
    (enclose_clear measure names masks (list (codes "enclose") doc) entries valid.allowed valid.different)))
    (test_clear (codes "enclose") Missing _ valid.demanded))
  where
    by_cut : (cut : Bool) → (cut ≡ true → has (codes "enclose") doc ≡ true) → cond cut (wanted as_array (codes "enclose") doc) (allowed as_array (codes "enclose") doc) ≡ None
    by_cut true there = wanted_clear as_array (codes "enclose") doc (holds (there refl))
    by_cut false there = allowed_clear as_array (codes "enclose") doc holds

-- the rules of channels
channel_clear : (measure : Measure) (channel : Members) → IsChannel measure channel → channel_table_fault measure channel ≡ None
unfolding channel_table_fault
channel_clear measure channel h =
    or_clear (length_fault measure (pos 1) (codes "cap") channel) _ (length_clear measure (pos 1) (codes "cap") channel h.cap)
    (or_clear (length_fault measure (pos 1) (codes "ext") channel) _ (length_clear measure (pos 1) (codes "ext") channel h.ext)
    (or_clear (length_fault measure (pos 1) (codes "cross") channel) _ (length_clear measure (pos 1) (codes "cross") channel h.cross)
    (others_clear channel_keys channel h.keys)))

pub gates_clear : (measure : Measure) (names : Items) (masks : List Mask) (doc : Members) → HasActiveKeys measure names doc (has_role Active masks) → channel_fault measure masks doc ≡ None
unfolding channel_fault channel_there
gates_clear measure names masks doc h = by_active (has_role Active masks) h
  where
    by_active : (active : Bool) → HasActiveKeys measure names doc active
        → cond active (wanted as_table (codes "channel") doc or_else within (codes "channel") (channel_table_fault measure (inner (codes "channel") doc))) (unwanted (codes "channel") doc) ≡ None
    by_active true h =
        or_clear (wanted as_table (codes "channel") doc) _ (wanted_clear as_table (codes "channel") doc h.channel)
        (inner_clear (codes "channel") _ (channel_clear measure (inner (codes "channel") doc) h.channels))
    by_active false h = unwanted_clear (codes "channel") doc h.channel

-- distances
apart_clear : (measure : Measure) (names : Items) (masks : List Mask) (values : Items)
    → AllItems (IsTableOf (IsApartEntry measure names masks)) values → All (IsValidApart masks) (entries_of (apart_of measure names masks) values) → AllPairs (λ (a b : Apart). ¬ AreOneApart a b) (entries_of (apart_of measure names masks) values)
    → (k : ℕ) (value : Data) → get_item k values ≡ Some value → apart_fault measure names masks (take k (entries_of (apart_of measure names masks) values)) value ≡ None
unfolding apart_fault apart_table_fault apart_end_fault apart_of on_fault
apart_clear measure names masks values entries valid different k value at =
    let entry = as_members value in
    let keys = (entries k value at).members in
    let is = all_at (IsValidApart masks) (apart_of measure names masks) values valid k value at in
    let a_number = numbered (codes "a") names entry in
    let b_number = numbered (codes "b") names entry in
    let on = on_at names masks entry in
    let before = take k (entries_of (apart_of measure names masks) values) in
    let once : has_apart before a_number on b_number ≡ false =
    none_before (λ (a b : Apart). ¬ AreOneApart a b) (λ (x : Apart). (x.a == a_number) && same_on x.on on && (x.b == b_number)) (apart_of measure names masks) values different k value at
    (λ (x : Apart) apart. never_holds _ (λ same.
    let (more, second) = and_parts ((x.a == a_number) && same_on x.on on) (x.b == b_number) same in
    let (first, lower) = and_parts (x.a == a_number) (same_on x.on on) more in
    let firsts : x.a ≡ a_number = grind (arith, nat_tests) in
    let seconds : x.b ≡ b_number = grind (arith, nat_tests) in
    apart (record { firsts = firsts; lowers = same_on_is x.on on lower; seconds = seconds }))) in
    or_clear (test_here Form (is_some (as_table value))) _ (here_clear Form _ (entries k value at).is_table)
    (or_clear (named_fault (codes "a") names entry) _ (named_clear (codes "a") names entry keys.first)
    (or_clear (named_fault (codes "b") names entry) _ (named_clear (codes "b") names entry keys.second)
    (or_clear (length_fault measure (pos 1) (codes "number") entry) _ (length_clear measure (pos 1) (codes "number") entry keys.length)
    (or_clear (cond (has_on names masks entry) (named_fault (codes "on") names entry) (unwanted (codes "on") entry)) _ (by_lower entry (has_on names masks entry) keys.lower)
    (or_clear (others apart_keys entry) _ (others_clear apart_keys entry keys.keys)
    (or_clear (test_here Duplicate (not (has_apart before a_number on b_number))) _ (here_clear Duplicate _ (not_holds _ once))
    (here_clear Clash _ is.stands)))))))
  where
    by_lower : (entry : Members) (asked : Bool) → NamesLower names entry asked → cond asked (named_fault (codes "on") names entry) (unwanted (codes "on") entry) ≡ None
    by_lower entry true h = named_clear (codes "on") names entry h
    by_lower entry false h = unwanted_clear (codes "on") entry h

pub aparts_clear : (measure : Measure) (names : Items) (masks : List Mask) (doc : Members) → MayHold as_array (codes "apart") doc
    → AllItems (IsTableOf (IsApartEntry measure names masks)) (list (codes "apart") doc) → AreValidAparts masks (aparts_of measure names masks doc) → aparts_fault measure names masks doc ≡ None
unfolding aparts_fault
aparts_clear measure names masks doc holds entries valid =
    or_clear (allowed as_array (codes "apart") doc) _ (allowed_clear as_array (codes "apart") doc holds)
    (or_clear (within (codes "apart") (each (apart_fault measure names masks) (apart_of measure names masks) [] (list (codes "apart") doc))) _
    (inner_clear (codes "apart") _ (each_clear (apart_fault measure names masks) (apart_of measure names masks) (list (codes "apart") doc)
    (apart_clear measure names masks (list (codes "apart") doc) entries valid.allowed valid.different)))
    (test_clear (codes "apart") Missing _ valid.demanded))

-- kinds
nears_clear : (Number : ℤ → Type 0) (key : List ℕ) (measure : Measure) (least : ℤ) (names : Items) (masks : List Mask) (entry : Members) → Holds as_array key entry
    → AllItems (IsTableOf (IsNearEntry measure least names)) (list key entry) → AreValidNears Number masks (nears_of key measure names entry) → nears_fault key measure least names masks entry ≡ None
unfolding nears_fault near_fault near_table_fault near_of background_fault
nears_clear Number key measure least names masks entry holds entries valid =
    or_clear (wanted as_array key entry) _ (wanted_clear as_array key entry holds)
    (inner_clear key _ (each_clear (near_fault measure least names masks) (near_of measure names) (list key entry) (λ k value at.
    let near = as_members value in
    let keys = (entries k value at).members in
    let mask = numbered (codes "mask") names near in
    let is = all_at (IsValidNear Number masks) (near_of measure names) (list key entry) valid.allowed k value at in
    let before = take k (nears_of key measure names entry) in
    let once : has_near before mask ≡ false =
    none_before (λ (a b : Near). a.mask ≢ b.mask) (λ (x : Near). x.mask == mask) (near_of measure names) (list key entry) valid.different k value at
    (λ (x : Near) apart. never_holds _ (λ same. let is_same : x.mask ≡ mask = grind (arith, nat_tests) in apart is_same)) in
    or_clear (test_here Form (is_some (as_table value))) _ (here_clear Form _ (entries k value at).is_table)
    (or_clear (named_fault (codes "mask") names near or_else test (codes "mask") Role (is_role_at Background masks mask)) _
    (or_clear (named_fault (codes "mask") names near) _ (named_clear (codes "mask") names near keys.mask) (test_clear (codes "mask") Role _ is.mask))
    (or_clear (length_fault measure least (codes "number") near) _ (length_clear measure least (codes "number") near keys.length)
    (or_clear (others near_keys near) _ (others_clear near_keys near keys.keys)
    (here_clear Duplicate _ (not_holds _ once))))))))

kind_clear : (measure : Measure) (names : Items) (masks : List Mask) (values : Items)
    → AllItems (IsTableOf (IsKindEntry measure names)) values → All (IsValidKind masks) (entries_of (kind_of measure names) values) → AllPairs (λ (a b : Kind). a.name ≢ b.name) (entries_of (kind_of measure names) values)
    → (k : ℕ) (value : Data) → get_item k values ≡ Some value → kind_fault measure values names masks (take k (entries_of (kind_of measure names) values)) value ≡ None
unfolding kind_fault kind_table_fault backgrounds_fault kind_name_fault kind_of
kind_clear measure names masks values entries valid different k value at =
    let entry = as_members value in
    let keys = (entries k value at).members in
    let is = all_at (IsValidKind masks) (kind_of measure names) values valid k value at in
    let kinds = entries_of (kind_of measure names) values in
    let name = word (codes "name") entry in
    let below = (entry_at (kind_of measure names) values k value (kind_of measure names value) at).0 in
    let counted : length (take k kinds) ≡ k = length-take-le k kinds (omega arith) in
    let found : named name values ≡ Some k =
    named_at 0 values k value at keys.name (λ i earlier less there. pairs_at (λ (a b : Kind). a.name ≢ b.name) (kind_of measure names) values different i k earlier value less there at)
    ∙ ap (λ n. Some n) (zero-add k) in
    or_clear (test_here Form (is_some (as_table value))) _ (here_clear Form _ (entries k value at).is_table)
    (or_clear (wanted as_str (codes "name") entry or_else test (codes "name") Range (is_name name) or_else test (codes "name") Duplicate (is_first (length (take k kinds)) (named name values))) _
    (or_clear (wanted as_str (codes "name") entry) _ (wanted_clear as_str (codes "name") entry keys.name)
    (or_clear (test (codes "name") Range (is_name name)) _ (test_clear (codes "name") Range _ (name_holds name is.name))
    (test_clear (codes "name") Duplicate _ (is_first_holds (length (take k kinds)) (named name values) (found ∙ ap (λ n. Some n) (sym counted))))))
    (or_clear (wanted as_bool (codes "device") entry) _ (wanted_clear as_bool (codes "device") entry keys.device)
    (or_clear (nears_fault (codes "inside") measure (pos 0) names masks entry) _ (nears_clear _ (codes "inside") measure (pos 0) names masks entry keys.inside keys.insides is.inside)
    (or_clear (nears_fault (codes "outside") measure (pos 1) names masks entry) _ (nears_clear _ (codes "outside") measure (pos 1) names masks entry keys.outside keys.outsides is.outside)
    (or_clear (unwanted (codes "bulk") entry) _ (unwanted_clear (codes "bulk") entry (absent_unless kind_keys entry keys.keys (codes "bulk") refl))
    (others_clear kind_keys entry keys.keys))))))

-- each kind is parted from those before it
parted_clear : (before kinds : List Kind) → ((k : ℕ) (d : Kind) → k < length kinds → list_all (are_parted (get_or kinds k d)) (before ++ take k kinds) ≡ true) → parted_fault before kinds ≡ None
parted_clear before [] h = refl
parted_clear before (kind ∷ kinds) h =
    let first : list_all (are_parted kind) before ≡ true = rw (append-nil before) at (h 0 kind (omega arith)) in
    or_clear (within (decimal (length before)) (test_here Clash (list_all (are_parted kind) before))) (parted_fault (before ++ kind ∷ []) kinds)
    (inner_clear (decimal (length before)) _ (here_clear Clash _ first))
    (parted_clear (before ++ kind ∷ []) kinds (λ k d below. rw append_assoc (h (suc k) d (omega arith))))

parted_before : (kinds : List Kind) → AllPairs (λ a b. IsTrue (are_parted b a)) kinds → (k : ℕ) (d : Kind) → k < length kinds → list_all (are_parted (get_or kinds k d)) (take k kinds) ≡ true
parted_before kinds h k d below =
    let counted : length (take k kinds) ≡ k = length-take-le k kinds (omega arith) in
    list_all-from_AllPass (are_parted (get_or kinds k d)) (take k kinds) (λ i e less.
    let earlier : i < k = omega arith in
    let same : get_or (take k kinds) i e ≡ get_or kinds i e = get_or-take k kinds i e earlier in
    let inside : i < length kinds = omega arith in
    let default : get_or kinds i e ≡ get_or kinds i d = get_or_default kinds i e d inside in
    rw (same, default) (h i k d earlier below))

kinds_there_clear : (measure : Measure) (names : Items) (masks : List Mask) (doc : Members) → HasChannelKeys measure names doc → AreValidKinds masks (kinds_at measure names doc) → kinds_there measure names masks doc ≡ None
unfolding kinds_there kinds_listed
kinds_there_clear measure names masks doc keys is =
    let listed = list (codes "kind") doc in
    let counted : length (kinds_at measure names doc) ≡ count listed = count_of_entries (kind_of measure names) listed in
    let some : 1 ≤ length (kinds_at measure names doc) = is.some_kinds in
    let few : length (kinds_at measure names doc) ≤ KIND_LIMIT = is.few_kinds in
    let low : 1 ≤ count listed = omega arith in
    let high : count listed ≤ KIND_LIMIT = omega arith in
    let one : nat_le 1 (count listed) ≡ true = grind (arith, nat_tests) in
    let most : nat_le (count listed) KIND_LIMIT ≡ true = grind (arith, nat_tests) in
    or_clear (wanted as_array (codes "kind") doc) _ (wanted_clear as_array (codes "kind") doc keys.kind)
    (or_clear (within (codes "kind") (each (kind_fault measure listed names masks) (kind_of measure names) [] listed)) _
    (inner_clear (codes "kind") _ (each_clear (kind_fault measure listed names masks) (kind_of measure names) listed (kind_clear measure names masks listed keys.kinds is.allowed is.different)))
    (or_clear (test (codes "kind") Range (nat_le 1 (count listed) && nat_le (count listed) KIND_LIMIT)) _ (test_clear (codes "kind") Range _ (both_hold _ _ one most))
    (inner_clear (codes "kind") _ (parted_clear [] (kinds_at measure names doc) (parted_before (kinds_at measure names doc) is.parted)))))

pub kinds_clear : (measure : Measure) (names : Items) (masks : List Mask) (doc : Members) → HasActiveKeys measure names doc (has_role Active masks)
    → HasChannels masks (gates_of measure masks doc) (kinds_of measure names masks doc) (has_role Active masks) → kinds_fault measure names masks doc ≡ None
unfolding kinds_fault
kinds_clear measure names masks doc keys valid = by_active (has_role Active masks) keys valid
  where
    by_active : (active : Bool) → HasActiveKeys measure names doc active
        → HasChannels masks (cond active (Some (gates_at measure (inner (codes "channel") doc))) None) (cond active (kinds_at measure names doc) []) active
        → cond active (kinds_there measure names masks doc) (unwanted (codes "kind") doc) ≡ None
    by_active false keys valid = unwanted_clear (codes "kind") doc keys.kind
    by_active true keys valid = kinds_there_clear measure names masks doc keys valid.1
