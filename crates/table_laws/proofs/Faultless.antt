-- What stands as it should gives no fault: the rules of documents turned round.
use Rattle.std.proofs.Common.{◌≡◌, ℕ, zero, suc, ◌+◌, ◌<◌, ◌==◌, ℤ, pos, ◌≤ℤ◌, Bool, true, false, not, ◌&&◌, ◌||◌, cond, List, [], ◌∷◌, ◌++◌, All, AllPairs, length, get_or, take, Option, Some, None, is_some, unwrap_or, IsTrue, codes, bytes_eq, refl, sym, ap, subst, ◌∙◌, append_assoc, append-nil, length-take-le, arith}
use Rattle.std.specs.Prelude.{option_and_then}
use Rattle.std.specs.List.{list_any}
use Rattle.std.specs.Option.{option_map_or}
use Rattle.std.specs.Fmt.{decimal}
use Rattle.std.specs.declared.cmp.Ordering.{Ordering}
use Rattle.std.specs.Ordering.{is_eq, match_ordering, nat_cmp}
use Rattle.std.specs.Cmp.Lexicographic.{slice_cmp}
use Rattle.std.proofs.Common.{Less, Equal, Greater}
use Rattle.std.proofs.lemmas.Bool.Decides.{nat_tests}
use Rattle.std.proofs.lemmas.Int.{ints}
use Rattle.std.proofs.lemmas.List.{get_or-take}
use Rattle.std.proofs.lemmas.List.Folds.{list_any_none}
use Rattle.std.proofs.lemmas.Map.Text.{is_eq-slice_cmp}
use Rattle.std.proofs.lemmas.Slice.Eq.{bytes_eq-Decides}
use Rattle.toml.specs.Data.{Data, Members, no_members, member, Items, no_items, item, get_member, get_item, as_str, as_integer}
use Rattle.rt_tech.specs.declared.limits.TheConstants.{LAYER_LIMIT, LENGTH_LIMIT}
use Rattle.rt_tech.specs.declared.table.TableCause.{TableCause}
use Rattle.rt_tech.specs.declared.table.TableCause.TheVariants.{Missing, Form, Range, Unknown}
use Rattle.rt_keys.specs.declared.stop.Fault.{Fault}
use Rattle.rt_keys.specs.Document.{has, read_at, word, number, as_number, as_members, count, entries_of}
use Rattle.rt_keys.specs.Faults.{◌or_else◌, test, test_here, within, wanted, allowed, unwanted, others, each}
use Rattle.rt_keys.specs.Names.{name_of, is_named, named_from}
use Rattle.rt_keys.specs.Numbers.{Measure, is_within, is_on_grid, number_fault, length_fault, place_here, place_fault, place, pair_fault}
use Rattle.table_laws.specs.Shapes.{Holds, MayHold, IsAbsent, HasKeysAmong, AllItems, HoldsLength, IsPair}

-- a test that holds
pub test_clear : (key : List ℕ) (cause : TableCause) (b : Bool) → b ≡ true → test key cause b ≡ None
test_clear key cause b h = rw h refl

pub here_clear : (cause : TableCause) (b : Bool) → b ≡ true → test_here cause b ≡ None
here_clear cause b h = rw h refl

pub or_clear : (a b : Option Fault) → a ≡ None → b ≡ None → (a or_else b) ≡ None
or_clear a b h k = rw h k

pub inner_clear : (key : List ℕ) (a : Option Fault) → a ≡ None → within key a ≡ None
inner_clear key a h = rw h refl

-- two tests that hold
pub both_hold : (a b : Bool) → a ≡ true → b ≡ true → (a && b) ≡ true
both_hold a b h k = rw (h, k) refl

-- what can be read is there
read_is_there : {A : Type 0} (read : Data → Option A) (found : Option Data) → is_some (option_and_then read found) ≡ true → is_some found ≡ true
read_is_there read None h = cc
read_is_there read (Some value) h = refl

pub wanted_clear : {A : Type 0} (read : Data → Option A) (key : List ℕ) (members : Members) → Holds read key members → wanted read key members ≡ None
wanted_clear read key members h =
    or_clear (test key Missing (has key members)) (test key Form (is_some (read_at read key members)))
    (test_clear key Missing _ (read_is_there read (get_member key members) h)) (test_clear key Form _ h)

not_or : (b c : Bool) → (b ≡ true → c ≡ true) → (not b || c) ≡ true
not_or true c h = h refl
not_or false c h = refl

pub allowed_clear : {A : Type 0} (read : Data → Option A) (key : List ℕ) (members : Members) → MayHold read key members → allowed read key members ≡ None
allowed_clear read key members h = test_clear key Form _ (not_or (has key members) _ h)

pub unwanted_clear : (key : List ℕ) (members : Members) → IsAbsent key members → unwanted key members ≡ None
unwanted_clear key doc h = rw h refl

-- keys
here_found : (o : Ordering) (x y z : Option Data) → is_eq o ≡ true → is_some y ≡ true → is_some (match_ordering o x y z) ≡ true
here_found Less x y z h k = cc
here_found Equal x y z h k = k
here_found Greater x y z h k = cc

later_found : (o : Ordering) (x y : Option Data) → is_some x ≡ true → is_some y ≡ true → is_some (match_ordering o x y x) ≡ true
later_found Less x y h k = h
later_found Equal x y h k = k
later_found Greater x y h k = h

same_bytes : (key : List ℕ) → bytes_eq key key ≡ true
same_bytes key = (bytes_eq-Decides key key).1 refl

pub others_clear : (keys : List (List ℕ)) (members : Members) → HasKeysAmong keys members → others keys members ≡ None
others_clear keys no_members h = refl
others_clear keys (member key value rest) h =
    or_clear (test key Unknown (list_any (bytes_eq key) keys)) (others keys rest)
    (test_clear key Unknown _ (h key (here_found (slice_cmp nat_cmp key key) (get_member key rest) (Some value) (get_member key rest) (is_eq-slice_cmp key key ∙ same_bytes key) refl)))
    (others_clear keys rest (λ k there. h k (later_found (slice_cmp nat_cmp k key) (get_member k rest) (Some value) there refl)))

pub absent_unless : (keys : List (List ℕ)) (members : Members) → HasKeysAmong keys members → (key : List ℕ) → list_any (bytes_eq key) keys ≡ false → IsAbsent key members
absent_unless keys members h key none = by_presence (has key members) refl
  where
    by_presence : (there : Bool) → has key members ≡ there → there ≡ false
    by_presence true is = sym (h key is) ∙ none
    by_presence false is = refl

-- numbers
pub within_holds : (low high z : ℤ) → low ≤ℤ z → z ≤ℤ high → is_within low high z ≡ true
within_holds low high z h k = grind (arith, ints)

pub number_clear : (low high : ℤ) (key : List ℕ) (members : Members) → Holds as_integer key members → low ≤ℤ number key members → number key members ≤ℤ high → number_fault low high key members ≡ None
number_clear low high key members h l k =
    or_clear (wanted as_integer key members) (test key Range (is_within low high (number key members)))
    (wanted_clear as_integer key members h) (test_clear key Range _ (within_holds low high _ l k))

pub length_clear : (measure : Measure) (low : ℤ) (key : List ℕ) (members : Members) → HoldsLength measure low key members → length_fault measure low key members ≡ None
length_clear measure low key members h =
    or_clear (wanted as_integer key members) (test key Range (is_within low LENGTH_LIMIT (number key members) && is_on_grid measure.which measure.grid (number key members)))
    (wanted_clear as_integer key members h.whole) (test_clear key Range _ (both_hold _ _ (within_holds low LENGTH_LIMIT (number key members) h.low h.high) h.on_grid))

-- pairs
place_clear : (low : ℤ) (n : ℕ) (values : Items) → IsPair values → low ≤ℤ place n values → place n values ≤ℤ LAYER_LIMIT → place_fault low n values ≡ None
unfolding place_fault
place_clear low n values h = by_found (get_item n values) refl
  where
    by_found : (found : Option Data) → get_item n values ≡ found → low ≤ℤ option_map_or as_number found (pos 0) → option_map_or as_number found (pos 0) ≤ℤ LAYER_LIMIT → place_here low n found ≡ None
    by_found None at l k = refl
    by_found (Some value) at l k =
        inner_clear (decimal n) _
        (or_clear (test_here Form (is_some (as_integer value))) (test_here Range (is_within low LAYER_LIMIT (as_number value)))
        (here_clear Form _ (h.whole n value at)) (here_clear Range _ (within_holds low LAYER_LIMIT (as_number value) l k)))

pub pair_clear : (low low_second : ℤ) (values : Items) → IsPair values
    → low ≤ℤ place 0 values → place 0 values ≤ℤ LAYER_LIMIT → low_second ≤ℤ place 1 values → place 1 values ≤ℤ LAYER_LIMIT
    → pair_fault low low_second values ≡ None
unfolding pair_fault
pair_clear low low_second values h a b c d =
    or_clear (place_fault low 0 values) (place_fault low_second 1 values or_else test_here Range (count values == 2))
    (place_clear low 0 values h a b)
    (or_clear (place_fault low_second 1 values) (test_here Range (count values == 2)) (place_clear low_second 1 values h c d) (here_clear Range _ (let two : count values ≡ 2 = h.two in grind (arith, nat_tests))))

-- lists
pub each_clear_from : {A : Type 0} (fault : List A → Data → Option Fault) (of : Data → A) (before : List A) (items : Items)
    → ((k : ℕ) (value : Data) → get_item k items ≡ Some value → fault (before ++ take k (entries_of of items)) value ≡ None)
    → each fault of before items ≡ None
each_clear_from fault of before no_items h = refl
each_clear_from fault of before (item value values) h =
    let here : fault before value ≡ None = rw (append-nil before) at (h 0 value refl) in
    or_clear (within (decimal (length before)) (fault before value)) (each fault of (before ++ of value ∷ []) values)
    (inner_clear (decimal (length before)) (fault before value) here)
    (each_clear_from fault of (before ++ of value ∷ []) values (λ k v at. rw append_assoc (h (suc k) v at)))

pub each_clear : {A : Type 0} (fault : List A → Data → Option Fault) (of : Data → A) (items : Items)
    → ((k : ℕ) (value : Data) → get_item k items ≡ Some value → fault (take k (entries_of of items)) value ≡ None)
    → each fault of [] items ≡ None
each_clear fault of items h = each_clear_from fault of [] items h

-- entry number k of what a list gives
pub entry_at : {A : Type 0} (of : Data → A) (items : Items) (k : ℕ) (value : Data) (d : A) → get_item k items ≡ Some value → (k < length (entries_of of items)) × (get_or (entries_of of items) k d ≡ of value)
entry_at of no_items k value d at = cc
entry_at of (item first items) zero value d at = let same : first ≡ value = cc in (omega arith, ap of same)
entry_at of (item first items) (suc k) value d at = let (below, is) = entry_at of items k value d at in (omega arith, is)

pub all_at : {A : Type 0} (P : A → Type 0) (of : Data → A) (items : Items) → All P (entries_of of items) → (k : ℕ) (value : Data) → get_item k items ≡ Some value → P (of value)
all_at P of items h k value at = let (below, is) = entry_at of items k value (of value) at in subst P is (h k (of value) below)

pub pairs_at : {A : Type 0} (R : A → A → Type 0) (of : Data → A) (items : Items) → AllPairs R (entries_of of items)
    → (i k : ℕ) (earlier value : Data) → i < k → get_item i items ≡ Some earlier → get_item k items ≡ Some value → R (of earlier) (of value)
pairs_at R of items h i k earlier value less first second =
    let (below, is) = entry_at of items k value (of value) second in
    let (above, was) = entry_at of items i earlier (of value) first in
    subst (R (of earlier)) is (subst (λ a. R a (get_or (entries_of of items) k (of value))) was (h i k (of value) less below))

-- none of the entries before an entry passes a test, where the two are never so
pub none_before : {A : Type 0} (R : A → A → Type 0) (p : A → Bool) (of : Data → A) (items : Items) → AllPairs R (entries_of of items)
    → (k : ℕ) (value : Data) → get_item k items ≡ Some value → ((a : A) → R a (of value) → p a ≡ false) → list_any p (take k (entries_of of items)) ≡ false
none_before R p of items h k value at never =
    let (below, is) = entry_at of items k value (of value) at in
    list_any_none p (take k (entries_of of items)) (λ i d less.
    let counted : length (take k (entries_of of items)) ≡ k = length-take-le k (entries_of of items) (omega arith) in
    let earlier : i < k = omega arith in
    let same : get_or (take k (entries_of of items)) i d ≡ get_or (entries_of of items) i d = get_or-take k (entries_of of items) i d earlier in
    let apart = h i k d earlier below in
    let last : get_or (entries_of of items) k d ≡ of value = (entry_at of items k value d at).1 in
    rw same (never (get_or (entries_of of items) i d) (subst (R (get_or (entries_of of items) i d)) last apart)))

-- the first entry by a name is the one that has it, where those before it have others
named_here : (value : Data) → Holds as_str (codes "name") (as_members value) → is_named (word (codes "name") (as_members value)) value ≡ true
named_here value h = by_name (name_of value) h
  where
    by_name : (name : Option (List ℕ)) → is_some name ≡ true → option_map_or (λ its. bytes_eq its (unwrap_or name [])) name false ≡ true
    by_name None h = cc
    by_name (Some its) h = same_bytes its

named_not : (name : List ℕ) (value : Data) → (word (codes "name") (as_members value) ≡ name → ⊥) → is_named name value ≡ false
named_not name value h = by_name (name_of value) h
  where
    by_test : (its : List ℕ) (b : Bool) → bytes_eq its name ≡ b → (its ≡ name → ⊥) → b ≡ false
    by_test its true e never = absurd (never ((bytes_eq-Decides its name).0 e))
    by_test its false e never = refl

    by_name : (found : Option (List ℕ)) → (unwrap_or found [] ≡ name → ⊥) → option_map_or (λ its. bytes_eq its name) found false ≡ false
    by_name None never = refl
    by_name (Some its) never = by_test its (bytes_eq its name) refl never

pub named_at : (from : ℕ) (values : Items) (k : ℕ) (value : Data) → get_item k values ≡ Some value → Holds as_str (codes "name") (as_members value)
    → ((i : ℕ) (earlier : Data) → i < k → get_item i values ≡ Some earlier → word (codes "name") (as_members earlier) ≡ word (codes "name") (as_members value) → ⊥)
    → named_from from (word (codes "name") (as_members value)) values ≡ Some (from + k)
named_at from no_items k value at a_word others_differ = cc
named_at from (item first values) zero value at a_word others_differ =
    let same : first ≡ value = cc in
    let here : is_named (word (codes "name") (as_members value)) first ≡ true = subst (λ v. is_named (word (codes "name") (as_members value)) v ≡ true) (sym same) (named_here value a_word) in
    let place : from ≡ from + 0 = omega arith in
    ap (λ b. cond b (Some from) (named_from (from + 1) (word (codes "name") (as_members value)) values)) here ∙ ap (λ n. Some n) place
named_at from (item first values) (suc k) value at a_word others_differ =
    let apart : is_named (word (codes "name") (as_members value)) first ≡ false = named_not (word (codes "name") (as_members value)) first (others_differ 0 first (omega arith) refl) in
    let later = named_at (from + 1) values k value at a_word (λ i earlier less there. others_differ (suc i) earlier (omega arith) there) in
    let place : (from + 1) + k ≡ from + suc k = omega arith in
    ap (λ b. cond b (Some from) (named_from (from + 1) (word (codes "name") (as_members value)) values)) apart ∙ (later ∙ ap (λ n. Some n) place)
