-- Sizes that are read are in order.
use Rattle.std.proofs.Common.{◌≡◌, ◌≢◌, ℕ, zero, suc, ◌+◌, ◌≤◌, ℤ, pos, negsuc, neg_ℤ, ◌≤ℤ◌, Bool, true, false, cond, nat_le, List, [], ◌∷◌, All, AllPairs, length, slice_get, Option, Some, None, is_some, unwrap_or, IsTrue, codes, bytes_eq, nat_abs, refl, sym, ap, ◌∙◌, subst, arith}
use Rattle.std.specs.Prelude.{option_map, option_and_then}
use Rattle.std.specs.List.{list_all}
use Rattle.std.specs.Option.{option_map_or}
use Rattle.std.proofs.lemmas.Bool.{and_parts}
use Rattle.std.proofs.lemmas.Bool.Decides.{nat_tests}
use Rattle.std.proofs.lemmas.Int.{ints}
use Rattle.std.proofs.lemmas.Slice.Eq.{bytes_eq-Decides}
use Rattle.rt_sizes.specs.declared.limits.TheConstants.{AXIS_LIMIT, PIVOT_LIMIT, PIVOTS}
use Rattle.toml.specs.Data.{Data, Members, Items, no_items, get_member, as_array}
use Rattle.rt_tech.specs.declared.sizes.Mirror.{Mirror}
use Rattle.rt_tech.specs.declared.sizes.Mirror.TheVariants.{Find, At}
use Rattle.rt_tech.specs.declared.sizes.Mirror.TheVariants as mirror
use Rattle.rt_tech.specs.declared.sizes.Sizes.{Sizes}
use Rattle.rt_tech.specs.declared.sizes.Wish.{Wish}
use Rattle.rt_tech.specs.declared.table.Kind.{Kind}
use Rattle.rt_tech.specs.declared.table.Tech.{Tech}
use Rattle.rt_tech.specs.declared.table.TableCause.TheVariants.{Range, Duplicate, Name, Role}
use Rattle.rt_tech.specs.Tech.{IsGrid}
use Rattle.rt_keys.specs.declared.stop.Fault.{Fault}
use Rattle.rt_keys.specs.Document.{has, word, number, list, as_members, entries_of}
use Rattle.rt_keys.specs.Faults.{◌or_else◌, within, wanted, unwanted, each}
use Rattle.rt_keys.specs.Indexes.{indexed}
use Rattle.rt_keys.specs.Names.{named, is_first}
use Rattle.rt_keys.specs.Numbers.{number_fault}
use Rattle.rt_tables.proofs.ValidMasks.{found_first}
use Rattle.rt_tables.proofs.Clear.{test_holds, or_parts, within_clear, Follows, each_follows, all_follow, called_apart}
use Rattle.rt_tables.proofs.Limits.{number_limits, length_limits}
use Rattle.table_laws.specs.Order.{IsWish, IsDeviceKind, IsMirror, AreInOrder}
use Rattle.rt_sizes.specs.SizesFile.{in_target, is_printable, is_cell, cell_fault, mirror_fault, mirror_of, pivots_fault, pivots_of, wish_fault, wish_at, kind_from, kind_told, kind_name_fault, kind_number, sized_fault, entry_fault, entry_sizes, kind_fault, kind_sizes, kinds_there, kinds_fault, kinds_of, index_fault, device_fault, device_sizes, devices_there, devices_fault, devices_of, lists_fault, sizes_fault, sizes_of, DescribesSizes}
use Rattle.rt_sizes.proofs.Cells.{cell_is_text}

-- the mirror
mirror_in_order : (file : Members) → mirror_fault file ≡ None → IsMirror (mirror_of file)
unfolding mirror_fault mirror_of
mirror_in_order file h =
    let (there, more) = or_parts _ _ h in
    let (range, axis) = or_parts _ _ more in
    by_word (bytes_eq (word (codes "mirror") file) (codes "axis")) (bytes_eq (word (codes "mirror") file) (codes "find")) axis
  where
    by_word : (at find : Bool) → cond at (number_fault (neg_ℤ AXIS_LIMIT) AXIS_LIMIT (codes "axis") file) (unwanted (codes "axis") file) ≡ None
        → IsMirror (cond at (At (number (codes "axis") file)) (cond find Find mirror.None))
    by_word true find h = number_limits (neg_ℤ AXIS_LIMIT) AXIS_LIMIT (codes "axis") file h
    by_word false true h = tt
    by_word false false h = tt

-- how many pivots
magnitude : (z : ℤ) → pos 1 ≤ℤ z → z ≤ℤ pos PIVOT_LIMIT → (1 ≤ nat_abs z) × (nat_abs z ≤ PIVOT_LIMIT)
magnitude (pos n) low high = (omega (arith, ints), omega (arith, ints))
magnitude (negsuc n) low high = absurd (omega (arith, ints))

pivots_in_order : (file : Members) → pivots_fault file ≡ None → (1 ≤ pivots_of file) × (pivots_of file ≤ PIVOT_LIMIT)
unfolding pivots_fault
pivots_in_order file h = by_presence (has (codes "pivots") file) h
  where
    by_presence : (there : Bool) → cond there (number_fault (pos 1) (pos PIVOT_LIMIT) (codes "pivots") file) None ≡ None
        → (1 ≤ cond there (nat_abs (number (codes "pivots") file)) PIVOTS) × (cond there (nat_abs (number (codes "pivots") file)) PIVOTS ≤ PIVOT_LIMIT)
    by_presence true h = let limits = number_limits (pos 1) (pos PIVOT_LIMIT) (codes "pivots") file h in magnitude (number (codes "pivots") file) limits.0 limits.1
    by_presence false h = (omega arith, omega arith)

-- the length and the width of an entry
wish_in_order : (target : Tech) → IsGrid target.grid → (entry : Members) → wish_fault (in_target target) entry ≡ None → IsWish (wish_at (in_target target) entry)
unfolding wish_fault
wish_in_order target some entry h =
    let (long, wide) = or_parts _ _ h in
    record { length = length_limits (in_target target) (codes "length") entry some long; width = length_limits (in_target target) (codes "width") entry some wide }

-- a kind that is found by its name has that name, and stands at its number
found_kind : (from : ℕ) (name : List ℕ) (kinds : List Kind) (n : ℕ) (kind : Kind) → kind_from from name kinds ≡ Some (n, kind)
    → (place : ℕ) × (n ≡ from + place) × (slice_get kinds place ≡ Some kind) × (kind.name ≡ name)
found_kind from name [] n kind h = cc
found_kind from name (first ∷ kinds) n kind h = by_name (bytes_eq first.name name) refl (found_kind (from + 1) name kinds n kind) h
  where
    by_name : (same : Bool) → bytes_eq first.name name ≡ same
        → (kind_from (from + 1) name kinds ≡ Some (n, kind) → (place : ℕ) × (n ≡ (from + 1) + place) × (slice_get kinds place ≡ Some kind) × (kind.name ≡ name))
        → cond same (Some (from, first)) (kind_from (from + 1) name kinds) ≡ Some (n, kind)
        → (place : ℕ) × (n ≡ from + place) × (slice_get (first ∷ kinds) place ≡ Some kind) × (kind.name ≡ name)
    by_name true e later h =
        let is : first ≡ kind = ap (λ (o : Option (ℕ × Kind)). option_map_or (λ (p : ℕ × Kind). p.1) o first) h in
        let at : from ≡ n = ap (λ (o : Option (ℕ × Kind)). option_map_or (λ (p : ℕ × Kind). p.0) o from) h in
        (0, omega (arith, at), ap (λ k. Some k) is, subst (λ k. k.name ≡ name) is ((bytes_eq-Decides first.name name).0 e))
    by_name false e later h = let (place, at, there, its) = later h in (suc place, omega (arith, at), there, its)

-- the name of the kind that an entry gives sizes, by its number
name_of_kind : Tech → ℕ × Wish → List ℕ
name_of_kind target entry = option_map_or (λ kind. kind.name) (slice_get target.kinds entry.0) []

-- an entry of the kinds that was read, with those before it
record IsReadKind (target : Tech) (values : Items) (before : List (ℕ × Wish)) (entry : ℕ × Wish) : Type 0 where
  device : IsDeviceKind target entry.0
  wish : IsWish entry.1
  first : named (name_of_kind target entry) values ≡ Some (length before)

told_kind : (target : Tech) (name : List ℕ) (found : Option (ℕ × Kind)) → kind_from 0 name target.kinds ≡ found
    → is_some found ≡ true → option_map_or (λ f. f.1.device) found false ≡ true
    → IsDeviceKind target (unwrap_or (option_map (λ f. f.0) found) 0) × (option_map_or (λ kind. kind.name) (slice_get target.kinds (unwrap_or (option_map (λ f. f.0) found) 0)) [] ≡ name)
told_kind target name None e h device = cc
told_kind target name (Some (n, kind)) e h device =
    let (place, at, there, its) = found_kind 0 name target.kinds n kind e in
    let same : place ≡ n = omega (arith, at) in
    let stands : slice_get target.kinds n ≡ Some kind = subst (λ k. slice_get target.kinds k ≡ Some kind) same there in
    (record { kind = kind; there = stands; device = device }, ap (λ o. option_map_or (λ (k : Kind). k.name) o []) stands ∙ its)

read_kind : (target : Tech) (values : Items) → IsGrid target.grid → (before : List (ℕ × Wish)) (value : Data)
    → kind_fault target values before value ≡ None → IsReadKind target values before (kind_sizes target value)
unfolding entry_fault sized_fault kind_name_fault entry_sizes name_of_kind
read_kind target values some before value h =
    let entry = as_members value in
    let (form, a) = or_parts _ _ h in
    let (name, b) = or_parts _ _ a in
    let (wish, foreign) = or_parts _ _ b in
    let (there, c) = or_parts _ _ name in
    let (once, d) = or_parts _ _ c in
    let (told, role) = or_parts _ _ d in
    let (device, its) = told_kind target (word (codes "name") entry) (kind_told target entry) refl (test_holds (codes "name") Name _ told) (test_holds (codes "name") Role _ role) in
    record {
      device = device;
      wish = wish_in_order target some entry wish;
      first = ap (λ n. named n values) its ∙ found_first (length before) (named (word (codes "name") entry) values) (test_holds (codes "name") Duplicate _ once);
    }

-- an entry of the devices that was read, with those before it
record IsReadDevice (values : Items) (before : List (ℕ × Wish)) (entry : ℕ × Wish) : Type 0 where
  wish : IsWish entry.1
  first : indexed entry.0 values ≡ Some (length before)

read_device : (target : Tech) (values : Items) → IsGrid target.grid → (before : List (ℕ × Wish)) (value : Data)
    → device_fault target values before value ≡ None → IsReadDevice values before (device_sizes target value)
unfolding entry_fault sized_fault index_fault entry_sizes
read_device target values some before value h =
    let (form, a) = or_parts _ _ h in
    let (index, b) = or_parts _ _ a in
    let (wish, foreign) = or_parts _ _ b in
    let (range, once) = or_parts _ _ index in
    record { wish = wish_in_order target some (as_members value) wish; first = found_first (length before) _ (test_holds (codes "index") Duplicate _ once) }

-- what isn't there is no list
absent_list : (key : List ℕ) (file : Members) → has key file ≡ false → list key file ≡ no_items
absent_list key file h = by_found (get_member key file) h
  where
    by_found : (found : Option Data) → is_some found ≡ false → unwrap_or (option_and_then as_array found) no_items ≡ no_items
    by_found None h = refl
    by_found (Some value) h = cc

-- what a list without a fault gives, and what one gives that isn't there
all_listed : {A : Type 0} (P : List A → A → Type 0) (key : List ℕ) (file : Members) (fault : List A → Data → Option Fault) (of : Data → A)
    → ((before : List A) (value : Data) → fault before value ≡ None → P before (of value))
    → (there : Bool) → has key file ≡ there
    → cond there (wanted as_array key file or_else within key (each fault of [] (list key file))) None ≡ None
    → Follows P [] (entries_of of (list key file))
all_listed P key file fault of say true is h = each_follows fault of P say [] (list key file) (within_clear key _ (or_parts _ _ h).1)
all_listed P key file fault of say false is h = subst (λ items. Follows P [] (entries_of of items)) (sym (absent_list key file is)) tt

follow_kinds : (target : Tech) (file : Members) → IsGrid target.grid → kinds_fault target file ≡ None → Follows (IsReadKind target (list (codes "kind") file)) [] (kinds_of target file)
unfolding kinds_fault kinds_there
follow_kinds target file some h =
    let values = list (codes "kind") file in
    all_listed (IsReadKind target values) (codes "kind") file (kind_fault target values) (kind_sizes target) (read_kind target values some) (has (codes "kind") file) refl h

follow_devices : (target : Tech) (file : Members) → IsGrid target.grid → devices_fault target file ≡ None → Follows (IsReadDevice (list (codes "device") file)) [] (devices_of target file)
unfolding devices_fault devices_there
follow_devices target file some h =
    let values = list (codes "device") file in
    all_listed (IsReadDevice values) (codes "device") file (device_fault target values) (device_sizes target) (read_device target values some) (has (codes "device") file) refl h

same_name : (target : Tech) (a b : ℕ × Wish) → a.0 ≡ b.0 → name_of_kind target a ≡ name_of_kind target b
unfolding name_of_kind
same_name target a b e = ap (λ n. option_map_or (λ (kind : Kind). kind.name) (slice_get target.kinds n) []) e

at_least_one : (n : ℕ) → nat_le 1 n ≡ true → 1 ≤ n
at_least_one n h = grind (arith, nat_tests)

file_in_order : (target : Tech) (file : Members) → IsGrid target.grid → sizes_fault target file ≡ None → AreInOrder target (sizes_of target file)
unfolding sizes_fault lists_fault cell_fault
file_in_order target file some h =
    let (version, a) = or_parts _ _ h in
    let (cell, b) = or_parts _ _ a in
    let (reflected, c) = or_parts _ _ b in
    let (pivots, d) = or_parts _ _ c in
    let (kinds, e) = or_parts _ _ d in
    let (devices, foreign) = or_parts _ _ e in
    let name = word (codes "cell") file in
    let holds = test_holds (codes "cell") Range (is_cell name) (or_parts _ _ cell).1 in
    let one : nat_le 1 (length name) ≡ true = (and_parts (nat_le 1 (length name)) (list_all is_printable name) holds).0 in
    let numbers = pivots_in_order file pivots in
    let kind_values = list (codes "kind") file in
    let device_values = list (codes "device") file in
    let given = follow_kinds target file some kinds in
    let own = follow_devices target file some devices in
    let names = called_apart (IsReadKind target kind_values) (name_of_kind target) (λ n. named n kind_values) (kinds_of target file) given (λ before entry facts. facts.first) in
    let indexes = called_apart (IsReadDevice device_values) (λ (entry : ℕ × Wish). entry.0) (λ n. indexed n device_values) (devices_of target file) own (λ before entry facts. facts.first) in
    record {
      some_name = at_least_one (length name) one;
      printable = cell_is_text name holds;
      mirror = mirror_in_order file reflected;
      some_pivots = numbers.0;
      few_pivots = numbers.1;
      kinds = all_follow (IsReadKind target kind_values) (λ entry. IsDeviceKind target entry.0 × IsWish entry.1) (kinds_of target file) given (λ before entry facts. (facts.device, facts.wish));
      kinds_once = λ i j d below inside same. names i j d below inside (same_name target _ _ same);
      devices = all_follow (IsReadDevice device_values) (λ entry. IsWish entry.1) (devices_of target file) own (λ before entry facts. facts.wish);
      devices_once = indexes;
    }

pub sizes_in_order : (target : Tech) (bytes : List ℕ) (sizes : Sizes) → IsGrid target.grid → DescribesSizes target bytes sizes → AreInOrder target sizes
sizes_in_order target bytes sizes some h = subst (AreInOrder target) (sym h.told) (file_in_order target h.file some h.faultless)
