-- The kinds of a table without a fault are in order.
use Rattle.std.proofs.Common.{◌≡◌, ◌≢◌, ℕ, ℤ, pos, Bool, true, false, ◌&&◌, ◌==◌, nat_le, cond, List, [], ◌∷◌, ◌++◌, All, length, get_or, Some, None, IsTrue, is_some, codes, refl, arith}
use Rattle.std.specs.Fmt.{decimal}
use Rattle.std.specs.List.{list_all}
use Rattle.std.proofs.lemmas.Bool.{and_parts}
use Rattle.std.proofs.lemmas.Bool.Decides.{nat_tests}
use Rattle.toml.specs.Data.{Data, Members, Items, as_str, as_bool, as_array, as_table}
use Rattle.rt_tech.specs.declared.limits.TheConstants.{KIND_LIMIT}
use Rattle.rt_tech.specs.declared.table.Kind.{Kind}
use Rattle.rt_tech.specs.declared.table.Mask.{Mask}
use Rattle.rt_tech.specs.declared.table.Near.{Near}
use Rattle.rt_tech.specs.declared.table.Role.TheVariants.{Active}
use Rattle.rt_tech.specs.declared.table.TableCause.TheVariants.{Form, Range, Duplicate, Role, Clash}
use Rattle.rt_tech.specs.Rules.{are_parted}
use Rattle.rt_tech.specs.Tech.{IsGrid, IsLength, IsReach, IsValidNear, AreValidNears, IsValidKind, AreValidKinds, HasChannels}
use Rattle.rt_tech.specs.Words.{has_role}
use Rattle.rt_keys.specs.Document.{word, list, inner, as_members, count}
use Rattle.rt_keys.specs.Faults.{test, test_here, within, wanted, unwanted, others, each}
use Rattle.rt_tables.specs.Kinds.{background_fault, near_keys, near_table_fault, near_fault, near_of, nears_fault, nears_of, kind_name_fault, kind_table_fault, backgrounds_fault, kind_fault, kind_of, parted_fault, kinds_at, kinds_there, kinds_listed, kinds_fault, kinds_of}
use Rattle.rt_tables.specs.Masks.{is_name, named_fault, numbered}
use Rattle.rt_keys.specs.Names.{named}
use Rattle.rt_keys.specs.Numbers.{Measure, length_fault, length_of}
use Rattle.rt_tables.specs.Rules.{channel_there, channel_fault, gates_at, gates_of}
use Rattle.rt_tables.proofs.Clear.{test_holds, here_holds, or_parts, within_clear, Follows, each_follows, all_follow, pairs_follow, called_apart, each_passes, none_pass, not_so, never_both}
use Rattle.rt_tables.proofs.Limits.{length_limits, reach_limits, name_limits}
use Rattle.rt_keys.proofs.Lookups.{count_of_entries}
use Rattle.rt_tables.proofs.ValidMasks.{found_first}
use Rattle.rt_tables.proofs.ValidRules.{gates_facts}

-- an entry of inside or outside that was read, with those before it
record IsReadNear (Number : ℤ → Type 0) (masks : List Mask) (before : List Near) (near : Near) : Type 0 where
  valid : IsValidNear Number masks near
  fresh : All (λ other. other.mask ≢ near.mask) before

one_mask : (m n : ℕ) → m ≡ n → (m == n) ≡ true
one_mask m n same = grind (arith, nat_tests)

module _ (measure : Measure) (low : ℤ) (Number : ℤ → Type 0) (limits : (entry : Members) → length_fault measure low (codes "number") entry ≡ None → Number (length_of measure (codes "number") entry))
    (names : Items) (masks : List Mask) where
  read_near : (before : List Near) (value : Data) → near_fault measure low names masks before value ≡ None → IsReadNear Number masks before (near_of measure names value)
  unfolding near_fault near_table_fault near_of background_fault
  read_near before value h =
      let entry = as_members value in
      let mask_number = numbered (codes "mask") names entry in
      let (form, a) = or_parts (test_here Form (is_some (as_table value))) _ h in
      let (mask, b) = or_parts (background_fault names masks entry) _ a in
      let (number, c) = or_parts (length_fault measure low (codes "number") entry) _ b in
      let (foreign, once) = or_parts (others near_keys entry) _ c in
      let (named, role) = or_parts (named_fault (codes "mask") names entry) _ mask in
      let none = none_pass (λ (x : Near). x.mask == mask_number) before (not_so _ (here_holds Duplicate _ once)) in
      record {
        valid = record { mask = test_holds (codes "mask") Role _ role; number = limits entry number };
        fresh = λ k d below same. never_both _ (one_mask (get_or before k d).mask mask_number same) (none k d below);
      }

  nears_facts : (key : List ℕ) (entry : Members) → nears_fault key measure low names masks entry ≡ None → AreValidNears Number masks (nears_of key measure names entry)
  unfolding nears_fault
  nears_facts key entry h =
      let (there, each_one) = or_parts (wanted as_array key entry) _ h in
      let P = IsReadNear Number masks in
      let follow : Follows P [] (nears_of key measure names entry) = each_follows (near_fault measure low names masks) (near_of measure names) P read_near [] (list key entry) (within_clear key _ each_one) in
      record {
        allowed = all_follow P (IsValidNear Number masks) _ follow (λ before x facts. facts.valid);
        different = pairs_follow P (λ a b. a.mask ≢ b.mask) _ follow (λ before x facts. facts.fresh);
      }

-- a kind that was read
record IsReadKind (kinds : Items) (masks : List Mask) (before : List Kind) (kind : Kind) : Type 0 where
  valid : IsValidKind masks kind
  first : named kind.name kinds ≡ Some (length before)

read_kind : (measure : Measure) (kinds names : Items) (masks : List Mask) → IsGrid measure.grid → (before : List Kind) (value : Data)
    → kind_fault measure kinds names masks before value ≡ None → IsReadKind kinds masks before (kind_of measure names value)
unfolding kind_fault kind_table_fault backgrounds_fault kind_of kind_name_fault
read_kind measure kinds names masks some before value h =
    let entry = as_members value in
    let (form, a) = or_parts (test_here Form (is_some (as_table value))) _ h in
    let (name, b) = or_parts (kind_name_fault (length before) kinds entry) _ a in
    let (device, c) = or_parts (wanted as_bool (codes "device") entry) _ b in
    let (inside, d) = or_parts (nears_fault (codes "inside") measure (pos 0) names masks entry) _ c in
    let (outside, foreign) = or_parts (nears_fault (codes "outside") measure (pos 1) names masks entry) _ d in
    let (there, e) = or_parts (wanted as_str (codes "name") entry) _ name in
    let (range, once) = or_parts (test (codes "name") Range (is_name (word (codes "name") entry))) _ e in
    record {
      valid = record {
        name = name_limits _ (test_holds (codes "name") Range _ range);
        inside = nears_facts measure (pos 0) IsReach (λ near number. reach_limits measure (codes "number") near some number) names masks (codes "inside") entry inside;
        outside = nears_facts measure (pos 1) IsLength (λ near number. length_limits measure (codes "number") near some number) names masks (codes "outside") entry outside;
      };
      first = found_first (length before) (named (word (codes "name") entry) kinds) (test_holds (codes "name") Duplicate _ once);
    }

-- kinds that are parted from those before them
parted_follow : (before kinds : List Kind) → parted_fault before kinds ≡ None → Follows (λ done kind. All (λ other. are_parted kind other ≡ true) done) before kinds
parted_follow before [] h = tt
parted_follow before (kind ∷ kinds) h =
    let (here, more) = or_parts (within (decimal (length before)) (test_here Clash (list_all (are_parted kind) before))) _ h in
    (each_passes (are_parted kind) before (here_holds Clash _ (within_clear (decimal (length before)) _ here)), parted_follow (before ++ kind ∷ []) kinds more)

kinds_facts : (measure : Measure) (names : Items) (masks : List Mask) (doc : Members) → IsGrid measure.grid → kinds_there measure names masks doc ≡ None → AreValidKinds masks (kinds_at measure names doc)
unfolding kinds_there kinds_listed
kinds_facts measure names masks doc some h =
    let values = list (codes "kind") doc in
    let kinds = kinds_at measure names doc in
    let (there, a) = or_parts (wanted as_array (codes "kind") doc) _ h in
    let (each_one, b) = or_parts (within (codes "kind") (each (kind_fault measure values names masks) (kind_of measure names) [] values)) _ a in
    let (range, parted) = or_parts (test (codes "kind") Range (nat_le 1 (count values) && nat_le (count values) KIND_LIMIT)) _ b in
    let P = IsReadKind values masks in
    let follow : Follows P [] kinds = each_follows (kind_fault measure values names masks) (kind_of measure names) P (read_kind measure values names masks some) [] values (within_clear (codes "kind") _ each_one) in
    let Q = λ (done : List Kind) (kind : Kind). All (λ other. are_parted kind other ≡ true) done in
    let apart : Follows Q [] kinds = parted_follow [] kinds (within_clear (codes "kind") _ parted) in
    let counted : length kinds ≡ count values = count_of_entries (kind_of measure names) values in
    let (one, few) = and_parts (nat_le 1 (count values)) (nat_le (count values) KIND_LIMIT) (test_holds (codes "kind") Range _ range) in
    record {
      some_kinds = rw counted (grind (arith, nat_tests));
      few_kinds = rw counted (grind (arith, nat_tests));
      allowed = all_follow P (IsValidKind masks) kinds follow (λ before x facts. facts.valid);
      different = called_apart P (λ kind. kind.name) (λ name. named name values) kinds follow (λ before x facts. facts.first);
      parted = pairs_follow Q (λ a b. IsTrue (are_parted b a)) kinds apart (λ before x facts. facts);
    }

-- channels and kinds, where there is an active
pub channels_facts : (measure : Measure) (names : Items) (masks : List Mask) (doc : Members) → IsGrid measure.grid
    → channel_fault measure masks doc ≡ None → kinds_fault measure names masks doc ≡ None
    → HasChannels masks (gates_of measure masks doc) (kinds_of measure names masks doc) (has_role Active masks)
unfolding channel_fault kinds_fault
channels_facts measure names masks doc some gates kinds = by_active (has_role Active masks) gates kinds
  where
    by_active : (active : Bool) → cond active (channel_there measure doc) (unwanted (codes "channel") doc) ≡ None
        → cond active (kinds_there measure names masks doc) (unwanted (codes "kind") doc) ≡ None
        → HasChannels masks (cond active (Some (gates_at measure (inner (codes "channel") doc))) None) (cond active (kinds_at measure names doc) []) active
    by_active true gates kinds = (gates_facts measure doc some gates, kinds_facts measure names masks doc some kinds)
    by_active false gates kinds = (refl, refl)
