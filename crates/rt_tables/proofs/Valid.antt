-- A table without a fault is in order.
use Rattle.std.proofs.Common.{◌≡◌, ℕ, ℤ, pos, negsuc, List, [], All, None, is_some, codes, sym, subst, arith}
use Rattle.std.proofs.lemmas.Int.{ints}
use Rattle.toml.specs.Data.{Data, Members, as_array}
use Rattle.rt_tech.specs.declared.limits.TheConstants.{GRID_LIMIT, LEAST_LAYER}
use Rattle.rt_tech.specs.declared.table.Tech.{Tech}
use Rattle.rt_tech.specs.declared.table.Which.{Which}
use Rattle.rt_tech.specs.Tech.{IsGrid, IsIgnorable, IsValidTech}
use Rattle.rt_keys.specs.Document.{number, list, as_list}
use Rattle.rt_keys.specs.Faults.{test_here, wanted, allowed}
use Rattle.rt_tables.specs.Kinds.{kinds_fault}
use Rattle.rt_keys.specs.Numbers.{number_fault, place_fault, pair_fault}
use Rattle.rt_tables.specs.Masks.{mask_of}
use Rattle.rt_tables.specs.Rules.{encloses_fault, channel_fault, aparts_fault}
use Rattle.rt_tables.specs.Tables.{measure_in, units_fault, unlisted_fault, ignored_fault, ignored_of, ignore_fault, ignored_in, masks_in, masks_listed, later_rules_fault, rules_fault, listed_fault, contents_fault, tech_fault, tech_in, IsTechOf, HasTableFault}
use Rattle.rt_keys.specs.declared.error.TableError.{TableError}
use Rattle.rt_tech.specs.declared.table.TableCause.TheVariants.{Form}
use Rattle.rt_tables.proofs.Clear.{or_parts, within_clear, Follows, each_follows, all_follow}
use Rattle.rt_keys.proofs.Documents.{same_document}
use Rattle.rt_keys.proofs.Lookups.{count_of_entries}
use Rattle.rt_tables.proofs.Limits.{number_limits}
use Rattle.rt_tables.proofs.ValidKinds.{channels_facts}
use Rattle.rt_tables.proofs.ValidMasks.{place_limits, masks_facts}
use Rattle.rt_tables.proofs.ValidRules.{encloses_facts, aparts_facts}

ignorable : (value : Data) → ignored_fault value ≡ None → IsIgnorable (ignored_of value)
unfolding ignored_fault pair_fault ignored_of
ignorable value h =
    let (form, pair) = or_parts (test_here Form (is_some (as_array value))) _ h in
    let (first, a) = or_parts (place_fault LEAST_LAYER 0 (as_list value)) _ pair in
    let (second, counted) = or_parts (place_fault (negsuc 0) 1 (as_list value)) _ a in
    record { layer = place_limits LEAST_LAYER 0 (as_list value) (omega (arith, ints)) first; number = place_limits (negsuc 0) 1 (as_list value) (omega (arith, ints)) second }

all_ignorable : (doc : Members) → ignore_fault doc ≡ None → All IsIgnorable (ignored_in doc)
unfolding ignore_fault
all_ignorable doc h =
    let (there, each_one) = or_parts (allowed as_array (codes "ignore") doc) _ h in
    let P = λ (before : List (ℤ × ℤ)) (pair : ℤ × ℤ). IsIgnorable pair in
    let follow : Follows P [] (ignored_in doc) = each_follows (λ before. ignored_fault) ignored_of P (λ before value clear. ignorable value clear) [] (list (codes "ignore") doc) (within_clear (codes "ignore") _ each_one) in
    all_follow P IsIgnorable (ignored_in doc) follow (λ before pair facts. facts)

valid_tech : (which : Which) (doc : Members) → tech_fault which doc ≡ None → IsValidTech (tech_in which doc)
unfolding tech_fault contents_fault listed_fault rules_fault later_rules_fault tech_in
valid_tech which doc h =
    let measure = measure_in which doc in
    let values = list (codes "mask") doc in
    let masks = masks_in which doc in
    let (version, a) = or_parts (number_fault (pos 1) (pos 1) (codes "version") doc) _ h in
    let (grid, b) = or_parts (number_fault (pos 1) GRID_LIMIT (codes "grid") doc) _ a in
    let (units, c) = or_parts (units_fault doc) _ b in
    let (unlisted, d) = or_parts (unlisted_fault doc) _ c in
    let (ignore, e) = or_parts (ignore_fault doc) _ d in
    let (there, f) = or_parts (wanted as_array (codes "mask") doc) _ e in
    let (listed, rules) = or_parts (masks_listed measure (ignored_in doc) values) _ f in
    let (encloses, g) = or_parts (encloses_fault measure values masks doc) _ rules in
    let (channel, i) = or_parts (channel_fault measure masks doc) _ g in
    let (aparts, j) = or_parts (aparts_fault measure values masks doc) _ i in
    let (kinds, foreign) = or_parts (kinds_fault measure values masks doc) _ j in
    let limits = number_limits (pos 1) GRID_LIMIT (codes "grid") doc grid in
    let some : IsGrid (number (codes "grid") doc) = record { low = limits.0; high = limits.1 } in
    let facts = masks_facts measure (ignored_in doc) values some listed in
    record {
      grid = some;
      some_masks = facts.some_masks;
      few_masks = facts.few_masks;
      masks = facts.valid;
      apart = facts.apart;
      ignored = all_ignorable doc ignore;
      together = facts.together;
      encloses = encloses_facts measure values masks doc some encloses;
      channels = channels_facts measure values masks doc some channel kinds;
      aparts = aparts_facts measure values masks doc (count_of_entries (mask_of measure values) values) some aparts;
    }

pub valid_table : (which : Which) (bytes : List ℕ) (t : Tech) → IsTechOf which bytes t → IsValidTech t
valid_table which bytes t h = subst IsValidTech (sym h.says) (valid_tech which h.members h.no_fault)

pub same_table : (which : Which) (bytes : List ℕ) (t u : Tech) → IsTechOf which bytes t → IsTechOf which bytes u → t ≡ u
same_table which bytes t u x y =
    let doc = same_document bytes x.members y.members x.document y.document in
    cc (x.says, y.says, doc)

pub not_both : (which : Which) (bytes : List ℕ) (t : Tech) (error : TableError) → IsTechOf which bytes t → HasTableFault which bytes error → ⊥
not_both which bytes t error x y =
    let doc = same_document bytes x.members y.members x.document y.document in
    cc (x.no_fault, y.first, doc)
