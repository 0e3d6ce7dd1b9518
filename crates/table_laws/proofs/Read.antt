-- A document in order has no fault.
use Rattle.std.proofs.Common.{◌≡◌, ℕ, ℤ, pos, negsuc, Bool, true, false, not, ◌||◌, List, [], ◌∷◌, All, Some, None, is_some, IsTrue, codes, bytes_eq, take, refl, arith}
use Rattle.std.specs.List.{list_any}
use Rattle.std.proofs.lemmas.Int.{ints}
use Rattle.toml.specs.Data.{Data, Members, Items, get_item, as_str, as_integer, as_array}
use Rattle.rt_tech.specs.declared.limits.TheConstants.{GRID_LIMIT, LEAST_LAYER}
use Rattle.rt_tech.specs.declared.table.Tech.{Tech}
use Rattle.rt_tech.specs.declared.table.Which.{Which}
use Rattle.rt_tech.specs.declared.table.TableCause.TheVariants.{Form, Range}
use Rattle.rt_tech.specs.Tech.{IsIgnorable, IsValidTech}
use Rattle.rt_keys.specs.Document.{IsDocument, has, word, number, list, as_list, entries_of}
use Rattle.rt_keys.specs.Faults.{◌or_else◌, test, test_here, within, wanted, allowed, unwanted, others, each}
use Rattle.rt_keys.specs.Numbers.{number_fault, pair_fault}
use Rattle.table_laws.specs.Shapes.{Holds, AllItems}
use Rattle.table_laws.proofs.Faultless.{test_clear, here_clear, or_clear, inner_clear, wanted_clear, allowed_clear, unwanted_clear, others_clear, absent_unless, number_clear, pair_clear, each_clear, all_at}
use Rattle.rt_tables.specs.Kinds.{kinds_fault}
use Rattle.rt_tables.specs.Rules.{encloses_fault, channel_fault, aparts_fault}
use Rattle.table_laws.specs.TableShapes.{IsIgnoredEntry, IsUnlisted, HasShape}
use Rattle.rt_tables.specs.Tables.{table_keys, measure_in, is_units, units_fault, unlisted_fault, ignored_fault, ignored_of, ignore_fault, ignored_in, masks_in, masks_listed, later_rules_fault, rules_fault, listed_fault, contents_fault, tech_fault, tech_in, IsTechOf}
use Rattle.table_laws.proofs.ReadMasks.{masks_clear}
use Rattle.table_laws.proofs.ReadRules.{encloses_clear, gates_clear, aparts_clear, kinds_clear}

units_clear : (doc : Members) → Holds as_str (codes "units") doc → is_units (word (codes "units") doc) ≡ true → units_fault doc ≡ None
unfolding units_fault
units_clear doc a_word digits =
    or_clear (wanted as_str (codes "units") doc) _ (wanted_clear as_str (codes "units") doc a_word) (test_clear (codes "units") Range _ digits)

unlisted_clear : (doc : Members) → (has (codes "unlisted") doc ≡ true → IsUnlisted doc) → unlisted_fault doc ≡ None
unfolding unlisted_fault
unlisted_clear doc h =
    or_clear (allowed as_str (codes "unlisted") doc) _ (allowed_clear as_str (codes "unlisted") doc (λ there. (h there).a_word))
    (test_clear (codes "unlisted") Range _ (by_presence (has (codes "unlisted") doc) (bytes_eq (word (codes "unlisted") doc) (codes "refuse")) (bytes_eq (word (codes "unlisted") doc) (codes "ignore")) (λ there. (h there).known)))
  where
    by_presence : (there a b : Bool) → (there ≡ true → (a || (b || false)) ≡ true) → (not there || a || b) ≡ true
    by_presence false a b h = refl
    by_presence true true b h = refl
    by_presence true false true h = refl
    by_presence true false false h = h refl

ignore_clear : (doc : Members) → (has (codes "ignore") doc ≡ true → Holds as_array (codes "ignore") doc) → AllItems IsIgnoredEntry (list (codes "ignore") doc) → All IsIgnorable (ignored_in doc) → ignore_fault doc ≡ None
unfolding ignore_fault ignored_fault ignored_of
ignore_clear doc holds entries valid =
    let values = list (codes "ignore") doc in
    or_clear (allowed as_array (codes "ignore") doc) _ (allowed_clear as_array (codes "ignore") doc holds)
    (inner_clear (codes "ignore") _ (each_clear (λ before. ignored_fault) ignored_of values (λ k value at.
    let is = all_at IsIgnorable ignored_of values valid k value at in
    or_clear (test_here Form (is_some (as_array value))) _ (here_clear Form _ (entries k value at).is_list)
    (pair_clear LEAST_LAYER (negsuc 0) (as_list value) (entries k value at).pair is.layer.0 is.layer.1 is.number.0 is.number.1))))

-- a document of the shape of a table, that says a valid table, has no fault
pub no_fault : (which : Which) (doc : Members) → HasShape which doc → IsValidTech (tech_in which doc) → tech_fault which doc ≡ None
unfolding tech_fault contents_fault listed_fault rules_fault later_rules_fault tech_in
no_fault which doc h valid =
    let measure = measure_in which doc in
    let values = list (codes "mask") doc in
    let masks = masks_in which doc in
    or_clear (number_fault (pos 1) (pos 1) (codes "version") doc) _
    (number_clear (pos 1) (pos 1) (codes "version") doc h.version (let is : number (codes "version") doc ≡ pos 1 = h.version_is in omega (arith, ints)) (let is : number (codes "version") doc ≡ pos 1 = h.version_is in omega (arith, ints)))
    (or_clear (number_fault (pos 1) GRID_LIMIT (codes "grid") doc) _ (number_clear (pos 1) GRID_LIMIT (codes "grid") doc h.grid valid.grid.low valid.grid.high)
    (or_clear (units_fault doc) _ (units_clear doc h.units h.units_digits)
    (or_clear (unlisted_fault doc) _ (unlisted_clear doc h.unlisted)
    (or_clear (ignore_fault doc) _ (ignore_clear doc h.ignore h.ignored valid.ignored)
    (or_clear (wanted as_array (codes "mask") doc) _ (wanted_clear as_array (codes "mask") doc h.mask)
    (or_clear (masks_listed measure (ignored_in doc) values) _
    (masks_clear measure values (ignored_in doc) (record { entries = h.masks; valid = valid.masks; apart = valid.apart; together = valid.together }) valid.some_masks valid.few_masks)
    (or_clear (encloses_fault measure values masks doc) _ (encloses_clear measure values masks doc h.enclose h.enclose_there h.encloses valid.encloses)
    (or_clear (channel_fault measure masks doc) _ (gates_clear measure values masks doc h.channels)
    (or_clear (aparts_fault measure values masks doc) _ (aparts_clear measure values masks doc h.apart h.aparts valid.aparts)
    (or_clear (kinds_fault measure values masks doc) _ (kinds_clear measure values masks doc h.channels valid.channels)
    (or_clear (unwanted (codes "resistor") doc) _ (unwanted_clear (codes "resistor") doc (absent_unless table_keys doc h.keys (codes "resistor") refl))
    (others_clear table_keys doc h.keys))))))))))))

pub in_order_is_read : (which : Which) (bytes : List ℕ) (doc : Members) → IsDocument bytes doc → HasShape which doc → IsValidTech (tech_in which doc) → IsTechOf which bytes (tech_in which doc)
in_order_is_read which bytes doc document shape valid = record { members = doc; document = document; no_fault = no_fault which doc shape valid; says = refl }
