-- What a list and a table of the crate `toml` hold, as members and items.
use Rattle.std.proofs.Common.{◌≡◌, List, [], ◌∷◌, length, Option, Some, None, option_map, MatchOption, refl, sym, arith}
use Rattle.toml.specs.Data.{Data, Items, no_items, item}
use Rattle.toml.specs.View.{items_view}
use Rattle.toml.specs.declared.value.Value.{Value}
use Rattle.rt_keys.specs.Document.{count, entries_of}

-- what an option of references points to, by cases
pub seen_by_cases : {A B : Type 0} (f : A → B) (found : Option A) (o : Option B) → option_map f found ≡ o → MatchOption found (o ≡ None) (λ x. o ≡ Some (f x))
seen_by_cases f None o same = sym same
seen_by_cases f (Some x) o same = sym same

-- a list has as many items as values
pub count_of_view : (values : List Value) → length values ≡ count (items_view values)
count_of_view [] = refl
count_of_view (value ∷ values) = omega (arith, count_of_view values)

-- as many entries are read as there are
pub count_of_entries : {A : Type 0} (of : Data → A) (values : Items) → length (entries_of of values) ≡ count values
count_of_entries of no_items = refl
count_of_entries of (item value values) = omega (arith, count_of_entries of values)
