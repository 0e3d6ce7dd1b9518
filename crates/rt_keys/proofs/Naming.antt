-- What is found by its name is one of the list.
use Rattle.std.proofs.Common.{◌≡◌, ℕ, suc, ◌+◌, ◌<◌, List, Option, Some, None, refl, sym, cond, Bool, true, false, is_some, unwrap_or, arith}
use Rattle.toml.specs.Data.{Items, no_items, item}
use Rattle.rt_keys.specs.Document.{count}
use Rattle.rt_keys.specs.Names.{is_named, named_from}

-- a number that is found is one of the list's
pub named_below : (i : ℕ) (name : List ℕ) (values : Items) (n : ℕ) → named_from i name values ≡ Some n → n < i + count values
named_below i name no_items n h = cc
named_below i name (item value values) n h = by_name (is_named name value) (named_below (i + 1) name values n) h
  where
    by_name : (here : Bool) → (named_from (i + 1) name values ≡ Some n → n < (i + 1) + count values)
        → cond here (Some i) (named_from (i + 1) name values) ≡ Some n → n < i + suc (count values)
    by_name true later h = let same : i ≡ n = cc in omega arith
    by_name false later h = let below = later h in omega arith

pub found_below : (name : List ℕ) (values : Items) → is_some (named_from 0 name values) ≡ true → unwrap_or (named_from 0 name values) 0 < count values
found_below name values h = by_found (named_from 0 name values) refl h
  where
    by_found : (found : Option ℕ) → found ≡ named_from 0 name values → is_some found ≡ true → unwrap_or found 0 < count values
    by_found None e h = cc
    by_found (Some n) e h = let below = named_below 0 name values n (sym e) in omega arith
