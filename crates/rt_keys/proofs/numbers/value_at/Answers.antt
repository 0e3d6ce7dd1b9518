use Rattle.std.proofs.Common.{◌≡◌, ℕ, ◌<◌, ◌≤◌, length, get_or, List, Option, Some, None, MatchOption, IfSome, Bor, sym, ap, ◌∙◌}
use Rattle.std.specs.List.{HoldsAt}
use Rattle.toml.specs.Data.{get_item}
use Rattle.toml.specs.View.{view, items_view}
use Rattle.toml.specs.declared.value.Value.{Value}
use Rattle.toml.proofs.Views.{get_item_within, get_item_past}
use Rattle.rt_keys.proofs.numbers.value_at.Goals as goal

found_item : (found : Option (Bor Value)) (values : List Value) (n : ℕ)
    → IfSome found (λ x. x.now ≡ get_or values n x.now)
    → MatchOption found (length values ≤ n) (λ x. (n < length values) × HoldsAt (λ y. x.now ≡ y) values n)
    → MatchOption found (get_item n (items_view values) ≡ None) (λ v. get_item n (items_view values) ≡ Some (view v.now))
found_item None values n at where_ = sym (get_item_past values n where_)
found_item (Some v) values n at where_ = sym (get_item_within values n v.now where_.0) ∙ ap (λ x. Some (view x)) (sym at)

pub returns : goal.returns
returns c = let h = c.get.ensures.lookup in found_item c.get.result c.args.values.now c.args.n h.1 h.3
