-- An element of a list by its number.
use Rattle.std.proofs.Common.{◌≡◌, ℕ, List, Some, slice_get, sym, ◌∙◌}
use Rattle.std.proofs.lemmas.Option.{same_Some}

-- an element is one
pub one_element : {X : Type 0} (xs : List X) (i : ℕ) (x y : X) → slice_get xs i ≡ Some x → slice_get xs i ≡ Some y → x ≡ y
one_element xs i x y e f = same_Some x y (sym e ∙ f)
