-- The rows of a template in another order.
use Rattle.std.proofs.Common.{◌≡◌, ◌≢◌, ◌<◌, ◌==◌, Bool, true, false, ◌&&◌, List, length, map, AllPairs, refl, sym, subst, subst₂, arith}
use Rattle.std.specs.Bool.{Decides}
use Rattle.std.specs.List.Sorted.{IsPermutation}
use Rattle.std.proofs.lemmas.Bool.Decides.{Decides-eqb, Decides-and}
use Rattle.std.proofs.lemmas.List.{get_or-map, length-map}
use Rattle.std.proofs.lemmas.List.Sorted.{Contains-permutation, IsPermutation-sym, IsPermutation-map}
use Rattle.std.proofs.lemmas.Map.Keys.{IsDistinct-IsPermutation}
use Rattle.std.proofs.lemmas.Map.Made.{IsDistinct-from_AllPairs, AllPairs-from_IsDistinct}
use Rattle.rt_rows.specs.declared.name.Name.{Name}
use Rattle.rt_rows.specs.declared.row.Row.{Row}
use Rattle.rt_rows.specs.Order.{place_of}
use Rattle.rt_rows.proofs.PlacesOrder.{one_name}
use Rattle.rt_place.specs.Placing.{HoldsRows}
use Rattle.rt_place.proofs.Templates.{same_place, pairs_mapped}

-- whether two names stand at one place
abbrev same_name : Name → Name → Bool
same_name a b =
    ((place_of a).kind == (place_of b).kind) && (((place_of a).first == (place_of b).first)
    && (((place_of a).second == (place_of b).second) && ((place_of a).third == (place_of b).third)))

places_decided : (a b : Name) → Decides (same_name a b) (((place_of a).kind ≡ (place_of b).kind) × (((place_of a).first ≡ (place_of b).first)
    × (((place_of a).second ≡ (place_of b).second) × ((place_of a).third ≡ (place_of b).third))))
places_decided a b =
    Decides-and _ _ (Decides-eqb (place_of a).kind (place_of b).kind) (Decides-and _ _ (Decides-eqb (place_of a).first (place_of b).first)
    (Decides-and _ _ (Decides-eqb (place_of a).second (place_of b).second) (Decides-eqb (place_of a).third (place_of b).third)))

name_decided : (a b : Name) → Decides (same_name a b) (a ≡ b)
name_decided a b = (
  λ t. let four = (places_decided a b).0 t in one_name a b (same_place (place_of a) (place_of b) four.0 four.1.0 four.1.1.0 four.1.1.1),
  λ e. subst (λ n. same_name a n ≡ true) e ((places_decided a a).1 (refl, (refl, (refl, refl)))),
)

alike_tests : (b c : Bool) → (b ≡ true → c ≡ true) → (c ≡ true → b ≡ true) → b ≡ c
alike_tests true c f g = sym (f refl)
alike_tests false true f g = g refl
alike_tests false false f g = refl

flipped : (a b : Name) → same_name a b ≡ same_name b a
flipped a b = alike_tests _ _ (λ t. (name_decided b a).1 (sym ((name_decided a b).0 t))) (λ t. (name_decided a b).1 (sym ((name_decided b a).0 t)))

-- what holds of all pairs of an image holds of all pairs of the list
pairs_of_mapped : {X Y : Type 0} → (f : X → Y) (R : Y → Y → Type 0) (xs : List X) → AllPairs R (map f xs) → AllPairs (λ a b. R (f a) (f b)) xs
pairs_of_mapped f R xs pairs i j d h g =
    let l : j < length (map f xs) = subst (λ n. j < n) (sym (length-map xs f)) g in
    subst₂ R (get_or-map f xs i d (f d) (omega (arith, h, g))) (get_or-map f xs j d (f d) g) (pairs i j (f d) h l)

-- names that differ stay so in another order
names_apart : (rows ordered : List (Name × Row)) → IsPermutation rows ordered → AllPairs (λ (a b : Name × Row). a.0 ≢ b.0) rows
    → AllPairs (λ (a b : Name × Row). a.0 ≢ b.0) ordered
names_apart rows ordered moved pairs =
    let name : Name × Row → Name = λ named. named.0 in
    pairs_of_mapped name (λ a b. a ≢ b) ordered
    (AllPairs-from_IsDistinct name_decided (map name ordered)
    (IsDistinct-IsPermutation same_name flipped (map name rows) (map name ordered) (IsPermutation-map name rows ordered moved)
    (IsDistinct-from_AllPairs name_decided (map name rows) (pairs_mapped name (λ a b. a ≢ b) rows pairs))))

-- rows of a template are its rows in any order
pub ordered_held : (template : Name → Row → Type 0) (rows ordered : List (Name × Row)) → IsPermutation rows ordered → HoldsRows template rows → HoldsRows template ordered
ordered_held template rows ordered moved holds = record {
  exact = λ name row. (
    λ c. (holds.exact name row).0 (Contains-permutation ordered rows (name, row) (IsPermutation-sym rows ordered moved) c),
    λ r. Contains-permutation rows ordered (name, row) moved ((holds.exact name row).1 r),
  );
  once = names_apart rows ordered moved holds.once;
}
