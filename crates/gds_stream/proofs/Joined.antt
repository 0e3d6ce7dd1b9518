-- Bytes that are put behind others, the records of one value after those of the other.
use Rattle.std.proofs.Common.{◌≡◌, ℕ, ◌+◌, ◌<◌, List, [], ◌∷◌, ◌++◌, length, get_or, take, All, sym, ap, subst, ◌∙◌, append_assoc}
use Rattle.std.specs.List.{flat_map}
use Rattle.std.proofs.lemmas.List.{append-nil, take_more}
use Rattle.std.proofs.lemmas.List.Concat.{flat_map-append, flat_map-cons}
use Rattle.std.proofs.lemmas.List.Elements.{All-more}
use Rattle.gds_records.specs.Records.{Item, spelled, flat}

-- the bytes of one more value's records
pub flat_more : {X : Type 0} (f : X → List Item) (xs : List X) (i : ℕ) (d : X) → i < length xs → flat (flat_map f (take (i + 1) xs)) ≡ flat (flat_map f (take i xs)) ++ flat (f (get_or xs i d))
flat_more f xs i d lt =
    ap (λ ys. flat (flat_map f ys)) (take_more xs i d lt)
    ∙ ap flat (flat_map-append f (take i xs) (get_or xs i d ∷ []) ∙ ap (λ (s : List Item). flat_map f (take i xs) ++ s) (flat_map-cons f (get_or xs i d) [] ∙ append-nil (f (get_or xs i d))))
    ∙ flat_map-append spelled (flat_map f (take i xs)) (f (get_or xs i d))

-- a step of a loop that puts the records of each value, and learns a fact of each
pub put_more : (X : Type 0) (f : X → List Item) (R : X → Type 0) (xs : List X) (i : ℕ) (x d : X) (a b c : List ℕ)
    → i < length xs → x ≡ get_or xs i d → b ≡ a ++ flat (flat_map f (take i xs)) → c ≡ b ++ flat (f x) → All R (take i xs) → R x
    → (c ≡ a ++ flat (flat_map f (take (i + 1) xs))) × All R (take (i + 1) xs)
put_more X f R xs i x d a b c lt is so_far now all here = (
  now ∙ ap (λ (s : List ℕ). s ++ flat (f x)) so_far ∙ append_assoc a (flat (flat_map f (take i xs))) (flat (f x))
      ∙ ap (λ (y : X). a ++ (flat (flat_map f (take i xs)) ++ flat (f y))) is
      ∙ ap (λ (s : List ℕ). a ++ s) (sym (flat_more f xs i d lt)),
  All-more R xs i d lt all (subst R is here),
)
