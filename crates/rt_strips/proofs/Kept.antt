-- The first elements of lists that grow.
use Rattle.std.proofs.Common.{◌≡◌, ℕ, zero, suc, ℤ, ◌+◌, ◌-◌, ◌^◌, ◌≤◌, List, [], ◌∷◌, ◌++◌, length, map, take, min, refl, sym, ap, ◌∙◌, arith}
use Rattle.std.proofs.lemmas.List.{length-take, length-append, length-map, take-map}
use Rattle.rt_base.specs.declared.plane.Rect.{Rect}
use Rattle.rt_base.specs.Plane.{area}
use Rattle.rt_strips.specs.declared.tally.Tally.{Tally}
use Rattle.rt_strips.specs.Placed.{placed}
use Rattle.rt_strips.specs.OneMask.{AreFirstStrips}
use Rattle.rt_strips.specs.Tallies.{at_mask, AddsStrips}

take_of_taken : {X : Type 0} (n k : ℕ) (ys : List X) → n ≤ k → take n (take k ys) ≡ take n ys
take_of_taken zero k ys h = refl
take_of_taken (suc n) zero ys h = absurd (omega (arith, h))
take_of_taken (suc n) (suc k) [] h = refl
take_of_taken (suc n) (suc k) (y ∷ ys) h = ap (λ l. y ∷ l) (take_of_taken n k ys (omega (arith, h)))

-- the first ones of a list end to end with the first ones of another
pub first_of_first : {X : Type 0} (n k : ℕ) (xs ys : List X) → n ≤ k → take n (xs ++ take k ys) ≡ take n (xs ++ ys)
first_of_first zero k xs ys h = refl
first_of_first (suc n) k [] ys h = take_of_taken (suc n) k ys h
first_of_first (suc n) k (x ∷ xs) ys h = ap (λ l. x ∷ l) (first_of_first n k xs ys (omega (arith, h)))

pub first_of_firsts : {X : Type 0} (n : ℕ) (xs ys : List X) → take n (take n xs ++ ys) ≡ take n (xs ++ ys)
first_of_firsts zero xs ys = refl
first_of_firsts (suc n) [] ys = refl
first_of_firsts (suc n) (x ∷ xs) ys = ap (λ l. x ∷ l) (first_of_firsts n xs ys)

counts_add : (a b n m : ℕ) → a ≡ min n (2 ^ 64 - 1) → b ≡ min m (2 ^ 64 - 1) → min (a + b) (2 ^ 64 - 1) ≡ min (n + m) (2 ^ 64 - 1)
counts_add a b n m e f = omega (arith, e, f)

-- the strips of one more mask are added to the strips so far
pub mask_added : (cells : ℤ → ℤ → Type 0) (mask most : ℕ) (before after : Tally) (strips : List Rect) (count : ℕ) → AreFirstStrips cells most (map area strips) count
    → (length before.list.items ≤ most → map placed after.list.items ≡ take most (map placed before.list.items ++ map (at_mask mask) (map area strips)))
    → after.count ≡ min (before.count + count) (2 ^ 64 - 1) → AddsStrips cells mask most before after
mask_added cells mask most before after strips count found keeps counts = record {
  all = found.all;
  all_strips = found.all_strips;
  added = λ earlier t.
      let few : length before.list.items ≤ most = omega (arith, length-map before.list.items placed, ap length t.kept, length-take most earlier) in
      let added = map (at_mask mask) found.all in
      record {
        kept = keeps few
            ∙ ap (λ l. take most (map placed before.list.items ++ l)) (ap (map (at_mask mask)) found.kept_first ∙ sym (take-map (at_mask mask) most found.all))
            ∙ first_of_first most most (map placed before.list.items) added (omega arith)
            ∙ ap (λ l. take most (l ++ added)) t.kept
            ∙ first_of_firsts most earlier added;
        counted = counts ∙ counts_add before.count count (length earlier) (length found.all) t.counted found.counted
            ∙ ap (λ n. min n (2 ^ 64 - 1)) (sym (length-append earlier added ∙ ap (λ n. length earlier + n) (length-map found.all (at_mask mask))));
      };
}
