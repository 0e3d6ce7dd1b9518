-- What a sort of toggles leaves, and a set of columns.
use Rattle.std.proofs.Common.{Ordering, Less, Equal, Greater, ◌≡◌, suc, ◌+◌, ℤ, ◌≤ℤ◌, ◌<ℤ◌, Bool, true, false, List, [], ◌∷◌, get_or, sym, ◌∙◌, subst, arith}
use Rattle.std.specs.Ordering.{MatchOrdering, int_cmp, ordering_then, is_lt, int_eq}
use Rattle.std.proofs.lemmas.Bool.{cond-true}
use Rattle.std.specs.Cmp.{int_ranks}
use Rattle.std.specs.List.{list_any}
use Rattle.std.specs.List.Sorted.{IsSortedBy}
use Rattle.std.specs.Set.{remove_key}
use Rattle.std.proofs.lemmas.Int.{ints}
use Rattle.gds_slabs.specs.declared.toggles.Toggle.{Toggle}
use Rattle.gds_slabs.specs.Sweep.{toggled, AreAscending}

-- how toggles compare
abbrev pub toggle_cmp : Toggle → Toggle → Ordering
toggle_cmp t u = ordering_then (int_cmp t.y u.y) (int_cmp t.x u.x)

not_less : (a b : ℤ) (r s : Ordering) → MatchOrdering r (a <ℤ b) (a ≡ b) (b <ℤ a) → is_lt (ordering_then r s) ≡ false → b ≤ℤ a
not_less a b Less s h k = absurd (cc)
not_less a b Equal s h k = omega (arith, ints)
not_less a b Greater s h k = omega (arith, ints)

tail_sorted : (lt : Toggle → Toggle → Bool) (t : Toggle) (rest : List Toggle) → IsSortedBy lt (t ∷ rest) → IsSortedBy lt rest
tail_sorted lt t rest k i d l m =
    let e : suc i + 1 ≡ suc (i + 1) = omega arith in
    subst (λ n. lt (get_or (t ∷ rest) n d) (get_or rest i d) ≡ false) e (k (suc i) d (omega arith) (omega arith))

pub ascending_from_sorted : (ts : List Toggle) → IsSortedBy (λ t u. is_lt (toggle_cmp t u)) ts → AreAscending ts
ascending_from_sorted [] k = tt
ascending_from_sorted (t ∷ []) k = tt
ascending_from_sorted (t ∷ u ∷ rest) k = (
  not_less u.y t.y (int_cmp u.y t.y) (int_cmp u.x t.x) (int_ranks u.y t.y) (k 0 t (omega arith) (omega arith)),
  ascending_from_sorted (u ∷ rest) (tail_sorted (λ t u. is_lt (toggle_cmp t u)) t (u ∷ rest) k),
)

-- a column that was there is taken out
pub taken_out : (x : ℤ) (old new : List ℤ) (there : Bool) → there ≡ list_any (int_eq x) old → new ≡ remove_key (int_eq x) old
    → there ≡ true → new ≡ toggled x old
taken_out x old new there e h k = h ∙ sym (cond-true (list_any (int_eq x) old) _ _ (sym e ∙ k))
