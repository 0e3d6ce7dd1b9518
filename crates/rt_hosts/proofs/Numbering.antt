-- All hosts of one rectangle, one strip after another.
use Rattle.std.proofs.Common.{◌≡◌, ℕ, ◌+◌, ◌<◌, List, [], ◌∷◌, ◌++◌, length, get_or, map, Contains, All, sym, subst, arith, inl, inr}
use Rattle.std.specs.Prelude.{AllPairs}
use Rattle.std.proofs.lemmas.List.Elements.{All-push, All-nil, Contains-push, Contains-append_left}
use Rattle.std.proofs.lemmas.List.Quantifiers.{all_pairs_push}
use Rattle.rt_cells.specs.Rectangles.{Rectangle}
use Rattle.rt_cells.proofs.Numbers.{last_or_before}
use Rattle.rt_strips.specs.declared.listing.Strip.{Strip}
use Rattle.rt_strips.specs.Placed.{Placed, placed, strip_at}
use Rattle.rt_strips.proofs.Placed.{strip_is, strip_there}
use Rattle.rt_hosts.specs.Hosts.{IsHosting, IsHostOf, AreHostsOf}

-- the hosts among the first n strips
pub record AreHostsTo (m : ℕ) (strips : List Placed) (r : Rectangle) (n : ℕ) (hosts : List ℕ) : Type 0 where
  pub each : All (IsHostOf m strips r) hosts
  pub below : All (λ i. i < n) hosts
  pub every : (i : ℕ) → i < n → IsHostOf m strips r i → Contains hosts i
  pub rising : AllPairs (λ i j. i < j) hosts

-- before the first strip
pub no_hosts : (m : ℕ) (strips : List Placed) (r : Rectangle) → AreHostsTo m strips r 0 []
no_hosts m strips r = record {
  each = All-nil (IsHostOf m strips r);
  below = λ k d h. absurd (omega arith);
  every = λ i h w. absurd (omega arith);
  rising = λ i j d h k. absurd (omega arith);
}

module _ (m : ℕ) (strips : List Strip) (r : Rectangle) (n : ℕ) (strip : Strip) (there : n < length strips) (is : strip ≡ get_or strips n strip) (hosts : List ℕ)
    (so_far : AreHostsTo m (map placed strips) r n hosts) where
  is_placed : strip_at (map placed strips) n ≡ placed strip
  is_placed = strip_is strips n strip there is

  hosting : IsHosting m (strip_at (map placed strips) n) r → IsHostOf m (map placed strips) r n
  hosting w = record {
    strip = record { below = (strip_there strips n there).below_count; of_mask = w.of_mask };
    columns = w.columns;
    rows = w.rows;
  }

  hosted : IsHostOf m (map placed strips) r n → IsHosting m (strip_at (map placed strips) n) r
  hosted w = record { of_mask = w.strip.of_mask; columns = w.columns; rows = w.rows }

  below_more : All (λ i. i < n + 1) hosts
  below_more = λ k d l. let b : get_or hosts k d < n = so_far.below k d l in omega (arith, b)

  -- one host more
  pub host_more : IsHosting m (placed strip) r → AreHostsTo m (map placed strips) r (n + 1) (hosts ++ n ∷ [])
  host_more h = record {
    each = All-push (IsHostOf m (map placed strips) r) hosts n so_far.each (hosting (subst (λ (p : Placed). IsHosting m p r) (sym is_placed) h));
    below = All-push (λ i. i < n + 1) hosts n below_more (omega arith);
    every = λ i l w. elim (last_or_before n i l) [
      | inl same ↦ subst (Contains (hosts ++ n ∷ [])) (sym same) (Contains-push hosts n)
      | inr less ↦ Contains-append_left hosts (n ∷ []) i (so_far.every i less w)
    ];
    rising = all_pairs_push (λ i j. i < j) hosts n so_far.rising so_far.below;
  }

  -- a strip that is no host
  pub host_passed : (¬ IsHosting m (placed strip) r) → AreHostsTo m (map placed strips) r (n + 1) hosts
  host_passed other = record {
    each = so_far.each;
    below = below_more;
    every = λ i l w. elim (last_or_before n i l) [
      | inl same ↦ absurd (other (subst (λ (p : Placed). IsHosting m p r) is_placed (hosted (subst (IsHostOf m (map placed strips) r) same w))))
      | inr less ↦ so_far.every i less w
    ];
    rising = so_far.rising;
  }

-- behind the last strip
pub all_hosts : (m : ℕ) (strips : List Placed) (r : Rectangle) (hosts : List ℕ) → AreHostsTo m strips r (length strips) hosts → AreHostsOf m strips r hosts
all_hosts m strips r hosts are = record { each = are.each; every = λ i w. are.every i w.strip.below w; rising = are.rising }
