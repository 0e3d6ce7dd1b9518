-- Walks over the strips of one mask, of which neighbours stand on each other; the strips of a chain are connected.
use Rattle.std.proofs.Common.{◌≡◌, ℕ, List, [], ◌∷◌, Contains, subst, arith, inl, inr}
use Rattle.std.proofs.lemmas.List.Elements.{Contains-append_cases, Contains-push_cases}
use Rattle.rt_cells.specs.Rectangles.{Rectangle}
use Rattle.rt_family.specs.Strips.{StandsOn, AreConnected, IsChain}
use Rattle.rt_family.specs.Strips.AreConnected.{same, up, down}
use Rattle.rt_family.specs.Strips.IsChain.{one, more}

none_in_nothing : (x : ℕ) → Contains [] x → ⊥
none_in_nothing x (k, l, e) = omega (arith, l)

-- what is in a list of one is that one
only_one : (i x : ℕ) → Contains (i ∷ []) x → i ≡ x
only_one i x c = elim (Contains-push_cases [] i x c) [ inl d ↦ absurd (none_in_nothing x d) | inr e ↦ e ]

module _ (member : ℕ → Type 0) (box : ℕ → Rectangle) where
  connected_both : (i j k : ℕ) → AreConnected member box i j → AreConnected member box j k → AreConnected member box i k
  connected_both i j k a (same m) = a
  connected_both i j k a (up l _ c s) = up l k (connected_both i j l a c) s
  connected_both i j k a (down l _ c s) = down l k (connected_both i j l a c) s

  connected_back : (i j : ℕ) → AreConnected member box i j → AreConnected member box j i
  connected_back i j (same m) = same m
  connected_back i j (up l _ c s) = connected_both j l i (down j l (same s.upper) s) (connected_back i l c)
  connected_back i j (down l _ c s) = connected_both j l i (up j l (same s.lower) s) (connected_back i l c)

  -- the strip that a walk ends at is of the mask
  pub connected_ends : (i j : ℕ) → AreConnected member box i j → member j
  connected_ends i j (same m) = m
  connected_ends i j (up l _ c s) = s.upper
  connected_ends i j (down l _ c s) = s.lower

  from_first : (first : ℕ) (chain : List ℕ) (last : ℕ) → IsChain member box first chain last
      → (k : ℕ) → Contains chain k → AreConnected member box first k
  from_first i _ _ (one _ m) k c = subst (AreConnected member box i) (only_one i k c) (same m)
  from_first i _ last (more _ j _ rest s tail) k c = elim (Contains-append_cases (i ∷ []) rest k c) [
    | inl d ↦ subst (AreConnected member box i) (only_one i k d) (same s.lower)
    | inr d ↦ connected_both i j k (up i j (same s.lower) s) (from_first j rest last tail k d)
  ]

  -- the strips of a chain are connected
  pub chain_connected : (first last : ℕ) (chain : List ℕ) → IsChain member box first chain last
      → (i k : ℕ) → Contains chain i → Contains chain k → AreConnected member box i k
  chain_connected first last chain stacked i k c d =
      connected_both i first k (connected_back first i (from_first first chain last stacked i c)) (from_first first chain last stacked k d)

-- where strips stand on each other alike, they are connected alike
pub connected_alike : (member : ℕ → Type 0) (box model : ℕ → Rectangle) → ((i j : ℕ) → StandsOn member box i j → StandsOn member model i j)
    → (i j : ℕ) → AreConnected member box i j → AreConnected member model i j
connected_alike member box model to i j (same m) = same m
connected_alike member box model to i j (up l _ c s) = up l j (connected_alike member box model to i l c) (to l j s)
connected_alike member box model to i j (down l _ c s) = down l j (connected_alike member box model to i l c) (to j l s)
