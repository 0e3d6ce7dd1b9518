-- An L of two strips, one standing on the other, is carried.
use Rattle.std.proofs.Common.{◌≡◌, ℕ, zero, suc, ℤ, pos, ◌+ℤ◌, ◌-ℤ◌, ◌≤ℤ◌, ◌<ℤ◌, ◌⊎◌, List, refl, arith, inl}
use Rattle.std.proofs.lemmas.Int.{ints, clamps}
use Rattle.std.proofs.lemmas.List.Elements.{All-contains}
use Rattle.std.specs.Int.{int_max, int_min}
use Rattle.rt_cells.specs.Line.{Within}
use Rattle.rt_cells.specs.Rectangles.{IsNonempty}
use Rattle.rt_family.specs.Strips.{ShareRow, IsFamily, StandsOn, IsClimbed, IsChain}
use Rattle.rt_family.specs.Strips.IsClimbed.{step}
use Rattle.rt_family.specs.Strips.IsChain.{one, more}
use Rattle.rt_family.specs.Carried.{IsDrawnOver, IsCarried, IsCarriedInColumns}
use Rattle.rt_family.specs.Sample.{IsOfTwo, source_of, drawn_of, AnLIsCarried}
use Rattle.rt_family.proofs.Chains.{head_of}

not_two : (i : ℕ) → IsOfTwo (suc (suc i)) → ⊥
not_two i h = let l = h.below in omega (arith, l)

stands : StandsOn IsOfTwo source_of zero (suc zero)
stands = record {
  lower = record { below = omega arith };
  upper = record { below = omega arith };
  adjoin = refl;
  over = record { first = omega (arith, ints); second = omega (arith, ints) };
}

pairs : (P : ℕ → ℕ → Type 0) → P zero zero → P zero (suc zero) → P (suc zero) zero → P (suc zero) (suc zero) → (i j : ℕ) → IsOfTwo i → IsOfTwo j → P i j
pairs P a b c d zero zero m n = a
pairs P a b c d zero (suc zero) m n = b
pairs P a b c d (suc zero) zero m n = c
pairs P a b c d (suc zero) (suc zero) m n = d
pairs P a b c d zero (suc (suc j)) m n = absurd (not_two j n)
pairs P a b c d (suc zero) (suc (suc j)) m n = absurd (not_two j n)
pairs P a b c d (suc (suc i)) j m n = absurd (not_two i m)

-- only the second strip stands, on the first
only_stands : (P : ℕ → ℕ → Type 0) → P zero (suc zero) → (i j : ℕ) → StandsOn IsOfTwo source_of i j → P i j
only_stands P p i j h =
    pairs (λ i j. (source_of i).top ≡ (source_of j).bottom → P i j)
    (λ e. absurd (omega (arith, ints, e))) (λ e. p) (λ e. absurd (omega (arith, ints, e))) (λ e. absurd (omega (arith, ints, e)))
    i j h.lower h.upper h.adjoin

-- only the second strip lies above, the first below
only_above : (P : ℕ → ℕ → Type 0) → P zero (suc zero) → (i j : ℕ) → IsOfTwo i → IsOfTwo j → (source_of i).top ≤ℤ (source_of j).bottom → P i j
only_above P p i j m n h =
    pairs (λ i j. (source_of i).top ≤ℤ (source_of j).bottom → P i j)
    (λ l. absurd (omega (arith, ints, l))) (λ l. p) (λ l. absurd (omega (arith, ints, l))) (λ l. absurd (omega (arith, ints, l)))
    i j m n h

sample_family : IsFamily IsOfTwo source_of
sample_family = record {
  nonempty = λ i m. pairs (λ i j. IsNonempty (source_of i)) first first second second i i m m;
  parted = λ i j m n row.
      pairs (λ i j. ShareRow (source_of i) (source_of j) → (i ≡ j) ⊎ (((source_of i).right <ℤ (source_of j).left) ⊎ ((source_of j).right <ℤ (source_of i).left)))
      (λ r. inl refl) (λ r. absurd (omega (arith, ints, r))) (λ r. absurd (omega (arith, ints, r))) (λ r. inl refl) i j m n row;
}
  where
    first : IsNonempty (source_of zero)
    first = record { across = omega (arith, ints); upwards = omega (arith, ints) }

    second : IsNonempty (source_of (suc zero))
    second = record { across = omega (arith, ints); upwards = omega (arith, ints) }

sample_carried : IsCarried IsOfTwo source_of drawn_of (pos 5) (λ i j. pos 5)
sample_carried = record {
  numbers = record { some_width = omega (arith, ints); some_space = λ i j _ _. omega (arith, ints); even_space = λ i j _ _. refl };
  family = sample_family;
  wide = λ i m. pairs (λ i j. ((drawn_of i).left +ℤ pos 5) ≤ℤ (drawn_of i).right) (omega (arith, ints)) (omega (arith, ints)) (omega (arith, ints)) (omega (arith, ints)) i i m m;
  tall = λ i m. pairs (λ i j. (drawn_of i).bottom <ℤ (drawn_of i).top) (omega (arith, ints)) (omega (arith, ints)) (omega (arith, ints)) (omega (arith, ints)) i i m m;
  adjoin = λ i j h. only_stands (λ i j. (drawn_of i).top ≡ (drawn_of j).bottom) refl i j h;
  share = λ i j h. only_stands (λ i j. pos 5 ≤ℤ (int_min (drawn_of i).right (drawn_of j).right -ℤ int_max (drawn_of i).left (drawn_of j).left)) (omega (arith, ints, clamps)) i j h;
  across = λ i j m n row l.
      pairs (λ i j. ShareRow (source_of i) (source_of j) → (source_of i).right ≤ℤ (source_of j).left → ((drawn_of i).right +ℤ pos 5) ≤ℤ (drawn_of j).left)
      (λ r k. absurd (omega (arith, ints, k))) (λ r k. absurd (omega (arith, ints, k))) (λ r k. absurd (omega (arith, ints, k))) (λ r k. absurd (omega (arith, ints, k)))
      i j m n row l;
  apart = λ i j m n l. inl (only_above (IsClimbed IsOfTwo source_of) (step (suc zero) stands) i j m n l);
  seen = λ i j x m n l h k. inl (only_above (StandsOn IsOfTwo source_of) stands i j m n l);
}

last_of : (first : ℕ) (chain : List ℕ) (last : ℕ) → IsChain IsOfTwo source_of first chain last → IsOfTwo first × IsOfTwo last
last_of i _ _ (one _ m) = (m, m)
last_of i _ last (more _ j _ rest s c) = (s.lower, (last_of j rest last c).1)

wider : (x : ℤ) → Within (pos 0) (pos 5) x → Within (pos 0) (pos 6) x
wider x h = record { from = h.from; to = omega (arith, ints) }

sample_columns : IsCarriedInColumns IsOfTwo source_of drawn_of (pos 5)
sample_columns = record {
  runs = λ first last w.
      let ends = last_of first w.chain last w.stacked in
      pairs (λ i j. IsDrawnOver IsOfTwo source_of drawn_of w.x w.u i → ((k : ℕ) → IsDrawnOver IsOfTwo source_of drawn_of w.x w.u k → ¬ StandsOn IsOfTwo source_of k i)
      → ((drawn_of i).bottom +ℤ pos 5) ≤ℤ (drawn_of j).top)
      (λ o l. omega (arith, ints)) (λ o l. omega (arith, ints))
      (λ o l. absurd (l zero (record { strip = stands.lower; first = wider w.x o.first; second = wider w.u o.second }) stands))
      (λ o l. absurd (l zero (record { strip = stands.lower; first = wider w.x o.first; second = wider w.u o.second }) stands))
      first last ends.0 ends.1
      (All-contains (IsDrawnOver IsOfTwo source_of drawn_of w.x w.u) w.chain first w.over (head_of IsOfTwo source_of first w.chain last w.stacked)) w.lowest;
}

pub an_l : AnLIsCarried
an_l = (sample_carried, sample_columns)
