-- Strips of which none stands on another: with the rows for width and space they are carried.
use Rattle.std.proofs.Common.{ℕ, ℤ, ◌+ℤ◌, ◌≤ℤ◌, List, arith, inl, inr}
use Rattle.std.proofs.lemmas.Int.{ints, clamps}
use Rattle.rt_cells.specs.Rectangles.{Rectangle}
use Rattle.rt_family.proofs.Places.{by_width, far_above}
use Rattle.rt_family.specs.Strips.{IsChain}
use Rattle.rt_family.specs.Strips.IsChain.{one, more}
use Rattle.rt_family.specs.Carried.{IsCarried, IsCarriedInColumns}
use Rattle.rt_family.specs.Rows.{IsUntouched}

module _ (member : ℕ → Type 0) (source drawn : ℕ → Rectangle) (w : ℤ) (s : ℕ → ℕ → ℤ) (untouched : IsUntouched member source drawn w s) where
  -- they are carried
  pub untouched_carried : IsCarried member source drawn w s
  untouched_carried = record {
    numbers = untouched.numbers;
    family = untouched.family;
    wide = untouched.wide;
    tall = λ i m. by_width _ _ w untouched.numbers.some_width (untouched.tall i m);
    adjoin = λ i j stands. absurd (untouched.none_stands i j stands);
    share = λ i j stands. absurd (untouched.none_stands i j stands);
    across = untouched.across;
    apart = λ i j m n l. elim (untouched.upwards i j m n l) [ inl g ↦ inr (inl g) | inr g ↦ inr (inr (far_above (s i j) (drawn i) (drawn j) g)) ];
    seen = λ i j x m n l h k. elim (untouched.upwards i j m n l) [
      | inl g ↦ absurd (omega (arith, ints, clamps, untouched.numbers.some_space i j m n))
      | inr g ↦ inr (inl g)
    ];
  }

  chain_of_one : (first : ℕ) (chain : List ℕ) (last : ℕ) → IsChain member source first chain last → ((drawn first).bottom +ℤ w) ≤ℤ (drawn last).top
  chain_of_one i _ _ (one _ m) = untouched.tall i m
  chain_of_one i _ last (more _ j _ rest stands c) = absurd (untouched.none_stands i j stands)

  -- and their columns are
  pub untouched_columns : IsCarriedInColumns member source drawn w
  untouched_columns = record { runs = λ first last chain. chain_of_one first chain.chain last chain.stacked }
