-- A drawing that meets the rows carries its mask.
use Rattle.std.proofs.Common.{ℕ, ℤ, pos, ◌≤ℤ◌, ◌<ℤ◌, arith, inl, inr}
use Rattle.std.proofs.lemmas.Int.{ints, clamps, by_lt_z}
use Rattle.rt_cells.specs.Line.{Within, gap_of}
use Rattle.rt_cells.specs.Rectangles.{Rectangle, columns_between}
use Rattle.rt_family.specs.Strips.{ShareRow, IsListed, IsFamily, StandsOn}
use Rattle.rt_family.specs.Strips.IsClimbed.{step}
use Rattle.rt_family.specs.Carried.{AreNumbers, IsCarried}
use Rattle.rt_family.proofs.Places.{far_above}
use Rattle.rt_family.specs.Rows.{AreTouching, MeetsRows}
use Rattle.rt_family.proofs.Source.{ends_share, climbed_or, seen_or}

common_is_near : (s low high low' high' x : ℤ) → pos 1 ≤ℤ s → Within low high x → Within low' high' x → gap_of low high low' high' <ℤ s
common_is_near s low high low' high' x p h k = omega (arith, ints, clamps)

module _ (member : ℕ → Type 0) (source drawn : ℕ → Rectangle) (w : ℤ) (s : ℕ → ℕ → ℤ) (rows : MeetsRows member source drawn w s)
    (family : IsFamily member source) (count : ℕ) (listed : IsListed member count) where
  not_touching_beside : (i j : ℕ) → ShareRow (source i) (source j) → ¬ AreTouching member source i j
  not_touching_beside i j row (inl stands) = omega (arith, ints, stands.adjoin)
  not_touching_beside i j row (inr stands) = omega (arith, ints, stands.adjoin)

  not_touching_above : (i j : ℕ) → (source i).top ≤ℤ (source j).bottom → ¬ StandsOn member source i j → ¬ AreTouching member source i j
  not_touching_above i j l none (inl stands) = none stands
  not_touching_above i j l none (inr stands) =
      omega (arith, ints, stands.adjoin, (family.nonempty i stands.upper).upwards, (family.nonempty j stands.lower).upwards)

  -- the mask is carried
  pub rows_carry : AreNumbers member w s → IsCarried member source drawn w s
  rows_carry numbers = record {
    numbers = numbers;
    family = family;
    wide = rows.wide;
    tall = λ i m. omega (arith, ints, rows.tall i m);
    adjoin = λ i j stands. omega (arith, ints, rows.on i j stands, rows.under i j stands);
    share = λ i j stands. ends_share w (source i) (source j) (drawn i) (drawn j) (rows.ends i j (inl stands)) (rows.ends j i (inr stands));
    across = λ i j m n row l. rows.right i j m n (not_touching_beside i j row) l row;
    apart = λ i j m n l. climbed_or member source family count listed i j (λ none.
        by_lt_z (columns_between (drawn i) (drawn j)) (s i j)
        (λ near. inr (far_above (s i j) (drawn i) (drawn j) (rows.above i j m n (not_touching_above i j l (λ stands. none (step j stands))) l near (inl none))))
        (λ far. inl far));
    seen = λ i j x m n l h k. seen_or member source family count listed drawn i j x (λ none nowhere.
        rows.above i j m n (not_touching_above i j l none) l
        (common_is_near (s i j) (drawn i).left (drawn i).right (drawn j).left (drawn j).right x (numbers.some_space i j m n) h k) (inr (x, h, k, nowhere)));
  }
