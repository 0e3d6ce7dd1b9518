-- How many items and steps there are.
use Rattle.std.proofs.Common.{◌≡◌, ℕ, suc, ◌+◌, ◌*◌, ℤ, List, [], ◌∷◌, length, map, sym, ap, ◌∙◌, arith}
use Rattle.std.specs.List.{flat_map, range_with_len}
use Rattle.std.proofs.Math.Nat.{mul_comm, suc-mul, zero-mul}
use Rattle.std.proofs.lemmas.List.{length-append, length-map}
use Rattle.std.proofs.lemmas.List.Concat.{flat_map-cons}
use Rattle.std.proofs.lemmas.List.FromFn.{length-range_with_len, length-map-range_with_len}
use Rattle.rt_base.specs.declared.plane.Point.{Point}
use Rattle.gds_slabs.specs.declared.step.Step.{Step}
use Rattle.gds_flat.specs.Placing.{shift_at, array_shifts}
use Rattle.gds_flat.specs.Items.{Piece, piece_moved, all_moved}

-- as many of the same number
length_times : {X Y : Type 0} (f : X → List Y) (n : ℕ) (xs : List X) → ((x : X) → length (f x) ≡ n) → length (flat_map f xs) ≡ length xs * n
length_times f n [] all = sym (zero-mul n)
length_times f n (x ∷ xs) all =
    ap length (flat_map-cons f x xs) ∙ length-append (f x) (flat_map f xs) ∙ ap (λ k. k + length (flat_map f xs)) (all x)
    ∙ ap (λ k. n + k) (length_times f n xs all) ∙ more
  where
    more : n + length xs * n ≡ suc (length xs) * n
    more = omega (arith, suc-mul (length xs) n)

-- as many items as there are steps, for each item
pub length_all_moved : (steps : List Step) (pieces : List Piece) → length (all_moved steps pieces) ≡ length steps * length pieces
length_all_moved steps pieces = length_times (λ s. map (piece_moved s) pieces) (length pieces) steps (λ s. length-map pieces (piece_moved s))

-- as many shifts as an array has places
pub length_array_shifts : (origin : Point) (across up : ℤ × ℤ) (columns rows : ℕ) → length (array_shifts origin across up columns rows) ≡ columns * rows
length_array_shifts origin across up columns rows =
    length_times (λ j. map (shift_at origin across up j) (range_with_len 0 columns)) columns (range_with_len 0 rows)
    (λ j. length-map-range_with_len (shift_at origin across up j) 0 columns)
    ∙ ap (λ k. k * columns) (length-range_with_len 0 rows) ∙ mul_comm rows columns
