-- The steps of references, and the pieces that they move.
use Rattle.std.proofs.Common.{◌≡◌, ℕ, ◌+◌, ℤ, List, [], ◌∷◌, ◌++◌, map, All, unsigned_abs, Result, Ok, Err, OnOk, refl, sym, ap, subst, ◌∙◌, append_assoc, arith}
use Rattle.std.specs.List.{flat_map, range_with_len}
use Rattle.std.proofs.lemmas.List.{append-nil, map-append}
use Rattle.std.proofs.lemmas.List.Elements.{All-nil, All-cons, All-append}
use Rattle.std.proofs.lemmas.Grind.{flat_map-append}
use Rattle.std.proofs.lemmas.List.FromFn.{map-range_with_len_more}
use Rattle.rt_base.specs.declared.plane.Orient.{Orient}
use Rattle.rt_base.specs.declared.plane.Point.{Point}
use Rattle.gds_stream.specs.declared.library.Place.{Place}
use Rattle.gds_slabs.specs.declared.step.Step.{Step}
use Rattle.gds_slabs.specs.Steps.{ShiftsWithin}
use Rattle.gds_flat.specs.declared.item.Item.{Item}
use Rattle.gds_flat.specs.Placing.{IsTurnOf, shift_of, AreStepsTo, shift_at, array_shifts, AreArraySteps}
use Rattle.gds_flat.specs.Items.{Piece, piece_moved, all_moved}
use Rattle.gds_flat.specs.Drawn.{pieces_in}
use Rattle.gds_flat.specs.Building.{most_shift, step_at, row_steps, all_steps, Appends, AreMovedBy, HasTurn, AreStrides}

-- one number more
range_more : (a n j : ℕ) → a + n ≡ j → range_with_len a (n + 1) ≡ range_with_len a n ++ j ∷ []
range_more a n j e = sym (map_same (range_with_len a (n + 1))) ∙ map-range_with_len_more (λ x. x) a n j e ∙ ap (λ xs. xs ++ j ∷ []) (map_same (range_with_len a n))
  where
    map_same : (xs : List ℕ) → map (λ x. x) xs ≡ xs
    map_same [] = refl
    map_same (x ∷ xs) = ap (λ ys. x ∷ ys) (map_same xs)

-- one step
moved_one : (step : Step) (inner : List Piece) → all_moved (step ∷ []) inner ≡ map (piece_moved step) inner
moved_one step inner = append-nil (map (piece_moved step) inner)

-- by some steps, and by others
pub moved_append : (steps others : List Step) (inner : List Piece) → all_moved (steps ++ others) inner ≡ all_moved steps inner ++ all_moved others inner
moved_append steps others inner = flat_map-append (λ step. map (piece_moved step) inner) steps others

-- what is moved by some steps, and then by others
moved_more : (inner old mid new : List Piece) (steps others all : List Step) → mid ≡ old ++ all_moved steps inner → new ≡ mid ++ all_moved others inner
    → all ≡ steps ++ others → new ≡ old ++ all_moved all inner
moved_more inner old mid new steps others all before more is =
    more ∙ ap (λ ps. ps ++ all_moved others inner) before ∙ append_assoc old (all_moved steps inner) (all_moved others inner)
    ∙ ap (λ ps. old ++ ps) (sym (moved_append steps others inner) ∙ ap (λ ss. all_moved ss inner) (sym is))

-- one column more
pub row_more : (orient : Orient) (origin : Point) (across up : ℤ × ℤ) (columns j : ℕ) (step : Step) (inner old mid new : List Piece)
    → step ≡ step_at orient origin across up j columns → mid ≡ old ++ all_moved (row_steps orient origin across up columns j) inner
    → new ≡ mid ++ map (piece_moved step) inner → new ≡ old ++ all_moved (row_steps orient origin across up (columns + 1) j) inner
row_more orient origin across up columns j step inner old mid new is before more =
    moved_more inner old mid new (row_steps orient origin across up columns j) (step ∷ []) (row_steps orient origin across up (columns + 1) j) before
    (more ∙ ap (λ ps. mid ++ ps) (sym (moved_one step inner)))
    (map-range_with_len_more (step_at orient origin across up j) 0 columns columns (omega arith) ∙ ap (λ s. row_steps orient origin across up columns j ++ s ∷ []) (sym is))

pub row_small : (orient : Orient) (origin : Point) (across up : ℤ × ℤ) (columns j : ℕ) (step : Step) → step ≡ step_at orient origin across up j columns
    → ShiftsWithin most_shift step → All (ShiftsWithin most_shift) (row_steps orient origin across up columns j)
    → All (ShiftsWithin most_shift) (row_steps orient origin across up (columns + 1) j)
row_small orient origin across up columns j step is small before =
    let P : List Step → Type 0 = λ ss. All (ShiftsWithin most_shift) ss in
    subst P (sym (map-range_with_len_more (step_at orient origin across up j) 0 columns columns (omega arith) ∙ ap (λ s. row_steps orient origin across up columns j ++ s ∷ []) (sym is)))
    (All-append (ShiftsWithin most_shift) (row_steps orient origin across up columns j) (step ∷ []) before
    (All-cons (ShiftsWithin most_shift) step [] small (All-nil (ShiftsWithin most_shift))))

rows_more_steps : (orient : Orient) (origin : Point) (across up : ℤ × ℤ) (columns rows : ℕ)
    → all_steps orient origin across up columns (rows + 1) ≡ all_steps orient origin across up columns rows ++ row_steps orient origin across up columns rows
rows_more_steps orient origin across up columns rows =
    let f : ℕ → List Step = row_steps orient origin across up columns in
    ap (flat_map f) (range_more 0 rows rows (omega arith)) ∙ flat_map-append f (range_with_len 0 rows) (rows ∷ [])
    ∙ ap (λ ss. all_steps orient origin across up columns rows ++ ss) (append-nil (f rows))

-- one row more
pub rows_more : (orient : Orient) (origin : Point) (across up : ℤ × ℤ) (columns rows : ℕ) (inner old mid new : List Piece)
    → mid ≡ old ++ all_moved (all_steps orient origin across up columns rows) inner
    → new ≡ mid ++ all_moved (row_steps orient origin across up columns rows) inner → new ≡ old ++ all_moved (all_steps orient origin across up columns (rows + 1)) inner
rows_more orient origin across up columns rows inner old mid new before more =
    moved_more inner old mid new (all_steps orient origin across up columns rows) (row_steps orient origin across up columns rows) (all_steps orient origin across up columns (rows + 1))
    before more (rows_more_steps orient origin across up columns rows)

pub rows_small : (orient : Orient) (origin : Point) (across up : ℤ × ℤ) (columns rows : ℕ) → All (ShiftsWithin most_shift) (all_steps orient origin across up columns rows)
    → All (ShiftsWithin most_shift) (row_steps orient origin across up columns rows) → All (ShiftsWithin most_shift) (all_steps orient origin across up columns (rows + 1))
rows_small orient origin across up columns rows before more =
    let P : List Step → Type 0 = λ ss. All (ShiftsWithin most_shift) ss in
    subst P (sym (rows_more_steps orient origin across up columns rows))
    (All-append (ShiftsWithin most_shift) (all_steps orient origin across up columns rows) (row_steps orient origin across up columns rows) before more)

turn_of : (place : Place) (orient : Orient) (step : Step) → HasTurn place orient → step.orient ≡ orient → IsTurnOf place step
turn_of place orient step turn is =
    let P : Orient → Type 0 = λ o. HasTurn place o in
    let h : HasTurn place step.orient = subst P (sym is) turn in
    record { reflect = h.reflect; quarters = h.quarters }

-- a reference that places once
pub once_moved : {T E : Type 0} (r : Result T E) (place : Place) (orient : Orient) (at : Point) (step : Step) (inner : List Piece) (old new : List Item) → HasTurn place orient
    → step ≡ record { orient = orient; dx = at.x; dy = at.y } → ShiftsWithin most_shift step
    → OnOk r (pieces_in new ≡ pieces_in old ++ map (piece_moved step) inner)
    → OnOk r (Appends (AreMovedBy (AreStepsTo place ((at.x, at.y) ∷ [])) inner) old new)
once_moved (Err e) place orient at step inner old new turn is small h = tt
once_moved (Ok x) place orient at step inner old new turn is small h = record {
  more = map (piece_moved step) inner;
  appended = h;
  are = record {
    steps = step ∷ [];
    of = record {
      turns = All-cons (IsTurnOf place) step [] (turn_of place orient step turn (ap (λ s. s.orient) is)) (All-nil (IsTurnOf place));
      follow = ap (λ s. shift_of s ∷ []) is;
    };
    small = All-cons (ShiftsWithin most_shift) step [] small (All-nil (ShiftsWithin most_shift));
    are = sym (moved_one step inner);
  };
}

row_shifts : (orient : Orient) (origin : Point) (across up : ℤ × ℤ) (j : ℕ) (numbers : List ℕ)
    → map shift_of (map (step_at orient origin across up j) numbers) ≡ map (shift_at origin across up j) numbers
row_shifts orient origin across up j [] = refl
row_shifts orient origin across up j (i ∷ numbers) = ap (λ ss. shift_at origin across up j i ∷ ss) (row_shifts orient origin across up j numbers)

all_shifts : (orient : Orient) (origin : Point) (across up : ℤ × ℤ) (columns : ℕ) (numbers : List ℕ)
    → map shift_of (flat_map (row_steps orient origin across up columns) numbers) ≡ flat_map (λ j. map (shift_at origin across up j) (range_with_len 0 columns)) numbers
all_shifts orient origin across up columns [] = refl
all_shifts orient origin across up columns (j ∷ numbers) =
    map-append shift_of (row_steps orient origin across up columns j) (flat_map (row_steps orient origin across up columns) numbers)
    ∙ ap (λ ss. ss ++ map shift_of (flat_map (row_steps orient origin across up columns) numbers)) (row_shifts orient origin across up j (range_with_len 0 columns))
    ∙ ap (λ ss. map (shift_at origin across up j) (range_with_len 0 columns) ++ ss) (all_shifts orient origin across up columns numbers)

row_turns : (place : Place) (orient : Orient) (origin : Point) (across up : ℤ × ℤ) (j : ℕ) (numbers : List ℕ) → HasTurn place orient
    → All (IsTurnOf place) (map (step_at orient origin across up j) numbers)
row_turns place orient origin across up j [] turn = All-nil (IsTurnOf place)
row_turns place orient origin across up j (i ∷ numbers) turn =
    All-cons (IsTurnOf place) (step_at orient origin across up j i) (map (step_at orient origin across up j) numbers)
    (turn_of place orient (step_at orient origin across up j i) turn refl) (row_turns place orient origin across up j numbers turn)

all_turns : (place : Place) (orient : Orient) (origin : Point) (across up : ℤ × ℤ) (columns : ℕ) (numbers : List ℕ) → HasTurn place orient
    → All (IsTurnOf place) (flat_map (row_steps orient origin across up columns) numbers)
all_turns place orient origin across up columns [] turn = All-nil (IsTurnOf place)
all_turns place orient origin across up columns (j ∷ numbers) turn =
    All-append (IsTurnOf place) (row_steps orient origin across up columns j) (flat_map (row_steps orient origin across up columns) numbers)
    (row_turns place orient origin across up j (range_with_len 0 columns) turn) (all_turns place orient origin across up columns numbers turn)

-- the steps of an array
array_steps : (place : Place) (columns rows : ℤ) (points : List Point) (orient : Orient) (origin : Point) (across up : ℤ × ℤ)
    → AreStrides place columns rows points orient origin across up
    → AreArraySteps place columns rows points (all_steps orient origin across up (unsigned_abs columns) (unsigned_abs rows))
array_steps place columns rows points orient origin across up h =
    let steps : List Step = all_steps orient origin across up (unsigned_abs columns) (unsigned_abs rows) in
    let P : Point → Type 0 = λ p. map shift_of steps ≡ array_shifts p across up (unsigned_abs columns) (unsigned_abs rows) in
    record {
      across = across;
      up = up;
      whole = h.whole;
      are = record {
        turns = all_turns place orient origin across up (unsigned_abs columns) (range_with_len 0 (unsigned_abs rows)) h.turn;
        follow = subst P h.first (all_shifts orient origin across up (unsigned_abs columns) (range_with_len 0 (unsigned_abs rows)));
      };
    }

-- an array that places
pub array_moved : {T E : Type 0} (r : Result T E) (place : Place) (columns rows : ℤ) (points : List Point) (orient : Orient) (origin : Point) (across up : ℤ × ℤ)
    (m n : ℕ) (inner : List Piece) (old new : List Item) → AreStrides place columns rows points orient origin across up → m ≡ unsigned_abs columns → n ≡ unsigned_abs rows
    → OnOk r (All (ShiftsWithin most_shift) (all_steps orient origin across up m n))
    → OnOk r (pieces_in new ≡ pieces_in old ++ all_moved (all_steps orient origin across up m n) inner)
    → OnOk r (Appends (AreMovedBy (AreArraySteps place columns rows points) inner) old new)
array_moved (Err e) place columns rows points orient origin across up m n inner old new h em en small items = tt
array_moved (Ok x) place columns rows points orient origin across up m n inner old new h em en small items =
    let P : ℕ → Type 0 = λ k. AreArraySteps place columns rows points (all_steps orient origin across up k (unsigned_abs rows)) in
    let Q : ℕ → Type 0 = λ k. AreArraySteps place columns rows points (all_steps orient origin across up m k) in
    record {
      more = all_moved (all_steps orient origin across up m n) inner;
      appended = items;
      are = record {
        steps = all_steps orient origin across up m n;
        of = subst Q (sym en) (subst P (sym em) (array_steps place columns rows points orient origin across up h));
        small = small;
        are = refl;
      };
    }
