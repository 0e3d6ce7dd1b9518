-- The strips that touch no other are all strips of the pieces that are rectangles.
use Rattle.std.proofs.Common.{◌≡◌, ℕ, suc, ◌<◌, ℤ, ◌<ℤ◌, ◌⊎◌, ◌↔◌, List, [], ◌∷◌, length, map, refl, sym, ap, subst, subst₂, ◌∙◌, arith, inl, inr}
use Rattle.std.specs.Prelude.{All, AllPairs, Contains}
use Rattle.std.proofs.lemmas.List.{get_or-map, length-map}
use Rattle.std.proofs.lemmas.List.Elements.{All-map, All-weaker, All-contains}
use Rattle.rt_cells.specs.Rectangles.{Rectangle, IsNonempty, Holds, Covers}
use Rattle.rt_cells.proofs.Lists.{mapped, mapped_from}
use Rattle.rt_strips.specs.Placed.{Placed, strip_at, mask_of}
use Rattle.rt_strips.specs.Standing.{IsStrip}
use Rattle.rt_strips.specs.StripsOf.{AreStripsOf}
use Rattle.rt_strips.specs.OneMask.{AreDisjoint, HasWholeRuns, IsBefore, AreAllStrips}
use Rattle.rt_strips.specs.Untouched.{IsInPiece, IsTouched, AreUntouched}
use Rattle.rt_strips.specs.Tallies.{at_mask}
use Rattle.rt_strips.proofs.Family.{IsOfMask, box_of}
use Rattle.rt_strips.proofs.OneList.{run_of, unstacked_by}
use Rattle.rt_strips.proofs.PieceStrips.{untouched_is_piece, piece_is_untouched}

-- what holds of all pairs of a list holds of all pairs of its image
pairs_of_map : {X Y : Type 0} (f : X → Y) (R : Y → Y → Type 0) (xs : List X) → AllPairs (λ a b. R (f a) (f b)) xs → AllPairs R (map f xs)
pairs_of_map {X} {Y} f R [] pairs i j d h g = absurd (omega (arith, g))
pairs_of_map {X} {Y} f R (x ∷ xs) pairs i j d h g =
    let l : j < length (x ∷ xs) = subst (λ n. j < n) (length-map (x ∷ xs) f) g in
    subst₂ R (sym (get_or-map f (x ∷ xs) i x d (omega (arith, h, l)))) (sym (get_or-map f (x ∷ xs) j x d l)) (pairs i j x h l)

both_all : {X : Type 0} (P Q : X → Type 0) (xs : List X) → All P xs → All Q xs → All (λ x. P x × Q x) xs
both_all P Q xs p q k d h = (p k d h, q k d h)

-- a relation of numbers of a list whose elements all have a property
pairs_with : (P : ℕ → Type 0) (R S : ℕ → ℕ → Type 0) → ((i j : ℕ) → P i → P j → R i j → S i j) → (xs : List ℕ) → All P xs → AllPairs R xs → AllPairs S xs
pairs_with P R S step xs all pairs i j d h g = step _ _ (all i d (omega (arith, h, g))) (all j d g) (pairs i j d h g)

order_of : (p q : Placed) → p.mask ≡ q.mask
    → (p.mask < q.mask) ⊎ ((p.mask ≡ q.mask) × ((p.area.bottom <ℤ q.area.bottom) ⊎ ((p.area.bottom ≡ q.area.bottom) × (p.area.left <ℤ q.area.left))))
    → IsBefore p.area q.area
order_of p q e (inl h) = absurd (omega (arith, h, e))
order_of p q e (inr h) = h.1

below_itself : (i j : ℕ) → i < j → i ≡ j → ⊥
below_itself i j h e = omega (arith, h, e)

module _ (cells : ℕ → ℤ → ℤ → Type 0) (m : ℕ) (strips : List Placed) (are : AreStripsOf cells (suc m) strips) (of_one : (i : ℕ) → IsStrip strips i → mask_of strips i ≡ m)
    (numbers : List ℕ) (lone : AreUntouched strips (length strips) numbers) where
  on : (i : ℕ) → i < length strips → IsOfMask strips m i
  on i h = record { below = h; of_mask = of_one i (record { below_count = h }) }

  -- the piece of a number
  piece_at : (r : Rectangle) → Contains (map (box_of strips) numbers) r → (i : ℕ) × (i < length strips) × (box_of strips i ≡ r) × ¬ IsTouched strips i
  piece_at r c =
      let d = mapped_from (box_of strips) numbers r c in
      (d.0, All-contains (λ i. i < length strips) numbers d.0 lone.below d.1, d.2, All-contains (λ i. ¬ IsTouched strips i) numbers d.0 lone.untouched d.1)

  in_pieces : (x y : ℤ) → IsInPiece (cells m) x y ↔ Covers (map (box_of strips) numbers) x y
  in_pieces x y = (
    λ c.
        let t = piece_is_untouched cells (suc m) strips are m (omega arith) c.piece c.is_piece in
        (box_of strips t.0, mapped (box_of strips) numbers t.0 (lone.every t.0 t.1.below t.3), subst (λ (r : Rectangle). Holds r x y) (sym t.2) c.holds),
    λ c.
        let p = piece_at c.0 c.1 in
        record { piece = box_of strips p.0; is_piece = untouched_is_piece cells (suc m) strips are m (omega arith) p.0 (on p.0 p.1) p.3; holds = subst (λ (r : Rectangle). Holds r x y) (sym p.2) c.2 },
  )

  whole_row : (i : ℕ) → i < length strips → ¬ IsTouched strips i → HasWholeRuns (IsInPiece (cells m)) (box_of strips i)
  whole_row i h none y inside =
      let run = run_of cells (suc m) strips are m i (omega arith) (on i h) y inside in
      let piece = untouched_is_piece cells (suc m) strips are m (omega arith) i (on i h) none in
      record {
        nonempty = run.nonempty;
        inside = λ x k. record { piece = box_of strips i; is_piece = piece; holds = record { column = k; row = inside } };
        before = λ c. run.before (c.is_piece.inside _ y c.holds);
        after = λ c. run.after (c.is_piece.inside _ y c.holds);
      }

  -- they are all strips of the pieces that are rectangles
  pub pieces_strips : AreAllStrips (IsInPiece (cells m)) (map (box_of strips) numbers)
  pieces_strips = record {
    nonempty = All-map IsNonempty (box_of strips) numbers (All-weaker (λ i. i < length strips) (λ i. IsNonempty (box_of strips i)) (λ i h. are.nonempty i (record { below_count = h })) numbers lone.below);
    same_cells = in_pieces;
    once = pairs_of_map (box_of strips) AreDisjoint numbers
        (pairs_with (λ i. i < length strips) (λ i j. i < j) (λ i j. AreDisjoint (box_of strips i) (box_of strips j))
        (λ i j h g l x y u v. below_itself i j l
        (are.once i j (record { first = record { below_count = h }; second = record { below_count = g }; one_mask = (on i h).of_mask ∙ sym (on j g).of_mask }) x y u v))
        numbers lone.below lone.rising);
    whole_runs = All-map (HasWholeRuns (IsInPiece (cells m))) (box_of strips) numbers
        (All-weaker (λ i. (i < length strips) × ¬ IsTouched strips i) (λ i. HasWholeRuns (IsInPiece (cells m)) (box_of strips i)) (λ i h. whole_row i h.0 h.1) numbers
        (both_all (λ i. i < length strips) (λ i. ¬ IsTouched strips i) numbers lone.below lone.untouched));
    unstacked = λ a b c d adjoin left right.
        let p = piece_at a c in
        let q = piece_at b d in
        unstacked_by cells (suc m) strips are m p.0 q.0 (on p.0 p.1) (on q.0 q.1)
        (ap (λ (r : Rectangle). r.top) p.2 ∙ adjoin ∙ ap (λ (r : Rectangle). r.bottom) (sym q.2))
        (ap (λ (r : Rectangle). r.left) p.2 ∙ left ∙ ap (λ (r : Rectangle). r.left) (sym q.2))
        (ap (λ (r : Rectangle). r.right) p.2 ∙ right ∙ ap (λ (r : Rectangle). r.right) (sym q.2));
    in_order = pairs_of_map (box_of strips) IsBefore numbers
        (pairs_with (λ i. i < length strips) (λ i j. i < j) (λ i j. IsBefore (box_of strips i) (box_of strips j))
        (λ i j h g l. order_of (strip_at strips i) (strip_at strips j) ((on i h).of_mask ∙ sym (on j g).of_mask) (are.in_order i j l (record { below_count = g })))
        numbers lone.below lone.rising);
  }

  -- as strips of their mask
  pub pieces_on_mask : map (strip_at strips) numbers ≡ map (at_mask m) (map (box_of strips) numbers)
  pieces_on_mask = same_maps numbers lone.below
    where
      same_one : (x : ℕ) → x < length strips → strip_at strips x ≡ at_mask m (box_of strips x)
      same_one x h = λ i. record { mask = of_one x (record { below_count = h }) i; area = box_of strips x }

      same_maps : (xs : List ℕ) → All (λ i. i < length strips) xs → map (strip_at strips) xs ≡ map (at_mask m) (map (box_of strips) xs)
      same_maps [] all = refl
      same_maps (x ∷ xs) all = λ i. same_one x (all 0 x (omega arith)) i ∷ same_maps xs (λ k d h. all (suc k) d (omega (arith, h))) i
