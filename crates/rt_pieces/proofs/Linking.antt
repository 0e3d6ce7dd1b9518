-- Numbers of strips along links: pieces that are connected both ways, and what an end of links is.
use Rattle.std.proofs.Common.{◌≡◌, ℕ, ◌<◌, ◌≤◌, Bool, true, false, refl, List, [], ◌++◌, length, get_or, take, drop, ap, sum, All, subst, sym, ◌∙◌, arith}
use Rattle.std.proofs.lemmas.List.{drop_all, take_all, append-nil}
use Rattle.std.proofs.lemmas.List.Elements.{All-contains}
use Rattle.std.proofs.lemmas.Int.{ints}
use Rattle.rt_cells.specs.Rectangles.{Rectangle}
use Rattle.rt_strips.specs.declared.contact.Seam.{Seam}
use Rattle.rt_strips.specs.Placed.{Placed}
use Rattle.rt_strips.specs.Seams.{IsSeam, AreSeamsOf}
use Rattle.rt_family.specs.Strips.{StandsOn, AreConnected}
use Rattle.rt_family.specs.Strips.AreConnected.{same, up, down}
use Rattle.rt_pieces.specs.Members.{IsOf, box_of, AreOfOnePiece}
use Rattle.rt_pieces.specs.Numbering.{AreOwnNumbers, AreNumbersOfPieces, AreLinks, AreEnds, Stands, IsJoined, Lowered}

module _ (member : ℕ → Type 0) (box : ℕ → Rectangle) where
  -- what is connected is a strip, both ways
  pub connected_first : (i j : ℕ) → AreConnected member box i j → member i
  connected_first i j (same m) = m
  connected_first i j (up k _ c stands) = connected_first i k c
  connected_first i j (down k _ c stands) = connected_first i k c

  pub connected_last : (i j : ℕ) → AreConnected member box i j → member j
  connected_last i j (same m) = m
  connected_last i j (up k _ c stands) = stands.upper
  connected_last i j (down k _ c stands) = stands.lower

  -- one walk after another
  pub connected_both : (i j k : ℕ) → AreConnected member box i j → AreConnected member box j k → AreConnected member box i k
  connected_both i j k c (same m) = c
  connected_both i j k c (up l _ d stands) = up l k (connected_both i j l c d) stands
  connected_both i j k c (down l _ d stands) = down l k (connected_both i j l c d) stands

  -- a walk back
  pub connected_back : (i j : ℕ) → AreConnected member box i j → AreConnected member box j i
  connected_back i j (same m) = same m
  connected_back i j (up k _ c stands) = connected_both j k i (down j k (same stands.upper) stands) (connected_back i k c)
  connected_back i j (down k _ c stands) = connected_both j k i (up j k (same stands.lower) stands) (connected_back i k c)

  -- strips that stand on one another are connected
  pub standing_connected : (i j : ℕ) → StandsOn member box i j → AreConnected member box i j
  standing_connected i j stands = up i j (same stands.lower) stands

module _ (m : ℕ) (strips : List Placed) (links : List ℕ) (are : AreLinks m strips links) where
  -- the links lead on within a piece
  pub linked_on : (i j : ℕ) → AreOfOnePiece m strips i j → AreOfOnePiece m strips i (get_or links j 0)
  linked_on i j c =
      connected_both (IsOf m strips) (box_of strips) i j (get_or links j 0) c (are.linked j (connected_last (IsOf m strips) (box_of strips) i j c))

  -- the number that a strip has is that of a strip
  pub link_there : (i : ℕ) → i < length links → get_or links i 0 < length links
  link_there i h = omega (arith, are.counted, are.down i)

  -- strips that have one number are of one piece
  pub one_number_connected : (i j : ℕ) → IsOf m strips i → IsOf m strips j → get_or links i 0 ≡ get_or links j 0 → AreOfOnePiece m strips i j
  one_number_connected i j h k e =
      connected_both (IsOf m strips) (box_of strips) i (get_or links i 0) j (are.linked i h)
      (subst (λ t. AreOfOnePiece m strips t j) (sym e) (connected_back (IsOf m strips) (box_of strips) j (get_or links j 0) (are.linked j k)))

  -- where strips that stand on one another have one number, strips of one piece have one
  pub connected_one_number : ((i j : ℕ) → Stands m strips i j → get_or links i 0 ≡ get_or links j 0)
      → (i j : ℕ) → AreOfOnePiece m strips i j → get_or links i 0 ≡ get_or links j 0
  connected_one_number joined i j (same h) = refl
  connected_one_number joined i j (up k _ c stands) = connected_one_number joined i k c ∙ joined k j stands
  connected_one_number joined i j (down k _ c stands) = connected_one_number joined i k c ∙ sym (joined j k stands)

-- a strip that stands on another begins at a seam of it
pub standing_seam : (m : ℕ) (strips : List Placed) (i j : ℕ) → Stands m strips i j → IsSeam strips i j
standing_seam m strips i j stands = record {
  one_mask = record { first = stands.lower.strip; second = stands.upper.strip; one_mask = stands.lower.mask ∙ sym stands.upper.mask };
  adjoin = stands.adjoin;
  first = omega (arith, ints, stands.over);
  second = omega (arith, ints, stands.over);
}

-- numbers that are one at each seam tell pieces apart
pub pieces_numbered : (m : ℕ) (strips : List Placed) (seams : List Seam) (links : List ℕ) → AreSeamsOf strips seams → AreLinks m strips links
    → All (IsJoined m strips links) seams → AreNumbersOfPieces m strips links
pieces_numbered m strips seams links all are joined = record {
  counted = are.counted;
  same = λ i j h k. (
    one_number_connected m strips links are i j h k,
    connected_one_number m strips links are
        (λ p q stands. (All-contains (IsJoined m strips links) seams (record { below = p; above = q }) joined (all.every p q (standing_seam m strips p q stands))).joined stands)
        i j,
  );
}

-- the numbers of the places link each strip to itself
pub own_links : (m : ℕ) (strips : List Placed) (numbers : List ℕ) → AreOwnNumbers (length strips) numbers → AreLinks m strips numbers
own_links m strips numbers own = record {
  counted = own.counted;
  down = λ i h. omega (arith, own.own i h);
  linked = λ i h. subst (AreOfOnePiece m strips i) (sym (own.own i h.strip.below_count)) (same h);
}

module _ (m : ℕ) (strips : List Placed) (links : List ℕ) (seam : Seam) (stands : Stands m strips seam.below seam.above) (below above : ℕ)
    (from_below : AreOfOnePiece m strips seam.below below) (from_above : AreOfOnePiece m strips seam.above above)
    (low_below : below ≤ get_or links seam.below 0) (low_above : above ≤ get_or links seam.above 0) where
  over : AreOfOnePiece m strips seam.below seam.above
  over = standing_connected (IsOf m strips) (box_of strips) seam.below seam.above stands

  under : AreOfOnePiece m strips seam.above seam.below
  under = connected_back (IsOf m strips) (box_of strips) seam.below seam.above over

  above_to_below : AreOfOnePiece m strips seam.above below
  above_to_below = connected_both (IsOf m strips) (box_of strips) seam.above seam.below below under from_below

  below_to_above : AreOfOnePiece m strips seam.below above
  below_to_above = connected_both (IsOf m strips) (box_of strips) seam.below seam.above above over from_above

  -- the two ends of a seam, the lower one first
  pub ends_rising : below ≤ above → AreEnds m strips links seam (record { low = below; high = above })
  ends_rising h = record {
    high_there = (connected_last (IsOf m strips) (box_of strips) seam.above above from_above).strip;
    low_from_below = from_below;
    low_from_above = above_to_below;
    low_from_high = connected_both (IsOf m strips) (box_of strips) above seam.above below (connected_back (IsOf m strips) (box_of strips) seam.above above from_above) above_to_below;
    at_most_below = low_below;
    at_most_above = omega (arith, h, low_above);
  }

  pub ends_falling : above ≤ below → AreEnds m strips links seam (record { low = above; high = below })
  ends_falling h = record {
    high_there = (connected_last (IsOf m strips) (box_of strips) seam.below below from_below).strip;
    low_from_below = below_to_above;
    low_from_above = from_above;
    low_from_high = connected_both (IsOf m strips) (box_of strips) below seam.below above (connected_back (IsOf m strips) (box_of strips) seam.below below from_below) below_to_above;
    at_most_below = omega (arith, h, low_below);
    at_most_above = low_above;
  }

-- lowered numbers have no greater sum
pub lowered_sum : (changed : Bool) (before after : List ℕ) → Lowered changed before after → sum after ≤ sum before
lowered_sum true before after h = omega (arith, h)
lowered_sum false before after h = subst (λ t. sum t ≤ sum before) (sym h) (omega arith)

-- one seam more, at which a number changed
pub seam_changed : (p : Bool) (m : ℕ) (strips : List Placed) (a b c : List ℕ) → Lowered p a b → Lowered true b c → Lowered true a c
seam_changed p m strips a b c h k = omega (arith, k, lowered_sum p a b h)

-- the numbers of a list that was written back whole
pub written_back : (a xs : List ℕ) (n : ℕ) → length a ≡ n → length xs ≡ n → take n (a ++ drop (length a) xs) ≡ a
written_back a xs n e f =
    let rest : drop (length a) xs ≡ [] = drop_all (length a) xs (omega (arith, e, f)) in
    ap (λ t. take n (a ++ t)) rest ∙ (ap (take n) (append-nil a) ∙ take_all n a (omega (arith, e)))

-- a truth value isn't both
pub true_or_false : true ≡ false → ⊥
true_or_false e = cc
