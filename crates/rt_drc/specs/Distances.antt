-- Counted strips that are near strips of another mask.
use Rattle.std.specs.Prelude.{ℕ, ℤ, ◌⊎◌, List}
use Rattle.rt_rules.specs.Cuts.{ApartBreach}
use Rattle.rt_strips.specs.Placed.{Placed}
use Rattle.rt_drc.specs.declared.counting.Counted.{Counted}
use Rattle.rt_drc.specs.declared.reach.Reach.{Reach}
use Rattle.rt_drc.specs.declared.rows.Witness.{Witness}
use Rattle.rt_pieces.specs.Members.{IsOf, box_of}
use Rattle.rt_drc.specs.Counting.{IsCounted}
use Rattle.rt_drc.specs.Nearness.{AreNear}

-- strip i counts, or is of the other mask
pub record TakesPart (counted : Counted) (other : ℕ) (strips : List Placed) (i : ℕ) : Type 0 where
  pub either : IsCounted counted strips i ⊎ IsOf other strips i

-- strip i counts, strip j is of the other mask, and they are near
pub record AreNearAcross (counted : Counted) (other : ℕ) (reach : Reach) (strips : List Placed) (i j : ℕ) : Type 0 where
  pub first : IsCounted counted strips i
  pub second : IsOf other strips j
  pub near : AreNear reach (box_of strips i) (box_of strips j)

-- the same, or with the two exchanged
pub record AreNearPair (counted : Counted) (other : ℕ) (reach : Reach) (strips : List Placed) (i j : ℕ) : Type 0 where
  pub either : AreNearAcross counted other reach strips i j ⊎ AreNearAcross counted other reach strips j i

-- no counted strip is near a strip of the other mask
pub record AreFarAcross (counted : Counted) (other : ℕ) (reach : Reach) (strips : List Placed) : Type 0 where
  pub far : (i j : ℕ) → ¬ AreNearAcross counted other reach strips i j

-- the witness shows that the cells of the one and of the other are too near
abbrev pub ShowsApart : ℤ → (cells others : ℤ → ℤ → Type 0) → Witness → Type 0
ShowsApart number cells others witness = ApartBreach number cells others witness.p.x witness.p.y witness.q.x witness.q.y witness.found
