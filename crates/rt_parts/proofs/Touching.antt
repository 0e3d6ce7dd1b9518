-- Parts of two strips of which one stands on the other: they adjoin where they have neighbouring cells.
use Rattle.std.proofs.Common.{◌≡◌, ℕ, ◌<◌, ◌≤◌, Bool, true, false, ℤ, pos, ◌+ℤ◌, ◌≤ℤ◌, ◌<ℤ◌, ◌⊎◌, refl, sym, subst, arith}
use Rattle.std.proofs.lemmas.Int.{ints}
use mathlib.Core.Logic.{inl, inr}
use Rattle.rt_cells.specs.Line.{Within}
use Rattle.rt_cells.specs.Cells.{ShareSide}
use Rattle.rt_cells.specs.Rectangles.{Rectangle, IsNonempty, Holds}
use Rattle.rt_family.specs.Strips.{StandsOn}
use Rattle.rt_family.proofs.Strips.{neighbours_touch}
use Rattle.rt_family.proofs.Joins.{turned_side}
use Rattle.rt_links.specs.Links.{AreLinked}
use Rattle.rt_links.specs.Links.AreLinked.{here, onward}
use Rattle.rt_parts.specs.Parts.{Part, Cuts, IsSlot, along, low_of, high_of, CutsLying, IsBeside, KeepsSides, Adjoin, IsInPart, IsCutting}
use Rattle.rt_parts.proofs.Inside.{part, part_close, side_close}

-- a truth value is one of two
pub truth : (b : Bool) → (b ≡ true) ⊎ (b ≡ false)
truth true = inl refl
truth false = inr refl

pub one_side : (i k : ℕ) → (i < k) ⊎ (k ≤ i)
one_side i k = grind arith

pub at_end : (k n : ℕ) → k ≤ n → ¬ (k < n) → k ≡ n
at_end k n h m = omega arith

pub none_below : (k : ℕ) → ¬ (0 < k) → k ≡ 0
none_below k h = omega arith

pub first_below : (k n : ℕ) → 0 < k → k ≤ n → 0 < n
first_below k n h m = omega arith

highest_row : (strip cut : Rectangle) (y : ℤ) → CutsLying strip cut → IsNonempty cut → strip.top ≤ℤ (y +ℤ pos 1) → y <ℤ cut.bottom → ⊥
highest_row strip cut y c n h l = omega (arith, ints, c, n)

lowest_row : (strip cut : Rectangle) (y : ℤ) → CutsLying strip cut → IsNonempty cut → y ≤ℤ strip.bottom → cut.top ≤ℤ y → ⊥
lowest_row strip cut y c n h l = omega (arith, ints, c, n)

past_ahead : (r : Rectangle) (x : ℤ) → IsNonempty r → r.right ≤ℤ x → x <ℤ r.left → ⊥
past_ahead r x n h l = omega (arith, ints, n)

right_of : (r strip : Rectangle) (x : ℤ) → r.right ≤ℤ strip.left → Within strip.left strip.right x → r.right ≤ℤ x
right_of r strip x h w = omega (arith, ints, w)

left_of : (r strip : Rectangle) (x : ℤ) → IsNonempty r → r.right ≤ℤ x → strip.right ≤ℤ r.left → Within strip.left strip.right x → ⊥
left_of r strip x n h l w = omega (arith, ints, w, n)

seam : (a z : Rectangle) (x y p q : ℤ) → a.top ≡ z.bottom → Holds a x y → Holds z p q → ShareSide x y p q → (p ≡ x) × (a.top ≤ℤ (y +ℤ pos 1)) × (q ≤ℤ z.bottom)
seam a z x y p q e h k (inl s) = absurd (omega (arith, ints, h.row, k.row, s.1))
seam a z x y p q e h k (inr (s, inl t)) = (s, omega (arith, ints, h.row, k.row), omega (arith, ints, h.row, k.row))
seam a z x y p q e h k (inr (s, inr t)) = absurd (omega (arith, ints, h.row, k.row))

module _ (member : ℕ → Type 0) (box channel : ℕ → Rectangle) (gate : ℤ → ℤ → Type 0) (stands : ℕ → ℕ → Type 0) (cuts : Cuts)
    (cutting : IsCutting member box channel gate stands cuts) where
  -- a column lies between the channels of a strip as a part of it says, if they are upright
  pub record IsAtColumn (u : Part) (x : ℤ) : Type 0 where
    pub column : Within (box u.strip).left (box u.strip).right x
    pub few : u.place ≤ cuts.count u.strip
    pub slot : cuts.lies u.strip ≡ false
        → IsSlot (λ j. (channel (cuts.number u.strip j)).left) (λ j. (channel (cuts.number u.strip j)).right) (cuts.count u.strip) u.place x

  -- the channels of a strip on their line, around a cell of a part
  pub lined : (u : Part) (x y : ℤ) → IsInPart member box channel gate stands cuts u x y → (b : Bool) → cuts.lies u.strip ≡ b
      → IsSlot (λ j. low_of b (channel (cuts.number u.strip j))) (λ j. high_of b (channel (cuts.number u.strip j))) (cuts.count u.strip) u.place (along b x y)
  lined u x y h b e =
      subst (λ t. IsSlot (λ j. low_of t (channel (cuts.number u.strip j))) (λ j. high_of t (channel (cuts.number u.strip j))) (cuts.count u.strip) u.place (along t x y)) e h.slot

  -- the column of a cell of a part
  pub at_column : (u : Part) (x y : ℤ) → IsInPart member box channel gate stands cuts u x y → IsAtColumn u x
  at_column u x y h = record { column = h.holds.cell.column; few = h.slot.few; slot = λ e. lined u x y h false e }

  -- in the highest row of a strip whose channels lie, a part is the last
  pub lying_last : (u : Part) (x y : ℤ) → IsInPart member box channel gate stands cuts u x y → (box u.strip).top ≤ℤ (y +ℤ pos 1) → cuts.lies u.strip ≡ true
      → u.place ≡ cuts.count u.strip
  lying_last u x y h top e =
      let m = h.holds.strip in
      at_end u.place (cuts.count u.strip) h.slot.few
      (λ l. highest_row (box u.strip) (channel (cuts.number u.strip u.place)) y (cutting.lying u.strip u.place m e l) (cutting.nonempty u.strip u.place m l) top
      ((lined u x y h true e).ahead u.place (omega arith) l))

  -- in the lowest row it is the first
  pub lying_first : (u : Part) (x y : ℤ) → IsInPart member box channel gate stands cuts u x y → y ≤ℤ (box u.strip).bottom → cuts.lies u.strip ≡ true → u.place ≡ 0
  lying_first u x y h bottom e =
      let m = h.holds.strip in
      none_below u.place
      (λ l. let n = first_below u.place (cuts.count u.strip) l h.slot.few in
      lowest_row (box u.strip) (channel (cuts.number u.strip 0)) y (cutting.lying u.strip 0 m e n) (cutting.nonempty u.strip 0 m n) bottom
      ((lined u x y h true e).past 0 l))

  -- a channel that ends up to the column is before the part
  behind : (u : Part) (x : ℤ) → member u.strip → IsAtColumn u x → cuts.lies u.strip ≡ false → (i : ℕ) → i < cuts.count u.strip
      → (channel (cuts.number u.strip i)).right ≤ℤ x → i < u.place
  behind u x m h e i l r = elim (one_side i u.place) [
    | inl b ↦ b
    | inr b ↦ absurd (past_ahead (channel (cuts.number u.strip i)) x (cutting.nonempty u.strip i m l) r ((h.slot e).ahead i b l))
  ]

  one_keeps : (u v : Part) (x : ℤ) → member u.strip → member v.strip → IsAtColumn u x → IsAtColumn v x → cuts.lies u.strip ≡ false → cuts.lies v.strip ≡ false
      → (i j : ℕ) → j < cuts.count v.strip → cuts.number u.strip i ≡ cuts.number v.strip j → i < u.place → j < v.place
  one_keeps u v x m n h k e f i j l same b =
      behind v x n k f j l (subst (λ c. (channel c).right ≤ℤ x) same ((h.slot e).past i b))

  sides : (u v : Part) (x : ℤ) → member u.strip → stands u.strip v.strip ⊎ stands v.strip u.strip → IsAtColumn u x → IsAtColumn v x → KeepsSides cuts u v
  sides u v x m near h k e i l alone =
      let c = channel (cuts.number u.strip i) in
      let at : IsBeside (cuts.before (cuts.number u.strip i) v.strip) (channel (cuts.number u.strip i)) (box v.strip) = cutting.beside u.strip v.strip i near e l alone in (
        λ b. elim (truth (cuts.before (cuts.number u.strip i) v.strip)) [
          | inl t ↦ t
          | inr f ↦ absurd (left_of (channel (cuts.number u.strip i)) (box v.strip) x (cutting.nonempty u.strip i m l) ((h.slot e).past i b) (at.second f) k.column)
        ],
        λ t. behind u x m h e i l (right_of (channel (cuts.number u.strip i)) (box v.strip) x (at.first t) k.column),
      )

  -- parts of strips that stand on each other adjoin where a column lies in both as they say
  pub adjoin_at : (u v : Part) (x : ℤ) → member u.strip → member v.strip → stands u.strip v.strip → IsAtColumn u x → IsAtColumn v x
      → (cuts.lies u.strip ≡ true → u.place ≡ cuts.count u.strip) → (cuts.lies v.strip ≡ true → v.place ≡ 0) → Adjoin stands cuts u v
  adjoin_at u v x m n s h k last first = record {
    stand = s;
    first_few = h.few;
    second_few = k.few;
    last = last;
    first = first;
    both = λ e f i j l o same. (one_keeps u v x m n h k e f i j o same, one_keeps v u x n m k h f e j i l (sym same));
    lower = sides u v x m (inl s) h k;
    upper = sides v u x n (inr s) k h;
  }

  standing_near : (u v : Part) (x y p q : ℤ) → StandsOn member box u.strip v.strip → IsInPart member box channel gate stands cuts u x y
      → IsInPart member box channel gate stands cuts v p q → ShareSide x y p q → Adjoin stands cuts u v
  standing_near u v x y p q s h k near =
      let t = seam (box u.strip) (box v.strip) x y p q s.adjoin h.holds.cell k.holds.cell near in
      adjoin_at u v x h.holds.strip k.holds.strip (cutting.stands_here u.strip v.strip s) (at_column u x y h) (subst (IsAtColumn v) t.0 (at_column v p q k))
      (lying_last u x y h t.1) (lying_first v p q k t.2)

  in_strip : (a z k l : ℕ) (x y p q : ℤ) → z ≡ a → IsInPart member box channel gate stands cuts (part a k) x y → IsInPart member box channel gate stands cuts (part z l) p q
      → ShareSide x y p q → AreLinked (Adjoin stands cuts) (part a k) (part z l)
  in_strip a z k l x y p q e h m near =
      let f : k ≡ l = part_close member box channel gate stands cuts cutting a k l x y p q h
      (subst (λ t. IsInPart member box channel gate stands cuts (part t l) p q) e m) (side_close (cuts.lies a) x y p q near) in
      subst (λ t. AreLinked (Adjoin stands cuts) (part a k) (part t l)) (sym e) (subst (λ n. AreLinked (Adjoin stands cuts) (part a k) (part a n)) f here)

  -- the parts of neighbouring cells are linked
  pub near_linked : (u v : Part) (x y p q : ℤ) → IsInPart member box channel gate stands cuts u x y → IsInPart member box channel gate stands cuts v p q
      → ShareSide x y p q → AreLinked (Adjoin stands cuts) u v
  near_linked u v x y p q h k near =
      elim (neighbours_touch member box cutting.family u.strip v.strip x y p q h.holds k.holds near) [
        | inl e ↦ in_strip u.strip v.strip u.place v.place x y p q (sym e) h k near
        | inr (inl s) ↦ onward u v here (inl (standing_near u v x y p q s h k near))
        | inr (inr s) ↦ onward u v here (inr (standing_near v u p q x y s k h (turned_side x y p q near)))
      ]
