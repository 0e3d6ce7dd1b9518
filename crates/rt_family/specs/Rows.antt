-- What rows ask of the strips of one mask, as inequalities between drawn ends under conditions on the source.
use Rattle.std.specs.Prelude.{ℕ, ℤ, pos, ◌+ℤ◌, ◌≤ℤ◌, ◌<ℤ◌, ◌⊎◌}
use Rattle.rt_cells.specs.Line.{Within}
use Rattle.rt_cells.specs.Rectangles.{Rectangle, columns_between}
use Rattle.rt_family.specs.Strips.{ShareRow, IsFamily, StandsOn, IsClimbed}
use Rattle.rt_family.specs.Carried.{AreNumbers, LiesBetween}

-- what the rows ask of the drawn columns of two strips that touch, a and b in the source, p and q drawn: the order of their left and of
-- their right ends is kept, and where both ends of b come last, it begins the width before a ends
pub record KeepsEnds (width : ℤ) (a b p q : Rectangle) : Type 0 where
  pub wide : (p.left +ℤ width) ≤ℤ p.right
  pub lefts : a.left ≤ℤ b.left → p.left ≤ℤ q.left
  pub rights : a.right ≤ℤ b.right → p.right ≤ℤ q.right
  pub shared : a.left ≤ℤ b.left → a.right ≤ℤ b.right → (q.left +ℤ width) ≤ℤ p.right

-- one of the two stands on the other
abbrev pub AreTouching : (ℕ → Type 0) → (ℕ → Rectangle) → ℕ → ℕ → Type 0
AreTouching member source i j = StandsOn member source i j ⊎ StandsOn member source j i

-- the rows for strips that may stand on one another
pub record MeetsRows (member : ℕ → Type 0) (source drawn : ℕ → Rectangle) (width : ℤ) (space : ℕ → ℕ → ℤ) : Type 0 where
  -- each strip is drawn as wide as the width, and has a row
  pub wide : (i : ℕ) → member i → ((drawn i).left +ℤ width) ≤ℤ (drawn i).right
  pub tall : (i : ℕ) → member i → ((drawn i).bottom +ℤ pos 1) ≤ℤ (drawn i).top
  -- the order of the ends of two that touch, and that they share the width
  pub ends : (i j : ℕ) → AreTouching member source i j → KeepsEnds width (source i) (source j) (drawn i) (drawn j)
  -- the upper one is drawn on the lower one, and the lower one under it
  pub on : (i j : ℕ) → StandsOn member source i j → (drawn i).top ≤ℤ (drawn j).bottom
  pub under : (i j : ℕ) → StandsOn member source i j → (drawn j).bottom ≤ℤ (drawn i).top
  -- the space across, between two with a common row that don't touch
  pub right : (i j : ℕ) → member i → member j → ¬ AreTouching member source i j → (source i).right ≤ℤ (source j).left → ShareRow (source i) (source j)
      → ((drawn i).right +ℤ space i j) ≤ℤ (drawn j).left
  -- the space upwards, between two that don't touch and are drawn near across, where the upper one isn't climbed from the lower one or
  -- is seen from it, at a column where no strip lies between them
  pub above : (i j : ℕ) → member i → member j → ¬ AreTouching member source i j → (source i).top ≤ℤ (source j).bottom
      → columns_between (drawn i) (drawn j) <ℤ space i j
      → (¬ IsClimbed member source i j) ⊎ ((x : ℤ) × Within (drawn i).left (drawn i).right x × Within (drawn j).left (drawn j).right x
      × ((k : ℕ) → ¬ LiesBetween member source drawn i j x k))
      → ((drawn i).top +ℤ space i j) ≤ℤ (drawn j).bottom

-- the rows for strips of which none stands on another
pub record IsUntouched (member : ℕ → Type 0) (source drawn : ℕ → Rectangle) (width : ℤ) (space : ℕ → ℕ → ℤ) : Type 0 where
  pub numbers : AreNumbers member width space
  pub family : IsFamily member source
  pub none_stands : (i j : ℕ) → ¬ StandsOn member source i j
  -- each strip is drawn as wide and as high as the width
  pub wide : (i : ℕ) → member i → ((drawn i).left +ℤ width) ≤ℤ (drawn i).right
  pub tall : (i : ℕ) → member i → ((drawn i).bottom +ℤ width) ≤ℤ (drawn i).top
  -- the space across, between two with a common row
  pub across : (i j : ℕ) → member i → member j → ShareRow (source i) (source j) → (source i).right ≤ℤ (source j).left
      → ((drawn i).right +ℤ space i j) ≤ℤ (drawn j).left
  -- the space across or upwards, between two of which one is above the other
  pub upwards : (i j : ℕ) → member i → member j → (source i).top ≤ℤ (source j).bottom
      → (space i j ≤ℤ columns_between (drawn i) (drawn j)) ⊎ (((drawn i).top +ℤ space i j) ≤ℤ (drawn j).bottom)
