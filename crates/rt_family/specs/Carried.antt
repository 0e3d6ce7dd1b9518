-- A mask that is carried: how the strips of a source and their drawing have to agree so that the drawing keeps the rules.
use Rattle.std.specs.Prelude.{◌≡◌, ℕ, ℤ, pos, ◌+ℤ◌, ◌-ℤ◌, ◌≤ℤ◌, ◌<ℤ◌, ◌⊎◌, List, All}
use Rattle.std.specs.Int.{int_max, int_min}
use Rattle.rt_cells.specs.Line.{Within}
use Rattle.rt_cells.specs.Rectangles.{Rectangle, columns_between, rows_between}
use Rattle.rt_family.specs.Strips.{ShareRow, IsFamily, StandsOn, IsClimbed, IsChain}

-- drawn columns over the rows of the source
abbrev pub mixed : (ℕ → Rectangle) → (ℕ → Rectangle) → ℕ → Rectangle
mixed source drawn i = record { left = (drawn i).left; right = (drawn i).right; bottom = (source i).bottom; top = (source i).top }

-- at least so many columns or so many rows lie between the two
abbrev pub AreFar : ℤ → Rectangle → Rectangle → Type 0
AreFar space a b = (space ≤ℤ columns_between a b) ⊎ (space ≤ℤ rows_between a b)

-- numbers that a mask's rules may have: a width, and a space between two strips that is the same both ways
pub record AreNumbers (member : ℕ → Type 0) (width : ℤ) (space : ℕ → ℕ → ℤ) : Type 0 where
  pub some_width : pos 1 ≤ℤ width
  pub some_space : (i j : ℕ) → member i → member j → pos 1 ≤ℤ space i j
  pub even_space : (i j : ℕ) → member i → member j → space i j ≡ space j i

module _ (member : ℕ → Type 0) (source drawn : ℕ → Rectangle) where
  -- strip k is drawn over the column, and lies between the rows of strips i and j in the source
  pub record LiesBetween (i j : ℕ) (x : ℤ) (k : ℕ) : Type 0 where
    pub strip : member k
    pub column : Within (drawn k).left (drawn k).right x
    pub above : (source i).top ≤ℤ (source k).bottom
    pub below : (source k).top ≤ℤ (source j).bottom

  -- strip k is drawn over both columns
  pub record IsDrawnOver (x u : ℤ) (k : ℕ) : Type 0 where
    pub strip : member k
    pub first : Within (drawn k).left (drawn k).right x
    pub second : Within (drawn k).left (drawn k).right u

  -- the drawing keeps the width and, between two strips, the space
  pub record IsCarried (width : ℤ) (space : ℕ → ℕ → ℤ) : Type 0 where
    pub numbers : AreNumbers member width space
    -- the source's strips are a family
    pub family : IsFamily member source
    -- each strip is drawn as wide as the width, and has a row
    pub wide : (i : ℕ) → member i → ((drawn i).left +ℤ width) ≤ℤ (drawn i).right
    pub tall : (i : ℕ) → member i → (drawn i).bottom <ℤ (drawn i).top
    -- what stands in the source adjoins in the drawing, over columns of the width
    pub adjoin : (i j : ℕ) → StandsOn member source i j → (drawn i).top ≡ (drawn j).bottom
    pub share : (i j : ℕ) → StandsOn member source i j
        → width ≤ℤ (int_min (drawn i).right (drawn j).right -ℤ int_max (drawn i).left (drawn j).left)
    -- of two with a common row in the source, the right one is drawn the space to the right
    pub across : (i j : ℕ) → member i → member j → ShareRow (source i) (source j) → (source i).right ≤ℤ (source j).left
        → ((drawn i).right +ℤ space i j) ≤ℤ (drawn j).left
    -- of two one above the other, the upper one is climbed from the lower one, or they are drawn the space apart
    pub apart : (i j : ℕ) → member i → member j → (source i).top ≤ℤ (source j).bottom
        → IsClimbed member source i j ⊎ AreFar (space i j) (drawn i) (drawn j)
    -- of two one above the other that are drawn over one column, the upper one stands on the lower one, or is drawn the space above
    -- it, or a third strip lies between them at that column
    pub seen : (i j : ℕ) (x : ℤ) → member i → member j → (source i).top ≤ℤ (source j).bottom
        → Within (drawn i).left (drawn i).right x → Within (drawn j).left (drawn j).right x
        → StandsOn member source i j ⊎ ((((drawn i).top +ℤ space i j) ≤ℤ (drawn j).bottom) ⊎ ((k : ℕ) × LiesBetween i j x k))

  -- a chain of strips over one column, or over two adjacent ones, to which none can be added at either end
  pub record IsWholeChain (first last : ℕ) : Type 0 where
    pub x : ℤ
    pub u : ℤ
    pub one_or_two : (u ≡ x) ⊎ (u ≡ x +ℤ pos 1)
    pub chain : List ℕ
    pub stacked : IsChain member source first chain last
    pub over : All (IsDrawnOver x u) chain
    pub lowest : (k : ℕ) → IsDrawnOver x u k → ¬ StandsOn member source k first
    pub highest : (k : ℕ) → IsDrawnOver x u k → ¬ StandsOn member source last k

  -- whole chains are drawn as high as the width
  pub record IsCarriedInColumns (width : ℤ) : Type 0 where
    pub runs : (first last : ℕ) → IsWholeChain first last → ((drawn first).bottom +ℤ width) ≤ℤ (drawn last).top

-- strips of two masks, in a source and drawn: the number is kept between those that share no cell in the source, to the right where
-- they are side by side there and less than `near` rows apart, and upwards where one is above the other
module _ (first second : ℕ → Type 0) (source drawn : ℕ → Rectangle) where
  pub record IsKeptClear (near clear : ℤ) : Type 0 where
    pub right : (i j : ℕ) → first i → second j → (source i).right ≤ℤ (source j).left → rows_between (source i) (source j) <ℤ near
        → ((drawn i).right +ℤ clear) ≤ℤ (drawn j).left
    pub left : (i j : ℕ) → first i → second j → (source j).right ≤ℤ (source i).left → rows_between (source i) (source j) <ℤ near
        → ((drawn j).right +ℤ clear) ≤ℤ (drawn i).left
    pub above : (i j : ℕ) → first i → second j → (source i).top ≤ℤ (source j).bottom → columns_between (drawn i) (drawn j) <ℤ clear
        → ((drawn i).top +ℤ clear) ≤ℤ (drawn j).bottom
    pub below : (i j : ℕ) → first i → second j → (source j).top ≤ℤ (source i).bottom → columns_between (drawn i) (drawn j) <ℤ clear
        → ((drawn j).top +ℤ clear) ≤ℤ (drawn i).bottom
