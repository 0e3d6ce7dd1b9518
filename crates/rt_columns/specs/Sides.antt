-- The sides of the strips in a drawing, as lists, and the bars that are made of them.
use Rattle.std.specs.Prelude.{◌≡◌, ◌≢◌, ℕ, ◌<◌, ◌≤◌, ℤ, pos, ◌<ℤ◌, ◌⊎◌, List, [], ◌∷◌, ◌++◌, length, slice_index_or}
use Rattle.rt_base.specs.Plane.{IsSide}
use Rattle.rt_sweep.specs.declared.bar.Bar.{Bar}
use Rattle.rt_sweep.specs.Slabs.{AreAbove}
use Rattle.rt_rows.specs.declared.name.Name.{Name}
use Rattle.rt_strips.specs.Placed.{Placed, mask_of, bottom_of, top_of}
use Rattle.rt_columns.specs.Adding.{Adds}
use Rattle.rt_columns.specs.Columns.{AreColumnBars, IsShownSomewhere}

-- the side of strip i
abbrev pub side_of : List ℤ → ℕ → ℤ
side_of sides i = slice_index_or sides i (pos 0)

-- so many strips have a left and a right side each, in that order, within the limits of a rectangle
pub record HaveSides (count : ℕ) (lefts rights : List ℤ) : Type 0 where
  pub all_lefts : count ≤ length lefts
  pub all_rights : count ≤ length rights
  pub apart : (i : ℕ) → i < count → side_of lefts i <ℤ side_of rights i
  pub from : (i : ℕ) → i < count → IsSide (side_of lefts i)
  pub to : (i : ℕ) → i < count → IsSide (side_of rights i)

-- the bar of strip i
pub record IsStripBar (strips : List Placed) (left right : ℕ → ℤ) (i : ℕ) (bar : Bar) : Type 0 where
  pub tag : bar.tag ≡ i
  pub bottom : bar.at.x1 ≡ bottom_of strips i
  pub top : bar.at.x2 ≡ top_of strips i
  pub from : bar.at.y1 ≡ left i
  pub to : bar.at.y2 ≡ right i

-- a bar of strip i is appended
pub record IsAppended (strips : List Placed) (left right : ℕ → ℤ) (i : ℕ) (before after : List Bar) : Type 0 where
  pub bar : Bar
  pub is : IsStripBar strips left right i bar
  pub appended : after ≡ before ++ bar ∷ []

-- that is done if the strip is of the mask
abbrev pub IsBarAdded : List Placed → (ℕ → ℤ) → (ℕ → ℤ) → ℕ → ℕ → List Bar → List Bar → Type 0
IsBarAdded strips left right mask i before after =
    ((mask_of strips i ≡ mask) × IsAppended strips left right i before after) ⊎ ((mask_of strips i ≢ mask) × (after ≡ before))

-- the names are added that bars show which all lie above a height: whichever drawing and mask they are of
pub record ShowsBars (strips : List Placed) (bars : List Bar) (height : ℤ) (before after : List Name) : Type 0 where
  pub shown : (left right : ℕ → ℤ) (m : ℕ) → AreColumnBars strips left right m bars → AreAbove bars height → Adds (IsShownSomewhere strips left right m) before after
