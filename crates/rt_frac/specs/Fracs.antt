-- Fractions in lowest terms, and what fits in 128 bits.
use Rattle.std.specs.Prelude.{◌≡◌, ℕ, ℤ, pos, negsuc, neg_ℤ, ◌+ℤ◌, ◌-ℤ◌, ◌*ℤ◌, ◌≤ℤ◌, ◌<ℤ◌, Bool, true, false}
use Rattle.std.specs.Int.{IsGcd, w128}
use Rattle.std.specs.Int.RustNames.{FitsSigned, unsigned_abs}
use Rattle.std.specs.Ordering.{MatchOrdering}
use Rattle.std.specs.declared.cmp.Ordering.{Ordering}
use Rattle.rt_frac.specs.declared.frac.Frac.{Frac}

-- the part below is above 0, and no number above 1 divides both parts
pub record IsFrac (f : Frac) : Type 0 where
  pub positive : pos 0 <ℤ f.den
  pub lowest : IsGcd (unsigned_abs f.num) (unsigned_abs f.den) 1

-- it's the fraction of two numbers in lowest terms: they are its parts times one whole number
pub record IsFracOf (num den : ℤ) (f : Frac) : Type 0 where
  pub frac : IsFrac f
  pub factor : ℤ
  pub num_is : num ≡ factor *ℤ f.num
  pub den_is : den ≡ factor *ℤ f.den

-- both parts fit
pub record HasFittingParts (f : Frac) : Type 0 where
  pub num : FitsSigned w128 f.num
  pub den : FitsSigned w128 f.den

-- the number below is 0, or a part of the fraction in lowest terms doesn't fit
pub data HasNoFrac (num den : ℤ) : Type 0 where
  over_zero : den ≡ pos 0 → HasNoFrac num den
  too_wide : (f : Frac) → IsFracOf num den f → (¬ HasFittingParts f) → HasNoFrac num den

-- the products across fit
pub record CrossFit (a b : Frac) : Type 0 where
  pub first : FitsSigned w128 (a.num *ℤ b.den)
  pub second : FitsSigned w128 (b.num *ℤ a.den)

-- they, their sum, and the product of the parts below fit
pub record SumFits (a b : Frac) : Type 0 where
  pub cross : CrossFit a b
  pub sum : FitsSigned w128 (a.num *ℤ b.den +ℤ b.num *ℤ a.den)
  pub den : FitsSigned w128 (a.den *ℤ b.den)

-- the products of the parts above and of the parts below fit
pub record ProductFits (a b : Frac) : Type 0 where
  pub num : FitsSigned w128 (a.num *ℤ b.num)
  pub den : FitsSigned w128 (a.den *ℤ b.den)

-- how two fractions compare: as their products across
abbrev pub IsOrderOf : Frac → Frac → Ordering → Type 0
IsOrderOf a b order =
    MatchOrdering order ((a.num *ℤ b.den) <ℤ (b.num *ℤ a.den)) (a.num *ℤ b.den ≡ b.num *ℤ a.den) ((b.num *ℤ a.den) <ℤ (a.num *ℤ b.den))

-- the greatest whole number that isn't above it
pub record IsFloor (f : Frac) (n : ℤ) : Type 0 where
  pub not_above : (f.den *ℤ n) ≤ℤ f.num
  pub next_above : f.num <ℤ (f.den *ℤ (n +ℤ pos 1))

-- the least whole number that isn't below it
pub record IsCeiling (f : Frac) (n : ℤ) : Type 0 where
  pub not_below : f.num ≤ℤ (f.den *ℤ n)
  pub one_below : (f.den *ℤ (n -ℤ pos 1)) <ℤ f.num

-- the number of that size, below 0 or not
abbrev pub signed_of : ℕ → Bool → ℤ
signed_of size true = neg_ℤ (pos size)
signed_of size false = pos size

-- exactly one of the two is below 0
abbrev pub have_signs_differing : ℤ → ℤ → Bool
have_signs_differing (pos a) (pos b) = false
have_signs_differing (pos a) (negsuc b) = true
have_signs_differing (negsuc a) (pos b) = true
have_signs_differing (negsuc a) (negsuc b) = false

-- two numbers, of which the second isn't 0, have one fraction in lowest terms at most
abbrev pub OneFraction : Type 0
OneFraction = (num den : ℤ) (f g : Frac) → (den ≡ pos 0 → ⊥) → IsFracOf num den f → IsFracOf num den g → f ≡ g
