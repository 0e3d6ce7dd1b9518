-- Lines as lists of whole numbers: number 0 is the right side, number j + 1 is that of column j, and those beyond the list are 0.
use Rattle.std.specs.Prelude.{◌≡◌, ℕ, suc, ◌<◌, ◌≤◌, ◌^◌, ◌*◌, ℤ, pos, neg_ℤ, ◌+ℤ◌, ◌*ℤ◌, List, length, slice_index_or, unsigned_abs}
use Rattle.rt_rows.specs.Known.{IsSmall}
use Rattle.rt_solved.specs.Lines.{Divides}

abbrev pub number_of : List ℤ → ℕ → ℤ
number_of line s = slice_index_or line s (pos 0)

-- each number's magnitude is at most 10^18
pub record AreSmall (line : List ℤ) : Type 0 where
  pub each : (s : ℕ) → IsSmall (number_of line s)

-- what divides one multiple of each number divides the multiplier
pub record HaveNoFactor (numbers : ℕ → ℤ) : Type 0 where
  pub none : (d k : ℤ) → ((s : ℕ) → Divides d (k *ℤ numbers s)) → Divides d k

-- the number's magnitude is past 10^18
abbrev pub IsPast : ℤ → Type 0
IsPast number = 10 ^ 18 < unsigned_abs number

-- the numbers of a line, and as much of the pivot's line as takes column q away
abbrev pub combined_at : List ℤ → List ℤ → ℕ → ℕ → ℤ
combined_at line pivot q s = neg_ℤ (number_of pivot (suc q)) *ℤ number_of line s +ℤ number_of line (suc q) *ℤ number_of pivot s

-- the magnitude is at most 2 * 10^36
pub record IsWide (number : ℤ) : Type 0 where
  pub within : unsigned_abs number ≤ 2 * 10 ^ 36

pub record AreWide (values : List ℤ) : Type 0 where
  pub each : (s : ℕ) → IsWide (number_of values s)

-- the combined line
pub record AreCombined (line pivot : List ℤ) (q : ℕ) (values : List ℤ) : Type 0 where
  pub each : (s : ℕ) → number_of values s ≡ combined_at line pivot q s
  pub wide : AreWide values

-- it divides each of the numbers, and what divides one multiple of each divides that multiple of it
pub record IsCommon (numbers : ℕ → ℤ) (factor : ℕ) : Type 0 where
  pub positive : 0 < factor
  pub each : (s : ℕ) → Divides (pos factor) (numbers s)
  pub greatest : (d k : ℤ) → ((s : ℕ) → Divides d (k *ℤ numbers s)) → Divides d (k *ℤ pos factor)

-- the quotient by the factor is past the limit
pub record IsPastOver (factor : ℕ) (value : ℤ) : Type 0 where
  pub quotient : ℤ
  pub is : value ≡ pos factor *ℤ quotient
  pub past : IsPast quotient

-- the number is the quotient by the factor, and small
pub record IsSmallOver (factor : ℕ) (value quotient : ℤ) : Type 0 where
  pub is : value ≡ pos factor *ℤ quotient
  pub small : IsSmall quotient

-- one of the quotients is past the limit
pub record SomePast (factor : ℕ) (values : List ℤ) : Type 0 where
  pub s : ℕ
  pub there : s < length values
  pub past : IsPastOver factor (number_of values s)

-- the line has the quotients, and they are small
pub record AreQuotients (factor : ℕ) (values line : List ℤ) : Type 0 where
  pub one_each : length line ≡ length values
  pub each : (s : ℕ) → IsSmallOver factor (number_of values s) (number_of line s)

-- the first place of a line that is past the limit: columns come first, and the right side, which is number 0, comes last
pub record IsFirst (numbers : ℕ → ℤ) (s : ℕ) : Type 0 where
  pub past : IsPast (numbers s)
  pub before : (t : ℕ) → 0 < t → t < s → IsSmall (numbers t)
  pub last : s ≡ 0 → (t : ℕ) → 0 < t → IsSmall (numbers t)

-- the same of quotients by a factor
pub record IsFirstOver (factor : ℕ) (values : List ℤ) (s : ℕ) : Type 0 where
  pub there : s < length values
  pub past : IsPastOver factor (number_of values s)
  pub before : (t : ℕ) → 0 < t → t < s → (quotient : ℤ) × IsSmallOver factor (number_of values t) quotient
  pub last : s ≡ 0 → (t : ℕ) → 0 < t → (quotient : ℤ) × IsSmallOver factor (number_of values t) quotient

-- a line's numbers, and as much of the pivot's line as takes column q away, over their greatest common factor
pub record AreReduced (line pivot : List ℤ) (q : ℕ) (numbers : ℕ → ℤ) : Type 0 where
  pub factor : ℕ
  pub positive : 0 < factor
  pub each : (s : ℕ) → pos factor *ℤ numbers s ≡ combined_at line pivot q s
  pub reduced : HaveNoFactor numbers

-- the line after an exchange
pub record IsUpdated (line pivot : List ℤ) (q : ℕ) (new : List ℤ) : Type 0 where
  pub numbers : AreReduced line pivot q (number_of new)
  pub small : AreSmall new

-- the line after an exchange would be past the limit, first at that place
pub record PassesAt (line pivot : List ℤ) (q s : ℕ) : Type 0 where
  pub numbers : ℕ → ℤ
  pub are : AreReduced line pivot q numbers
  pub first : IsFirst numbers s
