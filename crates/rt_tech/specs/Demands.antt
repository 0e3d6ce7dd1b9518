-- What a valid table says of its cuts and of its kinds, in words.
use Rattle.std.specs.Prelude.{◌≡◌, ◌≢◌, ℕ, ℤ, ◌+ℤ◌, ◌-ℤ◌, ◌≤ℤ◌, ◌⊎◌, IsTrue, Bool, List, Option, Some, None, Contains, slice_get}
use Rattle.rt_cells.specs.Line.{between}
use Rattle.rt_tech.specs.declared.table.Apart.{Apart}
use Rattle.rt_tech.specs.declared.table.Enclose.{Enclose}
use Rattle.rt_tech.specs.declared.table.Kind.{Kind}
use Rattle.rt_tech.specs.declared.table.Mask.{Mask}
use Rattle.rt_tech.specs.declared.table.Near.{Near}
use Rattle.rt_tech.specs.declared.table.Role.{Role as MaskRole}
use Rattle.rt_tech.specs.declared.table.Role.TheVariants.{Gate, Active, Cut}
use Rattle.rt_tech.specs.declared.table.Tech.{Tech}
use Rattle.rt_tech.specs.Tech.{mask_at}

-- mask number n of the table is this one, and has the role
pub record IsMaskOf (tech : Tech) (n : ℕ) (mask : Mask) (role : MaskRole) : Type 0 where
  pub there : mask_at tech n ≡ Some mask
  pub role_is : mask.role ≡ role

-- mask number n of the table has the role
abbrev pub HasRoleAt : Tech → ℕ → MaskRole → Type 0
HasRoleAt tech n role = (mask : Mask) × IsMaskOf tech n mask role

-- the table has an enclosure of this cut in this mask
pub record IsEnclosedIn (tech : Tech) (cut mask : ℕ) : Type 0 where
  pub place : ℕ
  pub enclose : Enclose
  pub there : slice_get tech.encloses place ≡ Some enclose
  pub of_cut : enclose.cut ≡ cut
  pub in_mask : enclose.mask ≡ mask

-- the table has a distance of these masks
pub record AreKeptApart (tech : Tech) (a : ℕ) (on : Option ℕ) (b : ℕ) : Type 0 where
  pub place : ℕ
  pub apart : Apart
  pub there : slice_get tech.aparts place ≡ Some apart
  pub first : apart.a ≡ a
  pub lower : apart.on ≡ on
  pub second : apart.b ≡ b

-- each cut has an enclosure in its upper mask, and one in each of its lower masks
pub record CutsAreEnclosed (tech : Tech) : Type 0 where
  pub upper : (n : ℕ) (cut : Mask) → IsMaskOf tech n cut Cut → IsEnclosedIn tech n cut.upper
  pub lowers : (n : ℕ) (cut : Mask) → IsMaskOf tech n cut Cut → (lower : ℕ) → Contains cut.lowers lower → IsEnclosedIn tech n lower

-- a cut that stands on one of its lower masks is kept apart from each other one
abbrev pub LowersAreKeptApart : Tech → Type 0
LowersAreKeptApart tech = (n : ℕ) (cut : Mask) → IsMaskOf tech n cut Cut
    → (on other : ℕ) → Contains cut.lowers on → Contains cut.lowers other → on ≢ other → AreKeptApart tech n (Some on) other

-- a cut that may stand on the active and not on the gate is kept apart from the gate
abbrev pub CutsAreKeptFromGate : Tech → Type 0
CutsAreKeptFromGate tech = (n : ℕ) (cut : Mask) → IsMaskOf tech n cut Cut
    → (active : ℕ) → Contains cut.lowers active → HasRoleAt tech active Active
    → ((lower : ℕ) → Contains cut.lowers lower → HasRoleAt tech lower Gate → ⊥)
    → (gate : ℕ) × HasRoleAt tech gate Gate × AreKeptApart tech n None gate

-- the mask is one of the list
abbrev pub IsNear : List Near → ℕ → Type 0
IsNear nears mask = (near : Near) × Contains nears near × (near.mask ≡ mask)

-- some mask is inside of the one kind and outside of the other
pub record AreParted (a b : Kind) : Type 0 where
  pub mask : ℕ
  pub parts : (IsNear a.inside mask × IsNear b.outside mask) ⊎ (IsNear a.outside mask × IsNear b.inside mask)

-- any two kinds, at different places of the list, are parted by a mask
abbrev pub KindsAreParted : Tech → Type 0
KindsAreParted tech = (i j : ℕ) (a b : Kind) → i ≢ j → slice_get tech.kinds i ≡ Some a → slice_get tech.kinds j ≡ Some b → AreParted a b

-- the place p lies at most k places from the place q
pub record IsAround (k p q : ℤ) : Type 0 where
  pub from : (q -ℤ k) ≤ℤ p
  pub to : p ≤ℤ (q +ℤ k)

-- cells are of a kind, where it is known what each mask covers: grown by its number on all sides they lie in each
-- background of inside, and from each background of outside they have a gap of its number at least on some axis
pub record IsOfKind (covers : ℕ → ℤ → ℤ → Type 0) (cells : ℤ → ℤ → Type 0) (kind : Kind) : Type 0 where
  pub inside : (near : Near) → Contains kind.inside near → (x y u v : ℤ) → cells x y
      → IsAround near.number u x → IsAround near.number v y → covers near.mask u v
  pub outside : (near : Near) → Contains kind.outside near → (x y u v : ℤ) → cells x y → covers near.mask u v
      → (near.number ≤ℤ between x u) ⊎ (near.number ≤ℤ between y v)

-- no cells, but for none, are of two kinds
abbrev pub NoneIsOfTwoKinds : Tech → Type 0
NoneIsOfTwoKinds tech = (i j : ℕ) (a b : Kind) → i ≢ j → slice_get tech.kinds i ≡ Some a → slice_get tech.kinds j ≡ Some b
    → (covers : ℕ → ℤ → ℤ → Bool) (cells : ℤ → ℤ → Bool) (x y : ℤ) → IsTrue (cells x y)
    → IsOfKind (λ m u v. IsTrue (covers m u v)) (λ u v. IsTrue (cells u v)) a
    → IsOfKind (λ m u v. IsTrue (covers m u v)) (λ u v. IsTrue (cells u v)) b → ⊥
