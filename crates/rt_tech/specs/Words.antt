-- Tests on roles and on layer pairs.
use Rattle.std.specs.Prelude.{ℕ, ℤ, Bool, true, false, not, ◌&&◌, ◌||◌, ◌==◌, List, [], ◌∷◌, int_le, negsuc}
use Rattle.std.specs.List.{list_any}
use Rattle.rt_tech.specs.declared.table.Mask.{Mask}
use Rattle.rt_tech.specs.declared.table.Role.{Role}
use Rattle.rt_tech.specs.declared.table.Role.TheVariants.{Metal, Gate, Active, Cut, Background}

-- the two roles are the same
abbrev pub same_role : Role → Role → Bool
same_role Metal Metal = true
same_role Gate Gate = true
same_role Active Active = true
same_role Cut Cut = true
same_role Background Background = true
same_role _ _ = false

-- the two numbers are the same
abbrev pub same_number : ℤ → ℤ → Bool
same_number a b = int_le a b && int_le b a

-- the two pairs are the same
abbrev pub same_pair : ℤ × ℤ → ℤ × ℤ → Bool
same_pair a b = same_number a.0 b.0 && same_number a.1 b.1

-- an ignored pair stands for the pair. -1 as its second number stands for every number
abbrev pub stands_for : ℤ × ℤ → ℤ × ℤ → Bool
stands_for ignored pair = same_number ignored.0 pair.0 && (same_number ignored.1 pair.1 || same_number ignored.1 (negsuc 0))

-- one of the ignored pairs stands for the pair
abbrev pub is_ignored : List (ℤ × ℤ) → ℤ × ℤ → Bool
is_ignored ignored pair = list_any (λ p. stands_for p pair) ignored

-- one of the masks has the role
abbrev pub has_role : Role → List Mask → Bool
has_role role masks = list_any (λ mask. same_role mask.role role) masks

-- one of the masks is a gate exactly where one is an active
abbrev pub come_together : List Mask → Bool
come_together masks = (has_role Gate masks && has_role Active masks) || (not (has_role Gate masks) && not (has_role Active masks))

-- a role that one mask alone may have
abbrev pub is_single : Role → Bool
is_single Gate = true
is_single Active = true
is_single _ = false

-- a role that conducts by itself
abbrev pub may_have_text : Role → Bool
may_have_text Metal = true
may_have_text Gate = true
may_have_text _ = false

-- a role that a cut may stand on
abbrev pub may_be_lower : Role → Bool
may_be_lower Metal = true
may_be_lower Gate = true
may_be_lower Active = true
may_be_lower _ = false

-- the numbers are different
abbrev pub are_different : List ℕ → Bool
are_different [] = true
are_different (n ∷ ns) = not (list_any (λ m. n == m) ns) && are_different ns
