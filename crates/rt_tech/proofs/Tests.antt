-- Tests on roles, masks and layer pairs, in words.
use Rattle.std.proofs.Common.{◌≡◌, true, Option, Some, None, ℕ, ℤ, ◌≤ℤ◌, refl, ap, arith}
use Rattle.std.proofs.lemmas.Bool.Decides.{nat_tests}
use Rattle.std.specs.Prelude.{int_le}
use Rattle.std.proofs.lemmas.Bool.{and_parts}
use Rattle.std.proofs.lemmas.Int.{ints}
use Rattle.rt_cells.proofs.Lines.{antisymmetric}
use Rattle.rt_tech.specs.declared.table.Role.{Role as MaskRole}
use Rattle.rt_tech.specs.declared.table.Role.TheVariants.{Metal, Gate, Active, Cut, Background}
use Rattle.rt_tech.specs.Rules.{same_on}
use Rattle.rt_tech.specs.Words.{same_role, same_number, same_pair}

-- a role is the same as itself, and as no other
pub role_self : (role : MaskRole) → same_role role role ≡ true
role_self Metal = refl
role_self Gate = refl
role_self Active = refl
role_self Cut = refl
role_self Background = refl

pub role_same : (a b : MaskRole) → same_role a b ≡ true → a ≡ b
role_same Metal Metal h = refl
role_same Gate Gate h = refl
role_same Active Active h = refl
role_same Cut Cut h = refl
role_same Background Background h = refl
role_same _ _ h = cc

-- both or neither, and then the same
pub same_on_is : (a b : Option ℕ) → same_on a b ≡ true → a ≡ b
same_on_is None None h = refl
same_on_is None (Some n) h = cc
same_on_is (Some m) None h = cc
same_on_is (Some m) (Some n) h = let same : m ≡ n = grind (arith, nat_tests) in ap (λ k. Some k) same

-- pairs that are told to be the same are one
pub pair_is : (p q : ℤ × ℤ) → same_pair p q ≡ true → p ≡ q
pair_is p q h =
    let k = and_parts (same_number p.0 q.0) (same_number p.1 q.1) h in
    let first = number_is p.0 q.0 k.0 in
    let second = number_is p.1 q.1 k.1 in
    λ i. (first i, second i)
  where
    at_most : (a b : ℤ) → int_le a b ≡ true → a ≤ℤ b
    at_most a b e = grind (arith, ints)

    number_is : (a b : ℤ) → same_number a b ≡ true → a ≡ b
    number_is a b e = let l = and_parts (int_le a b) (int_le b a) e in antisymmetric a b (at_most a b l.0) (at_most b a l.1)
