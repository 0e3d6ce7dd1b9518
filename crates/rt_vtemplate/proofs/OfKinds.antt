-- Names of each kind as they are added.
use Rattle.std.proofs.Common.{◌≡◌, ℕ, ◌⊎◌, inl, inr, List, [], ◌∷◌, ◌++◌, refl, subst}
use Rattle.rt_rows.specs.declared.name.Name.{Name}
use Rattle.rt_rows.specs.declared.name.Name.TheVariants.{Lo, Hi, Zero, Top, Tall, On, Under, Gap}
use Rattle.rt_strips.specs.Placed.{Placed}
use Rattle.rt_strips.specs.Standing.{StandsOn}
use Rattle.rt_vtemplate.specs.Added.{AreAdded}
use Rattle.rt_vtemplate.specs.Kinds.{IsOfWhole, IsOfStrip, IsOfStanding, IsClearAbove, IsOfClear, IsOfPair}
use Rattle.rt_vtemplate.proofs.Added.{added_none, added_one, added_then, added_as}

pushed : (name : Name) (a b : List Name) → b ≡ a ++ name ∷ [] → AreAdded (λ other. name ≡ other) a b
pushed name a b e = rw e (added_one (λ other. name ≡ other) a name refl (λ other h. h))

pushed_two : (first second : Name) (a b c : List Name) → b ≡ a ++ first ∷ [] → c ≡ b ++ second ∷ [] → AreAdded (λ other. (first ≡ other) ⊎ (second ≡ other)) a c
pushed_two first second a b c e f =
    added_then (λ other. first ≡ other) (λ other. second ≡ other) (λ other. (first ≡ other) ⊎ (second ≡ other)) a b c (pushed first a b e) (pushed second b c f)
    (λ name h. inl h) (λ name h. inr h) (λ name h. h)

whole_from : (name : Name) → (Zero ≡ name) ⊎ (Top ≡ name) → IsOfWhole name
whole_from name (inl e) = subst IsOfWhole e IsOfWhole.zero
whole_from name (inr e) = subst IsOfWhole e IsOfWhole.top

whole_is : (name : Name) → IsOfWhole name → (Zero ≡ name) ⊎ (Top ≡ name)
whole_is name IsOfWhole.zero = inl refl
whole_is name IsOfWhole.top = inr refl

-- the names of the whole
pub whole_added : (a b c : List Name) → b ≡ a ++ Zero ∷ [] → c ≡ b ++ Top ∷ [] → AreAdded IsOfWhole a c
whole_added a b c e f = added_as (λ other. (Zero ≡ other) ⊎ (Top ≡ other)) IsOfWhole a c (pushed_two Zero Top a b c e f) whole_from whole_is

strip_from : (i : ℕ) (name : Name) → ((Lo i ≡ name) ⊎ (Hi i ≡ name)) ⊎ (Tall i ≡ name) → IsOfStrip i name
strip_from i name (inl (inl e)) = subst (IsOfStrip i) e IsOfStrip.lo
strip_from i name (inl (inr e)) = subst (IsOfStrip i) e IsOfStrip.hi
strip_from i name (inr e) = subst (IsOfStrip i) e IsOfStrip.tall

strip_is : (i : ℕ) (name : Name) → IsOfStrip i name → ((Lo i ≡ name) ⊎ (Hi i ≡ name)) ⊎ (Tall i ≡ name)
strip_is i name IsOfStrip.lo = inl (inl refl)
strip_is i name IsOfStrip.hi = inl (inr refl)
strip_is i name IsOfStrip.tall = inr refl

-- the names of a strip
pub strip_added : (i : ℕ) (a b c d : List Name) → b ≡ a ++ Lo i ∷ [] → c ≡ b ++ Hi i ∷ [] → d ≡ c ++ Tall i ∷ [] → AreAdded (IsOfStrip i) a d
strip_added i a b c d e f g =
    added_then (λ other. (Lo i ≡ other) ⊎ (Hi i ≡ other)) (λ other. Tall i ≡ other) (IsOfStrip i) a c d
    (pushed_two (Lo i) (Hi i) a b c e f) (pushed (Tall i) c d g)
    (λ name h. strip_from i name (inl h)) (λ name h. strip_from i name (inr h)) (strip_is i)

module _ (strips : List Placed) (i j : ℕ) where
  standing_is : (name : Name) → IsOfStanding strips i j name → (On i j ≡ name) ⊎ (Under i j ≡ name)
  standing_is name (IsOfStanding.on s) = inl refl
  standing_is name (IsOfStanding.under s) = inr refl

  standing_from : StandsOn strips i j → (name : Name) → (On i j ≡ name) ⊎ (Under i j ≡ name) → IsOfStanding strips i j name
  standing_from s name (inl e) = subst (IsOfStanding strips i j) e (IsOfStanding.on s)
  standing_from s name (inr e) = subst (IsOfStanding strips i j) e (IsOfStanding.under s)

  -- the names of two strips of which the second stands on the first
  pub standing_added : (a b c : List Name) → StandsOn strips i j → b ≡ a ++ On i j ∷ [] → c ≡ b ++ Under i j ∷ [] → AreAdded (IsOfStanding strips i j) a c
  standing_added a b c s e f =
      added_as (λ other. (On i j ≡ other) ⊎ (Under i j ≡ other)) (IsOfStanding strips i j) a c (pushed_two (On i j) (Under i j) a b c e f) (standing_from s) standing_is

  no_standing : (¬ StandsOn strips i j) → (name : Name) → IsOfStanding strips i j name → ⊥
  no_standing none name (IsOfStanding.on s) = none s
  no_standing none name (IsOfStanding.under s) = none s

  -- there are none where it doesn't
  pub standing_none : (a : List Name) → (¬ StandsOn strips i j) → AreAdded (IsOfStanding strips i j) a a
  standing_none a none = added_none (IsOfStanding strips i j) a (no_standing none)

  clear_is : (name : Name) → IsOfClear strips i j name → Gap i j ≡ name
  clear_is name (IsOfClear.gap s) = refl

  -- the name of a strip clear above another
  pub clear_added : (a b : List Name) → IsClearAbove strips i j → b ≡ a ++ Gap i j ∷ [] → AreAdded (IsOfClear strips i j) a b
  clear_added a b s e =
      added_as (λ other. Gap i j ≡ other) (IsOfClear strips i j) a b (pushed (Gap i j) a b e)
      (λ name h. subst (IsOfClear strips i j) h (IsOfClear.gap s)) clear_is

  no_clear : (¬ IsClearAbove strips i j) → (name : Name) → IsOfClear strips i j name → ⊥
  no_clear none name (IsOfClear.gap s) = none s

  -- there is none where it isn't
  pub clear_none : (a : List Name) → (¬ IsClearAbove strips i j) → AreAdded (IsOfClear strips i j) a a
  clear_none a none = added_none (IsOfClear strips i j) a (no_clear none)

-- the names of a pair
pub pair_added : (strips : List Placed) (i j : ℕ) (a b c : List Name) → AreAdded (IsOfClear strips i j) a b → AreAdded (IsOfClear strips j i) b c → AreAdded (IsOfPair strips i j) a c
pair_added strips i j a b c f g =
    added_then (IsOfClear strips i j) (IsOfClear strips j i) (IsOfPair strips i j) a b c f g (λ name h. inl h) (λ name h. inr h) (λ name h. h)
