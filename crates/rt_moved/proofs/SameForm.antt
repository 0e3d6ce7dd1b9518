-- Tables that speak of the same masks: their masks have the same roles and lower masks, and entries of one number name the same masks.
use Rattle.std.proofs.Common.{◌≡◌, ℕ, zero, suc, ◌<◌, ◌==◌, ◌&&◌, Bool, false, List, [], ◌∷◌, map, length, slice_get, option_map, Some, refl, sym, ap, ap₂, ◌∙◌, inl, inr, arith}
use Rattle.std.specs.List.{list_any}
use Rattle.std.specs.Option.{option_map_or}
use Rattle.std.proofs.lemmas.List.{length-map}
use Rattle.std.proofs.lemmas.Option.{slice_get_cases, slice_get_within, slice_get-map, same_Some}
use Rattle.rt_tech.specs.declared.table.Apart.{Apart as Distance}
use Rattle.rt_tech.specs.declared.table.Enclose.{Enclose as Enclosure}
use Rattle.rt_tech.specs.declared.table.Mask.{Mask}
use Rattle.rt_tech.specs.declared.table.Role.TheVariants.{Cut}
use Rattle.rt_tech.specs.declared.table.Tech.{Tech}
use Rattle.rt_tech.specs.Rules.{has_lower}
use Rattle.rt_tech.specs.Tech.{mask_at}
use Rattle.rt_tech.specs.Words.{same_role}
use Rattle.rt_rules.specs.Pairs.{enclose_at, apart_at, lower_if, lower_of}
use Rattle.rt_view.specs.Job.{SpeakOfTheSame}

same_first : {X : Type 0} (x y : X) (xs ys : List X) → x ∷ xs ≡ y ∷ ys → x ≡ y
same_first x y xs ys e = cc

same_rest : {X : Type 0} (x y : X) (xs ys : List X) → x ∷ xs ≡ y ∷ ys → xs ≡ ys
same_rest x y xs ys e = cc

none_some : {X : Type 0} (y : X) (ys : List X) → [] ≡ y ∷ ys → ⊥
none_some y ys e = cc

module _ {X : Type 0} where
  -- entries of one number have one value, where the lists of all values are one
  same_value : {Y : Type 0} (f : X → Y) (xs ys : List X) → map f xs ≡ map f ys → (n : ℕ) (x y : X) → slice_get xs n ≡ Some x → slice_get ys n ≡ Some y → f x ≡ f y
  same_value f xs ys e n x y at at' =
      same_Some (f x) (f y)
      (sym (slice_get-map f xs n ∙ ap (option_map f) at) ∙ (ap (λ zs. slice_get zs n) e ∙ (slice_get-map f ys n ∙ ap (option_map f) at')))

  same_length : {Y : Type 0} (f : X → Y) (xs ys : List X) → map f xs ≡ map f ys → length xs ≡ length ys
  same_length f xs ys e = sym (length-map xs f) ∙ (ap length e ∙ length-map ys f)

  -- a test of two values passes alike
  pub same_test : {Y Z : Type 0} (f : X → Y) (g : X → Z) (t : Y → Z → Bool) (xs ys : List X) → map f xs ≡ map f ys → map g xs ≡ map g ys → (n : ℕ)
      → option_map_or (λ x. t (f x) (g x)) (slice_get xs n) false ≡ option_map_or (λ x. t (f x) (g x)) (slice_get ys n) false
  same_test f g t [] [] d e n = refl
  same_test f g t [] (y ∷ ys) d e n = absurd (none_some (f y) (map f ys) d)
  same_test f g t (x ∷ xs) [] d e n = absurd (none_some (f x) (map f xs) (sym d))
  same_test f g t (x ∷ xs) (y ∷ ys) d e zero = ap₂ t (same_first (f x) (f y) (map f xs) (map f ys) d) (same_first (g x) (g y) (map g xs) (map g ys) e)
  same_test f g t (x ∷ xs) (y ∷ ys) d e (suc n) =
      same_test f g t xs ys (same_rest (f x) (f y) (map f xs) (map f ys) d) (same_rest (g x) (g y) (map g xs) (map g ys) e) n

  -- where one list has an entry of the number the other one has
  other_entry : (xs ys : List X) → length xs ≡ length ys → (n : ℕ) → n < length xs → (y : X) × (slice_get ys n ≡ Some y)
  other_entry xs ys same n below =
      elim (slice_get_cases ys n).1 [
        | inl (y, within, is, at) ↦ (y, is)
        | inr (past, none) ↦ absurd (omega (arith, below, past, same))
      ]

module _ (source target : Tech) (same : SpeakOfTheSame source target) where
  -- a mask has the same role in both
  pub source_mask : (m : ℕ) (mask : Mask) → mask_at target m ≡ Some mask → (own : Mask) × (mask_at source m ≡ Some own) × (own.role ≡ mask.role)
  source_mask m mask there =
      let (own, is) = other_entry target.masks source.masks (sym (same_length (λ x. x.role) source.masks target.masks same.roles)) m (slice_get_within target.masks m mask there) in
      (own, is, same_value (λ x. x.role) source.masks target.masks same.roles m own mask is there)

  -- cuts have the same lower masks
  pub same_lower : (m l : ℕ) → has_lower source.masks m l ≡ has_lower target.masks m l
  same_lower m l =
      same_test (λ mask. mask.role) (λ mask. mask.lowers) (λ r lowers. same_role r Cut && list_any (λ k. l == k) lowers) source.masks target.masks same.roles same.lowers m

  -- an enclosure of the source, and that of the target with its number, are of the same masks
  pub record IsEnclosure (q : ℕ) (e : Enclosure) : Type 0 where
    pub here : enclose_at source q ≡ Some e
    pub other : Enclosure
    pub there : enclose_at target q ≡ Some other
    pub cut : e.cut ≡ other.cut
    pub mask : e.mask ≡ other.mask
    pub lower : lower_of source e ≡ lower_of target other

  -- a distance of the source, and that of the target with its number, are of the same masks
  pub record IsDistance (q : ℕ) (a : Distance) : Type 0 where
    pub here : apart_at source q ≡ Some a
    pub other : Distance
    pub there : apart_at target q ≡ Some other
    pub first : a.a ≡ other.a
    pub lower : a.on ≡ other.on
    pub second : a.b ≡ other.b

  pub enclosure_of : (q : ℕ) (e : Enclosure) → enclose_at source q ≡ Some e → IsEnclosure q e
  enclosure_of q e there =
      let (other, is) = other_entry source.encloses target.encloses (same_length (λ x. x.cut) source.encloses target.encloses same.enclosed) q (slice_get_within source.encloses q e there) in
      let cut = same_value (λ x. x.cut) source.encloses target.encloses same.enclosed q e other there is in
      let mask = same_value (λ x. x.mask) source.encloses target.encloses same.enclosing q e other there is in
      record {
        here = there;
        other = other;
        there = is;
        cut = cut;
        mask = mask;
        lower = ap₂ lower_if (same_lower e.cut e.mask ∙ ap₂ (has_lower target.masks) cut mask) mask;
      }

  pub distance_of : (q : ℕ) (a : Distance) → apart_at source q ≡ Some a → IsDistance q a
  distance_of q a there =
      let (other, is) = other_entry source.aparts target.aparts (same_length (λ x. x.a) source.aparts target.aparts same.first_apart) q (slice_get_within source.aparts q a there) in
      record {
        here = there;
        other = other;
        there = is;
        first = same_value (λ x. x.a) source.aparts target.aparts same.first_apart q a other there is;
        lower = same_value (λ x. x.on) source.aparts target.aparts same.apart_on q a other there is;
        second = same_value (λ x. x.b) source.aparts target.aparts same.second_apart q a other there is;
      }

  -- each number of the target's is one of the source's
  pub source_enclosure : (q : ℕ) → q < length target.encloses → (e : Enclosure) × IsEnclosure q e
  source_enclosure q below =
      let (e, there) = other_entry target.encloses source.encloses (sym (same_length (λ x. x.cut) source.encloses target.encloses same.enclosed)) q below in
      (e, enclosure_of q e there)

  pub source_distance : (q : ℕ) → q < length target.aparts → (a : Distance) × IsDistance q a
  source_distance q below =
      let (a, there) = other_entry target.aparts source.aparts (sym (same_length (λ x. x.a) source.aparts target.aparts same.first_apart)) q below in
      (a, distance_of q a there)
