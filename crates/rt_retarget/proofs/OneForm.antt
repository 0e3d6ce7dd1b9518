-- Two valid tables of one form speak of the same masks: a form has names where a table has numbers, and no two masks of a table have one name.
use Rattle.std.proofs.Common.{◌≡◌, ℕ, ◌<◌, Bool, true, false, List, [], ◌∷◌, All, Option, Some, None, IfSome, map, get_or, slice_get, option_map, if◌then◌else◌, refl, sym, ap, ap₂, ◌∙◌, subst, inl, inr, arith}
use Rattle.std.proofs.lemmas.Bool.{cases_order}
use Rattle.std.proofs.lemmas.List.{map-id}
use Rattle.std.proofs.lemmas.List.Elements.{All-head, All-tail}
use Rattle.std.proofs.lemmas.Option.{slice_get_cases, slice_get-get_or, slice_get-map, same_Some}
use Rattle.rt_rules.specs.Pairs.{IsMeasuredEnclose, IsMeasuredApart, HasSidesThere}
use Rattle.rt_rules.proofs.Measured.{pairs_measured, apart_named}
use Rattle.rt_tables.specs.Forms.{name_at, upper_at, mask_form, enclose_form, apart_form, HaveSameForm}
use Rattle.rt_tables.proofs.Alike.{same_mask_count}
use Rattle.rt_tech.specs.declared.table.Mask.{Mask}
use Rattle.rt_tech.specs.declared.table.Role.{Role as MaskRole}
use Rattle.rt_tech.specs.declared.table.Role.TheVariants.{Metal, Gate, Active, Cut, Background}
use Rattle.rt_tech.specs.declared.table.Tech.{Tech}
use Rattle.rt_tech.specs.Tech.{mask_count, HasSidesOf, IsValidTech}
use Rattle.rt_tech.specs.Words.{same_role}
use Rattle.rt_view.specs.Job.{SpeakOfTheSame}

-- lists of which the same is told entry by entry have the same values
same_values : {X F Z : Type 0} (f g : X → F) (h : X → Z) (P Q : X → Type 0) → ((x y : X) → P x → Q y → f x ≡ g y → h x ≡ h y)
    → (xs ys : List X) → map f xs ≡ map g ys → All P xs → All Q ys → map h xs ≡ map h ys
same_values f g h P Q told [] [] e all others = refl
same_values f g h P Q told [] (y ∷ ys) e all others = absurd cc
same_values f g h P Q told (x ∷ xs) [] e all others = absurd cc
same_values f g h P Q told (x ∷ xs) (y ∷ ys) e all others =
    let first : f x ≡ g y = cc in
    let rest : map f xs ≡ map g ys = cc in
    ap₂ (λ z zs. z ∷ zs) (told x y (All-head P x xs all) (All-head Q y ys others) first)
    (same_values f g h P Q told xs ys rest (All-tail P x xs all) (All-tail Q y ys others))

module _ (tech : Tech) (valid : IsValidTech tech) where
  clash : (d : Mask) (i j : ℕ) → i < j → i < mask_count tech → j < mask_count tech → name_at tech i ≡ name_at tech j → ⊥
  clash d i j less h k e =
      (valid.apart i j d less k).names
      (same_Some _ _ (sym (ap (option_map (λ mask. mask.name)) (slice_get-get_or tech.masks i d h)) ∙ (e ∙ ap (option_map (λ mask. mask.name)) (slice_get-get_or tech.masks j d k))))

  -- one name is that of one mask
  named_once : (a b : ℕ) → a < mask_count tech → b < mask_count tech → name_at tech a ≡ name_at tech b → a ≡ b
  named_once a b h k e =
      elim (slice_get_cases tech.masks a).1 [
        | inl (mask, below, is, at) ↦ elim (cases_order a b) [
          | inl same ↦ same
          | inr (inl less) ↦ absurd (clash mask a b less h k e)
          | inr (inr more) ↦ absurd (clash mask b a more k h (sym e))
        ]
        | inr (past, none) ↦ absurd (omega (arith, past, h))
      ]

-- what is asked of the masks above and below a mask, and that they are there
record HasItsSides (tech : Tech) (mask : Mask) : Type 0 where
  of_role : HasSidesOf tech.masks mask mask.role
  there : HasSidesThere tech mask

all_sides : (tech : Tech) → IsValidTech tech → All (HasItsSides tech) tech.masks
all_sides tech valid i d h = record { of_role = valid.together.sides i d h; there = (pairs_measured tech valid).sides i d h }

-- the lower masks that distances name are there
lowers_there : (tech : Tech) → IsValidTech tech → All (λ a. IfSome a.on (λ l. l < mask_count tech)) tech.aparts
lowers_there tech valid i d h = (apart_named tech (pairs_measured tech valid) i (get_or tech.aparts i d) (slice_get-get_or tech.aparts i d h)).1

-- a mask that is no cut has 0 for its upper mask
no_upper : (tech : Tech) (mask : Mask) (role : MaskRole) → HasSidesOf tech.masks mask role → same_role role Cut ≡ false → mask.upper ≡ 0
no_upper tech mask Metal sides other = sides.upper
no_upper tech mask Gate sides other = sides.upper
no_upper tech mask Active sides other = sides.upper
no_upper tech mask Background sides other = sides.upper
no_upper tech mask Cut sides other = absurd cc

module _ (s t : Tech) (valid : IsValidTech s) (other : IsValidTech t) (form : HaveSameForm s t) where
  masks_told : map (mask_form s) s.masks ≡ map (mask_form t) t.masks
  masks_told = ap (λ f. f.masks) form.same

  same_names : map (λ mask. mask.name) s.masks ≡ map (λ mask. mask.name) t.masks
  same_names =
      same_values (mask_form s) (mask_form t) (λ mask. mask.name) (HasItsSides s) (HasItsSides t) (λ x y h k e. ap (λ f. f.name) e)
      s.masks t.masks masks_told (all_sides s valid) (all_sides t other)

  -- the name of a mask is that of its number in both
  name_of_both : (b : ℕ) → name_at t b ≡ name_at s b
  name_of_both b = sym (slice_get-map (λ mask. mask.name) t.masks b) ∙ (ap (λ names. slice_get names b) (sym same_names) ∙ slice_get-map (λ mask. mask.name) s.masks b)

  one_number : (a b : ℕ) → a < mask_count s → b < mask_count t → name_at s a ≡ name_at t b → a ≡ b
  one_number a b h k e = named_once s valid a b h (subst (λ n. b < n) (sym (same_mask_count s t form)) k) (e ∙ name_of_both b)

  one_lower : (o p : Option ℕ) → IfSome o (λ n. n < mask_count s) → IfSome p (λ n. n < mask_count t) → option_map (name_at s) o ≡ option_map (name_at t) p → o ≡ p
  one_lower None None h k e = refl
  one_lower None (Some b) h k e = absurd cc
  one_lower (Some a) None h k e = absurd cc
  one_lower (Some a) (Some b) h k e = ap Some (one_number a b h k (same_Some _ _ e))

  one_upper : (x y : Mask) → HasItsSides s x → HasItsSides t y → mask_form s x ≡ mask_form t y → x.upper ≡ y.upper
  one_upper x y h k e = by_test (same_role x.role Cut) refl
    where
      role : x.role ≡ y.role
      role = ap (λ f. f.role) e

      by_test : (b : Bool) → same_role x.role Cut ≡ b → x.upper ≡ y.upper
      by_test true cut =
          let told : upper_at s x ≡ upper_at t y = ap (λ f. f.upper) e in
          let here : upper_at s x ≡ name_at s x.upper = ap (λ b. if b then name_at s x.upper else None) cut in
          let there : upper_at t y ≡ name_at t y.upper = ap (λ b. if b then name_at t y.upper else None) (ap (λ r. same_role r Cut) (sym role) ∙ cut) in
          one_number x.upper y.upper h.there.upper k.there.upper (sym here ∙ (told ∙ there))
      by_test false other_role =
          no_upper s x x.role h.of_role other_role ∙ sym (no_upper t y y.role k.of_role (ap (λ r. same_role r Cut) (sym role) ∙ other_role))

  same_list : (ns ms : List ℕ) → map (name_at s) ns ≡ map (name_at t) ms → All (λ n. n < mask_count s) ns → All (λ n. n < mask_count t) ms → ns ≡ ms
  same_list ns ms e all others =
      sym (map-id ns) ∙ (same_values (name_at s) (name_at t) (λ n. n) (λ n. n < mask_count s) (λ n. n < mask_count t) one_number ns ms e all others ∙ map-id ms)

  -- they speak of the same masks
  pub speak_of_the_same : SpeakOfTheSame s t
  speak_of_the_same =
      let pairs = pairs_measured s valid in
      let pairs' = pairs_measured t other in
      let encloses = ap (λ f. f.encloses) form.same in
      let aparts = ap (λ f. f.aparts) form.same in
      record {
        roles = same_values (mask_form s) (mask_form t) (λ mask. mask.role) (HasItsSides s) (HasItsSides t) (λ x y h k e. ap (λ f. f.role) e)
            s.masks t.masks masks_told (all_sides s valid) (all_sides t other);
        uppers = same_values (mask_form s) (mask_form t) (λ mask. mask.upper) (HasItsSides s) (HasItsSides t) one_upper
            s.masks t.masks masks_told (all_sides s valid) (all_sides t other);
        lowers = same_values (mask_form s) (mask_form t) (λ mask. mask.lowers) (HasItsSides s) (HasItsSides t)
            (λ x y h k e. same_list x.lowers y.lowers (ap (λ f. f.lowers) e) h.there.lowers k.there.lowers)
            s.masks t.masks masks_told (all_sides s valid) (all_sides t other);
        enclosed = same_values (enclose_form s) (enclose_form t) (λ x. x.cut) (IsMeasuredEnclose s) (IsMeasuredEnclose t)
            (λ x y h k e. one_number x.cut y.cut h.cut k.cut (ap (λ f. f.cut) e)) s.encloses t.encloses encloses pairs.encloses pairs'.encloses;
        enclosing = same_values (enclose_form s) (enclose_form t) (λ x. x.mask) (IsMeasuredEnclose s) (IsMeasuredEnclose t)
            (λ x y h k e. one_number x.mask y.mask h.mask k.mask (ap (λ f. f.mask) e)) s.encloses t.encloses encloses pairs.encloses pairs'.encloses;
        first_apart = same_values (apart_form s) (apart_form t) (λ x. x.a) (IsMeasuredApart s) (IsMeasuredApart t)
            (λ x y h k e. one_number x.a y.a h.first k.first (ap (λ f. f.a) e)) s.aparts t.aparts aparts pairs.aparts pairs'.aparts;
        second_apart = same_values (apart_form s) (apart_form t) (λ x. x.b) (IsMeasuredApart s) (IsMeasuredApart t)
            (λ x y h k e. one_number x.b y.b h.second k.second (ap (λ f. f.b) e)) s.aparts t.aparts aparts pairs.aparts pairs'.aparts;
        apart_on = same_values (apart_form s) (apart_form t) (λ x. x.on) (λ x. IfSome x.on (λ l. l < mask_count s)) (λ x. IfSome x.on (λ l. l < mask_count t))
            (λ x y h k e. one_lower x.on y.on h k (ap (λ f. f.on) e)) s.aparts t.aparts aparts (lowers_there s valid) (lowers_there t other);
      }
