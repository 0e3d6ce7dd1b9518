-- Strips of cuts in their upper and lower masks.
use Rattle.std.proofs.Common.{◌≡◌, ℕ, ◌<◌, ℤ, Bool, true, false, ◌&&◌, ◌==◌, List, Contains, Some, length, get_or, sym, subst, refl, arith, inl, inr}
use Rattle.std.specs.List.{list_any}
use Rattle.std.specs.Option.{option_map_or}
use Rattle.std.proofs.lemmas.Bool.{and_parts, eqb-true, eq-eqb}
use Rattle.std.proofs.lemmas.Bool.Decides.{nat_tests}
use Rattle.std.proofs.lemmas.List.Folds.{list_any_at}
use Rattle.std.proofs.lemmas.Map.Views.{Contains-from_any}
use Rattle.std.proofs.lemmas.Option.{slice_get_cases}
use Rattle.rt_cells.specs.Rectangles.{Rectangle, Holds}
use Rattle.rt_cells.proofs.Lines.{first_place}
use Rattle.rt_cells.proofs.Rectangles.{joined_inside}
use Rattle.rt_rules.specs.Pieces.{LiesIn}
use Rattle.rt_rules.proofs.Pieces.{stays_in}
use Rattle.rt_tech.specs.declared.table.Mask.{Mask}
use Rattle.rt_tech.specs.declared.table.Role.TheVariants.{Cut}
use Rattle.rt_tech.specs.declared.table.Tech.{Tech}
use Rattle.rt_tech.specs.Tech.{mask_at}
use Rattle.rt_tech.specs.Rules.{is_upper_of, is_lower_of}
use Rattle.rt_tech.specs.Words.{same_role}
use Rattle.rt_tech.proofs.Tests.{role_self, role_same}
use Rattle.rt_strips.specs.Placed.{Placed, mask_of}
use Rattle.rt_strips.specs.Standing.{IsStrip}
use Rattle.rt_strips.specs.StripsOf.{AreStrips}
use Rattle.rt_pieces.specs.Members.{IsOf, box_of}
use Rattle.rt_view.specs.Shapes.{IsCut, IsUpper, IsLower, LiesInOne, CutsLieInUpper, CutsLieInOneLower, ShowsBareCut, ShowsLooseCut}
use Rattle.rt_view.specs.Lowers.{AreLowersOf}
use Rattle.rt_shapes.specs.Cutting.{cells_by, CutsStandAlone}
use Rattle.rt_shapes.specs.Sides.{CoversStrip, LacksUpper, StandsInOne, IsLowerAt, LacksLower, AllHaveUpper, AllHaveLower}
use Rattle.rt_shapes.proofs.Cutting.{cut_piece, strip_around}

never : false ≡ true → ⊥
never e = cc

-- what a mask with an upper or a lower mask is
pub upper_cut : (tech : Tech) (m u : ℕ) → IsUpper tech m u → IsCut tech m
upper_cut tech m u h =
    elim (slice_get_cases tech.masks m).1 [
      | inl (mask, below, is, at) ↦
          let test : is_upper_of mask u ≡ true = subst (λ o. option_map_or (λ k. is_upper_of k u) o false ≡ true) is h in
          record { mask = mask; there = is; of_role = role_same mask.role Cut (and_parts _ _ test).0 }
      | inr (past, none) ↦ absurd (never (subst (λ o. option_map_or (λ k. is_upper_of k u) o false ≡ true) none h))
    ]

pub lower_cut : (tech : Tech) (m l : ℕ) → IsLower tech m l → IsCut tech m
lower_cut tech m l h =
    elim (slice_get_cases tech.masks m).1 [
      | inl (mask, below, is, at) ↦
          let test : is_lower_of mask l ≡ true = subst (λ o. option_map_or (λ k. is_lower_of k l) o false ≡ true) is h in
          record { mask = mask; there = is; of_role = role_same mask.role Cut (and_parts _ _ test).0 }
      | inr (past, none) ↦ absurd (never (subst (λ o. option_map_or (λ k. is_lower_of k l) o false ≡ true) none h))
    ]

both_true : (a b : Bool) → a ≡ true → b ≡ true → (a && b) ≡ true
both_true a b e f = grind (arith, e, f)

module _ (tech : Tech) (m : ℕ) (mask : Mask) (there : mask_at tech m ≡ Some mask) (cut : mask.role ≡ Cut) where
  is_role : same_role mask.role Cut ≡ true
  is_role = subst (λ r. same_role r Cut ≡ true) (sym cut) (role_self Cut)

  -- the upper mask is the one that the table tells
  pub upper_told : IsUpper tech m mask.upper
  upper_told =
      subst (λ o. option_map_or (λ k. is_upper_of k mask.upper) o false ≡ true) (sym there)
      (both_true (same_role mask.role Cut) (mask.upper == mask.upper) is_role (eq-eqb mask.upper mask.upper refl))

  pub upper_is : (u : ℕ) → IsUpper tech m u → mask.upper ≡ u
  upper_is u h =
      let test : is_upper_of mask u ≡ true = subst (λ o. option_map_or (λ k. is_upper_of k u) o false ≡ true) there h in
      eqb-true mask.upper u (and_parts _ _ test).1

  -- the lower masks are those of the list
  pub lower_listed : (l : ℕ) → IsLower tech m l → Contains mask.lowers l
  lower_listed l h =
      let test : is_lower_of mask l ≡ true = subst (λ o. option_map_or (λ k. is_lower_of k l) o false ≡ true) there h in
      Contains-from_any {eq = λ x y. x == y} (λ x y e. grind (arith, nat_tests, e)) l mask.lowers (and_parts _ _ test).1

  pub lower_told : (l : ℕ) → Contains mask.lowers l → IsLower tech m l
  lower_told l c =
      subst (λ o. option_map_or (λ k. is_lower_of k l) o false ≡ true) (sym there)
      (both_true (same_role mask.role Cut) (list_any (λ n. l == n) mask.lowers) is_role
      (list_any_at (λ n. l == n) mask.lowers c.0 l c.1 (eq-eqb l (get_or mask.lowers c.0 l) (sym c.2))))

-- the first so many strips have their lower masks
pub record AreLowersBefore (tech : Tech) (strips : List Placed) (n : ℕ) (lowers : List ℕ) : Type 0 where
  pub counted : length lowers ≡ n
  pub each : (k : ℕ) → k < n → IsLowerAt tech strips k (get_or lowers k 0)

module _ (tech : Tech) (strips : List Placed) (are : AreStrips strips) (alone : CutsStandAlone tech strips) where
  some_cell : (i : ℕ) → IsStrip strips i → Holds (box_of strips i) (box_of strips i).left (box_of strips i).bottom
  some_cell i strip =
      let full = are.strips_are.nonempty i strip in
      record { column = first_place _ _ full.across; row = first_place _ _ full.upwards }

  module _ (m : ℕ) (cut : IsCut tech m) (i : ℕ) (of : IsOf m strips i) (x y : ℤ) (h : Holds (box_of strips i) x y) where
    held : cells_by strips m x y
    held = record { number = i; holds = record { strip = of; cell = h } }

    -- the piece of a strip lies in a mask where the mask covers the strip
    pub lies_whole : (l : ℕ) → CoversStrip strips i l → LiesIn (cells_by strips m) (cells_by strips l) x y
    lies_whole l whole = record {
      cell = held;
      lies = λ u v walk. whole.covered u v (stays_in (cells_by strips m) (box_of strips i) (cut_piece tech strips are alone m cut i of) x y u v h walk);
    }

    pub whole_lies : (l : ℕ) → LiesIn (cells_by strips m) (cells_by strips l) x y → CoversStrip strips i l
    whole_lies l lies = record {
      covered = λ u v k. lies.lies u v (joined_inside (cells_by strips m) (box_of strips i) (cut_piece tech strips are alone m cut i of).inside x y u v h k);
    }

  -- of a strip of a cut the cells say the same as the strip
  lower_of_cell : (i l : ℕ) → IsStrip strips i → (x y : ℤ) → Holds (box_of strips i) x y → StandsInOne tech strips i l
      → LiesInOne tech (cells_by strips) (mask_of strips i) l x y
  lower_of_cell i l strip x y h stands =
      let m = mask_of strips i in
      let cut = lower_cut tech m l stands.lower in
      let of : IsOf m strips i = record { strip = strip; mask = refl } in
      record {
        lower = stands.lower;
        lies = lies_whole m cut i of x y h l stands.whole;
        alone = λ k lower lies. stands.alone k lower (whole_lies m cut i of x y h k lies);
      }

  strip_of_cell : (i l : ℕ) → IsStrip strips i → (x y : ℤ) → Holds (box_of strips i) x y → LiesInOne tech (cells_by strips) (mask_of strips i) l x y
      → StandsInOne tech strips i l
  strip_of_cell i l strip x y h lies =
      let m = mask_of strips i in
      let cut = lower_cut tech m l lies.lower in
      let of : IsOf m strips i = record { strip = strip; mask = refl } in
      record {
        lower = lies.lower;
        whole = whole_lies m cut i of x y h l lies.lies;
        alone = λ k lower whole. lies.alone k lower (lies_whole m cut i of x y h k whole);
      }

  -- every cut piece lies in its upper mask where its strip does
  pub cuts_in_upper : AllHaveUpper tech strips → CutsLieInUpper tech (cells_by strips)
  cuts_in_upper all = record {
    covered = λ m u upper x y c.
        let of = c.holds.strip in
        lies_whole m (upper_cut tech m u upper) c.number of x y c.holds.cell u
        ((all.each c.number of.strip).covered u (subst (λ t. IsUpper tech t u) (sym of.mask) upper));
  }

  pub bare_cut_shown : (i : ℕ) → LacksUpper tech strips i → (r : Rectangle) → r ≡ box_of strips i → ShowsBareCut tech (cells_by strips) r
  bare_cut_shown i lacks r is =
      let m = mask_of strips i in
      let cut = upper_cut tech m lacks.upper lacks.is_upper in
      let of : IsOf m strips i = record { strip = lacks.strip; mask = refl } in
      let h = some_cell i lacks.strip in
      subst (ShowsBareCut tech (cells_by strips)) (sym is) (record {
        cut = m;
        upper = lacks.upper;
        x = (box_of strips i).left;
        y = (box_of strips i).bottom;
        is_upper = lacks.is_upper;
        cell = record { number = i; holds = record { strip = of; cell = h } };
        bare = λ lies. lacks.bare (whole_lies m cut i of _ _ h lacks.upper lies);
        around = strip_around tech strips are alone m cut i _ _ of h;
      })

  -- every cut piece lies in exactly one lower mask where its strip does
  pub cuts_in_one_lower : (lowers : List ℕ) → AllHaveLower tech strips lowers → CutsLieInOneLower tech (cells_by strips)
  cuts_in_one_lower lowers all = record {
    standing = λ m cut x y c.
        let i = c.number in
        let of = c.holds.strip in
        let l = get_or lowers i 0 in
        let stands = (all.each i of.strip).of_cut (subst (IsCut tech) (sym of.mask) cut) in
        (l, subst (λ t. LiesInOne tech (cells_by strips) t l x y) of.mask (lower_of_cell i l of.strip x y c.holds.cell stands));
  }

  pub loose_cut_shown : (i : ℕ) → LacksLower tech strips i → (r : Rectangle) → r ≡ box_of strips i → ShowsLooseCut tech (cells_by strips) r
  loose_cut_shown i lacks r is =
      let m = mask_of strips i in
      let of : IsOf m strips i = record { strip = lacks.strip; mask = refl } in
      let h = some_cell i lacks.strip in
      subst (ShowsLooseCut tech (cells_by strips)) (sym is) (record {
        cut = m;
        x = (box_of strips i).left;
        y = (box_of strips i).bottom;
        is_cut = lacks.cut;
        cell = record { number = i; holds = record { strip = of; cell = h } };
        loose = λ has. lacks.none has.0 (strip_of_cell i has.0 lacks.strip _ _ h has.1);
        around = strip_around tech strips are alone m lacks.cut i _ _ of h;
      })

  -- the lower masks of the strips are those of their cells
  pub lowers_told : (lowers : List ℕ) → AllHaveLower tech strips lowers → AreLowersOf tech (cells_by strips) strips lowers
  lowers_told lowers all = record {
    counted = all.counted;
    of_cuts = λ i strip cut x y h. lower_of_cell i (get_or lowers i 0) strip x y h ((all.each i strip).of_cut cut);
    of_others = λ i strip other. (all.each i strip).of_other other;
  }
