-- The lower masks of cuts are told by the strips and by what the masks cover.
use Rattle.std.proofs.Common.{◌≡◌, ℕ, ◌<◌, ℤ, List, length, get_or, sym, ◌∙◌, arith, inl, inr}
use Rattle.std.proofs.lemmas.Bool.{cases_eq}
use Rattle.std.proofs.lemmas.Grind.{same_number_lists}
use Rattle.rt_cells.specs.Rectangles.{IsNonempty, Holds}
use Rattle.rt_cells.proofs.Lines.{first_place}
use Rattle.rt_rules.proofs.Alike.{AreAlike, alike_back}
use Rattle.rt_tech.specs.declared.table.Tech.{Tech}
use Rattle.rt_strips.specs.Placed.{Placed, strip_at, mask_of}
use Rattle.rt_strips.specs.Standing.{IsStrip}
use Rattle.rt_view.specs.Lowers.{AreLowersOf}
use Rattle.rt_view.specs.Shapes.{IsCut}
use Rattle.rt_shapes.proofs.Alike.{lowers_alike}

module _ (tech : Tech) (cells : ℕ → ℤ → ℤ → Type 0) (strips : List Placed) (full : (i : ℕ) → IsStrip strips i → IsNonempty (strip_at strips i).area) (a b : List ℕ)
    (of_a : AreLowersOf tech cells strips a) (of_b : AreLowersOf tech cells strips b) where
  -- a strip of a cut lies in one lower mask alone
  of_one_cut : (i : ℕ) → IsStrip strips i → IsCut tech (mask_of strips i) → get_or a i 0 ≡ get_or b i 0
  of_one_cut i strip cut =
      let some = full i strip in
      let r = (strip_at strips i).area in
      let h : Holds r r.left r.bottom = record { column = first_place _ _ some.across; row = first_place _ _ some.upwards } in
      let in_a = of_a.of_cuts i strip cut _ _ h in
      let in_b = of_b.of_cuts i strip cut _ _ h in
      in_b.alone (get_or a i 0) in_a.lower in_a.lies

  -- other strips have 0 in both lists; where two numbers differ, the strip is of no cut
  one_lower : (i : ℕ) → i < length a → get_or a i 0 ≡ get_or b i 0
  one_lower i h =
      let strip : IsStrip strips i = record { below_count = omega (arith, h, of_a.counted) } in
      elim (cases_eq (get_or a i 0) (get_or b i 0)) [
        | inl same ↦ same
        | inr other ↦
            let no_cut : ¬ IsCut tech (mask_of strips i) = λ cut. other (of_one_cut i strip cut) in
            of_a.of_others i strip no_cut ∙ sym (of_b.of_others i strip no_cut)
      ]

  one_list : a ≡ b
  one_list = same_number_lists a b (of_a.counted ∙ sym of_b.counted) one_lower

-- two lists of the lower masks of the same strips are one, where the masks cover the same cells
pub lowers_are_one_list : (tech : Tech) (P Q : ℕ → ℤ → ℤ → Type 0) → ((m : ℕ) → AreAlike (P m) (Q m)) → (strips : List Placed)
    → ((i : ℕ) → IsStrip strips i → IsNonempty (strip_at strips i).area) → (a b : List ℕ) → AreLowersOf tech P strips a → AreLowersOf tech Q strips b → a ≡ b
lowers_are_one_list tech P Q alike strips full a b of_a of_b =
    one_list tech P strips full a b of_a (lowers_alike tech Q P (λ m. alike_back (P m) (Q m) (alike m)) strips b of_b)
