-- The strips that an enclosure or a distance counts cover those pieces of its cut that it speaks of.
use Rattle.std.proofs.Common.{◌≡◌, ℕ, ℤ, pos, ◌*ℤ◌, Bool, true, false, ◌||◌, List, ◌∷◌, map, get_or, Option, Some, None, IfSome, MatchOption, refl, sym, ap, subst, ◌∙◌}
use Rattle.rt_cells.specs.Cells.Joined.{here}
use Rattle.rt_cells.specs.Rectangles.{Holds}
use Rattle.rt_rules.specs.Cuts.{KeepsSize, KeepsEnclosed, KeepsApart}
use Rattle.rt_rules.specs.Pairs.{enclose_at, apart_at, enclose_number, apart_number, lower_if, lower_of, IsMeasuredEnclose, IsMeasuredApart, HasMeasuredPairs}
use Rattle.rt_rules.specs.Pieces.{LiesIn}
use Rattle.rt_rules.specs.Rules.{part_of, KeepsEnclose, KeepsDistance, ShowsEnclose, ShowsDistance}
use Rattle.rt_rules.proofs.Alike.{AreAlike, size_alike, size_breach_alike, enclosed_alike, enclosure_breach_alike, apart_alike, apart_breach_alike}
use Rattle.rt_rules.proofs.Measured.{entry_of}
use Rattle.rt_pieces.specs.Members.{IsOf, box_of, held_by}
use Rattle.rt_pieces.proofs.Families.{held_alike}
use Rattle.rt_shapes.proofs.UpperLower.{lower_cut}
use Rattle.rt_strips.specs.declared.listing.Strip.{Strip}
use Rattle.rt_strips.specs.Placed.{placed}
use Rattle.rt_tech.specs.declared.rules.RuleName.{RuleName}
use Rattle.rt_tech.specs.declared.rules.RuleName.TheVariants.{Enclose, Apart}
use Rattle.rt_tech.specs.declared.rules.RuleError.{RuleError}
use Rattle.rt_tech.specs.declared.table.Apart.{Apart as Distance}
use Rattle.rt_tech.specs.declared.table.Enclose.{Enclose as Enclosure}
use Rattle.rt_tech.specs.declared.table.Tech.{Tech}
use Rattle.rt_tech.specs.Rules.{has_upper, has_lower}
use Rattle.rt_view.specs.Shapes.{IsCut, IsLower, LiesInOne}
use Rattle.rt_drc.specs.declared.counting.Counted.{Counted}
use Rattle.rt_drc.specs.declared.rows.Witness.{Witness}
use Rattle.rt_drc.specs.Counting.{counted_cells, LieIn}
use Rattle.rt_drc.specs.Distances.{ShowsApart}
use Rattle.rt_drc.specs.Enclosing.{ShowsEnclosure}
use Rattle.rt_drc.specs.InOrder.{IsRefusal, IsBrokenBy, ShowsEnclosed, ShowsDistant}
use Rattle.rt_drc.specs.Rows.{cells_of}
use Rattle.rt_drc.specs.SoundCuts.{CutsAreSound}
use Rattle.rt_drc.specs.Squares.{ShowsSize}
use Rattle.rt_drc.proofs.InOrder.{first_refused}
use Rattle.rt_drc.proofs.Listed.{one_times}

-- what a search decides of the counted strips it decides of what the rule counts
module _ (number : ℤ) (P Q R S : ℤ → ℤ → Type 0) (alike : AreAlike P Q) (others : AreAlike R S) where
  pub enclosure_decided : (found : Option Witness) → MatchOption found (KeepsEnclosed number P R) (ShowsEnclosure number P R)
      → MatchOption found (KeepsEnclosed (pos 1 *ℤ number) Q S) (ShowsEnclosure (pos 1 *ℤ number) Q S)
  enclosure_decided None kept = subst (λ z. KeepsEnclosed z Q S) (sym (one_times number)) (enclosed_alike P Q R S alike others number kept)
  enclosure_decided (Some w) shown =
      subst (λ z. ShowsEnclosure z Q S w) (sym (one_times number)) (enclosure_breach_alike P Q R S alike others number w.p.x w.p.y w.q.x w.q.y w.found shown)

  pub distance_decided : (found : Option Witness) → MatchOption found (KeepsApart number P R) (ShowsApart number P R)
      → MatchOption found (KeepsApart (pos 1 *ℤ number) Q S) (ShowsApart (pos 1 *ℤ number) Q S)
  distance_decided None kept = subst (λ z. KeepsApart z Q S) (sym (one_times number)) (apart_alike P Q R S alike others number kept)
  distance_decided (Some w) shown =
      subst (λ z. ShowsApart z Q S w) (sym (one_times number)) (apart_breach_alike P Q R S alike others number w.p.x w.p.y w.q.x w.q.y w.found shown)

module _ (tech : Tech) (strips : List Strip) (lowers : List ℕ) (cuts : CutsAreSound tech strips lowers) where
  -- a strip of a cut lies in the mask of its number, and in no other lower mask
  in_one : (m l : ℕ) → IsLower tech m l → (i : ℕ) → IsOf m (map placed strips) i → (x y : ℤ) → Holds (box_of (map placed strips) i) x y
      → LiesInOne tech (cells_of strips) m (get_or lowers i 0) x y
  in_one m l lower i of x y h =
      subst (λ k. LiesInOne tech (cells_of strips) k (get_or lowers i 0) x y) of.mask
      (cuts.in_lower.of_cuts i of.strip (subst (IsCut tech) (sym of.mask) (lower_cut tech m l lower)) x y h)

  -- the counted strips cover what a rule counts of the mask
  pub counted_alike : (m : ℕ) (on : Option ℕ) → IfSome on (IsLower tech m)
      → (counted : Counted) → counted.mask ≡ m → counted.lower ≡ on → counted.lowers.now ≡ lowers
      → AreAlike (counted_cells counted strips) (part_of (cells_of strips) m on)
  counted_alike m None is counted mask on numbers =
      let own = held_alike m (map placed strips) in
      record {
        to = λ x y c. own.to x y (record { number = c.number; holds = record { strip = subst (λ k. IsOf k (map placed strips) c.number) mask c.holds.strip.strip; cell = c.holds.cell } });
        from = λ x y c.
            let d = own.from x y c in
            record {
              number = d.number;
              holds = record { strip = record { strip = subst (λ k. IsOf k (map placed strips) d.number) (sym mask) d.holds.strip; on = subst (λ o. IfSome o (λ l. get_or counted.lowers.now d.number 0 ≡ l)) (sym on) (record {}) }; cell = d.holds.cell };
            };
      }
  counted_alike m (Some l) lower counted mask on numbers =
      let own = held_alike m (map placed strips) in
      record {
        to = λ x y c.
            let of = subst (λ k. IsOf k (map placed strips) c.number) mask c.holds.strip.strip in
            let same : get_or counted.lowers.now c.number 0 ≡ l = subst (λ o. IfSome o (λ l. get_or counted.lowers.now c.number 0 ≡ l)) on c.holds.strip.on in
            subst (λ k. LiesIn (cells_of strips m) (cells_of strips k) x y) (ap (λ ns. get_or ns c.number 0) (sym numbers) ∙ same) (in_one m l lower c.number of x y c.holds.cell).lies;
        from = λ x y c.
            let d = own.from x y c.cell in
            let one = in_one m l lower d.number d.holds.strip x y d.holds.cell in
            record {
              number = d.number;
              holds = record {
                strip = record {
                  strip = subst (λ k. IsOf k (map placed strips) d.number) (sym mask) d.holds.strip;
                  on = subst (λ o. IfSome o (λ l. get_or counted.lowers.now d.number 0 ≡ l)) (sym on) (ap (λ ns. get_or ns d.number 0) numbers ∙ sym (one.alone l lower c));
                };
                cell = d.holds.cell;
              };
            };
      }

  -- what an enclosure counts lies in its mask, which is the upper mask or the lower one of the strips that it counts
  pub counted_lie : (cut m : ℕ) (lower : Bool) → has_lower tech.masks cut m ≡ lower → (has_upper tech.masks cut m || has_lower tech.masks cut m) ≡ true
      → (counted : Counted) → counted.mask ≡ cut → counted.lower ≡ lower_if lower m → counted.lowers.now ≡ lowers → LieIn counted m strips
  counted_lie cut m true is beside counted mask on numbers = record {
    lies = λ x y c.
        let part = (counted_alike cut (Some m) is counted mask on numbers).to x y c in
        (held_alike m (map placed strips)).from x y (part.lies x y (here part.cell));
  }
  counted_lie cut m false is beside counted mask on numbers = record {
    lies = λ x y c.
        (held_alike m (map placed strips)).from x y
        (cuts.in_upper cut m (upper_alone (has_upper tech.masks cut m) (has_lower tech.masks cut m) is beside) x y ((counted_alike cut None (record {}) counted mask on numbers).to x y c));
  }
    where
      upper_alone : (b c : Bool) → c ≡ false → (b || c) ≡ true → b ≡ true
      upper_alone true c e h = refl
      upper_alone false c e h = sym e ∙ h

  module _ (pairs : HasMeasuredPairs tech) (n : ℕ) (counted : Counted) (numbers : counted.lowers.now ≡ lowers) where
    -- what the search for a breach of an enclosure decides is so of the enclosure
    module _ (enclose : Enclosure) (at : enclose_at tech n ≡ Some enclose) (mask : counted.mask ≡ enclose.cut) (lower : counted.lower ≡ lower_of tech enclose) where
      pub enclose_lies : LieIn counted enclose.mask strips
      enclose_lies =
          counted_lie enclose.cut enclose.mask (has_lower tech.masks enclose.cut enclose.mask) refl (entry_of (IsMeasuredEnclose tech) tech.encloses n enclose pairs.encloses at).beside
          counted mask lower numbers

      pub enclose_decided : (found : Option Witness)
          → MatchOption found (KeepsEnclosed enclose.number (counted_cells counted strips) (held_by enclose.mask strips)) (ShowsEnclosure enclose.number (counted_cells counted strips) (held_by enclose.mask strips))
          → MatchOption found (KeepsEnclose (pos 1) tech (cells_of strips) (Some enclose)) (ShowsEnclosed tech (cells_of strips) enclose)
      enclose_decided =
          enclosure_decided enclose.number (counted_cells counted strips) (part_of (cells_of strips) enclose.cut (lower_of tech enclose)) (held_by enclose.mask strips) (cells_of strips enclose.mask)
          (counted_alike enclose.cut (lower_of tech enclose) (is_lower (has_lower tech.masks enclose.cut enclose.mask) refl) counted mask lower numbers)
          (held_alike enclose.mask (map placed strips))
        where
          is_lower : (b : Bool) → has_lower tech.masks enclose.cut enclose.mask ≡ b → IfSome (lower_if b enclose.mask) (IsLower tech enclose.cut)
          is_lower true e = e
          is_lower false e = record {}

    -- and of a distance
    module _ (apart : Distance) (at : apart_at tech n ≡ Some apart) (mask : counted.mask ≡ apart.a) (lower : counted.lower ≡ apart.on) where
      pub distance_is_decided : (found : Option Witness)
          → MatchOption found (KeepsApart apart.number (counted_cells counted strips) (held_by apart.b strips)) (ShowsApart apart.number (counted_cells counted strips) (held_by apart.b strips))
          → MatchOption found (KeepsDistance (pos 1) tech (cells_of strips) (Some apart)) (ShowsDistant tech (cells_of strips) apart)
      distance_is_decided =
          distance_decided apart.number (counted_cells counted strips) (part_of (cells_of strips) apart.a apart.on) (held_by apart.b strips) (cells_of strips apart.b)
          (counted_alike apart.a apart.on (entry_of (IsMeasuredApart tech) tech.aparts n apart pairs.aparts at).lower counted mask lower numbers) (held_alike apart.b (map placed strips))

-- what a search decides of the strips of a cut it decides of what the cut covers
pub size_decided : (m : ℕ) (strips : List Strip) (size : ℤ) (found : Option Witness) → MatchOption found (KeepsSize size (held_by m strips)) (ShowsSize size (held_by m strips))
    → MatchOption found (KeepsSize size (cells_of strips m)) (ShowsSize size (cells_of strips m))
size_decided m strips size None kept = size_alike (held_by m strips) (cells_of strips m) (held_alike m (map placed strips)) size kept
size_decided m strips size (Some w) shown =
    size_breach_alike (held_by m strips) (cells_of strips m) (held_alike m (map placed strips)) size w.p.x w.p.y w.q.x w.q.y w.found shown

-- what is shown of an enclosure, and of a distance, is refused of its rule
module _ (tech : Tech) (cells : ℕ → ℤ → ℤ → Type 0) (n : ℕ) (rest : List RuleName) (error : RuleError) where
  pub enclose_refused : (enclose : Enclosure) → enclose_at tech n ≡ Some enclose → IsBrokenBy (Enclose n) enclose.number (ShowsEnclosed tech cells enclose) error
      → IsRefusal tech cells (Enclose n ∷ rest) error
  enclose_refused enclose at =
      first_refused tech cells (Enclose n) rest enclose.number (sym (one_times enclose.number) ∙ ap (λ o. pos 1 *ℤ enclose_number o) (sym at)) (ShowsEnclosed tech cells enclose)
      (λ w s. subst (λ o. ShowsEnclose (pos 1) tech cells o w.p w.q w.found) (sym at) s) error

  pub distance_refused : (apart : Distance) → apart_at tech n ≡ Some apart → IsBrokenBy (Apart n) apart.number (ShowsDistant tech cells apart) error
      → IsRefusal tech cells (Apart n ∷ rest) error
  distance_refused apart at =
      first_refused tech cells (Apart n) rest apart.number (sym (one_times apart.number) ∙ ap (λ o. pos 1 *ℤ apart_number o) (sym at)) (ShowsDistant tech cells apart)
      (λ w s. subst (λ o. ShowsDistance (pos 1) tech cells o w.p w.q w.found) (sym at) s) error
