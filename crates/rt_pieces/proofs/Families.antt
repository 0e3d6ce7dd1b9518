-- The strips of one mask are a family, and hold the cells that the mask covers.
use Rattle.std.proofs.Common.{◌≡◌, ℕ, ℤ, List, get_or, filter, eqb, Contains, refl, sym, subst, ◌∙◌}
use Rattle.std.proofs.lemmas.Bool.{eqb-true, eq-eqb}
use Rattle.std.proofs.lemmas.List.Elements.{All-contains, All-from_get_or, Contains-get_or}
use Rattle.rt_cells.specs.Line.{IsRun}
use Rattle.rt_cells.specs.Cells.{row_of}
use Rattle.rt_cells.specs.Rectangles.{Rectangle, Holds}
use Rattle.rt_cells.proofs.Lists.{mapped, mapped_from, filtered, filtered_from}
use Rattle.rt_strips.specs.Placed.{Placed, no_strip, areas_of, covered_by}
use Rattle.rt_strips.specs.StripsOf.{AreStripsOf}
use Rattle.rt_family.specs.Strips.{CoveredBy, IsFamily}
use Rattle.rt_family.proofs.Source.{family_of_runs}
use Rattle.rt_rules.proofs.Alike.{AreAlike}
use Rattle.rt_pieces.specs.Members.{IsOf, box_of}

-- strip i is of mask m, and the rectangle is its area
record IsAreaOf (m : ℕ) (strips : List Placed) (r : Rectangle) (i : ℕ) : Type 0 where
  of_mask : IsOf m strips i
  same : r ≡ box_of strips i

area_contained : (m : ℕ) (strips : List Placed) (i : ℕ) → IsOf m strips i → Contains (areas_of m strips) (box_of strips i)
area_contained m strips i h =
    mapped (λ (p : Placed). p.area) (filter (λ (p : Placed). eqb p.mask m) strips) (get_or strips i no_strip)
    (filtered (λ (p : Placed). eqb p.mask m) strips (get_or strips i no_strip)
    (Contains-get_or strips i no_strip h.strip.below_count) (eq-eqb _ _ h.mask))

strip_of_element : (m : ℕ) (strips : List Placed) (p : Placed) → Contains strips p → p.mask ≡ m → (i : ℕ) × IsAreaOf m strips p.area i
strip_of_element m strips p c e =
    let P : Placed → Type 0 = λ z. z.mask ≡ m → (i : ℕ) × IsAreaOf m strips z.area i in
    All-contains P strips p
    (All-from_get_or P strips no_strip (λ i h same. (i, record { of_mask = record { strip = record { below_count = h }; mask = same }; same = refl }))) c e

area_of_strip : (m : ℕ) (strips : List Placed) (r : Rectangle) → Contains (areas_of m strips) r → (i : ℕ) × IsAreaOf m strips r i
area_of_strip m strips r c =
    let d = mapped_from (λ (p : Placed). p.area) (filter (λ (p : Placed). eqb p.mask m) strips) r c in
    let f = filtered_from (λ (p : Placed). eqb p.mask m) strips d.0 d.1 in
    let a = strip_of_element m strips d.0 f.0 (eqb-true _ _ f.1) in
    (a.0, record { of_mask = a.1.of_mask; same = sym d.2 ∙ a.1.same })

-- the strips of a mask by their numbers hold the cells that it covers
pub held_alike : (m : ℕ) (strips : List Placed) → AreAlike (CoveredBy (IsOf m strips) (box_of strips)) (covered_by m strips)
held_alike m strips = record {
  to = λ x y c. (box_of strips c.number, area_contained m strips c.number c.holds.strip, c.holds.cell);
  from = λ x y c.
      let a = area_of_strip m strips c.0 c.1 in
      record { number = a.0; holds = record { strip = a.1.of_mask; cell = subst (λ r. Holds r x y) a.1.same c.2 } };
}

run_as : (P Q : ℤ → Type 0) (a b : ℤ) → ((x : ℤ) → P x → Q x) → ((x : ℤ) → Q x → P x) → IsRun P a b → IsRun Q a b
run_as P Q a b to from run = record {
  nonempty = run.nonempty;
  inside = λ x h. to x (run.inside x h);
  before = λ q. run.before (from _ q);
  after = λ q. run.after (from b q);
}

-- the strips of a mask are a family
pub strips_family : (cells : ℕ → ℤ → ℤ → Type 0) (masks : ℕ) (strips : List Placed) → AreStripsOf cells masks strips → (m : ℕ)
    → IsFamily (IsOf m strips) (box_of strips)
strips_family cells masks strips are m =
    let alike = held_alike m strips in
    family_of_runs (IsOf m strips) (box_of strips)
    (λ i h. are.nonempty i h.strip)
    (λ i j x y h k. are.once i j (record { first = h.strip.strip; second = k.strip.strip; one_mask = h.strip.mask ∙ sym k.strip.mask }) x y h.cell k.cell)
    (λ i y h w. run_as (row_of (covered_by m strips) y) (row_of (CoveredBy (IsOf m strips) (box_of strips)) y) _ _
    (λ x. alike.from x y) (λ x. alike.to x y)
    (subst (λ k. IsRun (row_of (covered_by k strips) y) (box_of strips i).left (box_of strips i).right) h.mask (are.whole_runs i h.strip y w)))
