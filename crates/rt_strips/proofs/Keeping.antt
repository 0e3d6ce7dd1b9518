-- What is kept of all strips: the first ones, and how many there are.
use Rattle.std.proofs.Common.{◌≡◌, ℕ, ◌+◌, ◌-◌, ◌^◌, ◌<◌, min, ℤ, List, [], ◌∷◌, ◌++◌, length, get_or, set, map, sym, ap, ◌∙◌, arith, inl, inr, length-append}
use Rattle.std.proofs.lemmas.Bool.{cases_lt}
use Rattle.std.proofs.lemmas.List.{length-set, length-take, take_all, take-append-le, take-set-le, get_or-take, get_or-map, length-map, map-set}
use Rattle.std.proofs.Math.Seq.{take-set-lt}
use Rattle.rt_base.specs.declared.plane.Rect.{Rect}
use Rattle.rt_base.specs.Plane.{area}
use Rattle.rt_cells.specs.Rectangles.{Rectangle}
use Rattle.rt_strips.specs.Stacks.{IsKeptOf, IsBegun, IsRaised, area_at, no_area, raised}

kept_length : (most : ℕ) (strips kept : List Rectangle) (count : ℕ) → IsKeptOf most strips kept count → length kept ≡ min most (length strips)
kept_length most strips kept count k = ap length k.kept_first ∙ length-take most strips

-- a piece begins a strip
pub kept_pushed : (most : ℕ) (strips kept : List Rectangle) (count : ℕ) (piece : Rectangle) (kept' : List Rectangle) (count' place : ℕ) → IsKeptOf most strips kept count
    → IsBegun most piece kept count kept' count' place → IsKeptOf most (strips ++ piece ∷ []) kept' count' × (place ≡ min (length strips) most)
kept_pushed most strips kept count piece kept' count' place k b =
    let long = kept_length most strips kept count k in
    let more : length (strips ++ piece ∷ []) ≡ length strips + 1 = length-append strips (piece ∷ []) in
    let counted : count' ≡ min (length (strips ++ piece ∷ [])) (2 ^ 64 - 1) = omega (arith, k.counted, b.counted) in
    elim (cases_lt (length kept) most) [
      | inl l ↦
          let few : length strips < most = omega arith in
          let all : kept ≡ strips = k.kept_first ∙ take_all most strips (omega arith) in (
            record {
              kept_first = b.room l ∙ ap (λ xs. xs ++ piece ∷ []) all ∙ sym (take_all most (strips ++ piece ∷ []) (omega arith));
              counted = counted;
            },
            omega (arith, b.placed),
          )
      | inr l ↦ (
        record { kept_first = b.none l ∙ k.kept_first ∙ sym (take-append-le most strips (piece ∷ []) (omega arith)); counted = counted },
        omega (arith, b.placed),
      )
    ]

-- a strip is raised
pub kept_raised : (most : ℕ) (strips kept : List Rectangle) (count : ℕ) (piece : Rectangle) (kept' : List Rectangle) (place k : ℕ) → IsKeptOf most strips kept count
    → place ≡ min k most → k < length strips → (area_at strips k).top ≡ piece.bottom → IsRaised place piece kept kept'
    → IsKeptOf most (set strips k (raised (area_at strips k) piece.top)) kept' count
kept_raised most strips kept count piece kept' place k keeps at inside top r =
    let long = kept_length most strips kept count keeps in
    let now = raised (area_at strips k) piece.top in
    let counted : count ≡ min (length (set strips k now)) (2 ^ 64 - 1) = rw length-set keeps.counted in
    elim (cases_lt k most) [
      | inl l ↦
          let here : place ≡ k = omega arith in
          let same : area_at kept place ≡ area_at strips k =
          ap (λ n. area_at kept n) here ∙ ap (λ xs. area_at xs k) keeps.kept_first ∙ get_or-take most strips k no_area l in
          let up : kept' ≡ set kept place (raised (area_at kept place) piece.top) = r.there (omega arith) (ap (λ (s : Rectangle). s.top) same ∙ top) in
          record {
            kept_first = up ∙ ap (λ s. set kept place (raised s piece.top)) same ∙ ap (λ n. set kept n now) here ∙ ap (λ xs. set xs k now) keeps.kept_first
                ∙ sym (take-set-lt most strips k now l);
            counted = counted;
          }
      | inr l ↦ record { kept_first = r.none (omega arith) ∙ keeps.kept_first ∙ sym (take-set-le most strips k now l); counted = counted }
    ]

pub same_raised : (strip : Rect) (left right bottom top now : ℤ) → left ≡ strip.x1 → right ≡ strip.x2 → bottom ≡ strip.y1 → now ≡ top
    → record { left = left; right = right; bottom = bottom; top = now } ≡ raised (area strip) top
same_raised strip left right bottom top now e f g h = cc

-- the code raises the strip at a place
pub raised_at : (strips : List Rect) (place : ℕ) (strip now : Rect) (piece : Rectangle) → place < length strips → strip ≡ get_or strips place strip
    → area now ≡ raised (area strip) piece.top → IsRaised place piece (map area strips) (map area (set strips place now))
raised_at strips place strip now piece inside is up =
    let same : area_at (map area strips) place ≡ area strip = get_or-map area strips place strip no_area inside ∙ ap area (sym is) in
    record {
      there = λ l top. map-set area strips place now ∙ ap (λ s. set (map area strips) place s) (up ∙ ap (λ s. raised s piece.top) (sym same));
      none = λ l. absurd (omega (arith, length-map strips area));
    }
