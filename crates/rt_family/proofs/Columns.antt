-- Columns of the drawing: over one column or two adjacent ones, a chain of strips is as high as the width.
use Rattle.std.proofs.Common.{◌≡◌, ℕ, zero, suc, ◌<◌, ℤ, pos, ◌+ℤ◌, ◌-ℤ◌, ◌≤ℤ◌, ◌⊎◌, List, [], ◌∷◌, All, arith, inl, inr}
use Rattle.std.proofs.lemmas.Int.{ints, by_lt_z}
use Rattle.std.proofs.lemmas.List.Elements.{All-nil, All-cons, All-contains}
use Rattle.rt_cells.specs.Line.{Within}
use Rattle.rt_cells.specs.Rectangles.{Rectangle}
use Rattle.rt_family.proofs.Places.{steps_to}
use Rattle.rt_family.specs.Strips.{IsListed, HoldsCell, CoveredBy, StandsOn, IsChain}
use Rattle.rt_family.specs.Strips.IsChain.{one, more}
use Rattle.rt_family.specs.Carried.{IsDrawnOver, IsCarried, IsCarriedInColumns}
use Rattle.rt_family.proofs.Chains.{chain_holds}
use Rattle.rt_family.proofs.Drawn.{drawn_stands}
use Rattle.rt_family.proofs.Finite.{OrNot, search_below, bound_below, both_or_not, decided_as, within_or_not, stands_or_not}

above_m : (bottom high m top y : ℤ) → Within bottom high m → Within m top y → Within bottom top y
above_m bottom high m top y h k = record { from = omega (arith, ints); to = k.to }

under_seam : (top bottom high m : ℤ) → top ≡ bottom → Within bottom high m → m ≤ℤ bottom → m ≡ top
under_seam top bottom high m e h l = omega (arith, ints)

module _ (member : ℕ → Type 0) (source drawn : ℕ → Rectangle) (w : ℤ) (s : ℕ → ℕ → ℤ) (carried : IsCarried member source drawn w s) where
  -- a chain of the source is a chain of the drawing
  pub chain_drawn : (first : ℕ) (chain : List ℕ) (last : ℕ) → IsChain member source first chain last → IsChain member drawn first chain last
  chain_drawn i _ _ (one _ m) = one i m
  chain_drawn i _ last (more _ j _ rest stands c) = more i j last rest (drawn_stands member source drawn w s carried i j stands) (chain_drawn j rest last c)

  module _ (count : ℕ) (listed : IsListed member count) (x u : ℤ) where
    -- a chain over both columns from strip i, to which none can be added above
    record LeadsUp (i : ℕ) : Type 0 where
      last : ℕ
      chain : List ℕ
      stacked : IsChain member source i chain last
      over : All (IsDrawnOver member source drawn x u) chain
      highest : (k : ℕ) → IsDrawnOver member source drawn x u k → ¬ StandsOn member source last k

    -- a strip over both columns that stands on strip i
    record IsNext (i k : ℕ) : Type 0 where
      over : IsDrawnOver member source drawn x u k
      stands : StandsOn member source i k

    over_or_not : (k : ℕ) → OrNot (IsDrawnOver member source drawn x u k)
    over_or_not k =
        decided_as (λ h. record { strip = h.0; first = h.1.0; second = h.1.1 }) (λ (o : IsDrawnOver member source drawn x u k). (o.strip, (o.first, o.second)))
        (both_or_not (listed.decided k) (both_or_not (within_or_not (drawn k).left (drawn k).right x) (within_or_not (drawn k).left (drawn k).right u)))

    next_or_not : (i k : ℕ) → OrNot (IsNext i k)
    next_or_not i k =
        decided_as (λ h. record { over = h.0; stands = h.1 }) (λ (o : IsNext i k). (o.over, o.stands))
        (both_or_not (over_or_not k) (stands_or_not member source count listed i k))

    alone : (i : ℕ) → IsDrawnOver member source drawn x u i → ((k : ℕ) → IsDrawnOver member source drawn x u k → ¬ StandsOn member source i k) → LeadsUp i
    alone i over none = record {
      last = i;
      chain = i ∷ [];
      stacked = one i over.strip;
      over = All-cons (IsDrawnOver member source drawn x u) i [] over (All-nil (IsDrawnOver member source drawn x u));
      highest = none;
    }

    leads_up : (bound : ℤ) → ((k : ℕ) → k < count → (source k).top ≤ℤ bound) → (n : ℕ) (i : ℕ) → bound ≤ℤ ((source i).top +ℤ pos n)
        → IsDrawnOver member source drawn x u i → LeadsUp i
    leads_up bound most zero i near over =
        alone i over (λ k o stands. omega (arith, ints, stands.adjoin, (carried.family.nonempty k o.strip).upwards, most k (listed.below k o.strip)))
    leads_up bound most (suc n) i near over =
        elim (search_below (IsNext i) (next_or_not i) count) [
          | inl (k, next) ↦
              let rest = leads_up bound most n k (omega (arith, ints, next.stands.adjoin, (carried.family.nonempty k next.over.strip).upwards)) next.over in
              record {
                last = rest.last;
                chain = i ∷ rest.chain;
                stacked = more i k rest.last rest.chain next.stands rest.stacked;
                over = All-cons (IsDrawnOver member source drawn x u) i rest.chain over rest.over;
                highest = rest.highest;
              }
          | inr none ↦ alone i over (λ k o stands. none k (listed.below k o.strip) (record { over = o; stands = stands }))
        ]

    leads_up_from : (i : ℕ) → IsDrawnOver member source drawn x u i → LeadsUp i
    leads_up_from i over =
        let bound = bound_below (λ k. (source k).top) count in
        let d = steps_to (source i).top bound.0 (bound.1 i (listed.below i over.strip)) in
        leads_up bound.0 bound.1 d.0 i d.1 over

    -- from a strip over both columns under which there is none, both columns are covered up to the width
    pub column_height : IsCarriedInColumns member source drawn w → (u ≡ x) ⊎ (u ≡ x +ℤ pos 1) → (i : ℕ) → IsDrawnOver member source drawn x u i
        → ((k : ℕ) → IsDrawnOver member source drawn x u k → ¬ StandsOn member source k i)
        → (top : ℤ) × (((drawn i).bottom +ℤ w) ≤ℤ top)
        × ((y : ℤ) → Within (drawn i).bottom top y → (k : ℕ) × IsDrawnOver member source drawn x u k × Within (drawn k).bottom (drawn k).top y)
    column_height columns near i over lowest =
        let up = leads_up_from i over in (
          (drawn up.last).top,
          columns.runs i up.last (record {
            x = x;
            u = u;
            one_or_two = near;
            chain = up.chain;
            stacked = up.stacked;
            over = up.over;
            lowest = lowest;
            highest = up.highest;
          }),
          λ y h.
              let r = chain_holds member drawn y i up.chain up.last (chain_drawn i up.chain up.last up.stacked) h.from h.to in
              (r.0, All-contains (IsDrawnOver member source drawn x u) up.chain r.0 up.over r.1, r.3),
        )

    -- where both columns are covered at a row and not both at the row below, both are covered from there up to the width
    pub covered_height : IsCarriedInColumns member source drawn w → (u ≡ x) ⊎ (u ≡ x +ℤ pos 1) → (m : ℤ) → (i : ℕ)
        → HoldsCell member drawn i x m → HoldsCell member drawn i u m
        → (CoveredBy member drawn x (m -ℤ pos 1) → CoveredBy member drawn u (m -ℤ pos 1) → ⊥)
        → (top : ℤ) × ((m +ℤ w) ≤ℤ top) × ((y : ℤ) → Within m top y → CoveredBy member drawn x y × CoveredBy member drawn u y)
    covered_height columns near m i h k bare =
        let covers : (l : ℕ) (y : ℤ) → IsDrawnOver member source drawn x u l → Within (drawn l).bottom (drawn l).top y → CoveredBy member drawn x y × CoveredBy member drawn u y =
        λ l y o r. (
          record { number = l; holds = record { strip = o.strip; cell = record { column = o.first; row = r } } },
          record { number = l; holds = record { strip = o.strip; cell = record { column = o.second; row = r } } },
        ) in
        let over : IsDrawnOver member source drawn x u i = record { strip = h.strip; first = h.cell.column; second = k.cell.column } in
        let begin : m ≤ℤ (drawn i).bottom =
        by_lt_z (drawn i).bottom m
        (λ l. let c = covers i (m -ℤ pos 1) over (record { from = omega (arith, ints, h.cell.row); to = omega (arith, ints, h.cell.row) }) in absurd (bare c.0 c.1))
        (λ l. l) in
        let c = column_height columns near i over
        (λ l o stands.
        let d = covers l (m -ℤ pos 1) o (record { from = omega (arith, ints, carried.tall l o.strip, under_seam _ _ _ m (carried.adjoin l i stands) h.cell.row begin); to = omega (arith, ints, carried.tall l o.strip, under_seam _ _ _ m (carried.adjoin l i stands) h.cell.row begin) }) in
        bare d.0 d.1) in (
          c.0,
          omega (arith, ints, c.1),
          λ y inside. let r = c.2 y (above_m (drawn i).bottom (drawn i).top m c.0 y h.cell.row inside) in covers r.0 y r.1 r.2,
        )
