-- What a source and the rows of the templates give: its strips are a family, climbing is decided, and the clauses of `IsCarried`
-- that offer a choice follow from rows that are asked where there is none.
use Rattle.std.proofs.Common.{◌≡◌, ℕ, zero, suc, ℤ, pos, ◌+ℤ◌, ◌-ℤ◌, ◌≤ℤ◌, ◌<ℤ◌, ◌⊎◌, subst, arith, inl, inr}
use Rattle.std.proofs.lemmas.Int.{ints, clamps, by_lt_z}
use Rattle.std.specs.Int.{int_max, int_min}
use Rattle.rt_cells.specs.Line.{Within, IsRun}
use Rattle.rt_cells.specs.Cells.{row_of}
use Rattle.rt_cells.specs.Rectangles.{Rectangle, IsNonempty}
use Rattle.rt_cells.proofs.Lines.{at_most, first_place}
use Rattle.rt_family.specs.Strips.{IsListed, HoldsCell, CoveredBy, IsFamily, StandsOn, IsClimbed}
use Rattle.rt_family.specs.Strips.IsClimbed.{step, onward}
use Rattle.rt_family.specs.Carried.{LiesBetween}
use Rattle.rt_family.specs.Rows.{KeepsEnds}
use Rattle.rt_family.proofs.Places.{steps_to}
use Rattle.rt_family.proofs.Finite.{OrNot, search_below, both_or_not, decided_as, at_most_or_not, within_or_not, stands_or_not}

in_both : (low high low' high' : ℤ) → low <ℤ high → low' <ℤ high' → low' <ℤ high → low <ℤ high' → Within low high (int_max low low') × Within low' high' (int_max low low')
in_both low high low' high' h k l m = (record { from = omega (arith, ints, clamps); to = omega (arith, ints, clamps) }, record { from = omega (arith, ints, clamps); to = omega (arith, ints, clamps) })

-- rectangles that cover cells once and whose rows are whole runs are a family
pub family_of_runs : (member : ℕ → Type 0) (box : ℕ → Rectangle) → ((i : ℕ) → member i → IsNonempty (box i))
    → ((i j : ℕ) (x y : ℤ) → HoldsCell member box i x y → HoldsCell member box j x y → i ≡ j)
    → ((i : ℕ) (y : ℤ) → member i → Within (box i).bottom (box i).top y → IsRun (row_of (CoveredBy member box) y) (box i).left (box i).right)
    → IsFamily member box
family_of_runs member box nonempty once whole = record {
  nonempty = nonempty;
  parted = λ i j m n row.
      let a = nonempty i m in
      let b = nonempty j n in
      let y = int_max (box i).bottom (box j).bottom in
      let rows = in_both (box i).bottom (box i).top (box j).bottom (box j).top a.upwards b.upwards row.second row.first in
      by_lt_z (box i).right (box j).left
      (λ l. inr (inl l))
      (λ l. by_lt_z (box j).right (box i).left
      (λ k. inr (inr k))
      (λ k. by_lt_z (box j).left (box i).right
      (λ p. by_lt_z (box i).left (box j).right
      (λ q.
      let x = in_both (box i).left (box i).right (box j).left (box j).right a.across b.across p q in
      inl (once i j (int_max (box i).left (box j).left) y (record { strip = m; cell = record { column = x.0; row = rows.0 } }) (record { strip = n; cell = record { column = x.1; row = rows.1 } })))
      (λ q. absurd ((whole j y n rows.1).after (subst (λ z. CoveredBy member box z y) (omega (arith, ints))
      (record { number = i; holds = record { strip = m; cell = record { column = first_place _ _ a.across; row = rows.0 } } })))))
      (λ p. absurd ((whole i y m rows.0).after (subst (λ z. CoveredBy member box z y) (omega (arith, ints))
      (record { number = j; holds = record { strip = n; cell = record { column = first_place _ _ b.across; row = rows.1 } } }))))));
}

module _ (member : ℕ → Type 0) (box : ℕ → Rectangle) (family : IsFamily member box) (count : ℕ) (listed : IsListed member count) where
  -- what is climbed lies above
  pub climbing_rises : (i j : ℕ) → IsClimbed member box i j → (box i).top ≤ℤ (box j).bottom
  climbing_rises i j (step _ stands) = omega (arith, ints, stands.adjoin)
  climbing_rises i j (onward k _ climbed stands) = omega (arith, ints, climbing_rises i k climbed, (family.nonempty k stands.lower).upwards, stands.adjoin)

  -- strip j stands on strip k, which is climbed from strip i
  record IsLastStep (i j k : ℕ) : Type 0 where
    stands : StandsOn member box k j
    climbed : IsClimbed member box i k

  not_climbed : (i j : ℕ) → ¬ StandsOn member box i j → ((k : ℕ) → ¬ IsLastStep i j k) → ¬ IsClimbed member box i j
  not_climbed i j none before (step _ stands) = none stands
  not_climbed i j none before (onward k _ climbed stands) = before k (record { stands = stands; climbed = climbed })

  climbed_within : (n : ℕ) (i j : ℕ) → (box j).bottom ≤ℤ ((box i).top +ℤ pos n) → OrNot (IsClimbed member box i j)
  climbed_within zero i j near =
      elim (stands_or_not member box count listed i j) [
        | inl stands ↦ inl (step j stands)
        | inr none ↦ inr (not_climbed i j none (λ k last.
            omega (arith, ints, climbing_rises i k last.climbed, (family.nonempty k last.stands.lower).upwards, last.stands.adjoin)))
      ]
  climbed_within (suc n) i j near =
      elim (stands_or_not member box count listed i j) [
        | inl stands ↦ inl (step j stands)
        | inr none ↦
            elim (search_below (IsLastStep i j)
            (λ k. elim (stands_or_not member box count listed k j) [
              | inl stands ↦ decided_as (λ c. record { stands = stands; climbed = c }) (λ (last : IsLastStep i j k). last.climbed)
                  (climbed_within n i k (omega (arith, ints, (family.nonempty k stands.lower).upwards, stands.adjoin)))
              | inr other ↦ inr (λ last. other last.stands)
            ])
            count) [
              | inl (k, last) ↦ inl (onward k j last.climbed last.stands)
              | inr nowhere ↦ inr (not_climbed i j none (λ k last. nowhere k (listed.below k last.stands.lower) last))
            ]
      ]

  -- a strip is climbed from another, or not
  pub climbed_or_not : (i j : ℕ) → OrNot (IsClimbed member box i j)
  climbed_or_not i j =
      by_lt_z (box j).bottom (box i).top
      (λ l. inr (λ climbed. omega (arith, ints, climbing_rises i j climbed)))
      (λ l. let d = steps_to (box i).top (box j).bottom l in climbed_within d.0 i j d.1)

  -- a distance that is kept where one strip isn't climbed from the other
  pub climbed_or : {P : Type 0} (i j : ℕ) → (¬ IsClimbed member box i j → P) → IsClimbed member box i j ⊎ P
  climbed_or {P} i j far = elim (climbed_or_not i j) [ inl climbed ↦ inl climbed | inr none ↦ inr (far none) ]

  between_or_not : (drawn : ℕ → Rectangle) (i j : ℕ) (x : ℤ) (k : ℕ) → OrNot (LiesBetween member box drawn i j x k)
  between_or_not drawn i j x k =
      decided_as (λ h. record { strip = h.0.0; column = h.0.1; above = h.1.0; below = h.1.1 })
      (λ (b : LiesBetween member box drawn i j x k). ((b.strip, b.column), (b.above, b.below)))
      (both_or_not (both_or_not (listed.decided k) (within_or_not (drawn k).left (drawn k).right x))
      (both_or_not (at_most_or_not (box i).top (box k).bottom) (at_most_or_not (box k).top (box j).bottom)))

  -- a distance that is kept where neither strip stands on the other and none lies between them at the column
  pub seen_or : {P : Type 0} (drawn : ℕ → Rectangle) (i j : ℕ) (x : ℤ)
      → (¬ StandsOn member box i j → ((k : ℕ) → ¬ LiesBetween member box drawn i j x k) → P)
      → StandsOn member box i j ⊎ (P ⊎ ((k : ℕ) × LiesBetween member box drawn i j x k))
  seen_or {P} drawn i j x far =
      elim (stands_or_not member box count listed i j) [
        | inl stands ↦ inl stands
        | inr none ↦ elim (search_below (LiesBetween member box drawn i j x) (between_or_not drawn i j x) count) [
          | inl found ↦ inr (inr found)
          | inr nowhere ↦ inr (inl (far none (λ k b. nowhere k (listed.below k b.strip) b)))
        ]
      ]

shared_turned : (w low high low' high' : ℤ) → w ≤ℤ (int_min high' high -ℤ int_max low' low) → w ≤ℤ (int_min high high' -ℤ int_max low low')
shared_turned w low high low' high' h = omega (arith, ints, clamps)

-- two strips whose ends are kept have columns of the width in common
pub ends_share : (w : ℤ) (a b p q : Rectangle) → KeepsEnds w a b p q → KeepsEnds w b a q p → w ≤ℤ (int_min p.right q.right -ℤ int_max p.left q.left)
ends_share w a b p q h k =
    by_lt_z b.left a.left
    (λ l. by_lt_z a.right b.right
    (λ m. shared_turned w p.left p.right q.left q.right (omega (arith, ints, clamps, k.lefts (at_most _ _ l), h.rights (at_most _ _ m), h.wide)))
    (λ m. shared_turned w p.left p.right q.left q.right (omega (arith, ints, clamps, k.lefts (at_most _ _ l), k.rights m, k.wide, h.wide, k.shared (at_most _ _ l) m))))
    (λ l. by_lt_z b.right a.right
    (λ m. omega (arith, ints, clamps, h.lefts l, k.rights (at_most _ _ m), k.wide))
    (λ m. omega (arith, ints, clamps, h.lefts l, h.rights m, h.wide, k.wide, h.shared l m)))
