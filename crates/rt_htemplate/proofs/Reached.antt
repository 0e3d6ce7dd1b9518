-- Two strips that keep a distance, and a strip with its host, are near each other in rows.
use Rattle.std.proofs.Common.{◌≡◌, ◌≢◌, ℕ, ◌<◌, ℤ, ◌≤ℤ◌, ◌<ℤ◌, ◌⊎◌, inl, inr, List, length, get_or, sym, ap, subst, arith, refl, Option, Some}
use Rattle.std.specs.Prelude.{Contains, IsSomeAnd}
use Rattle.std.proofs.lemmas.Int.{ints}
use Rattle.std.proofs.lemmas.Option.{slice_get-get_or}
use Rattle.rt_cells.specs.Line.{gap_of}
use Rattle.rt_near.specs.declared.near.Sides.{Sides}
use Rattle.rt_rows.specs.declared.name.Name.{Name}
use Rattle.rt_rows.specs.declared.name.Name.TheVariants.{Off, Inl, Inr}
use Rattle.rt_tech.specs.declared.table.Apart.{Apart as Distance}
use Rattle.rt_rules.specs.Pairs.{apart_at, apart_number as number_of_apart}
use Rattle.rt_strips.specs.Placed.{left_of, right_of, bottom_of, top_of}
use Rattle.rt_view.specs.declared.job.Job.{Job}
use Rattle.rt_view.specs.Job.{strips_of, IsJob}
use Rattle.rt_template.specs.Between.{IsHostUnder, AreKeptApart, IsOffRight}
use Rattle.rt_between.specs.Pairing.{AreNearOfTwo, HoldNearOfTwo, HoldHosts}
use Rattle.rt_between.proofs.Among.{rows, near_of}
use Rattle.rt_between.specs.Offers.{AreOffered, AreOfferedBy, AreOfferedFor}
use Rattle.rt_between.proofs.Growing.{offered_at}
use Rattle.rt_htemplate.specs.Candidates.{names_off, names_off_at, names_in, names_in_at}
use Rattle.rt_htemplate.specs.Wanted.{IsOfDistance, IsOfEnclosure, AreOfferedBetween}

no_column : (l r : ℤ) → l <ℤ r → r ≤ℤ l → ⊥
no_column l r h g = omega (arith, ints)

-- one kind of rules after the other
pub offered_between : (job : Job) (before between after : List Name) → AreOfferedFor (IsOfDistance job) (length job.source.aparts) before between
    → AreOfferedFor (IsOfEnclosure job) (length job.source.encloses) between after → AreOfferedBetween job before after
offered_between job before between after distances enclosures = record {
  kept = λ name c. enclosures.kept name (distances.kept name c);
  distances = λ q h name w. enclosures.kept name (distances.offered q h name w);
  enclosures = enclosures.offered;
}

module _ (job : Job) (is : IsJob job) where
  kept_near : (apart : Distance) (i j : ℕ) → AreKeptApart job apart i j ⊎ AreKeptApart job apart j i
      → gap_of (bottom_of (strips_of job) i) (top_of (strips_of job) i) (bottom_of (strips_of job) j) (top_of (strips_of job) j) <ℤ apart.number
      → (i < length (strips_of job)) × AreNearOfTwo (rows job) apart.a apart.b apart.number i j
  kept_near apart i j (inl k) near =
      (k.first.of_mask.below, near_of job apart.a apart.b apart.number i j k.first.of_mask.below k.second.below (inl k.first.of_mask.of_mask) (inr k.second.of_mask) near)
  kept_near apart i j (inr k) near =
      (k.second.below, near_of job apart.a apart.b apart.number i j k.second.below k.first.of_mask.below (inr k.second.of_mask) (inl k.first.of_mask.of_mask) near)

  -- two that keep a distance are near by its number, and are two
  off_near : (q i j : ℕ) (apart : Distance) → apart_at job.source q ≡ Some apart → IsOffRight job q i j
      → (i ≢ j) × AreNearOfTwo (rows job) apart.a apart.b apart.number i j
  off_near q i j apart e off =
      let sides = subst (λ (o : Option Distance). IsSomeAnd o (λ a. AreKeptApart job a i j ⊎ AreKeptApart job a j i)) e off.sides in
      let near = kept_near apart i j sides (subst (λ (n : ℤ). gap_of (bottom_of (strips_of job) i) (top_of (strips_of job) i) (bottom_of (strips_of job) j) (top_of (strips_of job) j) <ℤ n)
      (ap number_of_apart e) off.near) in (
        λ (same : i ≡ j). no_column (left_of (strips_of job) i) (right_of (strips_of job) i)
            (is.job_of.view.strips.strips_are.nonempty i (record { below_count = near.0 })).across
            (subst (λ k. right_of (strips_of job) i ≤ℤ left_of (strips_of job) k) (sym same) off.beside),
        near.1,
      )

  -- so the pairs that are near tell the names of a distance
  pub distance_offered : (q : ℕ) (apart : Distance) (pairs : List (ℕ × ℕ)) (before after : List Name) → apart_at job.source q ≡ Some apart
      → HoldNearOfTwo (rows job) apart.a apart.b apart.number pairs → AreOffered (names_off_at q pairs) (length pairs) before after → AreOfferedBy (IsOfDistance job q) before after
  distance_offered q apart pairs before after e hold offered = record { kept = offered.kept; offered = each }
    where
      each : (name : Name) → IsOfDistance job q name → Contains after name
      each name (IsOfDistance.off i j off) =
          let near = off_near q i j apart e off in
          elim (hold.every i j near.0 near.1) [
            | inl there ↦ offered_at (names_off q) pairs before after offered (i, j) (Off q i j) there (0, omega arith, refl)
            | inr there ↦ offered_at (names_off q) pairs before after offered (j, i) (Off q i j) there (1, omega arith, refl)
          ]

-- and those of the hosts those of an enclosure
pub enclosure_offered : (job : Job) (q : ℕ) (pairs : List (ℕ × ℕ)) (before after : List Name) → HoldHosts job q pairs
    → AreOffered (names_in_at q pairs) (length pairs) before after → AreOfferedBy (IsOfEnclosure job q) before after
enclosure_offered job q pairs before after hold offered = record { kept = offered.kept; offered = each }
  where
    at_pair : (i h : ℕ) (name : Name) → IsHostUnder job q i h → Contains (names_in q (i, h)) name → Contains (names_in q (h, i)) name → Contains after name
    at_pair i h name under d f =
        elim (hold.every i h under) [
          | inl there ↦ offered_at (names_in q) pairs before after offered (i, h) name there d
          | inr there ↦ offered_at (names_in q) pairs before after offered (h, i) name there f
        ]

    each : (name : Name) → IsOfEnclosure job q name → Contains after name
    each name (IsOfEnclosure.left i h under) = at_pair i h (Inl q i h) under (0, omega arith, refl) (1, omega arith, refl)
    each name (IsOfEnclosure.right i h under) = at_pair i h (Inr q i h) under (2, omega arith, refl) (3, omega arith, refl)

-- the names of the distance of a number, by the near pairs of rows that are those of the strips
pub distance_added : (job : Job) → IsJob job → (q : ℕ) (given : List Sides) (aparts : List Distance) (d : Distance) (number : ℤ) (pairs : List (ℕ × ℕ)) (before after : List Name)
    → given ≡ rows job → aparts ≡ job.source.aparts → q < length job.source.aparts → number ≡ (get_or aparts q d).number
    → HoldNearOfTwo given (get_or aparts q d).a (get_or aparts q d).b number pairs
    → AreOffered (names_off_at q pairs) (length pairs) before after → AreOfferedBy (IsOfDistance job q) before after
distance_added job is q given aparts d number pairs before after same list there number_is hold offered =
    let by_number : HoldNearOfTwo given (get_or aparts q d).a (get_or aparts q d).b (get_or aparts q d).number pairs =
    subst (λ (n : ℤ). HoldNearOfTwo given (get_or aparts q d).a (get_or aparts q d).b n pairs) number_is hold in
    let in_rows : HoldNearOfTwo (rows job) (get_or aparts q d).a (get_or aparts q d).b (get_or aparts q d).number pairs =
    subst (λ (sides : List Sides). HoldNearOfTwo sides (get_or aparts q d).a (get_or aparts q d).b (get_or aparts q d).number pairs) same by_number in
    let own : HoldNearOfTwo (rows job) (get_or job.source.aparts q d).a (get_or job.source.aparts q d).b (get_or job.source.aparts q d).number pairs =
    subst (λ (all : List Distance). HoldNearOfTwo (rows job) (get_or all q d).a (get_or all q d).b (get_or all q d).number pairs) list in_rows in
    distance_offered job is q (get_or job.source.aparts q d) pairs before after (slice_get-get_or job.source.aparts q d there) own offered
