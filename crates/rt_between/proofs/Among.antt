-- A strip and its host are near each other in rows.
use Rattle.std.proofs.Common.{◌≡◌, ℕ, ◌<◌, ℤ, pos, ◌+ℤ◌, ◌-ℤ◌, ◌≤ℤ◌, ◌<ℤ◌, ◌⊎◌, inl, inr, List, length, map, get_or, sym, ap, subst, subst₂, ◌∙◌, arith, Option, Some}
use Rattle.std.specs.Prelude.{All, Contains, IsSomeAnd}
use Rattle.std.proofs.lemmas.Int.{ints, clamps}
use Rattle.std.proofs.lemmas.Bool.{cases_eq}
use Rattle.std.proofs.lemmas.Option.{slice_get_cases, slice_get-get_or}
use Rattle.std.proofs.lemmas.List.{get_or-map, length-map}
use Rattle.rt_cells.specs.Line.{gap_of}
use Rattle.rt_near.specs.declared.near.Sides.{Sides}
use Rattle.rt_near.specs.Near.{IsInterval, no_sides}
use Rattle.rt_tech.specs.declared.table.Enclose.{Enclose as Enclosure}
use Rattle.rt_tech.specs.Tech.{IsReach}
use Rattle.rt_rules.specs.Pairs.{enclose_at, IsMeasuredEnclose}
use Rattle.rt_strips.specs.declared.listing.Strip.{Strip}
use Rattle.rt_strips.specs.Placed.{Placed, placed, strip_at, mask_of, bottom_of, top_of}
use Rattle.rt_strips.proofs.Placed.{strip_is, strip_below}
use Rattle.rt_view.specs.declared.job.Job.{Job}
use Rattle.rt_view.specs.Job.{strips_of}
use Rattle.rt_template.specs.Between.{IsHostIn, IsHostUnder}
use Rattle.rt_between.specs.Pairing.{side_of, IsOfEither, AreNearOfTwo, HoldNearOfTwo, HoldHosts, AreOwnAdded}

-- a rectangle's rows, grouped by its mask
abbrev pub rows_of : Placed → Sides
rows_of p = record { group = p.mask; low = p.area.bottom; high = p.area.top }

pub side_is : (strips : List Strip) (i : ℕ) → i < length strips → get_or (map side_of strips) i no_sides ≡ rows_of (strip_at (map placed strips) i)
side_is strips i h =
    elim (slice_get_cases strips i).1 [
      | inl (x, lt, is, at) ↦ get_or-map side_of strips i x no_sides lt ∙ ap side_of at ∙ sym (ap rows_of (strip_is strips i x lt (sym at)))
      | inr (past, is) ↦ absurd (omega (arith, past, h))
    ]

-- each strip has a row
pub all_intervals : (strips : List Strip) → All IsInterval (map side_of strips)
all_intervals strips k d h =
    let l : k < length strips = omega (arith, h, length-map strips side_of) in
    elim (slice_get_cases strips k).1 [
      | inl (x, lt, is, at) ↦ subst IsInterval (sym (get_or-map side_of strips k x d lt)) (record { some = (get_or strips k x).at.upwards })
      | inr (past, is) ↦ absurd (omega (arith, past, l))
    ]

few_rows : (b t b' t' n : ℤ) → pos 0 ≤ℤ n → b' <ℤ (t +ℤ n) → (b -ℤ n) <ℤ t' → gap_of b t b' t' <ℤ (n +ℤ pos 1)
few_rows b t b' t' n some h g = omega (arith, ints, clamps)

module _ (job : Job) where
  abbrev pub rows : List Sides
  rows = map side_of job.view.strips.list

  side_at : (i : ℕ) → i < length (strips_of job) → get_or rows i no_sides ≡ rows_of (strip_at (strips_of job) i)
  side_at i h = side_is job.view.strips.list i (strip_below job.view.strips.list i (record { below_count = h }))

  either : (first second : ℕ) (reach : ℤ) (i : ℕ) → i < length (strips_of job) → (mask_of (strips_of job) i ≡ first) ⊎ (mask_of (strips_of job) i ≡ second)
      → IsOfEither rows first second reach i
  either first second reach i h of = record {
    there = omega (arith, strip_below job.view.strips.list i (record { below_count = h }), length-map job.view.strips.list side_of);
    of_either = subst (λ (s : Sides). (s.group ≡ first) ⊎ (s.group ≡ second)) (sym (side_at i h)) of;
  }

  near_rows : (i j : ℕ) (reach : ℤ) → i < length (strips_of job) → j < length (strips_of job)
      → gap_of (bottom_of (strips_of job) i) (top_of (strips_of job) i) (bottom_of (strips_of job) j) (top_of (strips_of job) j) <ℤ reach
      → gap_of (get_or rows i no_sides).low (get_or rows i no_sides).high (get_or rows j no_sides).low (get_or rows j no_sides).high <ℤ reach
  near_rows i j reach h g near =
      subst₂ (λ (s t : Sides). gap_of s.low s.high t.low t.high <ℤ reach) (sym (side_at i h)) (sym (side_at j g)) near

  pub near_of : (first second : ℕ) (reach : ℤ) (i j : ℕ) → i < length (strips_of job) → j < length (strips_of job)
      → (mask_of (strips_of job) i ≡ first) ⊎ (mask_of (strips_of job) i ≡ second) → (mask_of (strips_of job) j ≡ first) ⊎ (mask_of (strips_of job) j ≡ second)
      → gap_of (bottom_of (strips_of job) i) (top_of (strips_of job) i) (bottom_of (strips_of job) j) (top_of (strips_of job) j) <ℤ reach
      → AreNearOfTwo rows first second reach i j
  near_of first second reach i j h g one other near = record {
    one = either first second reach i h one;
    other = either first second reach j g other;
    near = near_rows i j reach h g near;
  }

  -- a strip and its host are near by one more than the enclosure's number
  host_near : (q i h : ℕ) (enclose : Enclosure) → enclose_at job.source q ≡ Some enclose → IsReach enclose.number → IsHostUnder job q i h
      → AreNearOfTwo rows enclose.cut enclose.mask (enclose.number +ℤ pos 1) i h
  host_near q i h enclose e reach under =
      let host = subst (λ (o : Option Enclosure). IsSomeAnd o (λ a. IsHostIn job a i h)) e under in
      near_of enclose.cut enclose.mask _ i h host.enclosed.of_mask.below host.overlaps.strip.below (inl host.enclosed.of_mask.of_mask) (inr host.overlaps.strip.of_mask)
      (few_rows _ _ _ _ enclose.number reach.low host.overlaps.rows.first host.overlaps.rows.second)

  -- so the pairs that are near, with each strip and itself where cut and mask are one, hold all hosts
  pub hold_hosts : (q : ℕ) (enclose : Enclosure) (pairs after : List (ℕ × ℕ)) (count : ℕ) → enclose_at job.source q ≡ Some enclose → IsReach enclose.number
      → HoldNearOfTwo rows enclose.cut enclose.mask (enclose.number +ℤ pos 1) pairs → count ≡ length rows → AreOwnAdded enclose count pairs after → HoldHosts job q after
  hold_hosts q enclose pairs after count e reach hold counted own = record {
    every = λ i h under.
        let near = host_near q i h enclose e reach under in
        elim (cases_eq i h) [
          | inl same ↦
              let host = subst (λ (o : Option Enclosure). IsSomeAnd o (λ a. IsHostIn job a i h)) e under in
              let one : enclose.cut ≡ enclose.mask = sym host.enclosed.of_mask.of_mask ∙ ap (mask_of (strips_of job)) same ∙ host.overlaps.strip.of_mask in
              inl (subst (λ (k : ℕ). Contains after (i, k)) same (own.own one i (omega (arith, counted, near.one.there))))
          | inr other ↦ elim (hold.every i h other near) [
            | inl there ↦ inl (own.kept (i, h) there)
            | inr there ↦ inr (own.kept (h, i) there)
          ]
        ];
  }

-- the same of the enclosure of a number, and of rows that are those of the strips
pub hosts_held : (job : Job) (q : ℕ) (given : List Sides) (encloses : List Enclosure) (d : Enclosure) (reach : ℤ) (pairs after : List (ℕ × ℕ)) (count : ℕ)
    → given ≡ rows job → encloses ≡ job.source.encloses → q < length job.source.encloses → All (IsMeasuredEnclose job.source) job.source.encloses
    → reach ≡ (get_or encloses q d).number +ℤ pos 1 → count ≡ length given
    → HoldNearOfTwo given (get_or encloses q d).cut (get_or encloses q d).mask reach pairs → AreOwnAdded (get_or encloses q d) count pairs after → HoldHosts job q after
hosts_held job q given encloses d reach pairs after count same list there measured far counted hold own =
    let own_list : AreOwnAdded (get_or job.source.encloses q d) count pairs after = subst (λ (es : List Enclosure). AreOwnAdded (get_or es q d) count pairs after) list own in
    let in_rows : HoldNearOfTwo (rows job) (get_or encloses q d).cut (get_or encloses q d).mask reach pairs =
    subst (λ (sides : List Sides). HoldNearOfTwo sides (get_or encloses q d).cut (get_or encloses q d).mask reach pairs) same hold in
    let so_far : HoldNearOfTwo (rows job) (get_or encloses q d).cut (get_or encloses q d).mask ((get_or encloses q d).number +ℤ pos 1) pairs =
    subst (λ (r : ℤ). HoldNearOfTwo (rows job) (get_or encloses q d).cut (get_or encloses q d).mask r pairs) far in_rows in
    let held : HoldNearOfTwo (rows job) (get_or job.source.encloses q d).cut (get_or job.source.encloses q d).mask ((get_or job.source.encloses q d).number +ℤ pos 1) pairs =
    subst (λ (es : List Enclosure). HoldNearOfTwo (rows job) (get_or es q d).cut (get_or es q d).mask ((get_or es q d).number +ℤ pos 1) pairs) list so_far in
    hold_hosts job q (get_or job.source.encloses q d) pairs after count (slice_get-get_or job.source.encloses q d there) (measured q d there).number held
    (counted ∙ ap length same) own_list
