-- Both templates of a job are templates over its strips.
use Rattle.std.proofs.Common.{ℕ, zero, suc, ◌<◌, ℤ, pos, neg_ℤ, ◌≤ℤ◌, Bool, true, false, cond, List, [], ◌∷◌, length, refl, arith, inl, inr}
use Rattle.std.specs.Prelude.{All, slice_get}
use Rattle.std.proofs.lemmas.Int.{ints, clamps}
use Rattle.rt_base.specs.declared.plane.Axis.TheVariants.{Across, Upwards}
use Rattle.rt_rows.specs.declared.name.Name.{Name}
use Rattle.rt_rows.specs.declared.name.Name.TheVariants.{Lo, Hi, Zero, Top, Wide, Tall}
use Rattle.rt_rows.specs.declared.row.Var.TheVariants.{L, R, B, T, Width, Height}
use Rattle.rt_rows.specs.declared.row.Row.{Row}
use Rattle.rt_rows.specs.declared.row.Var.{Var}
use Rattle.rt_tech.specs.declared.table.Apart.{Apart as Distance}
use Rattle.rt_tech.specs.declared.table.Enclose.{Enclose as Enclosure}
use Rattle.rt_tech.specs.declared.table.Tech.{Tech}
use Rattle.rt_tech.specs.Tech.{width_of, space_of, IsLength, IsReach, IsMeasured}
use Rattle.rt_rules.specs.Pairs.{IsMeasuredEnclose, IsMeasuredApart, HasMeasuredPairs, enclose_number as number_of_enclose, apart_number as number_of_apart}
use Rattle.rt_tech.proofs.Lengths.{width_is_length, space_is_length}
use Rattle.rt_view.specs.declared.job.Job.{Job}
use Rattle.rt_view.specs.Job.{strips_of}
use Rattle.rt_strips.specs.Standing.{Touch, StandsOn}
use Rattle.rt_template.specs.Between.{enclose_number, apart_number, is_of_cut, least_height}
use Rattle.rt_template.proofs.Sides.{of_host, of_sides}
use Rattle.rt_template.specs.Horizontal.{RowAcross, kept_behind, width_across, space_between}
use Rattle.rt_template.specs.Vertical.{RowUpwards, width_upwards, IsChain}
use Rattle.rt_path.specs.Longest.{IsNear}
use Rattle.rt_place.proofs.Templates.{IsOfStrips, IsRowOf, IsTemplate}

near : (n : ℤ) → pos 0 ≤ℤ n → n ≤ℤ pos 20000000 → IsNear n
near n h g = record { not_far_down = omega (arith, ints, h); not_far_up = g }

near_zero : IsNear (pos 0)
near_zero = near (pos 0) (omega (arith, ints)) (omega (arith, ints))

near_top : IsNear (pos 20000000)
near_top = near (pos 20000000) (omega (arith, ints)) (omega (arith, ints))

near_one : IsNear (pos 1)
near_one = near (pos 1) (omega (arith, ints)) (omega (arith, ints))

near_length : (n : ℤ) → pos 1 ≤ℤ n → n ≤ℤ pos 1000000 → IsNear n
near_length n h g = near n (omega (arith, ints, h)) (omega (arith, ints, g))

near_behind : (first second : ℤ) → first ≤ℤ second → IsNear (kept_behind first second)
near_behind first second h = near (kept_behind first second) (omega (arith, ints, clamps, h)) (omega (arith, ints, clamps, h))

near_less : (n : ℤ) → IsLength n → IsNear (neg_ℤ n)
near_less n is = record { not_far_down = omega (arith, ints, is.low, is.high); not_far_up = omega (arith, ints, is.low, is.high) }

near_reach : (n : ℤ) → IsReach n → IsNear n
near_reach n is = near n is.low (omega (arith, ints, is.high))

near_aparts : (tech : Tech) (aparts : List Distance) → All (IsMeasuredApart tech) aparts → (q : ℕ) → IsNear (number_of_apart (slice_get aparts q))
near_aparts tech [] all q = near_zero
near_aparts tech (apart ∷ aparts) all zero =
    let measured = all 0 apart (omega arith) in
    near_length apart.number measured.number.low measured.number.high
near_aparts tech (apart ∷ aparts) all (suc q) = near_aparts tech aparts (λ k d h. all (suc k) d (omega (arith, h))) q

near_encloses : (tech : Tech) (encloses : List Enclosure) → All (IsMeasuredEnclose tech) encloses → (q : ℕ) → IsNear (number_of_enclose (slice_get encloses q))
near_encloses tech [] all q = near_zero
near_encloses tech (enclose ∷ encloses) all zero =
    let measured = all 0 enclose (omega arith) in
    near_reach enclose.number measured.number
near_encloses tech (enclose ∷ encloses) all (suc q) = near_encloses tech encloses (λ k d h. all (suc k) d (omega (arith, h))) q

-- the numbers of distances and of enclosures
near_apart : (tech : Tech) → HasMeasuredPairs tech → (q : ℕ) → IsNear (apart_number tech q)
near_apart tech pairs q = near_aparts tech tech.aparts pairs.aparts q

near_enclose : (tech : Tech) → HasMeasuredPairs tech → (q : ℕ) → IsNear (enclose_number tech q)
near_enclose tech pairs q = near_encloses tech tech.encloses pairs.encloses q

-- how high a strip has to be
cond_near : (b : Bool) (n : ℤ) → IsLength n → IsNear (cond b n (pos 1)) × (pos 1 ≤ℤ cond b n (pos 1))
cond_near true n is = (near_length n is.low is.high, is.low)
cond_near false n is = (near_one, omega (arith, ints))

near_height : (job : Job) → IsMeasured job.target → (i : ℕ) → IsNear (least_height job i)
near_height job target i = (cond_near (is_of_cut job i) _ (width_is_length job.target target _)).0

some_height : (job : Job) → IsMeasured job.target → (i : ℕ) → pos 1 ≤ℤ least_height job i
some_height job target i = (cond_near (is_of_cut job i) _ (width_is_length job.target target _)).1

touch_first : (job : Job) (i j : ℕ) → Touch (strips_of job) i j → i < length (strips_of job)
touch_first job i j (inl s) = s.strips_of_one_mask.first.below_count
touch_first job i j (inr s) = s.strips_of_one_mask.second.below_count

touch_second : (job : Job) (i j : ℕ) → Touch (strips_of job) i j → j < length (strips_of job)
touch_second job i j (inl s) = s.strips_of_one_mask.second.below_count
touch_second job i j (inr s) = s.strips_of_one_mask.first.below_count

chain_first : (job : Job) (columns : Var → ℤ) (x u : ℤ) (i j : ℕ) → IsChain job columns x u i j → i < length (strips_of job)
chain_first job columns x u i j (IsChain.one c) = c.strip.below_count
chain_first job columns x u i k (IsChain.onward j _ c s d) = chain_first job columns x u i j c

chain_last : (job : Job) (columns : Var → ℤ) (x u : ℤ) (i j : ℕ) → IsChain job columns x u i j → j < length (strips_of job)
chain_last job columns x u i j (IsChain.one c) = c.strip.below_count
chain_last job columns x u i k (IsChain.onward j _ c s d) = d.strip.below_count

-- the template across is one over the strips
pub template_across : (job : Job) → IsMeasured job.target → HasMeasuredPairs job.target → IsTemplate Across (length (strips_of job)) (RowAcross job)
template_across job target pairs = record {
  each = row;
  zero = (Zero, RowAcross.zero);
  top = (Top, RowAcross.top);
  begins = λ i h. (Lo i, RowAcross.lo i (record { below_count = h }));
  wide = λ i h. (width_across job i, (width_is_length job.target target _).low, Wide i, RowAcross.wide i (record { below_count = h }));
  ends = λ i h. (Hi i, RowAcross.hi i (record { below_count = h }));
}
  where
    width : (m : ℕ) → IsNear (width_of job.target m)
    width m = near_length _ (width_is_length job.target target m).low (width_is_length job.target target m).high

    space : (m : ℕ) → IsNear (space_of job.target m)
    space m = near_length _ (space_is_length job.target target m).low (space_is_length job.target target m).high

    left : (i : ℕ) → i < length (strips_of job) → IsOfStrips Across (length (strips_of job)) (L i)
    left i h = IsOfStrips.is_low i h refl

    right : (i : ℕ) → i < length (strips_of job) → IsOfStrips Across (length (strips_of job)) (R i)
    right i h = IsOfStrips.is_high i h refl

    all : IsOfStrips Across (length (strips_of job)) Width
    all = IsOfStrips.is_extent refl

    row : (n : Name) (r : Row) → RowAcross job n r → IsRowOf Across (length (strips_of job)) r
    row n r (RowAcross.lo i s) = IsRowOf.bounds_below (L i) (pos 0) (left i s.below_count) near_zero refl
    row n r (RowAcross.hi i s) = IsRowOf.keeps_beyond (R i) Width (pos 0) (right i s.below_count) all near_zero refl
    row n r RowAcross.zero = IsRowOf.bounds_below Width (pos 0) all near_zero refl
    row n r RowAcross.top = IsRowOf.bounds_above Width (pos 20000000) all near_top refl
    row n r (RowAcross.wide i s) = IsRowOf.keeps_beyond (L i) (R i) (width_across job i) (left i s.below_count) (right i s.below_count) (width _) refl
    row n r (RowAcross.ll i j t h) = IsRowOf.keeps_beyond (L i) (L j) _ (left i (touch_first job i j t)) (left j (touch_second job i j t)) (near_behind _ _ h) refl
    row n r (RowAcross.rr i j t h) = IsRowOf.keeps_beyond (R i) (R j) _ (right i (touch_first job i j t)) (right j (touch_second job i j t)) (near_behind _ _ h) refl
    row n r (RowAcross.share i j t h g) = IsRowOf.keeps_beyond (L j) (R i) (width_across job i) (left j (touch_second job i j t)) (right i (touch_first job i j t)) (width _) refl
    row n r (RowAcross.gap i j k) = IsRowOf.keeps_beyond (R i) (L j) (space_between job i j) (right i k.of_one_mask.one_mask.first.below_count) (left j k.of_one_mask.one_mask.second.below_count) (space _) refl
    row n r (RowAcross.size i c) = IsRowOf.keeps_beyond (R i) (L i) _ (right i c.strip.below_count) (left i c.strip.below_count) (near_less _ (width_is_length job.target target _)) refl
    row n r (RowAcross.off q i j k) = IsRowOf.keeps_beyond (R i) (L j) _ (right i (of_sides job q i j k.sides).0) (left j (of_sides job q i j k.sides).1) (near_apart job.target pairs q) refl
    row n r (RowAcross.inl q i h k) = IsRowOf.keeps_beyond (L h) (L i) _ (left h (of_host job q i h k).1) (left i (of_host job q i h k).0) (near_enclose job.target pairs q) refl
    row n r (RowAcross.inr q i h k) = IsRowOf.keeps_beyond (R i) (R h) _ (right i (of_host job q i h k).0) (right h (of_host job q i h k).1) (near_enclose job.target pairs q) refl

-- the template upwards is one over the strips
pub template_upwards : (job : Job) (columns : Var → ℤ) → IsMeasured job.target → HasMeasuredPairs job.target
    → IsTemplate Upwards (length (strips_of job)) (RowUpwards job columns)
template_upwards job columns target pairs = record {
  each = row;
  zero = (Zero, RowUpwards.zero);
  top = (Top, RowUpwards.top);
  begins = λ i h. (Lo i, RowUpwards.lo i (record { below_count = h }));
  wide = λ i h. (least_height job i, some_height job target i, Tall i, RowUpwards.tall i (record { below_count = h }));
  ends = λ i h. (Hi i, RowUpwards.hi i (record { below_count = h }));
}
  where
    width : (m : ℕ) → IsNear (width_of job.target m)
    width m = near_length _ (width_is_length job.target target m).low (width_is_length job.target target m).high

    space : (m : ℕ) → IsNear (space_of job.target m)
    space m = near_length _ (space_is_length job.target target m).low (space_is_length job.target target m).high

    bottom : (i : ℕ) → i < length (strips_of job) → IsOfStrips Upwards (length (strips_of job)) (B i)
    bottom i h = IsOfStrips.is_low i h refl

    top : (i : ℕ) → i < length (strips_of job) → IsOfStrips Upwards (length (strips_of job)) (T i)
    top i h = IsOfStrips.is_high i h refl

    all : IsOfStrips Upwards (length (strips_of job)) Height
    all = IsOfStrips.is_extent refl

    below : (i j : ℕ) → StandsOn (strips_of job) i j → i < length (strips_of job)
    below i j s = s.strips_of_one_mask.first.below_count

    above : (i j : ℕ) → StandsOn (strips_of job) i j → j < length (strips_of job)
    above i j s = s.strips_of_one_mask.second.below_count

    row : (n : Name) (r : Row) → RowUpwards job columns n r → IsRowOf Upwards (length (strips_of job)) r
    row n r (RowUpwards.lo i s) = IsRowOf.bounds_below (B i) (pos 0) (bottom i s.below_count) near_zero refl
    row n r (RowUpwards.hi i s) = IsRowOf.keeps_beyond (T i) Height (pos 0) (top i s.below_count) all near_zero refl
    row n r RowUpwards.zero = IsRowOf.bounds_below Height (pos 0) all near_zero refl
    row n r RowUpwards.top = IsRowOf.bounds_above Height (pos 20000000) all near_top refl
    row n r (RowUpwards.tall i s) = IsRowOf.keeps_beyond (B i) (T i) _ (bottom i s.below_count) (top i s.below_count) (near_height job target i) refl
    row n r (RowUpwards.on i j s) = IsRowOf.keeps_beyond (T i) (B j) (pos 0) (top i (below i j s)) (bottom j (above i j s)) near_zero refl
    row n r (RowUpwards.under i j s) = IsRowOf.keeps_beyond (B j) (T i) (pos 0) (bottom j (above i j s)) (top i (below i j s)) near_zero refl
    row n r (RowUpwards.gap i j k) = IsRowOf.keeps_beyond (T i) (B j) (space_between job i j) (top i k.of_one_mask.one_mask.first.below_count) (bottom j k.of_one_mask.one_mask.second.below_count) (space _) refl
    row n r (RowUpwards.run i j c) = IsRowOf.keeps_beyond (B i) (T j) (width_upwards job i) (bottom i (chain_first job columns c.x c.u i j c.chain)) (top j (chain_last job columns c.x c.u i j c.chain)) (width _) refl
    row n r (RowUpwards.size i c) = IsRowOf.keeps_beyond (T i) (B i) _ (top i c.strip.below_count) (bottom i c.strip.below_count) (near_less _ (width_is_length job.target target _)) refl
    row n r (RowUpwards.off q i j k) = IsRowOf.keeps_beyond (T i) (B j) _ (top i (of_sides job q i j k.sides).0) (bottom j (of_sides job q i j k.sides).1) (near_apart job.target pairs q) refl
    row n r (RowUpwards.inb q i h k) = IsRowOf.keeps_beyond (B h) (B i) _ (bottom h (of_host job q i h k.host).1) (bottom i (of_host job q i h k.host).0) (near_enclose job.target pairs q) refl
    row n r (RowUpwards.int q i h k) = IsRowOf.keeps_beyond (T i) (T h) _ (top i (of_host job q i h k.host).0) (top h (of_host job q i h k.host).1) (near_enclose job.target pairs q) refl
