-- What the last events answer: the least positions, and proofs.
use Rattle.std.proofs.Common.{◌≡◌, ℕ, zero, suc, ◌+◌, ◌-◌, ◌<◌, ◌≤◌, Bool, true, false, nat_lt, ℤ, pos, ◌+ℤ◌, ◌≤ℤ◌, List, Option, Some, None, Result, Ok, Err, IfOk, IfErr, map, Contains, slice_get, slice_index_or, refl, sym, ap, subst, ◌∙◌, ◌⊎◌, inl, inr, arith}
use Rattle.std.proofs.lemmas.Int.{ints}
use Rattle.std.proofs.lemmas.List.{get_or_past}
use Rattle.std.proofs.lemmas.Option.{same_Some, slice_get-get_or}
use Rattle.rt_cells.proofs.Entries.{contains_at, contained_at}
use Rattle.rt_base.specs.declared.plane.Axis.{Axis}
use Rattle.rt_base.specs.declared.plane.Axis.TheVariants.{Across, Upwards}
use Rattle.rt_rows.specs.declared.name.Name.{Name}
use Rattle.rt_rows.specs.declared.row.Var.{Var}
use Rattle.rt_rows.specs.declared.row.Row.{Row}
use Rattle.rt_rows.specs.declared.positions.Positions.{Positions}
use Rattle.rt_rows.specs.Rows.{MeetsRow, at_least, beyond}
use Rattle.rt_rows.specs.Places.{places}
use Rattle.rt_path.specs.declared.event.Step.{Step}
use Rattle.rt_path.specs.declared.event.Event.{Event}
use Rattle.rt_path.specs.declared.event.Last.{Last}
use Rattle.rt_path.specs.Longest.{low, high, extent, lows, highs, IsOfAxis, IsDifference, HasRow, Mentions, NamesStrip, AreDifferences, MeetsEachRow, IsLeastOf, CountsStrips, Listed, IsFound, IsCause}
use Rattle.rt_rows.specs.declared.proof.Proof.{Proof as ProofOf}
use Rattle.rt_proofs.specs.Trees.{Proof}
use Rattle.rt_proofs.specs.Trees.Goal.{Least, Refute}
use Rattle.rt_path.specs.declared.path_error.PathError.{PathError}
use Rattle.rt_path.specs.declared.path_error.PathError.TheVariants.{Refuted, OutOfMemory}
use Rattle.rt_path.specs.Solved.{ReachesExtent, IsAnswer, IsSetback}
use Rattle.rt_path.proofs.Chains.{chain_proves, circle_refutes}
use Rattle.rt_path.specs.Longest.IsOfAxis.{is_low, is_high, is_extent}
use Rattle.rt_path.specs.Longest.NamesStrip.{by_low, by_high}
use Rattle.rt_path.specs.Chains.{worth, IsArcOf, AddUp}
use Rattle.rt_path.specs.Raises.{IsFit, AllFit, first, IsLog, last_at, IsQuiet, HasEnded, origin}
use Rattle.rt_path.specs.WaysBack.{AreArcs}
use Rattle.rt_path.specs.Steps.{strips_for_rows, place_of, side_at, var_at, step_for, value_of, HaveValues, HasLast}
use Rattle.rt_path.proofs.Gets.{one_element}
use Rattle.rt_path.proofs.Places.{low_there, high_there, place_extent, placed, IsStepFor, step_is, strips_within}
use Rattle.rt_path.proofs.Named.{all_at, from_map, into_map, mentioned, IsEnd, HasEnds, ends, mention_within, counts}
use Rattle.rt_path.proofs.Named.IsEnd.{at_origin, at_var}

below_or_not : (i n : ℕ) → (i < n) ⊎ (n ≤ i)
below_or_not i zero = inr (omega arith)
below_or_not zero (suc n) = inl (omega arith)
below_or_not (suc i) (suc n) = step (below_or_not i n)
  where
    step : (i < n) ⊎ (n ≤ i) → (suc i < suc n) ⊎ (suc n ≤ suc i)
    step (inl h) = inl (omega (arith, h))
    step (inr h) = inr (omega (arith, h))

module _ (axis : Axis) (rows : List (Name × Row)) (count : ℕ) (steps : List Step) (given : AreDifferences axis rows) (counted : count ≡ strips_for_rows rows) (made : steps ≡ map (step_for count) rows) where
  -- the row of this number, its step, and the ends of the step
  difference_at : (k : ℕ) (named : Name × Row) → slice_get rows k ≡ Some named → IsDifference axis named.1
  difference_at k named e = all_at (λ named. IsDifference axis named.1) rows k named given.each e

  step_at : (k : ℕ) (named : Name × Row) → slice_get rows k ≡ Some named → IsStepFor axis count named
  step_at k named e = step_is axis count named.0 named.1 (difference_at k named e) (omega (arith, counted, strips_within rows k named e))

  ends_at : (k : ℕ) (named : Name × Row) → slice_get rows k ≡ Some named → HasEnds axis count named
  ends_at k named e = ends axis count named.0 named.1 (difference_at k named e)

  stepped_at : (k : ℕ) (named : Name × Row) → slice_get rows k ≡ Some named → slice_get steps k ≡ Some (step_for count named)
  stepped_at k named e = ap (λ s. slice_get s k) made ∙ into_map (step_for count) rows k named e

  row_of : (k : ℕ) (step : Step) → slice_get steps k ≡ Some step → (named : Name × Row) × (slice_get rows k ≡ Some named) × (step_for count named ≡ step)
  row_of k step e = from_map (step_for count) rows k step (ap (λ s. slice_get s k) (sym made) ∙ e)

  -- the steps go between places that are there
  pub all_fit : AllFit (2 + count + count) steps
  all_fit k step e =
      let r = row_of k step e in
      subst (λ s. IsFit (2 + count + count) s) r.2 (step_at k r.0 r.1).fit

  -- they are rows of the list
  pub arcs : AreArcs (var_at axis count) rows steps
  arcs = record {
    each = λ k step e.
        let r = row_of k step e in
        subst (λ s. (row : Row) × Contains rows (s.name, row) × IsArcOf row (var_at axis count s.tail) (var_at axis count s.head) s.by) r.2
        (r.0.1, contains_at rows k r.0 r.1, (step_at k r.0 r.1).arc);
  }

  -- values that meet the rows are at least those of the log
  pub below_others : (log : List Event) → IsLog steps log → (other : Var → ℤ) → MeetsEachRow rows other → (n i : ℕ) (event : Event) → i < n → slice_get log i ≡ Some event
      → event.value ≤ℤ worth other (var_at axis count event.place)
  below_others log logged other meets zero i event l e = absurd (omega (arith, l))
  below_others log logged other meets (suc n) zero event l e =
      subst (λ x. x.value ≤ℤ worth other (var_at axis count x.place)) (one_element log 0 first event logged.begins e) (omega (arith, ints))
  below_others log logged other meets (suc n) (suc i) event l e =
      let c = logged.comes (suc i) event (omega arith) e in
      let h = below_others log logged other meets n event.before c.from (omega (arith, l, c.earlier)) c.there in
      let r = row_of event.step c.step c.by_step in
      let m = (step_at event.step r.0 r.1).arc.met other (all_at (λ named. MeetsRow other named.1) rows event.step r.0 meets r.1) in
      let m' : (worth other (var_at axis count c.step.tail) +ℤ c.step.by) ≤ℤ worth other (var_at axis count c.step.head) =
      subst (λ s. (worth other (var_at axis count s.tail) +ℤ s.by) ≤ℤ worth other (var_at axis count s.head)) r.2 m in
      let h' : c.from.value ≤ℤ worth other (var_at axis count c.step.tail) = subst (λ p. c.from.value ≤ℤ worth other (var_at axis count p)) c.tail h in
      subst (λ p. event.value ≤ℤ worth other (var_at axis count p)) (sym c.head) (omega (arith, ints, c.value, m', h'))

  module _ (log : List Event) (now : List (Option Last)) (ended : HasEnded (2 + count + count) steps log now) where
    quiet_at : (k : ℕ) (named : Name × Row) → slice_get rows k ≡ Some named → IsQuiet now (step_for count named)
    quiet_at k named e = ended.quiet k (step_for count named) (stepped_at k named e)

    -- a row that starts at a place with an event gives its head an event
    goes_over : (row : Row) → HasRow rows row → (tail head : ℕ) → ((name : Name) → (step_for count (name, row)).tail ≡ tail) → ((name : Name) → (step_for count (name, row)).head ≡ head) → HasLast now tail → HasLast now head
    goes_over row has tail head t h from =
        let k = contained_at rows (has.0, row) has.1 in
        let q = (quiet_at k.0 (has.0, row) k.1).met from.0 (ap (λ p. last_at now p) (t has.0) ∙ from.1) in
        (q.0, ap (λ p. last_at now p) (sym (h has.0)) ∙ q.1)

    origin_stands : HasLast now 0
    origin_stands = (origin, ended.going.at_origin)

    pub extent_stands : HasLast now 1
    extent_stands = goes_over (at_least (extent axis) (pos 0)) given.zero 0 1 (λ name. refl) (λ name. place_extent axis count) origin_stands

    low_stands : (i : ℕ) → NamesStrip axis rows i → HasLast now (place_of count (low axis i))
    low_stands i n = goes_over (at_least (low axis i) (pos 0)) (given.held i n).begins 0 (place_of count (low axis i)) (λ name. refl) (λ name. refl) origin_stands

    high_stands : (i : ℕ) → NamesStrip axis rows i → HasLast now (place_of count (high axis i))
    high_stands i n =
        let w = (given.held i n).wide in
        goes_over (beyond (low axis i) (high axis i) w.0) w.2 (place_of count (low axis i)) (place_of count (high axis i)) (λ name. refl) (λ name. refl) (low_stands i n)

    -- each variable that is named has an event
    stands : (v : Var) → IsOfAxis axis v → Mentions rows v → HasLast now (place_of count v)
    stands v (is_low i e) m = subst (λ w. HasLast now (place_of count w)) (sym e) (low_stands i (by_low (subst (λ w. Mentions rows w) e m)))
    stands v (is_high i e) m = subst (λ w. HasLast now (place_of count w)) (sym e) (high_stands i (by_high (subst (λ w. Mentions rows w) e m)))
    stands v (is_extent e) m = subst (λ w. HasLast now (place_of count w)) (sym e) (subst (λ p. HasLast now p) (sym (place_extent axis count)) extent_stands)

    module _ (at : Positions) (values : HaveValues axis count now at) where
      places_low : (a : Axis) (i : ℕ) → places at (low a i) ≡ slice_index_or (lows a at) i (pos 0)
      places_low Across i = refl
      places_low Upwards i = refl

      places_high : (a : Axis) (i : ℕ) → places at (high a i) ≡ slice_index_or (highs a at) i (pos 0)
      places_high Across i = refl
      places_high Upwards i = refl

      -- the positions are the values of the places
      worth_is : (p : ℕ) → p < 2 + count + count → worth (places at) (var_at axis count p) ≡ value_of (last_at now p)
      worth_is zero l = sym (ap value_of ended.going.at_origin)
      worth_is (suc zero) l = values.extent_value
      worth_is (suc (suc k)) l = by_side (nat_lt k count) refl
        where
          by_side : (b : Bool) → nat_lt k count ≡ b → places at (side_at axis count k b) ≡ value_of (last_at now (suc (suc k)))
          by_side true e =
              places_low axis k ∙ values.low_values.each k (grind (arith, e)) ∙ ap (λ q. value_of (last_at now q)) (two_more k)
            where
              two_more : (k : ℕ) → 2 + k ≡ suc (suc k)
              two_more k = omega arith
          by_side false e =
              let m : count ≤ k = grind (arith, e) in
              places_high axis (k - count) ∙ values.high_values.each (k - count) (omega (arith, l, m)) ∙ ap (λ q. value_of (last_at now q)) (two_more k m)
            where
              two_more : (k : ℕ) → count ≤ k → (2 + count) + (k - count) ≡ suc (suc k)
              two_more k m = omega (arith, m)

      value_is : (p : ℕ) (last : Last) → p < 2 + count + count → last_at now p ≡ Some last → worth (places at) (var_at axis count p) ≡ last.value
      value_is p last l e = worth_is p l ∙ ap value_of e

      end_stands : (k : ℕ) (named : Name × Row) (p : ℕ) → slice_get rows k ≡ Some named → IsEnd axis count named.1 p → HasLast now p
      end_stands k named p e (at_origin z) = subst (λ q. HasLast now q) (sym z) origin_stands
      end_stands k named p e (at_var v of uses is) = subst (λ q. HasLast now q) (sym is) (stands v of (mentioned rows k named v e uses))

      -- they meet each row
      row_met : (k : ℕ) (named : Name × Row) → slice_get rows k ≡ Some named → MeetsRow (places at) named.1
      row_met k named e =
          let s = step_at k named e in
          let from = end_stands k named (step_for count named).tail e (ends_at k named e).tail in
          let q = (quiet_at k named e).met from.0 from.1 in
          s.arc.meets (places at) (omega (arith, ints, q.2, value_is (step_for count named).tail from.0 s.fit.tail_below from.1, value_is (step_for count named).head q.0 s.fit.head_below q.1))

      pub meets_each : MeetsEachRow rows (places at)
      meets_each k d within = row_met k (slice_index_or rows k d) (slice_get-get_or rows k d within)

      -- no other values are smaller
      pub least_each : (other : Var → ℤ) → MeetsEachRow rows other → (v : Var) → IsOfAxis axis v → Mentions rows v → places at v ≤ℤ other v
      least_each other meets v of m =
          let p = placed axis count v of (omega (arith, counted, mention_within rows v m)) in
          let s = stands v of m in
          let l = ended.going.lasts.lasts (place_of count v) s.0 s.1 in
          let h = below_others log ended.going.logged other meets (suc s.0.event) s.0.event l.event (omega arith) l.there in
          let h' : l.event.value ≤ℤ other v =
          subst (λ o. l.event.value ≤ℤ worth other o) (ap (λ q. var_at axis count q) l.at_place ∙ p.there) h in
          let here : places at v ≡ s.0.value = ap (λ o. worth (places at) o) (sym p.there) ∙ value_is (place_of count v) s.0 p.below s.1 in
          omega (arith, ints, here, l.value, h')

      -- what an event raised is named
      named_by : (p : ℕ) (last : Last) → 0 < p → last_at now p ≡ Some last → (v : Var) × IsOfAxis axis v × Mentions rows v × (p ≡ place_of count v)
      named_by p last l e =
          let h = ended.going.lasts.lasts p last e in
          by_number last.event h.event h.there h.at_place
        where
          by_end : (k : ℕ) (named : Name × Row) (q : ℕ) → slice_get rows k ≡ Some named → p ≡ q → IsEnd axis count named.1 q → (v : Var) × IsOfAxis axis v × Mentions rows v × (p ≡ place_of count v)
          by_end k named q e s (at_origin z) = absurd (omega (arith, l, s, z))
          by_end k named q e s (at_var v of uses is) = (v, of, mentioned rows k named v e uses, s ∙ is)

          by_number : (i : ℕ) (event : Event) → slice_get log i ≡ Some event → event.place ≡ p → (v : Var) × IsOfAxis axis v × Mentions rows v × (p ≡ place_of count v)
          by_number zero event f g = absurd (omega (arith, l, g, ap (λ x. x.place) (one_element log 0 event first f ended.going.logged.begins)))
          by_number (suc i) event f g =
              let c = ended.going.logged.comes (suc i) event (omega arith) f in
              let r = row_of event.step c.step c.by_step in
              by_end event.step r.0 (step_for count r.0).head r.1 (sym g ∙ c.head ∙ ap (λ s. s.head) (sym r.2)) (ends_at event.step r.0 r.1).head

      -- a place whose strip isn't named has 0
      unnamed_value : (w : Var) (p : ℕ) → 0 < p → var_at axis count p ≡ Some w → (Mentions rows w → ⊥) → value_of (last_at now p) ≡ pos 0
      unnamed_value w p l there not = by_last (last_at now p) refl
        where
          by_last : (o : Option Last) → last_at now p ≡ o → value_of o ≡ pos 0
          by_last None e = refl
          by_last (Some last) e =
              let n = named_by p last l e in
              let q = placed axis count n.0 n.1 (omega (arith, counted, mention_within rows n.0 n.2)) in
              let same : n.0 ≡ w = same_Some n.0 w (sym q.there ∙ ap (λ k. var_at axis count k) (sym n.3) ∙ there) in
              absurd (not (subst (λ u. Mentions rows u) same n.2))

      zero_low : (i : ℕ) → (NamesStrip axis rows i → ⊥) → (i < count) ⊎ (count ≤ i) → places at (low axis i) ≡ pos 0
      zero_low i not (inl l) =
          places_low axis i ∙ values.low_values.each i l ∙ unnamed_value (low axis i) (2 + i) (omega arith) (low_there axis count i l) (λ m. not (by_low m))
      zero_low i not (inr l) = places_low axis i ∙ get_or_past (lows axis at) i (pos 0) (omega (arith, l, values.low_values.one_each))

      zero_high : (i : ℕ) → (NamesStrip axis rows i → ⊥) → (i < count) ⊎ (count ≤ i) → places at (high axis i) ≡ pos 0
      zero_high i not (inl l) =
          places_high axis i ∙ values.high_values.each i l ∙ unnamed_value (high axis i) (2 + count + i) (omega arith) (high_there axis count i) (λ m. not (by_high m))
      zero_high i not (inr l) = places_high axis i ∙ get_or_past (highs axis at) i (pos 0) (omega (arith, l, values.high_values.one_each))

      under : (i : ℕ) → (i < count) ⊎ (count ≤ i)
      under i = below_or_not i count

      pub is_least : IsLeastOf axis rows at
      is_least = record {
        meets = meets_each;
        least = least_each;
        unnamed = λ i not. (zero_low i not (under i), zero_high i not (under i));
        counted = subst (λ n. CountsStrips axis rows n) (sym (values.low_values.one_each ∙ counted)) (counts axis rows given.each);
        even = values.high_values.one_each ∙ sym values.low_values.one_each;
        bare = values.bare;
        no_mirror = values.no_mirror;
      }

-- the first two steps of an answer: the extent has an event where a step goes to it from the origin
pub extent_reached : (places : ℕ) (steps : List Step) (log : List Event) (now : List (Option Last)) → HasEnded places steps log now → ReachesExtent steps → HasLast now 1
extent_reached places steps log now ended reaches =
    let q = (ended.quiet reaches.number reaches.step reaches.there).met origin (ap (λ p. last_at now p) reaches.tail ∙ ended.going.at_origin) in
    (q.0, ap (λ p. last_at now p) (sym reaches.head) ∙ q.1)

-- the extent's own row goes there
pub reaches : (axis : Axis) (rows : List (Name × Row)) (count : ℕ) (steps : List Step) → AreDifferences axis rows → steps ≡ map (step_for count) rows → ReachesExtent steps
reaches axis rows count steps given made =
    let k = contained_at rows (given.zero.0, at_least (extent axis) (pos 0)) given.zero.1 in
    record {
      number = k.0;
      step = step_for count (given.zero.0, at_least (extent axis) (pos 0));
      there = ap (λ s. slice_get s k.0) made ∙ into_map (step_for count) rows k.0 (given.zero.0, at_least (extent axis) (pos 0)) k.1;
      tail = refl;
      head = place_extent axis count;
    }

-- an answer is the least positions with their proof
pub found : (axis : Axis) (rows : List (Name × Row)) (count : ℕ) (steps : List Step) (at : Positions) (proof : ProofOf) → AreDifferences axis rows → count ≡ strips_for_rows rows
    → steps ≡ map (step_for count) rows → IsAnswer axis count steps at proof → IsFound axis rows at proof
found axis rows count steps at proof given counted made answer = record {
  least = is_least axis rows count steps given counted made answer.log answer.now answer.ended at answer.answer.values;
  proved =
      let b = answer.answer.bound in
      let sum = b.leads.adds rows (var_at axis count) (arcs axis rows count steps given counted made) in
      subst (λ n. Proof (Listed rows) (Least (extent axis) (places at (extent axis))) n) (sym b.nodes)
      (chain_proves (Listed rows) b.shares (extent axis) (places at (extent axis))
      (subst (λ v. AddUp (Listed rows) b.shares None (Some (extent axis)) v) (sym answer.answer.values.extent_value) sum));
  short =
      let b = answer.answer.bound in
      record {
        shares = b.shares;
        is = b.nodes;
        short = record {
          few = omega (arith, b.few, answer.ended.going.lasts.one_each, answer.answer.values.low_values.one_each);
          single = b.leads.single.each;
        };
      };
}

-- a circle is a proof that none meet them
pub cause : (axis : Axis) (rows : List (Name × Row)) (count : ℕ) (steps : List Step) (error : PathError) → AreDifferences axis rows → count ≡ strips_for_rows rows
    → steps ≡ map (step_for count) rows → IsSetback count steps error → IsCause axis rows error
cause axis rows count steps (Refuted proof) given counted made setback =
    let sum = setback.circle.leads.adds rows (var_at axis count) (arcs axis rows count steps given counted made) in
    record {
      proved = subst (λ n. Proof (Listed rows) Refute n) (sym setback.refuted.nodes)
          (circle_refutes (Listed rows) setback.shares (var_at axis count setback.circle.place) setback.circle.gain setback.circle.gains sum);
      count = count;
      counted = subst (λ n. CountsStrips axis rows n) (sym counted) (counts axis rows given.each);
      short = record {
        shares = setback.shares;
        is = setback.refuted.nodes;
        short = record { few = setback.circle.few; single = setback.circle.leads.single.each };
      };
    }
cause axis rows count steps OutOfMemory given counted made setback = tt

-- whichever of the two it is
pub found_by : (axis : Axis) (rows : List (Name × Row)) (count : ℕ) (steps : List Step) (result : Result (Positions × ProofOf) PathError) → AreDifferences axis rows → count ≡ strips_for_rows rows
    → steps ≡ map (step_for count) rows → IfOk result (λ found. IsAnswer axis count steps found.0 found.1) → IfOk result (λ found. IsFound axis rows found.0 found.1)
found_by axis rows count steps (Ok r) given counted made h = found axis rows count steps r.0 r.1 given counted made h
found_by axis rows count steps (Err e) given counted made h = tt

pub caused_by : (axis : Axis) (rows : List (Name × Row)) (count : ℕ) (steps : List Step) (result : Result (Positions × ProofOf) PathError) → AreDifferences axis rows → count ≡ strips_for_rows rows
    → steps ≡ map (step_for count) rows → IfErr result (λ error. IsSetback count steps error) → IfErr result (λ error. IsCause axis rows error)
caused_by axis rows count steps (Ok r) given counted made h = tt
caused_by axis rows count steps (Err e) given counted made h = cause axis rows count steps e given counted made h
