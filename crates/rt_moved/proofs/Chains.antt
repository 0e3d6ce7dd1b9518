-- Chains of a mask's strips to which none can be added, as the template has them: so they are drawn as high as the width.
use Rattle.std.proofs.Common.{◌≡◌, ℕ, ◌<◌, ℤ, ◌+ℤ◌, ◌≤ℤ◌, List, [], All, sym, subst, ◌∙◌}
use Rattle.std.proofs.lemmas.List.Elements.{All-head, All-tail}
use Rattle.rt_cells.specs.Rectangles.{Rectangle}
use Rattle.rt_family.specs.Strips as family
use Rattle.rt_family.specs.Carried as carried
use Rattle.rt_view.specs.declared.job.Job.{Job}
use Rattle.rt_view.specs.Job.{strips_of}
use Rattle.rt_rows.specs.declared.row.Var.{Var}
use Rattle.rt_rows.specs.declared.row.Var.TheVariants.{B, T}
use Rattle.rt_rows.specs.declared.name.Name.TheVariants.{Run}
use Rattle.rt_rows.proofs.Rows.{beyond_met}
use Rattle.rt_strips.specs.Placed.{mask_of}
use Rattle.rt_strips.specs.StripsOf.{AreStripsOf}
use Rattle.rt_strips.proofs.Family.{IsOfMask, box_of, stands_in_family, stands_from_family}
use Rattle.rt_tech.specs.Tech.{width_of}
use Rattle.rt_template.specs.Vertical.{CoversBoth, IsChain, IsWholeChain, width_upwards, RowUpwards, MeetsUpwards}
use Rattle.rt_moved.proofs.Drawn.{in_steps}

module _ (job : Job) (cells : ℕ → ℤ → ℤ → Type 0) (masks : ℕ) (are : AreStripsOf cells masks (strips_of job)) (at : Var → ℤ)
    (m : ℕ) (below : m < job.view.strips.masks) where
  abbrev Member : ℕ → Type 0
  Member = IsOfMask (strips_of job) m

  abbrev source : ℕ → Rectangle
  source = box_of (strips_of job)

  abbrev IsOver : ℤ → ℤ → ℕ → Type 0
  IsOver x u = carried.IsDrawnOver Member source (in_steps at) x u

  covers_both : (x u : ℤ) (i : ℕ) → IsOver x u i → CoversBoth job at x u i
  covers_both x u i o = record { strip = record { below_count = o.strip.below }; first = o.first; second = o.second }

  over_of : (x u : ℤ) (i : ℕ) → mask_of (strips_of job) i ≡ m → CoversBoth job at x u i → IsOver x u i
  over_of x u i e c = record { strip = record { below = c.strip.below_count; of_mask = e }; first = c.first; second = c.second }

  -- the first of a chain is of the mask, and over what all are over
  first_strip : (i : ℕ) (chain : List ℕ) (last : ℕ) → family.IsChain Member source i chain last → Member i
  first_strip i _ _ (family.IsChain.one _ h) = h
  first_strip i _ last (family.IsChain.more _ j _ rest stands c) = stands.lower

  last_strip : (i : ℕ) (chain : List ℕ) (last : ℕ) → family.IsChain Member source i chain last → Member last
  last_strip i _ _ (family.IsChain.one _ h) = h
  last_strip i _ last (family.IsChain.more _ j _ rest stands c) = last_strip j rest last c

  first_over : (x u : ℤ) (i : ℕ) (chain : List ℕ) (last : ℕ) → family.IsChain Member source i chain last → All (IsOver x u) chain → IsOver x u i
  first_over x u i _ _ (family.IsChain.one _ h) over = All-head (IsOver x u) i [] over
  first_over x u i _ last (family.IsChain.more _ j _ rest stands c) over = All-head (IsOver x u) i rest over

  -- a chain that leads to strip j, and goes on from there
  chain_on : (x u : ℤ) (first j : ℕ) (chain : List ℕ) (last : ℕ) → IsChain job at x u first j → family.IsChain Member source j chain last
      → All (IsOver x u) chain → IsChain job at x u first last
  chain_on x u first j _ _ done (family.IsChain.one _ h) over = done
  chain_on x u first j _ last done (family.IsChain.more _ k _ rest stands c) over =
      let others = All-tail (IsOver x u) j rest over in
      chain_on x u first k rest last
      (IsChain.onward j k done (stands_from_family cells masks (strips_of job) are m j k stands) (covers_both x u k (first_over x u k rest last c others)))
      c others

  whole_chain : (first last : ℕ) → carried.IsWholeChain Member source (in_steps at) first last → IsWholeChain job at first last
  whole_chain first last whole =
      let begin = first_strip first whole.chain last whole.stacked in
      let end = last_strip first whole.chain last whole.stacked in
      record {
        x = whole.x;
        u = whole.u;
        one_or_two = whole.one_or_two;
        is_drawn = subst (λ n. n < job.view.strips.masks) (sym begin.of_mask) below;
        chain = chain_on whole.x whole.u first first whole.chain last
            (IsChain.one (covers_both whole.x whole.u first (first_over whole.x whole.u first whole.chain last whole.stacked whole.over))) whole.stacked whole.over;
        lowest = λ k c s.
            let e = s.strips_of_one_mask.one_mask ∙ begin.of_mask in
            whole.lowest k (over_of whole.x whole.u k e c) (stands_in_family cells masks (strips_of job) are m k first e s);
        highest = λ k c s.
            let e = sym s.strips_of_one_mask.one_mask ∙ end.of_mask in
            whole.highest k (over_of whole.x whole.u k e c) (stands_in_family cells masks (strips_of job) are m last k end.of_mask s);
      }

  -- whole chains are drawn as high as the width
  pub meets_runs : MeetsUpwards job at at → carried.IsCarriedInColumns Member source (in_steps at) (width_of job.target m)
  meets_runs upwards = record {
    runs = λ first last whole.
        let begin = first_strip first whole.chain last whole.stacked in
        subst (λ n. (at (B first) +ℤ width_of job.target n) ≤ℤ at (T last)) begin.of_mask
        (beyond_met at (B first) (T last) (width_upwards job first)
        (upwards.meets (Run first last) _ (RowUpwards.run first last (whole_chain first last whole))));
  }
