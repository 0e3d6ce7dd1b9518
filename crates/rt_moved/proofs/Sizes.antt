-- Strips of a cut are drawn as squares of its size.
use Rattle.std.proofs.Common.{◌≡◌, ℕ, ℤ, pos, neg_ℤ, ◌+ℤ◌, ◌≤ℤ◌, cond, false, ap, ◌∙◌, subst, arith}
use Rattle.std.specs.Option.{option_map_or}
use Rattle.std.proofs.lemmas.Int.{ints}
use Rattle.rt_rules.specs.Cuts.{IsSquare}
use Rattle.rt_view.specs.declared.job.Job.{Job}
use Rattle.rt_view.specs.Shapes.{IsCut}
use Rattle.rt_rows.specs.declared.row.Var.{Var}
use Rattle.rt_rows.specs.declared.row.Var.TheVariants.{L, R, B, T}
use Rattle.rt_rows.specs.declared.name.Name.TheVariants.{Wide, Size}
use Rattle.rt_rows.proofs.Rows.{beyond_met}
use Rattle.rt_tech.specs.declared.table.Role.TheVariants.{Cut}
use Rattle.rt_tech.specs.Rules.{is_role_at}
use Rattle.rt_tech.specs.Tech.{width_of}
use Rattle.rt_tech.specs.Words.{same_role}
use Rattle.rt_template.specs.Between.{IsStripOf, IsCutStrip}
use Rattle.rt_template.specs.Horizontal.{width_across, RowAcross, MeetsAcross}
use Rattle.rt_template.specs.Vertical.{width_upwards, RowUpwards, MeetsUpwards}
use Rattle.rt_moved.proofs.Drawn.{in_steps}
use Rattle.rt_moved.proofs.Heights.{as_high}

-- what is at least so long, and at most, is so long
both_ways : (low size high : ℤ) → (low +ℤ size) ≤ℤ high → (high +ℤ neg_ℤ size) ≤ℤ low → (low +ℤ size) ≡ high
both_ways low size high h k = omega (arith, ints)

module _ (job : Job) (at : Var → ℤ) (across : MeetsAcross job at) (upwards : MeetsUpwards job at at)
    (m : ℕ) (cut : IsCut job.source m) where
  of_cut_strip : (i : ℕ) → IsStripOf job m i → IsCutStrip job i
  of_cut_strip i h = record {
    strip = record { below_count = h.below };
    is_cut = ap (is_role_at Cut job.source.masks) h.of_mask ∙ (ap (λ o. option_map_or (λ mask. same_role mask.role Cut) o false) cut.there ∙ ap (λ role. same_role role Cut) cut.of_role);
  }

  -- in steps
  pub square_in_steps : (i : ℕ) → IsStripOf job m i → IsSquare (width_of job.target m) (in_steps at i)
  square_in_steps i h =
      let of_cut = of_cut_strip i h in
      let high = ap (λ b. cond b (width_upwards job i) (pos 1)) of_cut.is_cut in
      subst (λ k. IsSquare (width_of job.target k) (in_steps at i)) h.of_mask
      (record {
        across = both_ways (at (L i)) (width_across job i) (at (R i))
            (beyond_met at (L i) (R i) (width_across job i) (across.meets (Wide i) _ (RowAcross.wide i of_cut.strip)))
            (beyond_met at (R i) (L i) (neg_ℤ (width_across job i)) (across.meets (Size i) _ (RowAcross.size i of_cut)));
        upwards = both_ways (at (B i)) (width_upwards job i) (at (T i))
            (subst (λ z. (at (B i) +ℤ z) ≤ℤ at (T i)) high (as_high job at upwards i of_cut.strip))
            (beyond_met at (T i) (B i) (neg_ℤ (width_upwards job i)) (upwards.meets (Size i) _ (RowUpwards.size i of_cut)));
      })
