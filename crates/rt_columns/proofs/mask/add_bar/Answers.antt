use Rattle.std.proofs.Common.{◌≡◌, rules, inl, ◌∙◌}
use Rattle.rt_columns.proofs.Kept.{mask_read}
use Rattle.rt_columns.proofs.mask.add_bar.Goals as goal

pub returns-in_ok-push : goal.returns-in_ok-push
returns-in_ok-push c =
    let same : c.index-as_slice-number.result.mask ≡ c.args.mask = search rules in
    inl (
      mask_read c.args.strips.now.list c.as_slice.result.now c.args.number c.index-as_slice-number.result c.as_slice.ensures c.requires.strip c.index-as_slice-number.is ∙ same,
      record { bar = c.bar_of.result; is = c.bar_of.ensures; appended = c.in_ok-push.ensures.items },
    )
