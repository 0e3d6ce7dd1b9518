use Rattle.std.proofs.Common.{rules, w64, FitsSigned, ◌∙◌}
use Rattle.std.proofs.lemmas.Int.{to_z-of_z}
use Rattle.rt_tech.proofs.Lengths.{width_is_length}
use Rattle.rt_between.proofs.Lessened.{less_fits, less_is}
use Rattle.rt_between.proofs.numbers.less_width.Goals as goal

pub overflow_sub-result : goal.overflow_sub-result
overflow_sub-result c =
    let fits : FitsSigned w64 c.width_of.result = search rules in
    less_fits _ _ (to_z-of_z w64 _ fits ∙ c.width_of.ensures) (width_is_length c.args.tech.now c.requires c.args.mask)

pub returns : goal.returns
returns c =
    let fits : FitsSigned w64 c.width_of.result = search rules in
    less_is _ _ (to_z-of_z w64 _ fits ∙ c.width_of.ensures) (width_is_length c.args.tech.now c.requires c.args.mask)
