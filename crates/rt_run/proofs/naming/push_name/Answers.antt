use Rattle.std.proofs.Common.{◌≡◌, ℕ, ◌<◌, ◌≤◌, List, [], ◌∷◌, ◌++◌, OnOk, length, get_or, sym, subst, arith}
use Rattle.std.specs.Prelude.{slice_get}
use Rattle.rt_tech.specs.declared.table.Mask.{Mask}
use Rattle.rt_run.specs.Naming.{name_in}
use Rattle.rt_run.proofs.MaskNames.{none_named, one_named}
use Rattle.rt_run.proofs.naming.push_name.Goals as goal

pub returns-then-number-masks : goal.returns-then-number-masks
returns-then-number-masks c =
    let over = c.if-number-masks.true in
    let same = c.as_slice-masks.ensures in
    let past : length c.args.table.now.masks ≤ c.args.mask = rw (sym same) over in
    none_named c.args.table.now.masks c.args.mask c.args.names.now past

pub returns : goal.returns
returns c =
    let masks = c.args.table.now.masks in
    let item = c.index-masks-number.result in
    let count = c.if-number-masks.false in
    let same = c.as_slice-masks.ensures in
    let below : c.args.mask < length masks = rw (sym same) (omega (arith, count)) in
    let named : (get_or c.as_slice-masks.result.now c.args.mask item).name ∷ [] ≡ name_in (slice_get masks c.args.mask) =
    subst (λ (xs : List Mask). (get_or xs c.args.mask item).name ∷ [] ≡ name_in (slice_get masks c.args.mask)) (sym same) (one_named masks c.args.mask item below) in
    let pushed = rw c.in_ok-name.ensures at c.push.ensures.ok in
    subst (λ (tail : List (List ℕ)). OnOk c.push.result (c.push.new.self ≡ c.args.names.now ++ tail)) named pushed
