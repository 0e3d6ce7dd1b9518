use Rattle.std.proofs.Common.{◌≡◌, None, bytes_eq, ap, sym, is_some, true}
use Rattle.std.proofs.lemmas.Map.Text.{hash_map_updates_str}
use Rattle.indexmap.specs.IndexMap.{get_by}
use Rattle.gds_flat.proofs.Naming.{one_more_name, same_name, not_there}
use Rattle.gds_flat.proofs.orders.names.Goals as goal

pub loop-i-preserved-then-contains_key : goal.loop-i-preserved-then-contains_key
loop-i-preserved-then-contains_key c = λ q.
    let name = c.as_slice-name.result.now in
    let there : is_some (get_by (λ k. bytes_eq name k.now) c.loop-i.places) ≡ true = sym c.if-contains_key.ensures in
    same_name q name c.index-structures-i.result c.args.structures.now c.loop-i.i _ _ _ c.loop-i-test.true c.index-structures-i.is
    c.as_slice-name.ensures.value there (λ e. ap (λ n. get_by (λ k. bytes_eq n k.now) c.loop-i.places) (sym e)) (c.loop-i.invariant q)

pub loop-i-preserved : goal.loop-i-preserved
loop-i-preserved c = λ q.
    let name = c.as_slice-name.result.now in
    let put = hash_map_updates_str name c.loop-i.places c.insert.new.self _ c.in_ok-insert.ensures.updates q in
    let absent : get_by (λ k. bytes_eq name k.now) c.loop-i.places ≡ None = not_there _ (sym c.if-contains_key.ensures) in
    one_more_name q name c.index-structures-i.result c.args.structures.now c.loop-i.i _ _ _ _ c.loop-i-test.true c.index-structures-i.is
    c.as_slice-name.ensures.value put absent (λ e. ap (λ n. get_by (λ k. bytes_eq n k.now) c.loop-i.places) (sym e)) (c.loop-i.invariant q)
