use Rattle.std.proofs.Common.{◌≡◌, ℕ, Option, Some, None, Bool, true, false, is_some, cond, bytes_eq, refl, ap, sym, ◌∙◌, rules}
use Rattle.std.specs.Option.{option_or}
use Rattle.std.proofs.lemmas.Map.Text.{hash_map_updates_str}
use Rattle.std.proofs.lemmas.Slice.Eq.{bytes_eq-Decides}
use Rattle.indexmap.specs.IndexMap.{get_by}
use Rattle.rt_keys.proofs.finding.keep.Goals as goal

-- what a key holds once it was put where nothing was
kept : (same : Bool) (old new : Option ℕ) (place : ℕ) → new ≡ cond same (Some place) old → (same ≡ true → is_some old ≡ false)
    → new ≡ option_or old (cond same (Some place) None)
kept true None new place put absent = put
kept true (Some n) new place put absent = cc (absent refl)
kept false None new place put absent = put
kept false (Some n) new place put absent = put

pub returns-in-Ok-insert : goal.returns-in-Ok-insert
returns-in-Ok-insert c = (
  refl,
  λ q.
      let put = hash_map_updates_str c.args.name.now c.args.numbers.now c.insert.new.self _ c.in-Ok-insert.ensures.updates q in
      let number : c.in-Ok.number ≡ c.args.place = search rules in
      let equal : bytes_eq c.args.name.now q ≡ true → c.args.name.now ≡ q = (bytes_eq-Decides c.args.name.now q).0 in
      kept (bytes_eq c.args.name.now q) _ _ c.args.place (rw number at put)
      (λ e. ap (λ n. is_some (get_by (λ k. bytes_eq n k.now) c.args.numbers.now)) (sym (equal e)) ∙ sym c.if-contains_key.ensures),
)
