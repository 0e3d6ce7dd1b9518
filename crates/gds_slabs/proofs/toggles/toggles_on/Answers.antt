use Rattle.std.proofs.Common.{◌≡◌, ◌+◌, ◌<◌, ℕ, List, [], ◌∷◌, ◌++◌, length, get_or, drop, All, ap, sym, subst, ◌∙◌, append_assoc}
use Rattle.std.proofs.lemmas.List.Elements.{All-push}
use Rattle.rt_base.specs.declared.plane.Point.{Point}
use Rattle.gds_slabs.specs.declared.toggles.Toggle.{Toggle}
use Rattle.gds_slabs.specs.Sweep.{toggles_from, IsSmallToggle}
use Rattle.gds_slabs.proofs.Paths.{drop_more}
use Rattle.gds_slabs.proofs.toggles.toggles_on.Goals as goal

-- the two toggles of the next side are pushed
two_more : (last : Point) (rest : List Point) (i : ℕ) (d : Point) (old mid new all : List Toggle) (a b : Toggle) → i < length rest
    → mid ≡ old ++ a ∷ [] → new ≡ mid ++ b ∷ [] → a ≡ record { y = last.y; x = last.x } → b ≡ record { y = (get_or rest i d).y; x = last.x }
    → old ++ toggles_from last (drop i rest) ≡ all → new ++ toggles_from (get_or rest i d) (drop (i + 1) rest) ≡ all
two_more last rest i d old mid new all a b low is then first second was =
    let p = get_or rest i d in
    let left = toggles_from p (drop (i + 1) rest) in
    ap (λ v. v ++ left) (then ∙ ap (λ v. v ++ b ∷ []) is)
    ∙ append_assoc (old ++ a ∷ []) (b ∷ []) left
    ∙ append_assoc old (a ∷ []) (b ∷ left)
    ∙ ap (λ v. old ++ v ∷ b ∷ left) first
    ∙ ap (λ v. old ++ record { y = last.y; x = last.x } ∷ v ∷ left) second
    ∙ ap (λ v. old ++ toggles_from last v) (sym (drop_more rest i d low))
    ∙ was

small_more : (old new : List Toggle) (t : Toggle) → new ≡ old ++ t ∷ [] → IsSmallToggle t → All IsSmallToggle old → All IsSmallToggle new
small_more old new t is small h =
    let P : List Toggle → Type 0 = λ ts. All IsSmallToggle ts in
    subst P (sym is) (All-push IsSmallToggle old t h small)

pub loop-point-preserved : goal.loop-point-preserved
loop-point-preserved c = record {
  listed = two_more c.loop-point.last c.args.rest.now c.loop-point.point-index _ c.loop-point.list.items c.push.new.self.items c.push-in-loop-point.new.self.items _
      c.toggle_at.result c.toggle_at-in-loop-point.result c.loop-point-test.true c.in_ok-push.ensures.items c.in_ok-push-2.ensures.items
      c.toggle_at.ensures.value c.toggle_at-in-loop-point.ensures.value c.loop-point.invariant.listed;
  small = small_more c.push.new.self.items c.push-in-loop-point.new.self.items c.toggle_at-in-loop-point.result c.in_ok-push-2.ensures.items c.toggle_at-in-loop-point.ensures.small
      (small_more c.loop-point.list.items c.push.new.self.items c.toggle_at.result c.in_ok-push.ensures.items c.toggle_at.ensures.small c.loop-point.invariant.small);
}
