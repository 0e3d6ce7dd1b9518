-- The rows that lead to the extent.
use Rattle.std.proofs.Common.{◌≡◌, ℕ, ◌<◌, pos, List, [], ◌∷◌, ◌++◌, Option, Some, length, sym, ap, subst, ◌∙◌, arith}
use Rattle.std.proofs.lemmas.Option.{slice_get_within}
use Rattle.rt_rows.specs.declared.proof.Share.{Share}
use Rattle.rt_rows.specs.declared.proof.Node.{Node}
use Rattle.rt_rows.specs.declared.proof.Node.TheVariants.{Bound}
use Rattle.rt_path.specs.declared.event.Step.{Step}
use Rattle.rt_path.specs.declared.event.Event.{Event}
use Rattle.rt_path.specs.declared.event.Last.{Last}
use Rattle.rt_path.specs.Raises.{last_at, IsGoing}
use Rattle.rt_path.specs.WaysBack.{LeadsOn, IsChain}
use Rattle.rt_path.specs.Steps.{value_of, IsBoundBy}

module _ (places : ℕ) (steps : List Step) (log : List Event) (now : List (Option Last)) (place : ℕ) (last : Last) (going : IsGoing places steps log now) (is : last_at now place ≡ Some last) where
  -- the last event of a place is in the log
  pub last_there : last.event < length log
  last_there =
      let l = going.lasts.lasts place last is in
      slice_get_within log last.event l.event l.there

  -- the chain of the place leads to its value
  pub chain_leads : (shares : List Share) → IsChain steps log last.event shares → LeadsOn steps shares 0 place (value_of (last_at now place))
  chain_leads shares chain =
      let l = going.lasts.lasts place last is in
      subst (λ o. LeadsOn steps shares 0 place (value_of o)) (sym is)
      (subst (λ v. LeadsOn steps shares 0 place v) l.value
      (subst (λ p. LeadsOn steps shares 0 p l.event.value) l.at_place (chain.leads l.event l.there)))

pub bound_by : (places : ℕ) (steps : List Step) (log : List Event) (now : List (Option Last)) (last : Last) (shares : List Share) (none nodes : List Node) → IsGoing places steps log now
    → last_at now 1 ≡ Some last → IsChain steps log last.event shares → none ≡ [] → nodes ≡ none ++ Bound (pos 1) shares ∷ [] → IsBoundBy steps now (record { nodes = nodes })
bound_by places steps log now last shares none nodes going is chain e f = record {
  shares = shares;
  nodes = f ∙ ap (λ l. l ++ Bound (pos 1) shares ∷ []) e;
  leads = chain_leads places steps log now 1 last going is shares chain;
  few =
      let l = going.lasts.lasts 1 last is in
      let s = going.short 1 last is in
      omega (arith, chain.as_long l.event l.there, l.length, s.few, going.lasts.one_each);
}
