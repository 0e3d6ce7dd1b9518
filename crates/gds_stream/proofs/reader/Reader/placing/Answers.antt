use Rattle.std.proofs.Common.{◌≡◌, ◌∙◌, sym, refl}
use Rattle.gds_grammar.specs.Grammar.{maybe}
use Rattle.gds_grammar.specs.Format.{turn}
use Rattle.gds_stream.specs.Contents.{place_in}
use Rattle.gds_stream.proofs.Giving.{gives_as, turn_comes, no_turn_comes}
use Rattle.gds_stream.proofs.reader.Reader.placing.Goals as goal

pub returns-then-branch-clause-gives : goal.returns-then-branch-clause-gives
returns-then-branch-clause-gives c =
    let s = c.in_ok-sees.ensures in
    gives_as (maybe turn) turn (λ items place. place_in items ≡ place) _ _ c.turn.result (turn_comes c.args.self.now s.0 s.1 (sym s.2 ∙ c.if-branch.true)) c.turn.ensures.gives

pub returns-else-branch-clause-gives : goal.returns-else-branch-clause-gives
returns-else-branch-clause-gives c =
    let s = c.in_ok-sees.ensures in
    (_, no_turn_comes c.args.self.now s.0 s.1 (sym s.2 ∙ c.if-branch.false), refl)
