use Rattle.std.proofs.Common.{Ok, sym, ap, ◌∙◌}
use Rattle.std.proofs.lemmas.Bool.{MatchBool-at_false, MatchBool-at_true}
use Rattle.gds_records.specs.Records.{Item}
use Rattle.gds_records.specs.Framing.{item_at}
use Rattle.gds_grammar.specs.Reading.{Cursor}
use Rattle.gds_grammar.proofs.Decided.{counted_true, readable_true}
use Rattle.gds_stream.proofs.Taking.{take-repeated, take-passes, lands}
use Rattle.gds_stream.proofs.reader.Reader.take_one.Goals as goal

pub is_new-requires : goal.is_new-requires
is_new-requires c = readable_true (item_at c.args.self.now.at c.in_ok-part.part) c.in_ok-part.ensures.accepts.reads

pub returns-then-not-branch-clause-takes : goal.returns-then-not-branch-clause-takes
returns-then-not-branch-clause-takes c =
    let repeated = MatchBool-at_false _ _ c.if-not-branch.true c.in_ok-is_new.ensures in
    rw (c.fault.ensures, ap (λ (d : Cursor). d.at) repeated.1)
    (take-repeated c.args.codes.now c.args.self.now (item_at c.args.self.now.at c.in_ok-part.part) c.in_ok-part.ensures.accepts repeated.0)

pub returns-clause-takes : goal.returns-clause-takes
returns-clause-takes c =
    let i : Item = item_at c.args.self.now.at c.in_ok-part.part in
    let new = MatchBool-at_true _ _ c.if-not-branch.false c.in_ok-is_new.ensures in
    take-passes c.args.codes.now c.args.self.now i c.in_ok-part.ensures.accepts new.0
    ∙ ap (λ (d : Cursor). Ok (i, d)) (sym (lands c.args.self.now _ _ c.in_ok-part.part new.1 c.advance.ensures))

pub returns-clause-code : goal.returns-clause-code
returns-clause-code c = c.in_ok-part.ensures.accepts.of_type

pub returns-clause-counts : goal.returns-clause-counts
returns-clause-counts c = counted_true c.args.self.now.kind (item_at c.args.self.now.at c.in_ok-part.part) c.in_ok-part.ensures.accepts.counts

pub returns-clause-reads : goal.returns-clause-reads
returns-clause-reads c = readable_true (item_at c.args.self.now.at c.in_ok-part.part) c.in_ok-part.ensures.accepts.reads
