use Rattle.std.proofs.Common.{ℕ, Option, sym, ap, ◌∙◌}
use Rattle.gds_records.specs.Records.{Item}
use Rattle.gds_records.specs.Framing.{item_at}
use Rattle.gds_grammar.specs.Tests.{counted}
use Rattle.gds_stream.proofs.Taking.{take-unexpected, take-miscounted, take-unreadable}
use Rattle.gds_stream.proofs.reader.Reader.accepted.Goals as goal

pub returns-then-not-contains-clause-accepts : goal.returns-then-not-contains-clause-accepts
returns-then-not-contains-clause-accepts c =
    rw c.fault.ensures
    (take-unexpected c.args.codes.now c.args.self.now _ c.in_ok-part.ensures.next (sym c.contains.ensures.value ∙ c.if-not-contains.true))

pub returns-then-not-is_counted-clause-accepts : goal.returns-then-not-is_counted-clause-accepts
returns-then-not-is_counted-clause-accepts c =
    let i : Item = item_at c.args.self.now.at c.in_ok-part.part in
    rw c.fault-then-not-is_counted.ensures
    (take-miscounted c.args.codes.now c.args.self.now i c.in_ok-part.ensures.next (sym c.contains.ensures.value ∙ c.if-not-contains.false)
    (ap (λ (k : Option ℕ). counted k i) (sym c.kind.ensures) ∙ sym (c.is_counted.ensures i.at i.form) ∙ c.if-not-is_counted.true))

pub returns-then-not-is_readable-clause-accepts : goal.returns-then-not-is_readable-clause-accepts
returns-then-not-is_readable-clause-accepts c =
    let i : Item = item_at c.args.self.now.at c.in_ok-part.part in
    rw c.fault-then-not-is_readable.ensures
    (take-unreadable c.args.codes.now c.args.self.now i c.in_ok-part.ensures.next (sym c.contains.ensures.value ∙ c.if-not-contains.false)
    (ap (λ (k : Option ℕ). counted k i) (sym c.kind.ensures) ∙ sym (c.is_counted.ensures i.at i.form) ∙ c.if-not-is_counted.false)
    (sym (c.is_readable.ensures i.at i.form) ∙ c.if-not-is_readable.true))

pub returns-clause-accepts : goal.returns-clause-accepts
returns-clause-accepts c =
    let i : Item = item_at c.args.self.now.at c.in_ok-part.part in
    record {
      next = c.in_ok-part.ensures.next;
      of_type = sym c.contains.ensures.value ∙ c.if-not-contains.false;
      counts = ap (λ (k : Option ℕ). counted k i) (sym c.kind.ensures) ∙ sym (c.is_counted.ensures i.at i.form) ∙ c.if-not-is_counted.false;
      reads = sym (c.is_readable.ensures i.at i.form) ∙ c.if-not-is_readable.false;
    }
