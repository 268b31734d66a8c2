use Rattle.ledger_audit.proofs.ActLaws.{set_counts}
use Rattle.ledger_audit.proofs.book.FamilyTotals.set.Goals as goal

pub returns : goal.returns
returns c = λ f.
    set_counts c.args.f c.of.result c.args.counts c.args.self.now.rows.entries c.insert.new.self.entries f c.of.ensures c.in_ok-insert.ensures.updates.1 c.in_ok-insert.ensures.updates.3
