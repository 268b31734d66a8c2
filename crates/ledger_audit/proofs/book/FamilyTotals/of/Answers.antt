use Rattle.std.proofs.Common.{Some, None, ◌∙◌}
use Rattle.ledger_audit.proofs.ActLaws.{own_counts}
use Rattle.ledger_audit.proofs.book.FamilyTotals.of.Goals as goal

pub returns-in-Some : goal.returns-in-Some
returns-in-Some c = own_counts c.args.f c.of.result c.args.self.now.rows.entries (Some c.in-Some.counts.now) c.of.ensures c.in-Some.ensures.value

pub returns-in-None : goal.returns-in-None
returns-in-None c = c.none.ensures ∙ own_counts c.args.f c.of.result c.args.self.now.rows.entries None c.of.ensures c.in-None.ensures.value
