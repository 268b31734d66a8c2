use Rattle.std.proofs.Common.{Some, None}
use Rattle.ledger_audit.proofs.TallyLaws.{own_tally}
use Rattle.ledger_audit.proofs.tally.Tallies.of.Goals as goal

pub returns-in-Some : goal.returns-in-Some
returns-in-Some c = own_tally c.args.key.now c.args.self.now.rows.entries (Some c.in-Some.tally.now) c.in-Some.ensures.value

pub returns-in-None : goal.returns-in-None
returns-in-None c = own_tally c.args.key.now c.args.self.now.rows.entries None c.in-None.ensures.value
