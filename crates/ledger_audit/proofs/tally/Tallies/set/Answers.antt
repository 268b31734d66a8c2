use Rattle.ledger_audit.proofs.TallyLaws.{set_changes}
use Rattle.ledger_audit.proofs.tally.Tallies.set.Goals as goal

pub returns : goal.returns
returns c = λ x.
    set_changes c.args.key c.args.tally c.args.self.now.rows.entries c.insert.new.self.entries x c.in_ok-insert.ensures.updates.1 c.in_ok-insert.ensures.updates.3
