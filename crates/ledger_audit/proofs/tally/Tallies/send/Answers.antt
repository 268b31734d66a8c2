use Rattle.std.proofs.Common.{ap, ◌∙◌}
use Rattle.ledger_audit.specs.Keys.{crossing_of}
use Rattle.ledger_audit.specs.Tallies.{one_sent}
use Rattle.ledger_audit.proofs.TallyLaws.{set_moves}
use Rattle.ledger_audit.proofs.tally.Tallies.send.Goals as goal

pub returns : goal.returns
returns c =
    set_moves one_sent (crossing_of c.args.key) c.one_sent-new.result c.args.self.now c.set.new.self c.in_ok-set.ensures (c.one_sent-new.ensures ∙ ap one_sent c.of.ensures)
