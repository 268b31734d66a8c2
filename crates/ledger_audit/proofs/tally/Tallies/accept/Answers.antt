use Rattle.std.proofs.Common.{ap, ◌∙◌}
use Rattle.ledger_audit.specs.Keys.{crossing_of}
use Rattle.ledger_audit.specs.Tallies.{one_accepted}
use Rattle.ledger_audit.proofs.TallyLaws.{set_moves}
use Rattle.ledger_audit.proofs.tally.Tallies.accept.Goals as goal

pub returns-clause-after : goal.returns-clause-after
returns-clause-after c =
    set_moves one_accepted (crossing_of c.args.key) c.one_accepted-new.result c.args.self.now c.set.new.self c.in_ok-set.ensures (c.one_accepted-new.ensures ∙ ap one_accepted c.of.ensures)
